-- The checker's promise: the half of demand 3 that is about the replay, clause by clause in the tender's order, each clause quoted above what
-- says it. The tender's plan, total and ceiling are assignment, objective and upper bound. It is about the definitions that the contracts of
-- Replay::fresh, step and end name: `fresh_replay`, `step_replay` (folded by `line_answers` and `after_lines`) and `end_replay`. proofs/Accepts
-- proves it for every valid case. Assumes nothing.
use Rattle.std.specs.Prelude.{◌≡◌, not, ◌↔◌, List, [], ◌∷◌, map, ℕ, ℤ, pos, ◌-ℤ◌, T, ◌≤ℤ◌, Ok, Option}
use Rattle.definitions.specs.declared.Case.{Case}
use Rattle.definitions.specs.declared.Refusal.{Refusal}
use Rattle.definitions.specs.Rules.{Rules}
use Rattle.definitions.specs.Refusals.{number_of}
use Rattle.definitions.specs.Answers.{Says, outcome_says, figure_says}
use Rattle.definitions.specs.Case.{objective, upper_bound, is_lawful}
use Rattle.definitions.specs.Replay.{fresh, after, answers, at_end, keeps_rules, some_press}
use Rattle.calls.specs.Calls.{upper_bound_answer}
use Rattle.checker.specs.declared.Due.{Due}
use Rattle.checker.specs.Checker.{Between, fresh_replay, end_replay, after_lines, line_answers}

-- the case and its starting weights with a fresh record
abbrev pub begun : Rules → Case → List ℤ → Between
begun r c w = record { case = c; table = w; replay = fresh_replay r c w }

-- a list is accepted if no line's answer is a number, nor the end's
pub record Accepted (r : Rules) (c : Case) (w : List ℤ) (ts : List (List ℕ)) : Type 0 where
  pub each : line_answers r (begun r c w) ts ≡ map (λ t. Ok tt) ts
  pub end : end_replay r c (after_lines r (begun r c w) ts).replay ≡ Ok tt

-- an answer of the plain replay as document 01 says it: the number that applies, 0 where none does, and no values
abbrev pub number_says : Option Refusal → Says
number_says o = record { number = number_of o; values = [] }

-- "For every valid case and every list of lines, whoever wrote them, refused ones included, handed to the replay from the starting weights":
-- the lines `ts` are any byte strings, and b is what stands after them
pub record LinesTrusted (r : Rules) (c : Case) (w : List ℤ) (ts : List (List ℕ)) (b : Between) : Type 0 where
  -- "each line's answer," (L2)
  pub each-answer : map outcome_says (line_answers r (begun r c w) ts) ≡ map number_says (answers r (fresh c w) ts)
  -- "the end's,"
  pub end-answer : outcome_says (end_replay r c b.replay) ≡ number_says (at_end (after r (fresh c w) ts))
  -- "and then the working weights, their ceiling and the rounds are those of document 01's plain replay,"
  pub weights : b.table ≡ (after r (fresh c w) ts).weights
  pub bound : figure_says (upper_bound_answer r c b.table) ≡ record { number = 0; values = upper_bound c (after r (fresh c w) ts).weights ∷ [] }
  pub rounds : b.replay.rounds ≡ (after r (fresh c w) ts).rounds
  -- "and the list is accepted exactly when it keeps the line rules." (L3)
  pub accepted : Accepted r c w ts ↔ T (keeps_rules r c w ts)
  -- "Accepted or not, after it each plan's working total is at least its starting total," (L4); "what demand 3 says of plans is promised for
  -- lawful plans" (document 02, change 2)
  pub total-least : (p : List ℕ) → T (is_lawful c w p) → objective c w p ≤ℤ objective c b.table p
  -- a list of which no line is a press line makes shifts only, and keeps every lawful plan's total (ours, beyond the documents)
  pub total-same : T (not (some_press r ts)) → (p : List ℕ) → T (is_lawful c w p) → objective c b.table p ≡ objective c w p
  -- "the ceiling is at least every plan's starting total," (L5)
  pub bound-least : (p : List ℕ) → T (is_lawful c w p) → objective c w p ≤ℤ upper_bound c b.table
  -- "and the rounds number no more than the starting ceiling minus any plan's starting total." (L6)
  pub rounds-most : (p : List ℕ) → T (is_lawful c w p) → pos b.replay.rounds ≤ℤ (upper_bound c w -ℤ objective c w p)
  -- once a void line "is whole ... nothing is due any more"; "it means that no lawful plan exists" (document 02, change 2; K2h, K2j)
  pub void-due : b.replay.due ≡ Due.Nothing ↔ T (after r (fresh c w) ts).void
  pub none-lawful : b.replay.due ≡ Due.Nothing → (p : List ℕ) → T (is_lawful c w p) → ⊥

-- lines are handed over one after another, the first with the starting weights and a fresh record, each later one with the table and the
-- record that the last one left
abbrev pub ReplayTrusted : Rules → Case → List ℤ → Type 0
ReplayTrusted r c w = (ts : List (List ℕ)) → LinesTrusted r c w ts (after_lines r (begun r c w) ts)
