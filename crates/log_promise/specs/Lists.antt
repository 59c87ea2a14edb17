-- The checker's promise as document 02 amends it: the half of demand 3 that is about the replay of a log, clause by clause in the tender's
-- order, each clause quoted above what says it. The tender's plan, total and ceiling are assignment, objective and upper bound. It is about
-- log_checker's definitions of a log's calls on all input: `fresh_replay`, `step_replay` (folded by `line_answers` and `after_lines`) and
-- `end_replay`. proofs/Accepts proves it for every valid case. Assumes nothing.
use Rattle.std.specs.Prelude.{◌≡◌, not, ◌↔◌, List, [], ◌∷◌, ◌++◌, map, ℕ, ℤ, pos, ◌+ℤ◌, ◌-ℤ◌, T, ◌≤ℤ◌, Ok, Option, Some}
use Rattle.definitions.specs.declared.Case.{Case}
use Rattle.definitions.specs.declared.Refusal.{Refusal}
use Rattle.definitions.specs.Rules.{Rules}
use Rattle.definitions.specs.Refusals.{number_of}
use Rattle.definitions.specs.Answers.{Says, outcome_says, figure_says}
use Rattle.definitions.specs.Case.{own_length, objective, upper_bound, is_lawful}
use Rattle.definitions.specs.CaseFiles.{zeroed_from}
use Rattle.definitions.specs.Replay.{State, some_press}
use Rattle.logs.specs.Logs.{fresh_log, after_log, log_answers, log_end, keeps_log_rules, one_stretch, at_stretch, some_link}
use Rattle.calls.specs.Calls.{upper_bound_answer}
use Rattle.checker.specs.declared.Due.{Due}
use Rattle.log_checker.specs.Checker.{Between, fresh_replay, end_replay, after_lines, line_answers}

-- the case and its starting weights, which are the working weights at first, with a fresh record
abbrev pub begun : Rules → Case → List ℤ → Between
begun r c w = record { case = c; starting = w; table = w; replay = fresh_replay r c w }

-- a list is accepted if no line's answer is a number, nor the end's
pub record Accepted (r : Rules) (c : Case) (w : List ℤ) (ts : List (List ℕ)) : Type 0 where
  pub each : line_answers r (begun r c w) ts ≡ map (λ t. Ok tt) ts
  pub end : (end_replay r (after_lines r (begun r c w) ts)).answer ≡ Ok tt

-- an answer of the plain replay as document 01 says it: the number that applies, 0 where none does, and no values
abbrev pub number_says : Option Refusal → Says
number_says o = record { number = number_of o; values = [] }

-- the plain replay after these lines, from the starting weights: its stretch
abbrev pub plainly : Rules → Case → List ℤ → List (List ℕ) → State
plainly r c w ts = (after_log r (fresh_log c w) ts).stretch

-- "For every valid case and every list of lines, whoever wrote them, refused ones included, handed to the replay from the starting weights":
-- the lines `ts` are any byte strings, b is what stands after them, and s what the plain replay leaves, with the case and the starting weights
-- "as it then stands" (document 02, change 5)
pub record LinesTrusted (r : Rules) (c : Case) (w : List ℤ) (ts : List (List ℕ)) (b : Between) (s : State) : Type 0 where
  -- "each line's answer," (L2)
  pub each-answer : map outcome_says (line_answers r (begun r c w) ts) ≡ map number_says (log_answers r (fresh_log c w) ts)
  -- "the end's,"
  pub end-answer : outcome_says (end_replay r b).answer ≡ number_says (log_end (after_log r (fresh_log c w) ts))
  -- "and then the working weights, their ceiling and the rounds are those of document 01's plain replay," and the case and its starting weights,
  -- but for those of a join that wait past its places until the end, or a refused line, sets them to 0 (change 5)
  pub case : b.case ≡ s.case
  pub starting : zeroed_from (own_length b.case) b.starting ≡ s.starting
  pub starting-refused : (x : Refusal) → s.refusal ≡ Some x → b.starting ≡ s.starting
  pub starting-end : (end_replay r b).starting ≡ s.starting
  pub weights : b.table ≡ s.weights
  pub bound : figure_says (upper_bound_answer r b.case b.table) ≡ record { number = 0; values = upper_bound s.case s.weights ∷ [] }
  pub rounds : b.replay.stretch.rounds ≡ s.rounds
  -- "and the list is accepted exactly when it keeps the line rules." (L3)
  pub accepted : Accepted r c w ts ↔ T (keeps_log_rules r c w ts)
  -- "Accepted or not, after it each plan's working total is at least its starting total," (L4); "what demand 3 says of plans is promised for
  -- lawful plans" (change 2); "a lawful plan's working total plus carry is at least its starting total in the case as it then stands" (change 5)
  pub total-least : (p : List ℕ) → T (is_lawful s.case s.starting p)
      → objective s.case s.starting p ≤ℤ (objective s.case s.weights p +ℤ s.case.carry)
  -- "the ceiling is at least every plan's starting total," (L5)
  pub bound-least : (p : List ℕ) → T (is_lawful s.case s.starting p) → objective s.case s.starting p ≤ℤ upper_bound s.case s.weights
  -- "and the rounds number no more than the starting ceiling minus any plan's starting total." (L6), by stretches: "the stretch's rounds number no
  -- more than the ceiling at its start, after the line that begins it, minus that starting total" (change 5), where a stretch begins after the
  -- lines us and goes on with vs
  pub rounds-most : (us vs : List (List ℕ)) → ts ≡ us ++ vs → T (at_stretch r (fresh_log c w) us) → T (one_stretch r (after_log r (fresh_log c w) us) vs)
      → (p : List ℕ) → T (is_lawful s.case s.starting p)
      → (pos b.replay.stretch.rounds -ℤ pos (plainly r c w us).rounds)
      ≤ℤ (upper_bound (plainly r c w us).case (plainly r c w us).weights -ℤ objective s.case s.starting p)
  -- until a link has left or joined the case, its starting weights and its carry are those handed over, so that all this is what document 01 says
  pub first-stretch : T (one_stretch r (fresh_log c w) ts) → (s.case ≡ c) × (s.starting ≡ w) × (s.case.carry ≡ pos 0)
  -- a list of which no line is a press line, nor of kind 7 or 8, makes shifts only, and keeps every lawful plan's total (ours, beyond the documents)
  pub total-same : T (not (some_press r ts)) → T (not (some_link r ts)) → (p : List ℕ) → T (is_lawful c w p) → objective c b.table p ≡ objective c w p
  -- once a void line "is whole ... nothing is due any more"; "it means that no lawful plan exists" (document 02, change 2; K2h, K2j)
  pub void-due : b.replay.stretch.due ≡ Due.Nothing ↔ T s.void
  pub none-lawful : b.replay.stretch.due ≡ Due.Nothing → (p : List ℕ) → T (is_lawful s.case s.starting p) → ⊥

-- lines are handed over one after another, the first with the starting weights and a fresh record, each later one with the case, the tables and
-- the record that the last one left
abbrev pub ReplayTrusted : Rules → Case → List ℤ → Type 0
ReplayTrusted r c w = (ts : List (List ℕ)) → LinesTrusted r c w ts (after_lines r (begun r c w) ts) (plainly r c w ts)
