-- Document 01, "The engine's round", and its run, with pair rounds before presses (document 02, change 1) and void lines (change 2). Assumes
-- nothing.
use Rattle.std.specs.Prelude.{◌||◌, List, [], ◌∷◌, ◌++◌, map, ℕ, zero, suc, ◌+◌, ◌*◌, ◌<◌, ℤ, ◌-ℤ◌, T, if◌then◌else◌, Result, Ok, Err, Option, Some, None}
use Rattle.integers.specs.Words.{below, is_in, those, first, joined, greatest_of, least_of}
use Rattle.definitions.specs.declared.Case.{Case}
use Rattle.definitions.specs.declared.Refusal.{Refusal}
use Rattle.definitions.specs.declared.Refusal.TheVariants.{LeavesRange}
use Rattle.definitions.specs.declared.RunAnswer.{RunAnswer}
use Rattle.definitions.specs.Rules.{Rules}
use Rattle.definitions.specs.Case.{scope_count, each_tuple, weight, greatest, active, barred}
use Rattle.definitions.specs.Consistency.{Family, Supported, others}
use Rattle.definitions.specs.Moves.{Move, active_press, active_refuted, after_moves}
use Rattle.definitions.specs.PairRounds.{pair_round, lowest_pair, PairsSettled}
use Rattle.definitions.specs.Lines.{line_length}
use Rattle.definitions.specs.RoundLines.{round_text, void_text}

-- ---- which press

-- the lowest variable whose active values are all refuted with all other scopes raised
abbrev pub chosen : Case → List ℤ → Option ℕ
chosen c w = first (those (λ i. active_refuted c w i (others c i)) (below c.n))

-- if there is none, no press and no void line is left: every variable has an active value with a supported family, all other scopes raised.
-- This says it without an algorithm (press_theory, Trim.no-press-iff)
abbrev pub NoPress : Case → List ℤ → Type 0
NoPress c w = (i : ℕ) → i < c.n → (k : ℕ) × (k < c.d) × T (active c w i k 0) × (S : Family) × Supported c w (is_in (others c i)) i k S

-- upwards through the raised scopes, dropping each one without which the values stay refuted: `kept` were kept, `rest` are still to be tried
abbrev pub trimmed : Case → List ℤ → ℕ → List ℕ → List ℕ → List ℕ
trimmed c w i kept [] = kept
trimmed c w i kept (x ∷ rest) = trimmed c w i (if active_refuted c w i (kept ++ rest) then kept else kept ++ (x ∷ [])) rest

abbrev pub kept_scopes : Case → List ℤ → ℕ → List ℕ
kept_scopes c w i = trimmed c w i [] (others c i)

-- the gap of a scope is its greatest weight minus its greatest inactive weight, barred tuples left out; a scope with all other tuples active
-- sets no limit
abbrev pub inactive_weights : Case → List ℤ → ℕ → List ℤ
inactive_weights c w x = joined (each_tuple c x (λ k l. if active c w x k l || barred c w x k l then [] else weight c w x k l ∷ []))

abbrev pub gap_above : ℤ → List ℤ → List ℤ
gap_above g [] = []
gap_above g (z ∷ zs) = (g -ℤ greatest_of (z ∷ zs)) ∷ []

abbrev pub gap : Case → List ℤ → ℕ → List ℤ
gap c w x = gap_above (greatest c w x) (inactive_weights c w x)

-- the amount: the least gap among the kept scopes and variable i's own scope, if one of them sets a gap
abbrev pub least_gap : Case → List ℤ → ℕ → Option ℤ
least_gap c w i = least_of (joined (map (gap c w) (i ∷ kept_scopes c w i)))

-- ---- what comes next: nothing (settled), a round of moves, or a void line of a variable with the scopes that it raises

pub data Next : Type 0 where
  nothing : Next
  round : List Move → Next
  void : ℕ → List ℕ → Next

-- where neither the kept scopes nor the variable's own scope set a gap: a void line
abbrev pub press_round : Case → List ℤ → ℕ → Option ℤ → Next
press_round c w i None = void i (kept_scopes c w i)
press_round c w i (Some a) = round (active_press c w i (kept_scopes c w i) a ∷ [])

abbrev pub press_next : Case → List ℤ → Option ℕ → Next
press_next c w None = nothing
press_next c w (Some i) = press_round c w i (least_gap c w i)

-- presses and void lines only
abbrev pub presses_next : Rules → Case → List ℤ → Next
presses_next r c w = press_next c w (chosen c w)

-- a pair's round, if there is a pair; else the other
abbrev pub pair_next : Case → List ℤ → Option ℕ → Next → Next
pair_next c w None other = other
pair_next c w (Some e) other = round (pair_round c w e)

-- before a press the engine looks for the lowest pair
abbrev pub engine_next : Rules → Case → List ℤ → Next
engine_next r c w = pair_next c w (lowest_pair r c w) (presses_next r c w)

-- pair rounds only
abbrev pub pairs_next : Rules → Case → List ℤ → Next
pairs_next r c w = pair_next c w (lowest_pair r c w) nothing

-- the state is settled: no pair that gains is left but passed-over ones, no press and no void line
pub record Settled (r : Rules) (c : Case) (w : List ℤ) : Type 0 where
  pub pairs : PairsSettled r c w
  pub presses : NoPress c w

-- what an output must hold for one round: a line for each scope, two for each value and one more
abbrev pub round_bytes : Rules → Case → ℕ
round_bytes r c = line_length r.amount_width * (scope_count c + 2 * c.d + 1)

-- ---- one round on weights: settled, refused, or the weights after it and its lines; a void line is no round, and the weights stay

pub data Made : Type 0 where
  settled : Made
  refused : Refusal → Made
  made : List ℤ → List (List ℕ) → Made
  voided : List (List ℕ) → Made

abbrev pub made_of : Rules → Case → List Move → Option (List ℤ) → Made
made_of r c moves None = refused LeavesRange
made_of r c moves (Some w) = made w (round_text r c moves w)

abbrev pub make_next : Rules → Case → List ℤ → Next → Made
make_next r c w nothing = settled
make_next r c w (round moves) = made_of r c moves (after_moves r c moves w)
make_next r c w (void i raised) = voided (void_text r i raised)

-- ---- a run on weights: `next` says what comes next

pub record RunOf : Type 0 where
  pub answer : Result RunAnswer Refusal
  pub rounds : ℕ
  pub weights : List ℤ
  pub log : List (List ℕ)

abbrev pub stopped : Result RunAnswer Refusal → ℕ → List ℤ → List (List ℕ) → RunOf
stopped answer done w log = record { answer = answer; rounds = done; weights = w; log = log }

-- at its limit a run answers settled if settled, and writes a void line if that comes next
abbrev pub at_limit : Rules → Next → ℕ → List ℤ → List (List ℕ) → RunOf
at_limit r nothing done w log = stopped (Ok RunAnswer.Settled) done w log
at_limit r (round moves) done w log = stopped (Ok RunAnswer.Limit) done w log
at_limit r (void i raised) done w log = stopped (Ok RunAnswer.Void) done w (log ++ void_text r i raised)

-- after a round: stop, or go on with its weights and the log with its lines
abbrev pub onward : Made → ℕ → List ℤ → List (List ℕ) → (List ℤ → List (List ℕ) → RunOf) → RunOf
onward settled done w log go = stopped (Ok RunAnswer.Settled) done w log
onward (refused x) done w log go = stopped (Err x) done w log
onward (made v lines) done w log go = go v (log ++ lines)
onward (voided lines) done w log go = stopped (Ok RunAnswer.Void) done w (log ++ lines)

module _ (r : Rules) (next : Rules → Case → List ℤ → Next) (c : Case) where
  -- with `left` rounds allowed, after `done` rounds that left the weights w and the log
  abbrev pub run_from : ℕ → ℕ → List ℤ → List (List ℕ) → RunOf
  run_from zero done w log = at_limit r (next r c w) done w log
  run_from (suc left) done w log = onward (make_next r c w (next r c w)) done w log (λ v lines. run_from left (suc done) v lines)

  abbrev pub run : ℕ → List ℤ → RunOf
  run limit w = run_from limit 0 w []
