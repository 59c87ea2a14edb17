-- A line of a join and what is handed over in the middle of one, step by step. Assumes nothing.
use Rattle.std.specs.Prelude.{◌≡◌, Bool, not, ◌&&◌, ◌||◌, List, [], ◌∷◌, ℕ, ◌+◌, ◌-◌, ◌≤◌, ◌<◌, ℤ, leb, ltb, eqb, get_or, take, drop}
use Rattle.integers.specs.Words.{◌⇒◌, below, all, any, eq_z}
use Rattle.definitions.specs.declared.Case.{Case}
use Rattle.definitions.specs.declared.Line.{Line}
use Rattle.definitions.specs.declared.Rulebook.{Rulebook}
use Rattle.definitions.specs.declared.Refusal.TheVariants.{OutOfRange, EdgeRepeated, WeightOutOfRange, ScopeBarred}
use Rattle.definitions.specs.Rules.{Rules, rules_in, rules_of}
use Rattle.definitions.specs.Refusals.{Test, ◌when◌}
use Rattle.definitions.specs.Case.{scopes, own_length, lent_length, is_barred, wholly_barred}
use Rattle.definitions.specs.Valid.{in_starting, starting_weight, working_weight, zeros_from, same_bars, weight_test}
use Rattle.definitions.specs.Lines.{zero_unless}
use Rattle.definitions.specs.CaseFiles.{CaseDue, variable-weight, edge-ends, edge-weight, bars}
use Rattle.logs.specs.Waiting.{small_case, ends_read, weights_read, scopes_read, waiting_weights, not_in_join, waiting_held, waiting_tests}
use Rattle.case_lines.specs.declared.Sizes.{Sizes}
use Rattle.tables.specs.Scopes.{Limited}
use Rattle.joining.specs.Joining.{line_tests}

-- the sizes of the case of one variable and p edges
abbrev pub small_sizes : Case → ℕ → Sizes
small_sizes c p = record { n = 1; d = c.d; m = p; rulebook = c.rulebook }

-- a table of this length is lent, and one variable more and p edges are within the limits
pub record Placed (c : Case) (long p : ℕ) : Type 0 where
  pub limited : Limited c
  pub sized : long ≡ lent_length (rules_of c) c
  pub grows : c.n < (rules_of c).variables
  pub room : c.m + p ≤ (rules_of c).edges

-- ---- one line

-- the kinds of lines that are due
abbrev pub kinds_due : CaseDue → List ℕ
kinds_due (variable-weight i k) = 11 ∷ 14 ∷ []
kinds_due (edge-ends e) = 12 ∷ []
kinds_due (edge-weight e k l) = 13 ∷ 15 ∷ []

-- a line of a kind that uses its first two places, and the third and the amount or not
abbrev pub is_of_kind : ℤ → Bool → Bool → Line → Bool
is_of_kind kind third amount l = eq_z l.kind kind && zero_unless third l.c && zero_unless amount l.amount

-- what is asked of it after number 2
abbrev pub rest_tests : Case → List ℤ → ℕ → CaseDue → List ℕ → Line → List Test
rest_tests c w₀ p x lower t = drop 1 (line_tests c w₀ p x lower t)

-- a scope's last tuple lies at this place, and its other tuples, of which there are so many, are all barred
abbrev pub others_barred : Bool → ℕ → ℕ → List ℤ → Bool
others_barred last_one others at w = last_one && all is_barred (take others (drop (at - others) w))

-- of a weight that would wait at this place
abbrev pub placed_tests : Rulebook → List ℤ → Bool → Bool → ℕ → ℕ → Line → List Test
placed_tests b w₀ out last_one others at t =
    OutOfRange when out
    ∷ WeightOutOfRange when (not (bars t) && not (in_starting (rules_in b) t.amount))
    ∷ ScopeBarred when (bars t && others_barred last_one others at w₀)
    ∷ []

-- an edge before has these ends, a new edge before this lower end
abbrev pub joined_before : List ℕ → List ℕ → ℕ → ℕ → ℕ → Bool
joined_before lower upper e i j = any (λ f. eqb (get_or lower f 0) i && eqb (get_or upper f 0) j) (below e)

abbrev pub end_before : List ℕ → ℕ → ℕ → Bool
end_before lower e i = any (λ f. eqb (get_or lower f 0) i) (below e)

-- ---- what is handed over

-- number 5 of the record
abbrev pub end_beyond : List ℕ → ℕ → ℕ → Bool
end_beyond lower count n = any (λ e. not (ltb (get_or lower e 0) n)) (below count)

abbrev pub record_out : Case → ℕ → CaseDue → List ℕ → Bool → Bool
record_out c p x lower out = out || not (leb p c.n) || not_in_join c p x || end_beyond lower (ends_read x) c.n

-- number 7 of the lower ends that were read
abbrev pub repeated_at : List ℕ → ℕ → Bool
repeated_at lower e = any (λ f. eqb (get_or lower e 0) (get_or lower f 0)) (below e)

abbrev pub repeated_ends : List ℕ → ℕ → Bool
repeated_ends lower count = any (repeated_at lower) (below count)

-- number 8 of the starting weights
abbrev pub same_bar : ℤ → ℤ → Bool
same_bar a b = (is_barred a ⇒ is_barred b) && (is_barred b ⇒ is_barred a)

abbrev pub first_held : Rules → Case → List ℤ → List ℤ → ℕ → Bool
first_held r c w₀ w waiting =
    all (starting_weight r) (take (own_length c + waiting) w₀) && zeros_from (own_length c + waiting) w₀ && same_bars c w₀ w

-- number 15 of the weights that wait
abbrev pub waiting_barred : Case → List ℤ → ℕ → ℕ → Bool
waiting_barred c w₀ p count = any (wholly_barred (small_case c p) (waiting_weights c w₀)) (below count)

-- number 8 of the working weights, and 15
abbrev pub working_tests : Rules → Case → List ℤ → List ℤ → ℕ → ℕ → List Test
working_tests r c w₀ w p count =
    weight_test (working_weight r) c w
    ∷ ScopeBarred when (any (wholly_barred c w) (scopes c) || waiting_barred c w₀ p count)
    ∷ []

-- after number 7 of the edges before
abbrev pub held_tests : Rules → Case → List ℤ → List ℤ → ℕ → CaseDue → List ℕ → List Test
held_tests r c w₀ w p x lower =
    EdgeRepeated when (repeated_ends lower (ends_read x))
    ∷ WeightOutOfRange when (not (waiting_held r c w₀ w (weights_read c p x)))
    ∷ ScopeBarred when (any (wholly_barred c w) (scopes c) || waiting_barred c w₀ p (scopes_read x))
    ∷ []

-- after number 4
abbrev pub lent_tests : Rules → Case → List ℤ → List ℤ → ℕ → CaseDue → List ℕ → Bool → List Test
lent_tests r c w₀ w p x lower out = drop 2 (waiting_tests r c w₀ w p x lower out)
