-- Document 02, change 5: "The replay is lent the starting table too, where a join's weights wait past those places in line order". What is read
-- so far of a join that a record and a starting table hold, and what is asked of them. Assumes nothing.
use Rattle.std.specs.Prelude.{Bool, false, not, ◌&&◌, ◌||◌, List, [], ◌∷◌, ◌++◌, map, ℕ, suc, ◌+◌, ◌-◌, ℤ, nat_abs, leb, ltb, eqb, length, get_or, take, drop, set, replicate, if◌then◌else◌}
use Rattle.integers.specs.Words.{below, all, any}
use Rattle.definitions.specs.declared.Case.{Case}
use Rattle.definitions.specs.declared.Line.{Line}
use Rattle.definitions.specs.declared.Refusal.TheVariants.{
  OutsideLimits,
  WrongLength,
  OutOfRange,
  EndsNotAscending,
  EdgeRepeated,
  WeightOutOfRange,
  ScopeBarred,
}
use Rattle.definitions.specs.Rules.{Rules}
use Rattle.definitions.specs.Refusals.{Test, ◌when◌}
use Rattle.definitions.specs.Case.{lower_end, upper_end, scopes, weight, place, own_length, lent_length, wholly_barred}
use Rattle.definitions.specs.Valid.{starting_weight, working_weight, all_weights, zeros_from, carry_out, within_limits, some_edge, end_outside, same_ends, same_bars}
use Rattle.definitions.specs.CaseFiles.{CaseDue, variable-weight, edge-ends, edge-weight, Reading, weight_in, case_of}
use Rattle.logs.specs.Leave.{in_places}
use Rattle.logs.specs.Join.{grown_table}

-- ---- The lines of a join are those of a case of one variable and p edges, with other numbers, and its weights wait in the order of their lines,
-- which is that of this case's table.

abbrev pub small_case : Case → ℕ → Case
small_case c p = case_of c.rulebook 1 c.d p

-- the numbers in the case as it will be
abbrev pub renumbered : Case → CaseDue → CaseDue
renumbered c (variable-weight i k) = variable-weight (c.n + i) k
renumbered c (edge-ends e) = edge-ends (c.m + e)
renumbered c (edge-weight e k l) = edge-weight (c.m + e) k l

-- the number in the small case of a new scope y
abbrev pub new_scope : Case → ℕ → ℕ
new_scope c y = if eqb y c.n then 0 else y - (c.n + c.m)

-- what was read before a line is due: so many edges' ends, weights and whole scopes
abbrev pub ends_read : CaseDue → ℕ
ends_read (variable-weight i k) = 0
ends_read (edge-ends e) = e
ends_read (edge-weight e k l) = suc e

abbrev pub weights_read : Case → ℕ → CaseDue → ℕ
weights_read c p (variable-weight i k) = place (small_case c p) i k 0
weights_read c p (edge-ends e) = place (small_case c p) (1 + e) 0 0
weights_read c p (edge-weight e k l) = place (small_case c p) (1 + e) k l

abbrev pub scopes_read : CaseDue → ℕ
scopes_read (variable-weight i k) = 0
scopes_read (edge-ends e) = suc e
scopes_read (edge-weight e k l) = suc e

-- the line due is the join's last
abbrev pub is_last_due : Case → ℕ → CaseDue → Bool
is_last_due c p (variable-weight i k) = eqb p 0 && eqb (k + 1) c.d
is_last_due c p (edge-ends e) = false
is_last_due c p (edge-weight e k l) = eqb (e + 1) p && eqb (k + 1) c.d && eqb (l + 1) c.d

-- ---- what is read so far: in the case as it will be, the ends of the edges that were read, whose upper end is the new variable, and the weights
-- that wait, 0 where none was read

abbrev pub waiting_weights : Case → List ℤ → List ℤ
waiting_weights c w₀ = drop (own_length c) w₀

abbrev pub grown_with : Case → ℕ → List ℕ → Case
grown_with c p lower = record {
  n = c.n + 1;
  d = c.d;
  m = c.m + p;
  lower = in_places (map (lower_end c) (below c.m) ++ lower);
  upper = in_places (map (upper_end c) (below c.m) ++ replicate (length lower) c.n);
  carry = c.carry;
  rulebook = c.rulebook;
}

abbrev pub read_so_far : Case → List ℤ → ℕ → CaseDue → List ℕ → Reading
read_so_far c w₀ p due lower =
    let g = grown_with c p (take (ends_read due) lower) in
    record { case = g; table = grown_table c g w₀ (λ y k l. weight (small_case c p) (waiting_weights c w₀) (new_scope c y) k l) }

-- a line's weight waits, and the lower end of a line of ends is kept
abbrev pub weight_waits : Case → List ℤ → ℕ → CaseDue → Line → List ℤ
weight_waits c w₀ p (variable-weight i k) t = set w₀ (own_length c + weights_read c p (variable-weight i k)) (weight_in t)
weight_waits c w₀ p (edge-ends e) t = w₀
weight_waits c w₀ p (edge-weight e k l) t = set w₀ (own_length c + weights_read c p (edge-weight e k l)) (weight_in t)

abbrev pub lower_kept : CaseDue → Line → List ℕ → List ℕ
lower_kept (variable-weight i k) t lower = lower
lower_kept (edge-ends e) t lower = set lower e (nat_abs t.b)
lower_kept (edge-weight e k l) t lower = lower

-- ---- what is asked of a case, its starting weights w₀ and its working weights w in the middle of a join of p edges, where `due` is due and `lower`
-- holds the lower ends: the numbers of a case and two tables, and that the case as it will be is valid so far

-- such a line is not due in a join of p edges
abbrev pub not_in_join : Case → ℕ → CaseDue → Bool
not_in_join c p (variable-weight i k) = not (eqb i 0 && ltb k c.d)
not_in_join c p (edge-ends e) = not (ltb e p)
not_in_join c p (edge-weight e k l) = not (ltb e p && ltb k c.d && ltb l c.d)

-- "not 0 there ..., waiting weights aside"
abbrev pub waiting_held : Rules → Case → List ℤ → List ℤ → ℕ → Bool
waiting_held r c w₀ w waiting =
    all (starting_weight r) (take (own_length c + waiting) w₀) && zeros_from (own_length c + waiting) w₀
    && all_weights (working_weight r) c w && zeros_from (own_length c) w && same_bars c w₀ w

abbrev pub waiting_tests : Rules → Case → List ℤ → List ℤ → ℕ → CaseDue → List ℕ → Bool → List Test
waiting_tests r c w₀ w p due lower out =
    let end : ℕ → ℕ = λ e. get_or lower e 0 in
    OutsideLimits when (not (within_limits r c.n c.d c.m) || not (within_limits r (c.n + 1) c.d (c.m + p)))
    ∷ WrongLength when (not (eqb (length w) (lent_length r c)) || not (eqb (length w₀) (lent_length r c)))
    ∷ OutOfRange when
    (out || not (leb p c.n) || not_in_join c p due || any (λ e. not (ltb (end e) c.n)) (below (ends_read due))
    || carry_out r c || some_edge c (end_outside c))
    ∷ EndsNotAscending when (some_edge c (λ e. not (ltb (lower_end c e) (upper_end c e))))
    ∷ EdgeRepeated when
    (some_edge c (λ e. any (same_ends c e) (below e)) || any (λ e. any (λ f. eqb (end e) (end f)) (below e)) (below (ends_read due)))
    ∷ WeightOutOfRange when (not (waiting_held r c w₀ w (weights_read c p due)))
    ∷ ScopeBarred when
    (any (wholly_barred c w) (scopes c) || any (wholly_barred (small_case c p) (waiting_weights c w₀)) (below (scopes_read due)))
    ∷ []
