-- In the middle of a join that the plain replay reads, nothing is refused of the case, its tables and the weights that wait. Assumes nothing.
use mathlib.Core.Path.{◌≡◌, refl, sym, ap, subst, ◌∙◌}
use mathlib.Core.Bool.{Bool, true, false, not, ◌&&◌, ◌||◌}
use mathlib.Core.Logic.{⊎_elim}
use mathlib.Core.List.{List, ◌++◌, map}
use Prim.Native.Nat.{ℕ, ◌+◌, ◌-◌, ◌≤◌, ◌<◌}
use native.Mathlib.Omega.{arith}
use lib.IntN.{ℤ, pos}
use lib.Dec.{T, ltb, ltb→lt, nltb→le}
use lib.ListN.{length, get_or, take, replicate, length-take, length-append, length-replicate, get_or-replicate, get_or-append}
use lib.Seq.{get_or-append-add, get_or-take, length-take-le, get_or-drop}
use Rattle.std.specs.Prelude.{if◌then◌else◌, None}
use Rattle.integers.specs.Words.{below, all, joined, ◌⇒◌}
use Rattle.integers.specs.Tests.{tests, either, or_right}
use Rattle.integers.specs.Lists.{map_same, all_same}
use Rattle.integers.specs.Tables.{length-tab, all_get_d}
use Rattle.definitions.specs.declared.Case.{Case}
use Rattle.definitions.specs.declared.Line.{Line}
use Rattle.definitions.specs.Rules.{Rules, rules_of, coherent, edge_places}
use Rattle.definitions.specs.Refusals.{first_refusal}
use Rattle.definitions.specs.Case.{lower_end, upper_end, place, own_length, lent_length, weight, barred_weight, is_barred, barred, wholly_barred}
use Rattle.definitions.specs.Valid.{in_starting, starting_weight, zeros_from, same_bars, both_handed_over}
use Rattle.definitions.specs.CaseFiles.{CaseDue, variable-weight, edge-ends, edge-weight, Reading, weight_line, weight_in, bars, zeroed_from}
use Rattle.definitions.proofs.CaseLaws.{place-own}
use Rattle.logs.specs.Leave.{in_places}
use Rattle.logs.specs.Join.{Joining, grown_case}
use Rattle.logs.specs.Waiting.{small_case, renumbered, ends_read, weights_read, scopes_read, waiting_weights, read_so_far, not_in_join, waiting_tests}
use Rattle.theory.proofs.Words.{none_below}
use Rattle.theory.proofs.Places.{IsTuple, by-scope, by-tuple, variable-tuple, edge-tuple, each-variable, each-edge, tuple_at}
use Rattle.theory.proofs.Validity.{none-applies, not-and-iff, BothHanded, both-handed}
use Rattle.case_theory.proofs.CaseDues.{line_of, IsDue, rank, weight-back}
use Rattle.case_theory.proofs.CaseTests.{Good, passes}
use Rattle.case_theory.proofs.Zeroed.{zeroed-before}
use Rattle.log_theory.proofs.SoundLogs.{SoundJoin}
use Rattle.log_theory.proofs.WaitingDues.{ends-few, scopes-few, weights-few, ends-earlier, variable-earlier, edge-earlier}
use Rattle.log_theory.proofs.WaitingDues.{variable-whole, edge-whole}
use Rattle.log_theory.proofs.Waiting.{joined_scope, variable-joined, edge-joined, waiting_table, new-weight}

-- a weight's line
line-range : (r : Rules) (t : Line) → T (bars t || in_starting r t.amount) → T (starting_weight r (weight_in t))
line-range r t = go (bars t)
  where
    go : (b : Bool) → T (b || in_starting r t.amount) → T (starting_weight r (if b then barred_weight else t.amount))
    go true h = tt
    go false h = or_right (is_barred t.amount) (in_starting r t.amount) h

-- ---- what is read so far: the ends of an edge, and the weights that wait

placed_at : (first more : List ℕ) (n e : ℕ) → length first ≡ n → e < length more → get_or (in_places (first ++ more)) (n + e) 0 ≡ get_or more e 0
placed_at first more n e l h =
    get_or-append (first ++ more) (replicate (edge_places - length (first ++ more)) 0) 0 (n + e) (omega (arith, length-append first more))
    ∙ ap (λ (n : ℕ). get_or (first ++ more) (n + e) 0) (sym l) ∙ get_or-append-add first more e 0

module _ (c : Case) (p : ℕ) (w₀ : List ℤ) (lower : List ℕ) (x : CaseDue) (few : ends_read x ≤ length lower) where
  abbrev read : Reading
  read = read_so_far c w₀ p x lower

  pub lower-read : (e : ℕ) → e < ends_read x → lower_end read.case (c.m + e) ≡ get_or lower e 0
  lower-read e h =
      placed_at (map (lower_end c) (below c.m)) (take (ends_read x) lower) c.m e (length-tab (lower_end c) 0 c.m)
      (omega (arith, length-take-le (ends_read x) lower few))
      ∙ get_or-take (ends_read x) lower e 0 h

  pub upper-read : (e : ℕ) → e < ends_read x → upper_end read.case (c.m + e) ≡ c.n
  upper-read e h =
      let l = length-take-le (ends_read x) lower few in
      let n : ℕ = length (take (ends_read x) lower) in
      placed_at (map (upper_end c) (below c.m)) (replicate n c.n) c.m e (length-tab (upper_end c) 0 c.m)
      (omega (arith, length-replicate n c.n))
      ∙ get_or-replicate n e c.n 0 (omega arith)

module _ (c : Case) (p : ℕ) (w₀ : List ℤ) where
  abbrev waiting : ℕ → ℕ → ℕ → ℤ
  waiting y k l = weight (small_case c p) (waiting_weights c w₀) y k l

  small-weight : {y k l : ℕ} → IsTuple (small_case c p) y k l → weight (grown_case c p) (waiting_table c p w₀) (joined_scope c y) k l ≡ waiting y k l
  small-weight {y} {k} {l} i = new-weight c p w₀ i ∙ sym (get_or-drop (own_length c) w₀ (place (small_case c p) y k l) (pos 0))

  pub variable-weight-is : {i k : ℕ} → i < 1 → k < c.d → weight (grown_case c p) (waiting_table c p w₀) (c.n + i) k 0 ≡ waiting i k 0
  variable-weight-is {i} {k} u v =
      ap (λ (x : ℕ). weight (grown_case c p) (waiting_table c p w₀) x k 0) (sym (variable-joined c u))
      ∙ small-weight (variable-tuple (small_case c p) i k u v)

  pub edge-weight-is : {e k l : ℕ} → e < p → k < c.d → l < c.d
      → weight (grown_case c p) (waiting_table c p w₀) (c.n + 1 + (c.m + e)) k l ≡ waiting (1 + e) k l
  edge-weight-is {e} {k} {l} u v h =
      ap (λ (x : ℕ). weight (grown_case c p) (waiting_table c p w₀) x k l) (sym (edge-joined c e)) ∙ small-weight (edge-tuple (small_case c p) e k l u v h)

  pub variable-bars : (i : ℕ) → i < 1 → wholly_barred (grown_case c p) (waiting_table c p w₀) (c.n + i) ≡ wholly_barred (small_case c p) (waiting_weights c w₀) i
  variable-bars i u = ap (all (λ b. b))
      (each-variable (grown_case c p) (barred (grown_case c p) (waiting_table c p w₀) (c.n + i)) (c.n + i) (omega arith)
      ∙ map_same c.d (λ k v. ap is_barred (variable-weight-is u v))
      ∙ sym (each-variable (small_case c p) (barred (small_case c p) (waiting_weights c w₀) i) i u))

  pub edge-bars : (e : ℕ) → e < p
      → wholly_barred (grown_case c p) (waiting_table c p w₀) (c.n + 1 + (c.m + e)) ≡ wholly_barred (small_case c p) (waiting_weights c w₀) (1 + e)
  edge-bars e u = ap (all (λ b. b))
      (each-edge (grown_case c p) (barred (grown_case c p) (waiting_table c p w₀) (c.n + 1 + (c.m + e))) (c.m + e)
      ∙ ap joined (map_same c.d (λ k v. map_same c.d (λ l h. ap is_barred (edge-weight-is u v h))))
      ∙ sym (each-edge (small_case c p) (barred (small_case c p) (waiting_weights c w₀) (1 + e)) e))

-- ---- the lines read are good

module _ (c : Case) (p : ℕ) (w₀ : List ℤ) (lower : List ℕ) (x : CaseDue) (due : IsDue 1 c.d p x) (few : ends_read x ≤ length lower) (some : 1 ≤ c.d)
    (good : (y : CaseDue) → IsDue 1 c.d p y → rank 1 c.d p y < rank 1 c.d p x → let g = read_so_far c w₀ p x lower in
    Good (rules_of c) g (renumbered c y) (line_of g.case g.table (renumbered c y))) where
  ends-good : (e : ℕ) → e < ends_read x
      → (get_or lower e 0 < c.n) × ((f : ℕ) → f < e → get_or lower e 0 ≡ get_or lower f 0 → ⊥)
  ends-good e h =
      let (a, b, o) = good (edge-ends e) (omega (arith, ends-few c p x due)) (ends-earlier c p e x h) in
      let l = lower-read c p w₀ lower x few in
      let u = upper-read c p w₀ lower x few in (
        omega (arith, l e h, u e h),
        λ f g q. o (c.m + f) (omega arith) (l f (omega arith) ∙ sym q ∙ sym (l e h)) (u f (omega arith) ∙ sym (u e h)),
      )

  weight-good : {y k l : ℕ} → IsTuple (small_case c p) y k l → place (small_case c p) y k l < weights_read c p x
      → T (starting_weight (rules_of c) (waiting c p w₀ y k l))
  weight-good = by-tuple (small_case c p)
      (λ y k l. place (small_case c p) y k l < weights_read c p x → T (starting_weight (rules_of c) (waiting c p w₀ y k l)))
      (λ i k u v h.
      let z : ℤ = weight (grown_case c p) (waiting_table c p w₀) (c.n + i) k 0 in
      let t : Line = weight_line 11 14 (pos (c.n + i)) (pos k) (pos 0) z in
      subst (λ (z : ℤ). T (starting_weight (rules_of c) z)) (weight-back 11 14 refl refl (pos (c.n + i)) (pos k) (pos 0) z ∙ variable-weight-is c p w₀ u v)
      (line-range (rules_of c) t (good (variable-weight i k) (u, v) (variable-earlier c p i k u v x due h)).0))
      (λ e k l u v q h.
      let z : ℤ = weight (grown_case c p) (waiting_table c p w₀) (c.n + 1 + (c.m + e)) k l in
      let t : Line = weight_line 13 15 (pos (c.m + e)) (pos k) (pos l) z in
      subst (λ (z : ℤ). T (starting_weight (rules_of c) z)) (weight-back 13 15 refl refl (pos (c.m + e)) (pos k) (pos l) z ∙ edge-weight-is c p w₀ u v q)
      (line-range (rules_of c) t (good (edge-weight e k l) (u, v, q) (edge-earlier c p e k l u v q x due h)).0))

  scope-good : (y : ℕ) → y < scopes_read x → T (not (wholly_barred (small_case c p) (waiting_weights c w₀) y))
  scope-good y h = by-scope (small_case c p) (λ y. y < scopes_read x → T (not (wholly_barred (small_case c p) (waiting_weights c w₀) y)))
      (λ i u h. subst (λ (b : Bool). T (not b)) (variable-bars c p w₀ i u)
      ((good (variable-weight i (c.d - 1)) (u, omega arith) (variable-whole c p i u x h some)).1 (omega arith)))
      (λ e u h. let l : c.d - 1 < c.d = omega arith in let o : c.d - 1 + 1 ≡ c.d = omega arith in
      subst (λ (b : Bool). T (not b)) (edge-bars c p w₀ e u)
      ((good (edge-weight e (c.d - 1) (c.d - 1)) (u, l, l) (edge-whole c p e x h some)).1 (o, o)))
      y (omega (arith, scopes-few c p x due)) h

module _ {r : Rules} {c : Case} {u w : List ℤ} (under : r ≡ rules_of c) (both : BothHanded r c u w) {j : Joining} (k : SoundJoin r c u j) (x : CaseDue)
    (due : IsDue 1 c.d k.added x) (at : rank 1 c.d k.added x ≡ k.taken) (w₀ : List ℤ) (long : length w₀ ≡ lent_length r c)
    (own : zeroed_from (own_length c) w₀ ≡ u) (zeros : T (zeros_from (own_length c + weights_read c k.added x) w₀)) (lower : List ℕ)
    (many : length lower ≡ edge_places) (reading : j.reading ≡ read_so_far c w₀ k.added x lower) where
  abbrev p : ℕ
  p = k.added

  few : ends_read x ≤ length lower
  few = omega (arith, ends-few c p x due, rw under at k.edges, (coherent c.rulebook).edges_placed)

  good : (y : CaseDue) → IsDue 1 c.d p y → rank 1 c.d p y < rank 1 c.d p x → let g = read_so_far c w₀ p x lower in
      Good (rules_of c) g (renumbered c y) (line_of g.case g.table (renumbered c y))
  good y v h = subst (λ (g : Reading). Good (rules_of c) g (renumbered c y) (line_of g.case g.table (renumbered c y))) (sym k.reading ∙ reading)
      (k.read.good y v (omega arith))

  own_same : (i : ℕ) → i < own_length c → get_or w₀ i (pos 0) ≡ get_or u i (pos 0)
  own_same i h = sym (zeroed-before (own_length c) w₀ i h) ∙ ap (λ (u : List ℤ). get_or u i (pos 0)) own

  -- every weight, own or waiting
  own_range : {y a b : ℕ} → IsTuple c y a b → T (starting_weight r (weight c w₀ y a b))
  own_range {y} {a} {b} v = subst (λ (z : ℤ). T (starting_weight r z))
      (sym (own_same (place c y a b) (place-own c y a b v.scope v.one v.two))) (both.first.in-range y a b v)

  waiting-range : {y a b : ℕ} → IsTuple (small_case c p) y a b → place (small_case c p) y a b < weights_read c p x
      → T (starting_weight r (get_or w₀ (own_length c + place (small_case c p) y a b) (pos 0)))
  waiting-range {y} {a} {b} v h = subst (λ (r : Rules). T (starting_weight r (get_or w₀ (own_length c + place (small_case c p) y a b) (pos 0)))) (sym under)
      (subst (λ (z : ℤ). T (starting_weight (rules_of c) z)) (get_or-drop (own_length c) w₀ (place (small_case c p) y a b) (pos 0))
      (weight-good c p w₀ lower x due few both.first.shape.some-value good v h))

  waiting-at : (q : ℕ) → q < weights_read c p x → T (starting_weight r (get_or w₀ (own_length c + q) (pos 0)))
  waiting-at q h =
      let (y, a, b, v, e) = tuple_at (small_case c p) q (omega (arith, weights-few c p x due)) in
      subst (λ (q : ℕ). T (starting_weight r (get_or w₀ (own_length c + q) (pos 0)))) e (waiting-range v (omega arith))

  range : (i : ℕ) → i < own_length c + weights_read c p x → T (starting_weight r (get_or w₀ i (pos 0)))
  range i h = ⊎_elim
      (λ t. let (y, a, b, v, e) = tuple_at c i (ltb→lt i (own_length c) t) in subst (λ (i : ℕ). T (starting_weight r (get_or w₀ i (pos 0)))) e (own_range v))
      (λ t.
      let o = nltb→le i (own_length c) t in
      let s : own_length c + (i - own_length c) ≡ i = omega arith in
      subst (λ (i : ℕ). T (starting_weight r (get_or w₀ i (pos 0)))) s (waiting-at (i - own_length c) (omega arith)))
      (either (ltb i (own_length c)))

  all-range : T (all (starting_weight r) (take (own_length c + weights_read c p x) w₀))
  all-range = (all_get_d (starting_weight r) (take (own_length c + weights_read c p x) w₀) (pos 0)).1 (λ i h.
      let o : i < own_length c + weights_read c p x = omega (arith, length-take (own_length c + weights_read c p x) w₀) in
      subst (λ (z : ℤ). T (starting_weight r z)) (sym (get_or-take (own_length c + weights_read c p x) w₀ i (pos 0) o)) (range i o))

  bars-same : same_bars c w₀ w ≡ same_bars c u w
  bars-same = all_same (own_length c) (λ i h.
      ap (λ (z : ℤ). (is_barred z ⇒ is_barred (get_or w i (pos 0))) && (is_barred (get_or w i (pos 0)) ⇒ is_barred z)) (own_same i h))

  in-join : (x : CaseDue) → IsDue 1 c.d p x → T (not (not_in_join c p x))
  in-join (variable-weight i a) (v, h) = simp tests (omega arith, h)
  in-join (edge-ends e) v = simp tests v
  in-join (edge-weight e a b) (v, h, g) = simp tests ((v, h), g)

  pub waits-quiet : first_refusal (waiting_tests r c w₀ w k.added x lower false) ≡ None
  waits-quiet =
      let h = simp (tests, not-and-iff, none_below) at ((none-applies (both_handed_over r c u w false)).0 ((both-handed r c u w false).1 (both, tt))) in
      let (limits, (lengths, (edges, (ascending, (apart, (weights, (free, t))))))) = h in
      let n : 1 ≤ c.n + 1 = omega arith in
      let m : c.n + 1 ≤ r.variables = omega (arith, k.variables) in
      let ends = ends-good c p w₀ lower x due few both.first.shape.some-value good in
      (passes (waiting_tests r c w₀ w k.added x lower false)).1 (simp (tests, not-and-iff, none_below) (
        (limits, (((n, m), limits.0.1), (omega arith, k.edges))),
        (
          (lengths.0, long),
          (
            (((((tt, k.few), in-join x due), λ e l. (ends e l).0), edges.0.1), edges.1),
            (
              ascending,
              (
                (apart, λ e l. (ends e l).1),
                (
                  ((((all-range, zeros), weights.0.0.1), weights.0.1), subst T (sym bars-same) weights.1),
                  ((free, scope-good c p w₀ lower x due few both.first.shape.some-value good), tt),
                ),
              ),
            ),
          ),
        ),
      ))
