-- What is known of a case and a table that are handed over and not refused, as plain facts: what a valid case is, and that its starting
-- weights are working weights. Assumes nothing.
use mathlib.Core.Path.{◌≡◌, refl, sym, ap, subst, ◌∙◌}
use mathlib.Core.Bool.{Bool, true, false, not, ◌&&◌, true≢false}
use mathlib.Core.Logic.{◌↔◌, ⊎_elim}
use mathlib.Core.List.{List, [], ◌∷◌}
use Prim.Native.Nat.{ℕ, ◌*◌, ◌≤◌, ◌<◌}
use native.Mathlib.Nat.{mul-le-mul_right}
use native.Mathlib.Omega.{arith}
use lib.IntN.{ℤ, pos}
use lib.Dec.{T, T_not, not_T, eqb, ltb}
use lib.Signed.{le_z}
use lib.ListN.{length, get_or}
use Rattle.std.specs.Prelude.{if◌then◌else◌, Some, is_some}
use Rattle.integers.specs.Words.{all, within_z, minus, eq_z, ◌⇒◌}
use Rattle.integers.specs.Tests.{tests, and_left, and_right, and_intro, or_left, or_right, or_cases, not-not-iff}
use Rattle.integers.specs.Linear.{flat, zs, ◌▸◌, T-eq}
use Rattle.integers.specs.Lists.{all_in, any-in, all-at, all_of}
use Rattle.definitions.proofs.CaseLaws.{place-own}
use Rattle.definitions.specs.declared.Case.{Case}
use Rattle.definitions.specs.Case.{scope_count, lower_end, upper_end, own_length, lent_length, place, weight, is_assignment, is_barred, barred, wholly_barred}
use Rattle.definitions.specs.Rules.{Rules, Coherent}
use Rattle.definitions.proofs.RulesLaws.{rules-fit}
use Rattle.definitions.specs.Refusals.{Test, first_refusal}
use Rattle.definitions.specs.Moves.{Difference, plus, spared, leaves_range}
use Rattle.definitions.specs.Valid.{in_starting, in_working, starting_weight, working_weight, all_weights, zeros_from, wrong_assignment, value_out, same_bars, handed_over, both_handed_over, valid}
use Rattle.theory.proofs.Shape.{Shape, ends-below}
use Rattle.theory.proofs.Words.{none_below}
use Rattle.theory.proofs.Places.{IsTuple, tuple_at, each-cong, all-weights, plus-length, drop-plus}
use Rattle.theory.proofs.Barred.{bars-kept, working-kept}

-- the first refusal of a list is none just where none applies
pub none-applies : (ts : List Test) → T (not (is_some (first_refusal ts))) ↔ T (all (λ t. not t.applies) ts)
none-applies [] = (λ t. t, λ t. t)
none-applies (t ∷ ts) = go t.applies (none-applies ts)
  where
    go : (b : Bool) → T (not (is_some (first_refusal ts))) ↔ T (all (λ t. not t.applies) ts)
        → T (not (is_some (if b then Some t.refusal else first_refusal ts))) ↔ T (not b && all (λ t. not t.applies) ts)
    go true r = (λ t. t, λ t. t)
    go false r = r

pub not-and-iff : (a b : Bool) → T (not (a && b)) ↔ (T a → T b → ⊥)
not-and-iff a b = (λ t s u. T_not (a && b) t (and_intro a b s u), λ f. not_T (a && b) (λ t. f (and_left a b t) (and_right a b t)))

-- a case within the limits has no more own places than a lent table is long
pub own-lent : (r : Rules) (c : Case) → c.n ≤ r.variables → c.m ≤ r.edges → own_length c ≤ lent_length r c
own-lent r c h g = omega (arith, mul-le-mul_right {m = c.n} {n = r.variables} c.d h, mul-le-mul_right {m = c.m} {n = r.edges} (c.d * c.d) g)

-- a case within the limits, and a table of its length, all weights in a range, with 0 past the own places
pub record Handed (r : Rules) (range : ℤ → Bool) (c : Case) (w : List ℤ) : Type 0 where
  pub variables-most : c.n ≤ r.variables
  pub values-most : c.d ≤ r.values
  pub edges_most : c.m ≤ r.edges
  pub long : length w ≡ lent_length r c
  pub own-fits : own_length c ≤ length w
  pub carry-in : T (within_z (minus r.carried) (pos r.carried) c.carry)
  pub shape : Shape c
  -- no edge is repeated
  pub apart : (e f : ℕ) → e < c.m → f < e → lower_end c e ≡ lower_end c f → upper_end c e ≡ upper_end c f → ⊥
  pub in-range : (x k l : ℕ) → IsTuple c x k l → T (range (weight c w x k l))
  pub past : T (zeros_from (own_length c) w)
  -- no scope is wholly barred
  pub some-free : (x : ℕ) → x < scope_count c → T (not (wholly_barred c w x))

module _ (r : Rules) (range : ℤ → Bool) (c : Case) (w : List ℤ) (wrong out : Bool) where
  pub handed : T (not (is_some (first_refusal (handed_over r range c w wrong out)))) ↔ Handed r range c w × T (not wrong) × T (not out)
  handed = (
    λ t.
        let p = simp (tests, not-and-iff, none_below) at ((none-applies (handed_over r range c w wrong out)).0 t) in
        let e = p.1.0.0 in
        let o : own_length c ≤ length w = omega (arith, own-lent r c p.0.0.0.1 p.0.1.1) in (
          record {
            variables-most = p.0.0.0.1;
            values-most = p.0.0.1.1;
            edges_most = p.0.1.1;
            long = e;
            own-fits = o;
            carry-in = and_intro (le_z (minus r.carried) c.carry) (le_z c.carry (pos r.carried)) p.1.1.0.0.1.0 p.1.1.0.0.1.1;
            shape = record {
              some-variable = p.0.0.0.0;
              some-value = p.0.0.1.0;
              ascending = p.1.1.1.0;
              below-n = λ e h. (p.1.1.0.1 e h).1;
            };
            apart = λ e f h g. p.1.1.1.1.0 e h f g;
            in-range = (all-weights c range w o).0 p.1.1.1.1.1.0.0;
            past = p.1.1.1.1.1.0.1;
            some-free = p.1.1.1.1.1.1.0;
          },
          p.1.0.1,
          p.1.1.0.0.0,
        ),
    λ (h, i, o).
        let s = h.shape in
        let e = h.long in
        (none-applies (handed_over r range c w wrong out)).1 (simp (tests, not-and-iff, none_below) (
          (((s.some-variable, h.variables-most), (s.some-value, h.values-most)), (omega arith, h.edges_most)),
          (
            (e, i),
            (
              ((o, (h.carry-in ▸ simp flat (omega zs), h.carry-in ▸ simp flat (omega zs))), ends-below s),
              (
                s.ascending,
                (
                  λ e u f v. h.apart e f u v,
                  (((all-weights c range w h.own-fits).1 h.in-range, h.past), (h.some-free, tt)),
                ),
              ),
            ),
          ),
        )),
  )

-- a case and its starting weights to which no number applies
abbrev pub Valid : Rules → Case → List ℤ → Type 0
Valid r c w = Handed r (starting_weight r) c w

module _ (r : Rules) (c : Case) (w : List ℤ) where
  unrefused : Bool
  unrefused = not (is_some (first_refusal (handed_over r (starting_weight r) c w false false)))

  pub valid-facts : T (valid r c w) → Valid r c w
  unfolding unrefused
  valid-facts t = ((handed r (starting_weight r) c w false false).0 (and_left unrefused (eq_z c.carry (pos 0)) t)).0

  pub valid-carry : T (valid r c w) → c.carry ≡ pos 0
  unfolding unrefused
  valid-carry t = (T-eq c.carry (pos 0)).0 (and_right unrefused (eq_z c.carry (pos 0)) t)

  pub facts-valid : Valid r c w → c.carry ≡ pos 0 → T (valid r c w)
  unfolding unrefused
  facts-valid h e = and_intro unrefused (eq_z c.carry (pos 0)) ((handed r (starting_weight r) c w false false).1 (h, tt, tt)) ((T-eq c.carry (pos 0)).1 e)

module _ {r : Rules} {c : Case} {w : List ℤ} (coherent : Coherent r) (h : Valid r c w) where
  pub working-weights : (x k l : ℕ) → IsTuple c x k l → T (working_weight r (weight c w x k l))
  working-weights x k l t = go (weight c w x k l) (h.in-range x k l t)
    where
      go : (z : ℤ) → T (starting_weight r z) → T (working_weight r z)
      go z = λ s. ⊎_elim (λ b. or_left (is_barred z) (in_working r z) b)
          (λ i. or_right (is_barred z) (in_working r z) ((rules-fit coherent).starting ▸ i ▸ simp flat (omega zs))) (or_cases (is_barred z) (in_starting r z) s)

  pub working-handed : Handed r (working_weight r) c w
  working-handed = record {
    variables-most = h.variables-most;
    values-most = h.values-most;
    edges_most = h.edges_most;
    long = h.long;
    own-fits = h.own-fits;
    carry-in = h.carry-in;
    shape = h.shape;
    apart = h.apart;
    in-range = working-weights;
    past = h.past;
    some-free = h.some-free;
  }

-- a table that is changed, barred tuples apart, and does not leave the range
pub handed-spared : {r : Rules} → Coherent r → {c : Case} {w : List ℤ} (δ : Difference) → Handed r (working_weight r) c w
    → T (not (leaves_range r c w (plus c (spared c w δ) w))) → Handed r (working_weight r) c (plus c (spared c w δ) w)
handed-spared {r} coherent {c} {w} δ h t =
    let e = plus-length c (spared c w δ) w h.own-fits in
    record {
      variables-most = h.variables-most;
      values-most = h.values-most;
      edges_most = h.edges_most;
      long = e ∙ h.long;
      own-fits = omega (arith, h.own-fits);
      carry-in = h.carry-in;
      shape = h.shape;
      apart = h.apart;
      in-range = λ x a b u. working-kept c w δ r t u (h.in-range x a b u);
      past = subst (λ (l : List ℤ). T (all (λ z. eq_z z (pos 0)) l)) (sym (drop-plus c (spared c w δ) w)) h.past;
      some-free = λ x g. subst (λ (l : List Bool). T (not (all (λ b. b) l))) (sym (each-cong c x g (λ a b u. bars-kept c w δ coherent t u))) (h.some-free x g);
    }

-- ---- a case with its starting weights and its working weights

pub record BothHanded (r : Rules) (c : Case) (w₀ w : List ℤ) : Type 0 where
  pub first : Handed r (starting_weight r) c w₀
  pub now : Handed r (working_weight r) c w
  pub bars : (x k l : ℕ) → IsTuple c x k l → barred c w x k l ≡ barred c w₀ x k l

abbrev agrees : Case → List ℤ → List ℤ → ℕ → Bool
agrees c w₀ w p = (is_barred (get_or w₀ p (pos 0)) ⇒ is_barred (get_or w p (pos 0))) && (is_barred (get_or w p (pos 0)) ⇒ is_barred (get_or w₀ p (pos 0)))

both_ways : (a b : Bool) → T ((a ⇒ b) && (b ⇒ a)) ↔ a ≡ b
both_ways true true = (λ t. refl, λ e. tt)
both_ways true false = (λ t. absurd t, λ e. absurd (true≢false e))
both_ways false true = (λ t. absurd t, λ e. absurd (true≢false (sym e)))
both_ways false false = (λ t. refl, λ e. tt)

module _ (r : Rules) (c : Case) (w₀ w : List ℤ) where
  same-bars : T (same_bars c w₀ w) ↔ ((x k l : ℕ) → IsTuple c x k l → barred c w x k l ≡ barred c w₀ x k l)
  same-bars = (
    λ t x k l i. sym ((both_ways (barred c w₀ x k l) (barred c w x k l)).0 (all-at (agrees c w₀ w) (own_length c) t (place c x k l)
        (place-own c x k l i.scope i.one i.two))),
    λ f. all_of (agrees c w₀ w) (own_length c) (λ p h.
        let (x, k, l, i, e) = tuple_at c p h in
        subst (λ (p : ℕ). T (agrees c w₀ w p)) e ((both_ways (barred c w₀ x k l) (barred c w x k l)).1 (sym (f x k l i)))),
  )

  -- the same scopes are wholly barred
  barred-alike : ((x k l : ℕ) → IsTuple c x k l → barred c w x k l ≡ barred c w₀ x k l) → (x : ℕ) → x < scope_count c
      → wholly_barred c w x ≡ wholly_barred c w₀ x
  barred-alike bars x h = ap (all (λ b. b)) (each-cong c x h (bars x))

  module _ (out : Bool) where
    pub both-handed : T (not (is_some (first_refusal (both_handed_over r c w₀ w out)))) ↔ BothHanded r c w₀ w × T (not out)
    both-handed = (
      λ t.
          let p = simp (tests, not-and-iff, none_below) at ((none-applies (both_handed_over r c w₀ w out)).0 t) in
          let q = p.1.1 in
          let v = q.1.1.1.0 in
          let bars = same-bars.0 v.1 in
          let u : (range : ℤ → Bool) (u : List ℤ) → length u ≡ lent_length r c → T (all_weights range c u) → T (zeros_from (own_length c) u)
          → ((x : ℕ) → x < scope_count c → T (not (wholly_barred c u x))) → Handed r range c u = λ range u long inside past free.
          ((handed r range c u false false).0 ((none-applies (handed_over r range c u false false)).1 (simp (tests, not-and-iff, none_below)
          (p.0, ((long, tt), (((tt, q.0.0.1), q.0.1), (q.1.0, (q.1.1.0, ((inside, past), (free, tt)))))))))
          ).0 in
          let first = v.0.0.0 in (
            record {
              first = u (starting_weight r) w₀ p.1.0.1 first.0 first.1 (λ x h. rw (← (barred-alike bars x h)) (q.1.1.1.1.0 x h));
              now = u (working_weight r) w p.1.0.0 v.0.0.1 v.0.1 q.1.1.1.1.0;
              bars = bars;
            },
            q.0.0.0,
          ),
      λ (b, o).
          let p = simp (tests, not-and-iff, none_below) at ((none-applies (handed_over r (working_weight r) c w false out)).0
          ((handed r (working_weight r) c w false out).1 (b.now, tt, o))) in
          let f = b.first in
          (none-applies (both_handed_over r c w₀ w out)).1 (simp (tests, not-and-iff, none_below) (
            p.0,
            (
              (p.1.0.0, f.long),
              (
                p.1.1.0,
                (
                  p.1.1.1.0,
                  (
                    p.1.1.1.1.0,
                    (
                      (
                        (
                          (
                            ((all-weights c (starting_weight r) w₀ f.own-fits).1 f.in-range, f.past),
                            p.1.1.1.1.1.0.0,
                          ),
                          p.1.1.1.1.1.0.1,
                        ),
                        same-bars.1 b.bars,
                      ),
                      p.1.1.1.1.1.1,
                    ),
                  ),
                ),
              ),
            ),
          )),
    )

-- an assignment of the case's length, with all values in their range, is what `is_assignment` asks for
module _ (c : Case) (p : List ℕ) where
  pub lent-assignment : T (not (wrong_assignment c p)) × T (not (value_out c p)) ↔ T (is_assignment c p)
  lent-assignment = (
    λ (s, t). and_intro (eqb (length p) c.n) (all within_d p) ((not-not-iff (eqb (length p) c.n)).0 s)
        ((all_in within_d p).1 (λ k m. (not-not-iff (within_d k)).0 (not_T (not (within_d k))
        (λ u. T_not (value_out c p) t ((any-in (λ k. not (within_d k)) p).1 (k, m, u)))))),
    λ a. (
      (not-not-iff (eqb (length p) c.n)).1 (and_left (eqb (length p) c.n) (all within_d p) a),
      not_T (value_out c p) (λ t.
          let (k, m, u) = (any-in (λ k. not (within_d k)) p).0 t in
          T_not (within_d k) u ((all_in within_d p).0 (and_right (eqb (length p) c.n) (all within_d p) a) k m)),
    ),
  )
    where
      within_d : ℕ → Bool
      within_d k = ltb k c.d
