-- Moves one after another, in two parts; the shifts of an edge's end, value by value, which leave the weights of the values that are still to
-- be shifted; and where a value's weight stands. Assumes nothing.
use mathlib.Core.Path.{◌≡◌, refl, sym, ap, subst, ◌∙◌}
use mathlib.Core.Bool.{true, false, ◌&&◌}
use mathlib.Core.List.{List, [], ◌∷◌, ◌++◌, map, append-nil}
use mathlib.Core.List.Memᴰ
use Prim.Native.Nat.{ℕ, suc, ◌+◌, ◌*◌, ◌-◌, ◌^◌, ◌≤◌, ◌<◌}
use native.Mathlib.Nat.{mul-le-mul_right}
use native.Mathlib.Numerals.{add-one}
use native.Mathlib.Omega.{arith}
use lib.IntN.{ℤ, pos, neg_ℤ, ◌+ℤ◌, +ℤ_idr}
use lib.Dec.{not_T, eqb, eqb→eq}
use lib.Signed.{◌≤ℤ◌}
use Rattle.std.specs.Prelude.{if◌then◌else◌, Some, None}
use Rattle.integers.specs.Words.{from, below, joined, minus}
use Rattle.integers.specs.Tests.{if-cases, if-false, and_left, and_right, not-or-iff}
use Rattle.integers.specs.Linear.{flat, zs, ◌▸◌}
use Rattle.integers.specs.Lists.{◌∈◌, joined-append, map-append, from_suc, from-split, in-joined, in-below, map_same}
use Rattle.definitions.specs.declared.Case.{Case}
use Rattle.definitions.specs.Rules.{Rules, rules_of, coherent}
use Rattle.definitions.specs.Case.{upper_end, place, weight, barred}
use Rattle.definitions.specs.Valid.{working_weight}
use Rattle.definitions.specs.Moves.{Move, shift, press, end_variable, end_value, shift_by, moved, leaves_range, after_moves}
use Rattle.definitions.specs.PairRounds.{whole_shift, end_shifts}
use Rattle.definitions.proofs.RulesLaws.{rules-fit}
use Rattle.theory.proofs.Places.{variable-tuple, place-variable}
use Rattle.theory.proofs.Barred.{weight-spared, working-bounds}
use Rattle.theory.proofs.Shape.{Shape}
use Rattle.theory.proofs.Validity.{Handed}
use Rattle.theory.proofs.Replays.{Allowed, allowed-stays}
use Rattle.theory.proofs.Rounds.{AllAllowed, no_move, one_more}
use Rattle.tables.proofs.Order.{variables-small}
use Rattle.tables.proofs.Answered.{limits-known}
use Rattle.changes.proofs.TransferLaws.{end-inside, transfer-still}
use Rattle.pair_rounds.specs.Shifts.{left_out}

-- ---- moves one after another

module _ {r : Rules} {c : Case} where
  pub allowed-after : {w v : List ℤ} {moves : List Move} → AllAllowed r c w moves v → after_moves r c moves w ≡ Some v
  allowed-after no_move = refl
  allowed-after {w} (one_more {move} {moves} k m) =
      if-false None (after_moves r c moves (moved c move w)) (leaves_range r c w (moved c move w)) (allowed-stays r c w move k) ∙ allowed-after m

  pub allowed-join : {w u v : List ℤ} {xs ys : List Move} → AllAllowed r c w xs u → AllAllowed r c u ys v → AllAllowed r c w (xs ++ ys) v
  allowed-join no_move n = n
  allowed-join (one_more k m) n = one_more k (allowed-join m n)

  pub allowed-first : {w v : List ℤ} (xs ys : List Move) → AllAllowed r c w (xs ++ ys) v → (u : List ℤ) × AllAllowed r c w xs u
  allowed-first {w} [] ys n = (w, no_move)
  allowed-first {w = w} {v = v} (x ∷ xs) ys (one_more k n) = let (u, m) = allowed-first {w = moved c x w} {v = v} xs ys n in (u, one_more k m)

  pub allowed-rest : {w u v : List ℤ} {xs : List Move} (ys : List Move) → AllAllowed r c w xs u → AllAllowed r c w (xs ++ ys) v
      → AllAllowed r c u ys v
  allowed-rest ys no_move n = n
  allowed-rest ys (one_more k m) (one_more l n) = allowed-rest ys m n

  pub allowed-one : {w v : List ℤ} {move : Move} {moves : List Move} → AllAllowed r c w (move ∷ moves) v → Allowed r c w move
  allowed-one (one_more k m) = k

-- ---- shifts of other values

-- the move is a shift, and not of value k of variable i
abbrev Spares : Case → ℕ → ℕ → Move → Type 0
Spares c i k (shift e end v a) = end_variable c e end ≡ i → v ≡ k → ⊥
Spares c i k (press j lowered raised a) = ⊥

module _ (c : Case) (i k : ℕ) (variable : i < c.n) (value : k < c.d) where
  spared-by : (w : List ℤ) (move : Move) → Spares c i k move → weight c (moved c move w) i k 0 ≡ weight c w i k 0
  spared-by w (shift e end v a) f =
      weight-spared c w (shift_by c e end v a) (variable-tuple c i k variable value)
      ∙ if-cases (λ (z : ℤ). z ≡ weight c w i k 0) (barred c w i k 0) (weight c w i k 0) (weight c w i k 0 +ℤ shift_by c e end v a i k 0) (λ t. refl) (λ t.
      ap (λ (z : ℤ). weight c w i k 0 +ℤ z) (transfer-still c e end v a i k 0
      ((not-or-iff (eqb i (end_variable c e end) && eqb k v) (eqb i (c.n + e) && eqb (end_value end k 0) v)).1 (
        not_T (eqb i (end_variable c e end) && eqb k v)
            (λ t. f (sym (eqb→eq i (end_variable c e end) (and_left (eqb i (end_variable c e end)) (eqb k v) t)))
            (sym (eqb→eq k v (and_right (eqb i (end_variable c e end)) (eqb k v) t)))),
        not_T (eqb i (c.n + e) && eqb (end_value end k 0) v)
            (λ t. let q : i ≡ c.n + e = eqb→eq i (c.n + e) (and_left (eqb i (c.n + e)) (eqb (end_value end k 0) v) t) in omega arith),
      )))
      ∙ +ℤ_idr (weight c w i k 0))
  spared-by w (press _ _ _ _) f = elim f [ ]

  spared : {r : Rules} {w v : List ℤ} {moves : List Move} → AllAllowed r c w moves v → ((m : Move) → m ∈ moves → Spares c i k m)
      → weight c v i k 0 ≡ weight c w i k 0
  spared no_move f = refl
  spared {w} (one_more {move} h m) f = spared m (λ x o. f x (Memᴰ.tail o)) ∙ spared-by w move (f move (Memᴰ.head refl))

-- ---- an end's shifts, value by value

module _ (c : Case) (w : List ℤ) (e end : ℕ) where
  abbrev shift_of : ℤ → ℕ → List Move
  shift_of z v = if left_out z then [] else shift e end v (neg_ℤ z) ∷ []

  -- one value's
  module _ (v : ℕ) where
    pub whole-none : left_out (weight c w (end_variable c e end) v 0) ≡ true → whole_shift c w e end v ≡ []
    whole-none q = rw q

    pub whole-one : left_out (weight c w (end_variable c e end) v 0) ≡ false
        → whole_shift c w e end v ≡ shift e end v (neg_ℤ (weight c w (end_variable c e end) v 0)) ∷ []
    whole-one q = rw q

  -- those of the values below v
  abbrev pub shifts_below : ℕ → List Move
  shifts_below v = joined (map (whole_shift c w e end) (below v))

  pub shifts-next : (v : ℕ) → shifts_below (v + 1) ≡ shifts_below v ++ whole_shift c w e end v
  shifts-next v =
      let z : 0 + v ≡ v = omega arith in
      rw add-one (ap (λ (l : List ℕ). joined (map (whole_shift c w e end) l)) (from_suc 0 v)
      ∙ ap joined (map-append (whole_shift c w e end) (below v) ((0 + v) ∷ []))
      ∙ joined-append (map (whole_shift c w e end) (below v)) (whole_shift c w e end (0 + v) ∷ [])
      ∙ ap (λ (l : List Move). shifts_below v ++ l) (append-nil (whole_shift c w e end (0 + v)) ∙ ap (whole_shift c w e end) z))

  -- the rest after the values below v
  pub shifts-split : (v : ℕ) → v ≤ c.d → end_shifts c w e end ≡ shifts_below v ++ joined (map (whole_shift c w e end) (from v (c.d - v)))
  shifts-split v h =
      let q : c.d ≡ v + (c.d - v) = omega arith in
      let z : 0 + v ≡ v = omega arith in
      ap shifts_below q ∙ ap (λ (l : List ℕ). joined (map (whole_shift c w e end) l)) (from-split 0 v (c.d - v))
      ∙ ap joined (map-append (whole_shift c w e end) (below v) (from (0 + v) (c.d - v)))
      ∙ joined-append (map (whole_shift c w e end) (below v)) (map (whole_shift c w e end) (from (0 + v) (c.d - v)))
      ∙ ap (λ (a : ℕ). shifts_below v ++ joined (map (whole_shift c w e end) (from a (c.d - v)))) z

  -- they spare the other values, and the other variables
  below-spares : (i k n : ℕ) → ((u : ℕ) → u < n → end_variable c e end ≡ i → u ≡ k → ⊥) → (m : Move) → m ∈ shifts_below n → Spares c i k m
  below-spares i k n f m o =
      let (l, p, q) = in-joined (map (whole_shift c w e end) (below n)) o in
      let (u, s, g) = Memᴰ.of_map (whole_shift c w e end) (below n) p in
      if-cases (λ (l : List Move). m ∈ l → Spares c i k m) (left_out (weight c w (end_variable c e end) u 0)) []
      (shift e end u (neg_ℤ (weight c w (end_variable c e end) u 0)) ∷ [])
      (λ t o. absurd (Memᴰ.not-nil o))
      (λ t o. subst (Spares c i k) (sym (Memᴰ.eq_of_singleton o)) (f u (in-below n s)))
      (subst (λ (l : List Move). m ∈ l) (sym g) q)

  module _ {r : Rules} (shape : Shape c) (edge : e < c.m) {u : List ℤ} where
    -- the next value has its weight still
    pub whole-still : {v : ℕ} → v < c.d → AllAllowed r c w (shifts_below v) u → whole_shift c u e end v ≡ whole_shift c w e end v
    whole-still {v} h m =
        ap (λ (z : ℤ). shift_of z v) (spared c (end_variable c e end) v (end-inside shape e end edge) h m
        (below-spares (end_variable c e end) v v (λ u l p q. omega arith)))

-- after the shifts of end 0 those of end 1 are what they were
pub upper-still : (c : Case) (w : List ℤ) (e : ℕ) {r : Rules} {u : List ℤ} → Shape c → e < c.m → AllAllowed r c w (end_shifts c w e 0) u
    → end_shifts c u e 1 ≡ end_shifts c w e 1
upper-still c w e shape edge m =
    ap joined (map_same c.d (λ v h. ap (λ (z : ℤ). shift_of c w e 1 z v)
    (spared c (upper_end c e) v (shape.below-n e edge) h m (below-spares c w e 0 (upper_end c e) v c.d (λ x l p q. omega (arith, shape.ascending e edge))))))

-- ---- where a value's weight stands

pub weight-place : {c : Case} {w : List ℤ} {e v x : ℕ} (end : ℕ) → Handed (rules_of c) (working_weight (rules_of c)) c w → e < c.m → v < c.d
    → x ≡ end_variable c e end
    → (x * c.d + v ≡ place c (end_variable c e end) v 0) × (x * c.d + v < c.n * c.d) × (c.n * c.d ≤ 2048)
weight-place {c} {e} {v} {x} end h edge value q =
    let i : end_variable c e end < c.n = end-inside h.shape e end edge in (
      ap (λ (i : ℕ). i * c.d + v) q ∙ sym (place-variable c (end_variable c e end) v 0 i),
      rw q (omega (arith, mul-le-mul_right {m = suc (end_variable c e end)} {n = c.n} c.d i)),
      variables-small c (limits-known h),
    )

pub weight-small : {c : Case} {w : List ℤ} {e v : ℕ} (end : ℕ) → Handed (rules_of c) (working_weight (rules_of c)) c w → e < c.m → v < c.d
    → (minus (10 ^ 17) ≤ℤ weight c w (end_variable c e end) v 0) × (weight c w (end_variable c e end) v 0 ≤ℤ pos (10 ^ 17))
weight-small {c} {w} {e} {v} end h edge value =
    let t = h.in-range (end_variable c e end) v 0 (variable-tuple c (end_variable c e end) v (end-inside h.shape e end edge) value) in
    let (low, high) = working-bounds (coherent c.rulebook) (weight c w (end_variable c e end) v 0) t in
    let m = (rules-fit (coherent c.rulebook)).working in
    (low ▸ simp flat (omega zs), high ▸ m ▸ simp flat (omega zs))
