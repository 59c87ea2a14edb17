-- Trimming, over the bytes of raised scopes: the scopes below x that are still raised were kept, and the others are still to be tried.
-- Assumes nothing.
use mathlib.Core.Path.{◌≡◌, refl, sym, ap, ap₂, subst, ◌∙◌}
use mathlib.Core.Bool.{Bool, true, false, not, ◌&&◌}
use mathlib.Core.Logic.{◌≢◌, ⊎_elim}
use mathlib.Core.List.Memᴰ
use mathlib.Core.List.{List, [], ◌∷◌, ◌++◌, append-nil}
use Prim.Native.Nat.{ℕ, suc, ◌+◌, ◌-◌, ◌<◌}
use native.Mathlib.Omega.{arith}
use lib.IntN.{ℤ}
use lib.Dec.{T, eqb, ltb, ltb→lt, nltb→le, eqb→eq}
use lib.ListN.{length, get_or, set, length-set}
use Rattle.std.specs.Prelude.{if◌then◌else◌}
use Rattle.integers.specs.Words.{from, below, those, is_in}
use Rattle.integers.specs.Tests.{either, is_true, true-is, same_test, not-eqb-iff}
use Rattle.integers.specs.Lists.{from_in, in-from, those-cong, those-same, in-those, those-in, below_in, in-below, is_in-in}
use Rattle.definitions.specs.declared.Case.{Case}
use Rattle.definitions.specs.Case.{scope_count}
use Rattle.definitions.specs.Moves.{active_refuted}
use Rattle.definitions.specs.Engine.{trimmed, kept_scopes}
use Rattle.calls.specs.Calls.{is_raised}
use Rattle.press_theory.proofs.Raised.{refuted-more}
use Rattle.engine.specs.Search.{refutes_in, OthersRaised, Enough, Dropped}
use Rattle.round_lines.specs.Press.{raised_below}
use Rattle.round_lines.proofs.Texts.{those-next}
use Rattle.engine.proofs.Raising.{raised-here, raised-elsewhere, refutes-alike}

-- ---- one scope tried
module _ (c : Case) (w : List ℤ) (i : ℕ) where
  abbrev pub trimmed_at : List ℕ → ℕ → List ℕ
  trimmed_at raised x = trimmed c w i (raised_below raised x) (those (is_raised raised) (from x (scope_count c - x)))

  -- the scopes but x
  tried-in : (raised : List ℕ) (x : ℕ) → x < scope_count c → x < length raised → (y : ℕ) → y < scope_count c
      → is_raised (set raised x 0) y ≡ is_in (raised_below raised x ++ those (is_raised raised) (from (suc x) (scope_count c - suc x))) y
  tried-in raised x h long y g = same_test _ _ to back
    where
      rest : List ℕ
      rest = those (is_raised raised) (from (suc x) (scope_count c - suc x))

      to : T (is_raised (set raised x 0) y) → T (is_in (raised_below raised x ++ those (is_raised raised) (from (suc x) (scope_count c - suc x))) y)
      to t = ⊎_elim
          (λ s. absurd (subst T (raised-here raised x 0 long) (subst (λ (k : ℕ). T (is_raised (set raised x 0) k)) (eqb→eq y x s) t)))
          (λ s.
          let ne = (not-eqb-iff y x).0 s in
          let r : T (is_raised raised y) = subst T (raised-elsewhere raised x 0 y ne) t in
          (is_in-in (raised_below raised x ++ those (is_raised raised) (from (suc x) (scope_count c - suc x))) y).1 (⊎_elim
          (λ u. Memᴰ.append_left (those (is_raised raised) (from (suc x) (scope_count c - suc x))) (those-in (is_raised raised) (below_in (ltb→lt y x u)) r))
          (λ u. Memᴰ.append_right (raised_below raised x) (those-in (is_raised raised)
          (from_in (scope_count c - suc x) {a = suc x} (omega (arith, nltb→le y x u, ne)) (omega arith)) r))
          (either (ltb y x))))
          (either (eqb y x))

      off : y ≢ x → T (is_raised raised y) → T (is_raised (set raised x 0) y)
      off ne r = subst T (sym (raised-elsewhere raised x 0 y ne)) r

      back : T (is_in (raised_below raised x ++ those (is_raised raised) (from (suc x) (scope_count c - suc x))) y) → T (is_raised (set raised x 0) y)
      back t = ⊎_elim
          (λ m. let (n, r) = in-those (is_raised raised) (below x) m in let l : y < x = in-below x n in off (λ e. absurd (omega arith)) r)
          (λ m. let (n, r) = in-those (is_raised raised) (from (suc x) (scope_count c - suc x)) m in let (l, u) = in-from (suc x) (scope_count c - suc x)
          n in off (λ e. absurd (omega arith)) r)
          (Memᴰ.append_cases (raised_below raised x) ((is_in-in (raised_below raised x ++ those (is_raised raised) (from (suc x) (scope_count c - suc x)))
          y).0 t))

  module _ {before after : List ℕ} {x : ℕ} (h : x < scope_count c) (long : x < length before) (d : Dropped c w i x before after) where
    kept : List ℕ
    kept = raised_below before x

    rest : List ℕ
    rest = those (is_raised before) (from (suc x) (scope_count c - suc x))

    kept_same : raised_below after x ≡ kept
    unfolding kept
    kept_same = those-same x (λ y g. d.elsewhere y (λ e. absurd (omega arith)))

    rest-same : those (is_raised after) (from (suc x) (scope_count c - suc x)) ≡ rest
    unfolding rest
    rest-same =
        those-cong (from (suc x) (scope_count c - suc x)) (λ y m. let (l, u) = in-from (suc x) (scope_count c - suc x) m in d.elsewhere y
        (λ e. absurd (omega arith)))

    asked : refutes_in c w i (set before x 0) ≡ active_refuted c w i (kept ++ rest)
    unfolding kept rest
    asked = refutes-alike c w (tried-in before x h long) i

    -- by whether x was raised, and whether the values are refuted without it
    step : (b a r : Bool) → a ≡ (b && not r) → r ≡ active_refuted c w i (kept ++ rest)
        → trimmed c w i (kept ++ (if a then x ∷ [] else [])) rest ≡ trimmed c w i kept (if b then x ∷ rest else rest)
    step false a r e f = rw (e, append-nil kept)
    step true a true e f =
        ap (λ (q : Bool). trimmed c w i (kept ++ (if q then x ∷ [] else [])) rest) e ∙ ap (λ (l : List ℕ). trimmed c w i l rest) (append-nil kept)
        ∙ ap (λ (q : Bool). trimmed c w i (if q then kept else kept ++ (x ∷ [])) rest) f
    step true a false e f = ap (λ (q : Bool). trimmed c w i (kept ++ (if q then x ∷ [] else [])) rest) e
        ∙ ap (λ (q : Bool). trimmed c w i (if q then kept else kept ++ (x ∷ [])) rest) f

    pub trim-next : trimmed_at after (x + 1) ≡ trimmed_at before x
    unfolding kept rest
    trim-next =
        let s : scope_count c - x ≡ suc (scope_count c - suc x) = omega arith in
        let t : scope_count c - (x + 1) ≡ scope_count c - suc x = omega arith in
        let u : x + 1 ≡ suc x = omega arith in
        ap₂ (λ (p : List ℕ) (m : ℕ). trimmed c w i p (those (is_raised after) (from (x + 1) m))) (those-next (is_raised after) x
        ∙ ap (λ (l : List ℕ). l ++ (if is_raised after x then x ∷ [] else [])) kept_same) t
        ∙ ap (λ (l : List ℕ). trimmed c w i (kept ++ (if is_raised after x then x ∷ [] else [])) l)
        (ap (λ (a : ℕ). those (is_raised after) (from a (scope_count c - suc x))) u ∙ rest-same)
        ∙ step (is_raised before x) (is_raised after x) (refutes_in c w i (set before x 0)) d.here asked
        ∙ ap (λ (m : ℕ). trimmed c w i kept (those (is_raised before) (from x m))) (sym s)

  -- at first all others are to be tried, and at the end none
  pub trim-first : (raised : List ℕ) → OthersRaised c i raised → trimmed_at raised 0 ≡ kept_scopes c w i
  trim-first raised o =
      let z : scope_count c - 0 ≡ scope_count c = omega arith in
      ap (λ (m : ℕ). trimmed c w i [] (those (is_raised raised) (from 0 m))) z ∙ ap (trimmed c w i []) (those-same (scope_count c) o)

  pub trim-last : (raised : List ℕ) (x : ℕ) → x ≡ scope_count c → trimmed_at raised x ≡ raised_below raised (scope_count c)
  trim-last raised x e =
      let z : scope_count c - x ≡ 0 = omega arith in
      rw (z, e)

-- ---- scopes that are enough

-- nothing was left but what is raised
pub raised-kept : (raised enough : List ℕ) (n : ℕ) → ((y : ℕ) → y < n → get_or raised y 0 ≡ 0 → get_or enough y 0 ≡ 0) → (y : ℕ) → y < n
    → T (is_raised enough y) → T (is_raised raised y)
raised-kept raised enough n f y h t = ⊎_elim
    (λ s. absurd (subst (λ (b : ℕ). T (not (eqb b 0))) (f y h (eqb→eq (get_or raised y 0) 0 s)) t))
    (λ s. s)
    (either (eqb (get_or raised y 0) 0))

module _ (c : Case) (w : List ℤ) (i : ℕ) where
  refutes-more : (raised enough : List ℕ) → Enough c w i raised enough → refutes_in c w i raised ≡ true
  refutes-more raised enough n =
      is_true (refutes_in c w i raised) (refuted-more c w i (is_raised enough) (is_raised raised) n.inside (true-is (refutes_in c w i enough) n.refutes))

  -- all that are raised
  pub copied-enough : (raised enough : List ℕ) → ((y : ℕ) → y < scope_count c → get_or enough y 0 ≡ get_or raised y 0) → refutes_in c w i raised ≡ true
      → Enough c w i raised enough
  copied-enough raised enough e t = record {
    inside = λ y h. subst T (same y h);
    refutes = refutes-alike c w same i ∙ t;
  }
    where
      same : (y : ℕ) → y < scope_count c → is_raised enough y ≡ is_raised raised y
      same y h = ap (λ (b : ℕ). not (eqb b 0)) (e y h)

  module _ (x : ℕ) {before enough : List ℕ} (long : x < length before) (n : Enough c w i before enough) where
    -- x is not among them
    pub enough-without : get_or enough x 0 ≡ 0 → Enough c w i (set before x 0) enough
    enough-without e = record {
      inside = λ y h t. ⊎_elim
          (λ s. absurd (subst (λ (b : ℕ). T (not (eqb b 0))) e (subst (λ (k : ℕ). T (is_raised enough k)) (eqb→eq y x s) t)))
          (λ s. subst T (sym (raised-elsewhere before x 0 y ((not-eqb-iff y x).0 s))) (n.inside y h t))
          (either (eqb y x));
      refutes = n.refutes;
    }

    -- x is kept
    pub enough-kept : Enough c w i (set (set before x 0) x 1) enough
    enough-kept = record {
      inside = λ y h t. ⊎_elim
          (λ s. subst (λ (k : ℕ). T (is_raised (set (set before x 0) x 1) k)) (sym (eqb→eq y x s))
          (subst T (sym (raised-here (set before x 0) x 1 (omega (arith, length-set before x 0)))) tt))
          (λ s. let ne = (not-eqb-iff y x).0 s in subst T (sym (raised-elsewhere (set before x 0) x 1 y ne ∙ raised-elsewhere before x 0 y ne))
          (n.inside y h t))
          (either (eqb y x));
      refutes = n.refutes;
    }

-- ---- what was done to scope x

and-not : (b : Bool) → (b && false) ≡ false
and-not true = refl
and-not false = refl

module _ (c : Case) (w : List ℤ) (i x : ℕ) {before : List ℕ} (long : x < length before) where
  pub dropped-out : refutes_in c w i (set before x 0) ≡ true → Dropped c w i x before (set before x 0)
  dropped-out t = record {
    here = raised-here before x 0 long ∙ sym (ap (λ (b : Bool). is_raised before x && not b) t ∙ and-not (is_raised before x));
    elsewhere = λ y ne. raised-elsewhere before x 0 y ne;
  }

  pub dropped-free : {enough : List ℕ} → Enough c w i (set before x 0) enough → Dropped c w i x before (set before x 0)
  dropped-free {enough} n = dropped-out (refutes-more c w i (set before x 0) enough n)

  pub dropped-not : T (is_raised before x) → refutes_in c w i (set before x 0) ≡ false → Dropped c w i x before (set (set before x 0) x 1)
  dropped-not r t = record {
    here = raised-here (set before x 0) x 1 (omega (arith, length-set before x 0)) ∙ sym (ap₂ (λ (a b : Bool). a && not b) (is_true (is_raised before x) r) t);
    elsewhere = λ y ne. raised-elsewhere (set before x 0) x 1 y ne ∙ raised-elsewhere before x 0 y ne;
  }
