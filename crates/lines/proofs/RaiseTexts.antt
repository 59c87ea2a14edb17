-- A raise line by its bytes: the bytes that every such line has, and a scope of one, two or three digits. Assumes nothing.
use Rattle.definitions.specs.declared.Refusal.{Refusal}
use mathlib.Core.Path.{◌≡◌, refl, ap, ◌∙◌}
use mathlib.Core.Logic.{◌≢◌, ⊎_elim}
use mathlib.Core.Bool.{Bool, true, false}
use mathlib.Core.List.{List, [], ◌∷◌}
use Prim.Native.Nat.{ℕ, zero, suc, ◌+◌, ◌*◌, ◌-◌, ◌≤◌, ◌<◌}
use native.Mathlib.Nat.{add-zero}
use native.Mathlib.Omega.{arith}
use lib.IntN.{ℤ, pos, negsuc, nat_abs}
use lib.Signed.{lt_z}
use lib.Dec.{eqb, leb, leb→le, nleb→lt}
use lib.ListN.{length, get_or, take}
use borrow.Author.Tests.{eqb-true, le-leb, eq-eqb, ne_eqb}
use Rattle.std.specs.Prelude.{if◌then◌else◌, Result, Err, Option, Some, None}
use Rattle.integers.specs.Tests.{either, and-iff, true-is}
use Rattle.integers.specs.Linear.{zs, T-eq}
use Rattle.definitions.specs.declared.Line.{Line}
use Rattle.definitions.specs.declared.Refusal.TheVariants.{NotInColumns}
use Rattle.definitions.specs.Lines.{is_digit, read_column, column_at, feed_at, read_line, line_length, line}
use Rattle.definitions.specs.RoundLines.{raise_line}
use Rattle.lines.specs.Found.{line_answer}
use Rattle.lines.specs.AtWidth.{width_out, read_line_at}
use Rattle.lines.specs.Words.{Word}
use Rattle.lines.proofs.Steps.{at_drop}
use Rattle.lines.specs.Raises.{is_raise, scope_from, raise_of, raised_at, zero_digit, Digit, Small, RaiseText}

-- ---- the scope

digit-test : (b : ℕ) → zero_digit ≤ b → b ≤ 57 → is_digit b ≡ true
digit-test b l u = rw (le-leb zero_digit b l, le-leb b 57 u)

one-case : (c : ℕ) → zero_digit ≤ c → c ≤ 57 → read_column (32 ∷ 32 ∷ 32 ∷ c ∷ []) ≡ Some (pos (c - zero_digit))
one-case c l u = go (eqb c zero_digit) refl
  where
    go : (z : Bool) → eqb c zero_digit ≡ z → read_column (32 ∷ 32 ∷ 32 ∷ c ∷ []) ≡ Some (pos (c - zero_digit))
    go true e = rw (eqb-true c zero_digit e)
    go false e = rw (ne_eqb c 32 (λ q. absurd (omega arith)), ne_eqb c 45 (λ q. absurd (omega arith)), e, digit-test c l u)
        (ap (λ (k : ℕ). Some (pos k)) (omega arith))

module _ {c z : ℕ} (dz : Digit c z) where
  pub scope-one : Small (32 ∷ 32 ∷ 32 ∷ c ∷ []) z
  scope-one h = let (l, u, e) = dz.is h in rw e (one-case c l u)

  module _ {b y : ℕ} (dy : Digit b y) (n : b ≢ zero_digit) where
    pub scope-two : Small (32 ∷ 32 ∷ b ∷ c ∷ []) (y * 10 + z)
    scope-two h =
        let (l, u, e) = dz.is (omega arith) in
        let (m, v, f) = dy.is (omega arith) in
        rw (ne_eqb b 32 (λ q. absurd (omega arith)), ne_eqb b 45 (λ q. absurd (omega arith)), ne_eqb b zero_digit n, digit-test b m v, digit-test c l u)
        (ap (λ (k : ℕ). Some (pos k)) (omega arith))

  module _ {a b x y : ℕ} (dx : Digit a x) (dy : Digit b y) (n : a ≢ zero_digit) where
    pub scope-three : Small (32 ∷ a ∷ b ∷ c ∷ []) (x * 100 + y * 10 + z)
    scope-three h =
        let (l, u, e) = dz.is (omega arith) in
        let (m, v, f) = dy.is (omega arith) in
        let (k, w, g) = dx.is (omega arith) in
        rw (
          ne_eqb a 32 (λ q. absurd (omega arith)),
          ne_eqb a 45 (λ q. absurd (omega arith)),
          ne_eqb a zero_digit n,
          digit-test a k w,
          digit-test b m v,
          digit-test c l u,
        ) (ap (λ (k : ℕ). Some (pos k)) (omega arith))

-- ---- a column that holds a 0

abbrev pub Blank : List ℕ → ℕ → ℕ → Type 0
Blank t from to = (j : ℕ) → from ≤ j → j < to → get_or t j 0 ≡ 32

module _ (t : List ℕ) where
  pub none_before : (p : ℕ) → Blank t p p
  none_before p j l u = absurd (omega arith)

  -- spaces, and then a 0
  zero-ends : (k p : ℕ) → p + k < length t → Blank t p (p + k) → get_or t (p + k) 0 ≡ zero_digit → column_at p (suc k) t ≡ Some (pos 0)
  zero-ends zero p h b z =
      let e : p + 0 ≡ p = omega arith in
      rw (at_drop t p (omega arith), rw e at z)
  zero-ends (suc k) p h b z =
      let e : p + 1 + k ≡ p + suc k = omega arith in
      rw (at_drop t p (omega arith), b p (omega arith) (omega arith))
      (zero-ends k (p + 1) (omega arith) (λ j l u. b j (omega arith) (omega arith)) (rw e z))

  -- more spaces, from a place that is not past the last of them
  over : {p i : ℕ} (q n : ℕ) → Blank t p i → q ≤ i → ((d : ℕ) → d < n → get_or t (q + d) 0 ≡ 32) → Blank t p (q + n)
  over {p} {i} q n b h f j l u =
      ⊎_elim
      (λ s. let e : q + (j - q) ≡ j = omega (arith, leb→le i j s) in rw e at (f (j - q) (omega (arith, leb→le i j s))))
      (λ s. b j l (nleb→lt i j s))
      (either (leb i j))

  module _ {i u : ℕ} (w : Word t i u) where
    -- four bytes that are spaces
    spaces : u ≡ 538976288 → (d : ℕ) → d < 4 → get_or t (i + d) 0 ≡ 32
    spaces e zero h = rw (add-zero i) (omega arith)
    spaces e (suc zero) h = omega arith
    spaces e (suc (suc zero)) h = omega arith
    spaces e (suc (suc (suc zero))) h = omega arith
    spaces e (suc (suc (suc (suc d)))) h = absurd (omega arith)

    -- three spaces and a 0
    zero_word : u ≡ 807411744 → ((d : ℕ) → d < 3 → get_or t (i + d) 0 ≡ 32) × (get_or t (i + 3) 0 ≡ zero_digit)
    zero_word e =
        let d : get_or t (i + 3) 0 ≡ zero_digit = omega arith in
        let c : get_or t (i + 2) 0 ≡ 32 = omega arith in
        let b : get_or t (i + 1) 0 ≡ 32 = omega arith in
        let a : get_or t i 0 ≡ 32 = omega arith in
        (go a b c, d)
      where
        go : get_or t i 0 ≡ 32 → get_or t (i + 1) 0 ≡ 32 → get_or t (i + 2) 0 ≡ 32 → (d : ℕ) → d < 3 → get_or t (i + d) 0 ≡ 32
        go a b c zero h = rw (add-zero i) a
        go a b c (suc zero) h = b
        go a b c (suc (suc zero)) h = c
        go a b c (suc (suc (suc d))) h = absurd (omega arith)

    pub blank-more : {p : ℕ} → Blank t p i → u ≡ 538976288 → Blank t p (i + 4)
    blank-more b e = over i 4 b (omega arith) (spaces e)

    -- the last four bytes of a column, which may lie over spaces that are known
    pub zero-column : (p n : ℕ) {j : ℕ} → Blank t p j → i ≤ j → p + n ≡ i + 4 → 4 ≤ n → i + 4 ≤ length t → u ≡ 807411744 → column_at p n t ≡ Some (pos 0)
    zero-column p n b h e m l z =
        let (s, o) = zero_word z in
        let d : p + (n - 1) ≡ i + 3 = omega arith in
        let k : suc (n - 1) ≡ n = omega arith in
        rw k at (zero-ends (n - 1) p (omega arith) (rw d (over i 3 b h s)) (rw d o))

-- ---- the other bytes

module _ (t : List ℕ) (long : 19 ≤ length t) where
  kind-three : get_or t 0 0 ≡ 32 → get_or t 1 0 ≡ 51 → column_at 0 2 t ≡ Some (pos 3)
  kind-three a b = ap (λ (l : List ℕ). read_column (take 2 l)) (at_drop t 0 (omega arith) ∙ ap (λ (l : List ℕ). get_or t 0 0 ∷ l) (at_drop t 1 (omega arith)))
      ∙ rw (a, b)

  scope-column : get_or t 2 0 ≡ 32 → column_at 2 4 t ≡ read_column (32 ∷ get_or t 3 0 ∷ get_or t 4 0 ∷ get_or t 5 0 ∷ [])
  scope-column a = rw (at_drop t 2 (omega arith), at_drop t 3 (omega arith), at_drop t 4 (omega arith), at_drop t 5 (omega arith), a)

  module _ {g h : ℕ} (wb : Word t 6 g) (wc : Word t 10 h) (e : ℕ) (f : e + 1 ≡ length t) where
    pub raise-text : get_or t 0 0 ≡ 32 → get_or t 1 0 ≡ 51 → get_or t 2 0 ≡ 32 → g ≡ 807411744 → h ≡ 807411744 → column_at 14 (e - 14) t ≡ Some (pos 0)
        → get_or t e 0 ≡ 10 → RaiseText t
    raise-text k l m b c a n width x w s =
        let d : e ≡ feed_at width = omega arith in
        let v : e - 14 ≡ width = omega arith in
        rw (
          eq-eqb (length t) (line_length width) w,
          rw d at n,
          kind-three k l,
          scope-column m ∙ s,
          zero-column t wb 6 4 (none_before t 6) (omega arith) refl (omega arith) (omega arith) b,
          zero-column t wc 10 4 (none_before t 10) (omega arith) refl (omega arith) (omega arith) c,
          rw v at a,
        )

-- ---- the scope of a line that was read

pub scope-minus : (a : ℤ) → lt_z a (pos 0) ≡ true → None ≡ scope_from a
scope-minus (pos x) e = absurd (omega zs)
scope-minus (negsuc x) e = refl

pub scope-plus : (a : ℤ) → lt_z a (pos 0) ≡ false → Some (nat_abs a) ≡ scope_from a
scope-plus (pos x) e = refl
scope-plus (negsuc x) e = absurd (omega zs)

module _ {x : ℕ} where
  scope-is : (a : ℤ) → Some x ≡ scope_from a → a ≡ pos x
  scope-is (pos y) e = cc
  scope-is (negsuc y) e = cc

  raise-is : (l : Line) (b : Bool) → is_raise l ≡ b → Some x ≡ (if b then scope_from l.a else None) → l ≡ raise_line x
  raise-is l false d e = cc
  raise-is l true d e =
      let (((k, b), c), m) = simp and-iff at (true-is (is_raise l) d) in
      ap (λ (z : ℤ). record { kind = z; a = l.a; b = l.b; c = l.c; amount = l.amount }) ((T-eq l.kind (pos 3)).0 k)
      ∙ ap (λ (z : ℤ). record { kind = pos 3; a = z; b = l.b; c = l.c; amount = l.amount }) (scope-is l.a e)
      ∙ ap (λ (z : ℤ). record { kind = pos 3; a = pos x; b = z; c = l.c; amount = l.amount }) ((T-eq l.b (pos 0)).0 b)
      ∙ ap (λ (z : ℤ). record { kind = pos 3; a = pos x; b = pos 0; c = z; amount = l.amount }) ((T-eq l.c (pos 0)).0 c)
      ∙ ap (λ (z : ℤ). line 3 (pos x) (pos 0) (pos 0) z) ((T-eq l.amount (pos 0)).0 m)

  line-of-scope : (o : Option Line) → Some x ≡ raise_of (line_answer o) → o ≡ Some (raise_line x)
  line-of-scope None e = cc
  line-of-scope (Some l) e = ap Some (raise-is l (is_raise l) refl e)

module _ (w : ℕ) (t : List ℕ) where
  pub raised-none : Err NotInColumns ≡ read_line_at w t → None ≡ raised_at w t
  unfolding raised_at
  raised-none e = ap raise_of e

  pub raised-some : {x : ℕ} → width_out w ≡ false → read_line w t ≡ Some (raise_line x) → Some x ≡ raised_at w t
  unfolding raised_at read_line_at
  raised-some i e = rw (i, e)

  pub raised-read : {r : Option ℕ} {l : Result Line Refusal} → r ≡ raise_of l → l ≡ read_line_at w t → r ≡ raised_at w t
  unfolding raised_at
  raised-read d e = d ∙ ap raise_of e

  pub raised-line : {x : ℕ} → width_out w ≡ false → Some x ≡ raised_at w t → read_line w t ≡ Some (raise_line x)
  unfolding raised_at read_line_at
  raised-line i e = line-of-scope (read_line w t) (rw i at e)
