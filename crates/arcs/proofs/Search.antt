-- The search for partners, step by step. Assumes nothing.
use mathlib.Core.Path.{◌≡◌, refl, sym, ap, ◌∙◌}
use mathlib.Core.Bool.{Bool, true, false, not, ◌&&◌, ◌||◌}
use mathlib.Core.Logic.{◌⊎◌, inl, inr}
use mathlib.Core.List.{List}
use Prim.Native.Nat.{ℕ, ◌+◌, ◌<◌}
use native.Mathlib.Omega.{arith}
use borrow.Author.Tests.{lt-ltb, le-ltb, eqb-true}
use lib.Dec.{T, T_not, ltb, eqb, eqb→eq, ltb→lt, lt→ltb}
use Rattle.std.specs.Prelude.{if◌then◌else◌, Option, Some, None, is_none}
use Rattle.integers.specs.Words.{below, any, those, first, ◌⇒◌}
use Rattle.integers.specs.Tests.{either, is_true, is_false, true-is, and_intro, and_left, and_right, not-eqb-iff, same_test}
use Rattle.integers.specs.Lists.{any_of, those-same, first-least, first-none}
use Rattle.marks.specs.Marks.{mark, byte_of, lowest_of, without, in_both}
use Rattle.marks.proofs.Laws.{mark-byte_of, mark-zero, byte_of-cong, byte-is, byte_small, strike-less, lowest-small, lowest-marked, lowest-below}
use Rattle.arcs.specs.Partners.{is_partner, has_partner, lowest_in_both}

pub mark-without : (s v k : ℕ) → k < 8 → mark (without s v) k ≡ (mark s k && not (eqb k v))
mark-without s v k h = mark-byte_of (λ j. mark s j && not (eqb j v)) k h

-- ---- partners

-- striking a value that the other set has not leaves the partners as they were
and-skip : (a e o : Bool) → (e ≡ true → o ≡ false) → ((a && not e) && o) ≡ (a && o)
and-skip true true true f = sym (f refl)
and-skip true true false f = refl
and-skip true false o f = refl
and-skip false e o f = refl

module _ (row other l : ℕ) (no : mark other l ≡ false) where
  partner-other : (k : ℕ) → k < 8 → is_partner (without row l) other k ≡ is_partner row other k
  partner-other k h =
      ap (λ (b : Bool). b && mark other k) (mark-without row l k h)
      ∙ and-skip (mark row k) (eqb k l) (mark other k) (λ e. ap (mark other) (eqb-true k l e) ∙ no)

  pub lowest-less : lowest_in_both (without row l) other ≡ lowest_in_both row other
  unfolding lowest_in_both
  lowest-less = ap (λ (ls : List ℕ). first ls) (those-same 8 partner-other)

no-partner : (other k : ℕ) → is_partner 0 other k ≡ false
no-partner other k = ap (λ (b : Bool). b && mark other k) (mark-zero k)

pub lowest-none : (other : ℕ) → lowest_in_both 0 other ≡ None
unfolding lowest_in_both
lowest-none other = ap (λ (ls : List ℕ). first ls) (those-same {f = is_partner 0 other} {g = λ k. false} 8 (λ k h. no-partner other k))

-- the lowest value of the row is a partner
module _ (row other : ℕ) (h : row < 256) (filled : 0 < row) (yes : mark other (lowest_of row) ≡ true) where
  is-partner : T (is_partner row other (lowest_of row))
  is-partner = and_intro (mark row (lowest_of row)) (mark other (lowest_of row)) (lowest-marked row h filled) (true-is (mark other (lowest_of row)) yes)

  pub lowest-found : lowest_in_both row other ≡ Some (lowest_of row)
  unfolding lowest_in_both
  lowest-found = go (first (those (is_partner row other) (below 8))) refl
    where
      go : (o : Option ℕ) → first (those (is_partner row other) (below 8)) ≡ o → o ≡ Some (lowest_of row)
      go None e = absurd (T_not (any (is_partner row other) (below 8)) (first-none (is_partner row other) (below 8) e)
          (any_of (is_partner row other) 8 (lowest-small row h filled) is-partner))
      go (Some x) e = ap Some (same x (first-least (is_partner row other) 8 e))
        where
          same : (x : ℕ) → (x < 8) × T (is_partner row other x) × ((y : ℕ) → y < x → T (not (is_partner row other y))) → x ≡ lowest_of row
          same x p =
              let a : x < lowest_of row → ⊥ = λ l. T_not (mark row x) (lowest-below row h x p.0 l) (and_left (mark row x) (mark other x) p.1) in
              let b : lowest_of row < x → ⊥ = λ l. T_not (is_partner row other (lowest_of row)) (p.2 (lowest_of row) l) is-partner in
              omega arith

-- the lowest value of a set, struck
pub lowest-struck : (left l r : ℕ) → left < 256 → (left ≡ 0 → ⊥) → l ≡ lowest_of left → r ≡ without left l → (r < 256) × (r < left)
lowest-struck left l r h ne e q =
    let filled : 0 < left = omega arith in
    let is : r ≡ without left (lowest_of left) = q ∙ ap (without left) e in
    (rw is (byte_small _), rw is (strike-less left (lowest_of left) h (lowest-marked left h filled)))

pub lowest_step : (row other left l r : ℕ) (b : Bool) → lowest_in_both left other ≡ lowest_in_both row other → r ≡ without left l → b ≡ mark other l → b ≡ false
    → lowest_in_both r other ≡ lowest_in_both row other
lowest_step row other left l r b i q e f = rw q (lowest-less left other l (sym e ∙ f) ∙ i)

pub lowest-at : (left other l : ℕ) (b : Bool) → left < 256 → (left ≡ 0 → ⊥) → l ≡ lowest_of left → b ≡ mark other l → b ≡ true → Some l ≡ lowest_in_both left other
lowest-at left other l b h ne e q t =
    let filled : 0 < left = omega arith in
    ap Some e ∙ sym (lowest-found left other h filled (ap (mark other) (sym e) ∙ sym q ∙ t))

-- the marks in common have the same partners
module _ (row other both : ℕ) (is : both ≡ in_both row other) where
  mark-both : (k : ℕ) → k < 8 → mark both k ≡ is_partner row other k
  mark-both k h = ap (λ (s : ℕ). mark s k) is ∙ mark-byte_of (is_partner row other) k h

  both_small : both < 256
  both_small = rw is (byte_small _)

  partner-both : (k : ℕ) → k < 8 → is_partner both other k ≡ is_partner row other k
  partner-both k h = ap (λ (b : Bool). b && mark other k) (mark-both k h) ∙ and_same (mark row k) (mark other k)
    where
      and_same : (a b : Bool) → ((a && b) && b) ≡ (a && b)
      and_same true true = refl
      and_same true false = refl
      and_same false b = refl

  lowest-both : lowest_in_both both other ≡ lowest_in_both row other
  unfolding lowest_in_both
  lowest-both = ap (λ (ls : List ℕ). first ls) (those-same 8 partner-both)

  pub none-common : both ≡ 0 → None ≡ lowest_in_both row other
  none-common z = sym (sym lowest-both ∙ ap (λ (s : ℕ). lowest_in_both s other) z ∙ lowest-none other)

  pub least-common : (both ≡ 0 → ⊥) → (l : ℕ) → l ≡ lowest_of both → Some l ≡ lowest_in_both row other
  least-common ne l e =
      let filled : 0 < both = omega arith in
      let small : lowest_of both < 8 = lowest-small both both_small filled in
      let marked = rw (mark-both (lowest_of both) small) at (lowest-marked both both_small filled) in
      ap Some e ∙ sym (lowest-found both other both_small filled (is_true _ (and_right (mark row (lowest_of both)) (mark other (lowest_of both)) marked)))
      ∙ lowest-both

-- none is found where no value is a partner
pub nothing-found : (row other : ℕ) → is_none (lowest_in_both row other) ≡ not (has_partner row other)
unfolding lowest_in_both
nothing-found row other = go (first (those (is_partner row other) (below 8))) refl
  where
    go : (o : Option ℕ) → first (those (is_partner row other) (below 8)) ≡ o → is_none o ≡ not (any (is_partner row other) (below 8))
    go None e = sym (is_true (not (any (is_partner row other) (below 8))) (first-none (is_partner row other) (below 8) e))
    go (Some x) e =
        let p = first-least (is_partner row other) 8 e in
        sym (ap not (is_true (any (is_partner row other) (below 8)) (any_of (is_partner row other) 8 p.0 p.1)))

-- ---- the values of a set, looked at from the lowest on

-- those of a set that pass, of the values below k
abbrev pub kept_below : (ℕ → Bool) → ℕ → ℕ → ℕ
kept_below has set k = byte_of (λ v. mark set v && (ltb v k ⇒ has v))

pub less-next : (v k : ℕ) → (v ≡ k → ⊥) → ltb v (k + 1) ≡ ltb v k
less-next v k ne =
    same_test (ltb v (k + 1)) (ltb v k) (λ t. lt→ltb v k (let h = ltb→lt v (k + 1) t in omega arith))
    (λ t. lt→ltb v (k + 1) (let h = ltb→lt v k t in omega arith))

ltb_next : (v k : ℕ) → T (eqb v k) ⊎ T (not (eqb v k)) → ltb v (k + 1) ≡ (ltb v k || eqb v k)
ltb_next v k (inl t) = let e = eqb→eq v k t in simp (is_true (eqb v k) t, lt-ltb v (k + 1) (omega arith), le-ltb v k (omega arith))
ltb_next v k (inr t) = less-next v k ((not-eqb-iff v k).0 t) ∙ sym (ap (λ (b : Bool). ltb v k || b) (is_false (eqb v k) t) ∙ or-none (ltb v k))
  where
    or-none : (a : Bool) → (a || false) ≡ a
    or-none true = refl
    or-none false = refl

-- value k is kept, or struck
keep_one : (a l e h : Bool) → (e ≡ true → h ≡ true) → (a && (l ⇒ h)) ≡ (a && ((l || e) ⇒ h))
keep_one true true e h f = refl
keep_one true false true h f = sym (f refl)
keep_one true false false h f = refl
keep_one false l e h f = refl

strike-one : (a l e h : Bool) → (e ≡ true → h ≡ false) → ((a && (l ⇒ h)) && not e) ≡ (a && ((l || e) ⇒ h))
strike-one true true true true f = sym (f refl)
strike-one true true true false f = refl
strike-one true true false true f = refl
strike-one true true false false f = refl
strike-one true false true h f = sym (f refl)
strike-one true false false h f = refl
strike-one false l e h f = refl

module _ (has : ℕ → Bool) (set : ℕ) where
  pub kept-none : set < 256 → set ≡ kept_below has set 0
  kept-none h = byte-is set _ h (λ v g. sym (ap (λ (b : Bool). mark set v && (b ⇒ has v)) (le-ltb v 0 (omega arith)) ∙ and-all (mark set v)))
    where
      and-all : (a : Bool) → (a && true) ≡ a
      and-all true = refl
      and-all false = refl

  pub kept-one-more : (k kept : ℕ) → kept ≡ kept_below has set k → (lost : Bool) → lost ≡ not (has k)
      → (if lost then without kept k else kept) ≡ kept_below has set (k + 1)
  kept-one-more k kept e lost is = ap (λ (b : Bool). if b then without kept k else kept) is ∙ by (has k) refl
    where
      next : (v : ℕ) → (mark set v && ((ltb v k || eqb v k) ⇒ has v)) ≡ (mark set v && (ltb v (k + 1) ⇒ has v))
      next v = ap (λ (b : Bool). mark set v && (b ⇒ has v)) (sym (ltb_next v k (either (eqb v k))))

      by : (b : Bool) → has k ≡ b → (if not b then without kept k else kept) ≡ kept_below has set (k + 1)
      by true y = e ∙ byte_of-cong (λ v h. keep_one (mark set v) (ltb v k) (eqb v k) (has v) (λ q. ap has (eqb-true v k q) ∙ y) ∙ next v)
      by false n = byte_of-cong (λ v h.
          ap (λ (b : Bool). b && not (eqb v k)) (ap (λ (s : ℕ). mark s v) e ∙ mark-byte_of (λ v. mark set v && (ltb v k ⇒ has v)) v h)
          ∙ strike-one (mark set v) (ltb v k) (eqb v k) (has v) (λ q. ap has (eqb-true v k q) ∙ n) ∙ next v)

  pub kept-all : kept_below has set 8 ≡ byte_of (λ v. mark set v && has v)
  kept-all = byte_of-cong (λ v h. ap (λ (b : Bool). mark set v && (b ⇒ has v)) (lt-ltb v 8 h))
