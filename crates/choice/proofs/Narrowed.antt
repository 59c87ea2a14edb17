-- Sets that were narrowed to the largest family inside them have the same families once a value is fixed. Assumes nothing.
use mathlib.Core.Path.{◌≡◌, refl, sym, ap, ap₂, subst, ◌∙◌}
use mathlib.Core.Bool.{Bool, true, false, not, ◌&&◌, ◌||◌}
use mathlib.Core.Logic.{⊎_elim}
use mathlib.Core.List.{List, map}
use Prim.Native.Nat.{ℕ, ◌<◌}
use native.Mathlib.Omega.{arith}
use lib.Dec.{T, eqb, ltb, eqb→eq}
use lib.ListN.{length, get_or, set}
use lib.Seq.{get_or-set_same, get_or-set_other}
use Rattle.std.specs.Prelude.{if◌then◌else◌}
use Rattle.integers.specs.Words.{below, ◌⇒◌}
use Rattle.integers.specs.Tests.{either, if-cases, is_true, is_false, true-is, same_test, and_left, and_right, and_intro, not-eqb-iff}
use Rattle.integers.specs.Lists.{any-in, all_same}
use Rattle.integers.specs.Tables.{length-tab, get_d-tab}
use Rattle.definitions.specs.Rules.{variable_places}
use Rattle.definitions.specs.Consistency.{Family, marks}
use Rattle.networks.specs.Network.{Network, SupportedIn, supported_in, families_of, largest}
use Rattle.networks.proofs.Networks.{Ends, supported_in-iff, sets-inside-more, largest-in, in-largest, some-tried}
use Rattle.marks.specs.Marks.{mark, byte_of, only_of, in_both}
use Rattle.marks.proofs.Laws.{mark-byte_of}
use Rattle.arcs.specs.Closure.{network_of_bytes, sets_of, is_malformed, some_family, closure_sets}
use Rattle.arcs.proofs.Results.{well-formed}
use Rattle.arcs.specs.Tried.{has_family, none_has, tried_answer}
use Rattle.arcs.specs.declared.Tried.TheVariants.{Malformed, Unsupported, Supported}

-- families inside G and inside narrower sets H that hold all of the largest family
module _ (N : Network) (ends : Ends N) (G G₁ G₂ : Family)
    (within : (j v : ℕ) → j < N.variables → v < N.values → T (G₁ j v) → T (G j v))
    (less : (j v : ℕ) → j < N.variables → v < N.values → T (G₂ j v) → T (G₁ j v))
    (more : (j v : ℕ) → j < N.variables → v < N.values → T (G₁ j v) → T (largest N G j v) → T (G₂ j v)) where
  same-families : some_family N G₂ ≡ some_family N G₁
  same-families = same_test (some_family N G₂) (some_family N G₁)
      (λ t.
      let (F, m, s) = (any-in (λ F. supported_in N G₂ (marks F)) (families_of N)).0 t in
      let p = (supported_in-iff N G₂ (marks F)).0 s in
      true-is (some_family N G₁) (some-tried N G₁ ends (sets-inside-more (λ j v h g u. less j v h g (p.inside j v h g u)) p)))
      (λ t.
      let (F, m, s) = (any-in (λ F. supported_in N G₁ (marks F)) (families_of N)).0 t in
      let p = (supported_in-iff N G₁ (marks F)).0 s in
      let q : SupportedIn N G (marks F) = sets-inside-more (λ j v h g u. within j v h g (p.inside j v h g u)) p in
      true-is (some_family N G₂) (some-tried N G₂ ends (sets-inside-more (λ j v h g u. more j v h g (p.inside j v h g u) (in-largest N G ends q j v h g u)) p)))

and-all : (b : Bool) → (b && true) ≡ b
and-all true = refl
and-all false = refl

-- the sets with value k alone for variable i
fixed-is : (S : List ℕ) (i k : ℕ) → i < length S → (j v : ℕ) → v < 8 → sets_of (set S i (in_both (get_or S i 0) (only_of k))) j v
    ≡ (sets_of S j v && (eqb j i ⇒ eqb v k))
fixed-is S i k g j v l = ⊎_elim
    (λ t.
    let e : j ≡ i = eqb→eq j i t in
    ap (λ (x : ℕ). mark (get_or (set S i (in_both (get_or S i 0) (only_of k))) x 0) v) e
    ∙ ap (λ (s : ℕ). mark s v) (get_or-set_same S i (in_both (get_or S i 0) (only_of k)) 0 g)
    ∙ mark-byte_of (λ x. mark (get_or S i 0) x && mark (only_of k) x) v l ∙ ap (λ (b : Bool). mark (get_or S i 0) v && b) (mark-byte_of (λ x. eqb x k) v l)
    ∙ ap₂ (λ (x : ℕ) (b : Bool). mark (get_or S x 0) v && (b ⇒ eqb v k)) (sym e) (sym (is_true (eqb j i) t)))
    (λ t.
    ap (λ (s : ℕ). mark s v) (get_or-set_other S i j (in_both (get_or S i 0) (only_of k)) 0 ((not-eqb-iff j i).0 t))
    ∙ sym (ap (λ (b : Bool). sets_of S j v && (b ⇒ eqb v k)) (is_false (eqb j i) t) ∙ and-all (sets_of S j v)))
    (either (eqb j i))

module _ (lower upper rows edges S : List ℕ) (i : ℕ) (g : i < length S) (ends : Ends (network_of_bytes (length S) lower upper rows edges)) where
  abbrev N : Network
  N = network_of_bytes (length S) lower upper rows edges

  narrow : List ℕ
  narrow = map (λ j. byte_of (largest N (sets_of S) j)) (below (length S))

  narrow-length : length narrow ≡ length S
  unfolding narrow
  narrow-length = length-tab (λ j. byte_of (largest N (sets_of S) j)) 0 (length S)

  narrow_at : (j v : ℕ) → j < length S → v < 8 → sets_of narrow j v ≡ largest N (sets_of S) j v
  unfolding narrow
  narrow_at j v h l = ap (λ (s : ℕ). mark s v) (get_d-tab (λ j. byte_of (largest N (sets_of S) j)) (length S) j 0 h) ∙ mark-byte_of (largest N (sets_of S) j) v l

  same-family : (k : ℕ) → has_family N narrow i k ≡ has_family N S i k
  same-family k =
      same-families N ends (sets_of S) (sets_of (set S i (in_both (get_or S i 0) (only_of k)))) (sets_of (set narrow i (in_both (get_or narrow i 0) (only_of k))))
      (λ j v h l t. and_left (sets_of S j v) (eqb j i ⇒ eqb v k) (subst T (fixed-is S i k g j v l) t))
      (λ j v h l t.
      let s = subst T (fixed-is narrow i k (omega (arith, narrow-length)) j v l) t in
      let (F, p, u) = largest-in N (sets_of S) j v (subst T (narrow_at j v h l) (and_left (sets_of narrow j v) (eqb j i ⇒ eqb v k) s)) in
      subst T (sym (fixed-is S i k g j v l)) (and_intro (sets_of S j v) (eqb j i ⇒ eqb v k) (p.inside j v h l u)
      (and_right (sets_of narrow j v) (eqb j i ⇒ eqb v k) s)))
      (λ j v h l t u.
      let s = subst T (fixed-is S i k g j v l) t in
      subst T (sym (fixed-is narrow i k (omega (arith, narrow-length)) j v l))
      (and_intro (sets_of narrow j v) (eqb j i ⇒ eqb v k) (subst T (sym (narrow_at j v h l)) u) (and_right (sets_of S j v) (eqb j i ⇒ eqb v k) s)))

  tried_same : (values : ℕ) → tried_answer lower upper rows edges narrow i values ≡ tried_answer lower upper rows edges S i values
  unfolding tried_answer none_has
  tried_same values =
      ap (λ (n : ℕ). if is_malformed n lower upper rows edges || not (ltb i n) || ltb variable_places n then Malformed else if none_has
      (has_family (network_of_bytes n lower upper rows edges) narrow i) values then Unsupported else Supported) narrow-length
      ∙ ap (λ (b : Bool). if is_malformed (length S) lower upper rows edges || not (ltb i (length S)) || ltb variable_places (length S)
      then Malformed else if b then Unsupported else Supported)
      (all_same 8 (λ k l. ap (λ (b : Bool). mark values k ⇒ not b) (same-family k)))

-- the same answer over the sets that `closure` leaves
pub tried-narrowed : (lower upper rows edges S : List ℕ) (i values : ℕ) → i < length S
    → tried_answer lower upper rows edges (closure_sets lower upper rows edges S) i values ≡ tried_answer lower upper rows edges S i values
unfolding closure_sets narrow
tried-narrowed lower upper rows edges S i values g = by (is_malformed (length S) lower upper rows edges) refl
  where
    by : (b : Bool) → is_malformed (length S) lower upper rows edges ≡ b
        → tried_answer lower upper rows edges (if b then S else map (λ j. byte_of (largest (network_of_bytes (length S) lower upper rows edges) (sets_of S) j))
        (below (length S))) i values
        ≡ tried_answer lower upper rows edges S i values
    by true e = refl
    by false e = tried_same lower upper rows edges S i g (well-formed lower upper rows edges S e).ends values

pub narrowed-length : (lower upper rows edges S : List ℕ) → length (closure_sets lower upper rows edges S) ≡ length S
unfolding closure_sets
narrowed-length lower upper rows edges S =
    if-cases (λ l. length l ≡ length S) (is_malformed (length S) lower upper rows edges) S
    (map (λ j. byte_of (largest (network_of_bytes (length S) lower upper rows edges) (sets_of S) j)) (below (length S)))
    (λ t. refl) (λ t. length-tab (λ j. byte_of (largest (network_of_bytes (length S) lower upper rows edges) (sets_of S) j)) 0 (length S))
