-- The key theorems: over the bytes of a table with one value fixed, no family is supported exactly where the value is refuted, and what the
-- closure leaves is the largest family. Assumes nothing.
use mathlib.Core.Path.{◌≡◌, refl, sym, ap, ap₂, ◌∙◌}
use mathlib.Core.Bool.{Bool, true, false, not, ◌&&◌, ◌||◌}
use mathlib.Core.Logic.{◌↔◌, ⊎_elim}
use mathlib.Core.List.{List, map}
use Prim.Native.Nat.{ℕ, ◌+◌, ◌*◌, ◌-◌, ◌≤◌, ◌<◌}
use native.Mathlib.Omega.{arith}
use borrow.Author.Tests.{lt-ltb, le-ltb}
use lib.IntN.{ℤ}
use lib.Dec.{T, T_not, not_T, ltb, ltb→lt, lt→ltb, eqb}
use lib.ListN.{length, get_or}
use Rattle.std.specs.Prelude.{if◌then◌else◌}
use Rattle.integers.specs.Words.{below, ◌⇒◌}
use Rattle.integers.specs.Tests.{tests, and_intro, and_left, and_right, either, same_test}
use Rattle.integers.specs.Lists.{map_same}
use Rattle.definitions.specs.declared.Case.{Case}
use Rattle.definitions.specs.Rules.{rules_of}
use Rattle.definitions.specs.Case.{active}
use Rattle.definitions.specs.Valid.{working_weight}
use Rattle.definitions.specs.Consistency.{allowed, refuted}
use Rattle.definitions.specs.Families.{largest_family, family_bytes}
use Rattle.networks.specs.Network.{Network, largest, network_of, fixed_sets}
use Rattle.theory.proofs.Words.{none_below}
use Rattle.theory.proofs.Shape.{Shape, lower-below}
use Rattle.theory.proofs.Validity.{Handed}
use Rattle.networks.proofs.Networks.{NoFamily, Alike, to-fewer, to-more, case-ends, refuted-none, none_tried, some-tried, largest-in, in-largest}
use Rattle.networks.proofs.Families.{family-is-largest}
use Rattle.tables.proofs.Answered.{limits-known}
use Rattle.marks.specs.Marks.{mark, byte_of, full_of, only_of, in_both}
use Rattle.marks.proofs.Laws.{mark-byte_of, byte_of-cong, bits-byte}
use Rattle.arcs.specs.Closure.{network_of_bytes, sets_of, is_malformed, some_family, closure_answer, closure_sets}
use Rattle.arcs.specs.Active.{active_set, above_where, below_where, active_row}
use Rattle.arcs.specs.Fixed.{allowed_set, fixed_set}
use Rattle.arcs.specs.declared.Closed.TheVariants.{Empty, Family as SomeFamily}
use Rattle.arcs.proofs.Results.{well-formed, closed-sets, answer-is}

-- ---- tests

pub not-not : (a : Bool) → not (not a) ≡ a
not-not true = refl
not-not false = refl

and-all : (a : Bool) → (a && true) ≡ a
and-all true = refl
and-all false = refl

-- an edge that is not raised allows everything
edge_test : (z raised a b : Bool) → z ≡ not raised → (T raised → a ≡ b) → (z || a) ≡ not (raised && not b)
edge_test z true a b e same = ap (λ (x : Bool). x || a) e ∙ same tt ∙ sym (not-not b)
edge_test z false a b e same = ap (λ (x : Bool). x || a) e

-- ---- sets

module _ (c : Case) (w : List ℤ) (few : c.d ≤ 8) where
  -- the values of variable j that are allowed, by whether its scope is raised
  module _ (j v : ℕ) (g : v < 8) where
    allowed_at : v < c.d → (b : Bool) → mark (if b then active_set c w j else full_of c.d) v ≡ not (b && not (active c w j v 0))
    allowed_at l true = mark-byte_of (λ v. ltb v c.d && active c w j v 0) v g ∙ simp (lt-ltb v c.d l, not-not)
    allowed_at l false = mark-byte_of (λ v. ltb v c.d) v g ∙ lt-ltb v c.d l

    allowed-in : (b : Bool) → T (mark (if b then active_set c w j else full_of c.d) v) → v < c.d
    allowed-in true t = ltb→lt v c.d (and_left (ltb v c.d) (active c w j v 0) (rw (mark-byte_of (λ v. ltb v c.d && active c w j v 0) v g) at t))
    allowed-in false t = ltb→lt v c.d (rw (mark-byte_of (λ v. ltb v c.d) v g) at t)

  module _ (R : ℕ → Bool) (i k : ℕ) (j v : ℕ) (g : v < 8) where
    fixed-by : v < c.d → (b : Bool) → mark (if b then in_both (allowed_set c w R j) (only_of k) else allowed_set c w R j)
        v ≡ (allowed c w R j v 0 && (b ⇒ eqb v k))
    fixed-by l true =
        mark-byte_of (λ x. mark (allowed_set c w R j) x && mark (only_of k) x) v g
        ∙ ap₂ (λ (a b : Bool). a && b) (allowed_at j v g l (R j)) (mark-byte_of (λ x. eqb x k) v g)
    fixed-by l false = allowed_at j v g l (R j) ∙ sym (and-all (allowed c w R j v 0))

    fixed-in-by : (b : Bool) → T (mark (if b then in_both (allowed_set c w R j) (only_of k) else allowed_set c w R j) v) → v < c.d
    fixed-in-by true t =
        allowed-in j v g (R j)
        (and_left (mark (allowed_set c w R j) v) (mark (only_of k) v) (rw (mark-byte_of (λ x. mark (allowed_set c w R j) x && mark (only_of k) x) v g) at t))
    fixed-in-by false t = allowed-in j v g (R j) t

  -- ---- rows
  module _ (e : ℕ) (x y : ℕ) (p : x < c.d) (q : y < c.d) where
    pub above-mark : mark (active_row c w e x) y ≡ active c w (c.n + e) x y
    above-mark =
        let small : x < 8 = omega arith in
        ap (λ (s : ℕ). mark s y) (ap (λ (b : Bool). if b then above_where c (active c w) e x else below_where c (active c w) e (x - 8)) (lt-ltb x 8 small))
        ∙ mark-byte_of (λ l. ltb l c.d && (ltb x c.d && active c w (c.n + e) x l)) y (omega arith)
        ∙ simp (lt-ltb x c.d p, lt-ltb y c.d q)

    pub below-mark : mark (active_row c w e (8 + y)) x ≡ active c w (c.n + e) x y
    below-mark =
        let s : (8 + y) - 8 ≡ y = omega arith in
        let large : 8 ≤ 8 + y = omega arith in
        ap (λ (s : ℕ). mark s x)
        (ap (λ (b : Bool). if b then above_where c (active c w) e (8 + y) else below_where c (active c w) e ((8 + y) - 8)) (le-ltb (8 + y) 8 large)
        ∙ ap (below_where c (active c w) e) s)
        ∙ mark-byte_of (λ k. ltb k c.d && (ltb y c.d && active c w (c.n + e) k y)) x (omega arith)
        ∙ simp (lt-ltb x c.d p, lt-ltb y c.d q)

-- ---- the network of a case is that of the bytes

-- the rows of the raised edges and which edges are raised
pub record Edges (c : Case) (w : List ℤ) (R : ℕ → Bool) (rows edges : List ℕ) : Type 0 where
  pub count : length edges ≡ c.m
  pub raised : (e : ℕ) → e < c.m → eqb (get_or edges e 0) 0 ≡ not (R (c.n + e))
  pub partners : (e p : ℕ) → e < c.m → p < 16 → T (R (c.n + e)) → get_or rows (16 * e + p) 0 ≡ active_row c w e p

-- the bytes are as the closure takes them
pub bytes-well : (c : Case) → Shape c → (rows edges S : List ℕ) → length S ≡ c.n → length edges ≡ c.m → c.m ≤ length c.lower
    → c.m ≤ length c.upper → 16 * c.m ≤ length rows → is_malformed (length S) c.lower c.upper rows edges ≡ false
bytes-well c shape rows edges S len count lowers uppers room =
    simp (tests, none_below) (
      ((omega arith, omega arith), omega arith),
      λ e l.
          let u : e < c.m = omega arith in
          (omega (arith, lower-below shape e u), omega (arith, shape.below-n e u)),
    )

module _ (c : Case) (w : List ℤ) (h : Handed (rules_of c) (working_weight (rules_of c)) c w) (R : ℕ → Bool) (i k : ℕ) (rows edges S : List ℕ)
    (known : Edges c w R rows edges)
    (sets-length : length S ≡ c.n) (sets-are : (j : ℕ) → j < c.n → get_or S j 0 ≡ fixed_set c w R i k j) where
  abbrev N : Network
  N = network_of c w R

  abbrev M : Network
  M = network_of_bytes (length S) c.lower c.upper rows edges

  few-values : c.d ≤ 8
  few-values = (limits-known h).values-few

  alike : Alike N M
  alike = record {
    variables = sym sets-length;
    edges = sym known.count;
    lower = λ e g. refl;
    upper = λ e g. refl;
    above = λ e v u g p q r s.
        sym (edge_test (eqb (get_or edges e 0) 0) (R (c.n + e)) _ _ (known.raised e g)
        (λ t. ap (λ (b : ℕ). mark b u) (known.partners e v g (omega (arith, few-values)) t) ∙ above-mark c w few-values e v u p q));
    below = λ e v u g p q r s.
        let z : 16 * e + 8 + u ≡ 16 * e + (8 + u) = omega arith in
        sym (edge_test (eqb (get_or edges e 0) 0) (R (c.n + e)) _ _ (known.raised e g)
        (λ t. ap (λ (b : ℕ). mark b v) (ap (λ (y : ℕ). get_or rows y 0) z ∙ known.partners e (8 + u) g (omega (arith, few-values)) t)
        ∙ below-mark c w few-values e v u p q));
  }

  same-sets : (j v : ℕ) → j < c.n → v < c.d → fixed_sets c w R i k j v ≡ sets_of S j v
  same-sets j v g l = sym (ap (λ (s : ℕ). mark s v) (sets-are j g) ∙ fixed-by c w few-values R i k j v (omega (arith, few-values)) l (eqb j i))

  only-values : (j v : ℕ) → j < c.n → v < 8 → T (sets_of S j v) → v < c.d
  only-values j v g l t = fixed-in-by c w few-values R i k j v l (eqb j i) (rw (sets-are j g) at t)

  pub refuted-bytes : i < c.n → T (refuted c w R i k) ↔ NoFamily M (sets_of S)
  refuted-bytes g =
      let (to, back) = refuted-none c w R i k g h.shape in
      let ends = case-ends c w R h.shape in (
        λ t F p. to t F (to-fewer ends alike same-sets few-values only-values p),
        λ none. back (λ F p. none (λ j v. F j v && ltb v c.d) (to-more ends alike same-sets few-values only-values p)),
      )

  -- whether a family is left on these bytes says whether the value is refuted
  module _ (g : i < c.n) (good : is_malformed (length S) c.lower c.upper rows edges ≡ false) where
    pub some-family : some_family M (sets_of S) ≡ not (refuted c w R i k)
    some-family =
        same_test (some_family M (sets_of S)) (not (refuted c w R i k))
        (λ t. not_T (refuted c w R i k) (λ r. rw (none_tried M (sets_of S) ((refuted-bytes g).0 r)) at t))
        (λ t.
        ⊎_elim (λ s. s)
        (λ n. absurd (T_not (refuted c w R i k) t ((refuted-bytes g).1 (λ F p. rw
        (some-tried M (sets_of S) (well-formed c.lower c.upper rows edges S good).ends p) at n))))
        (either (some_family M (sets_of S))))

    -- what the closure leaves on these bytes is the largest family
    family-left : (j v : ℕ) → j < c.n → v < 8 → largest M (sets_of S) j v ≡ (ltb v c.d && largest_family c w R i k j v)
    family-left j v u l =
        let ends = case-ends c w R h.shape in
        let u' : j < length S = rw sets-length u in
        same_test (largest M (sets_of S) j v) (ltb v c.d && largest_family c w R i k j v)
        (λ t.
        let (F, p, s) = largest-in M (sets_of S) j v t in
        let o = only-values j v u l (p.inside j v u' l s) in
        and_intro (ltb v c.d) (largest_family c w R i k j v) (lt→ltb v c.d o)
        (rw (family-is-largest c w R i k g j v)
        (in-largest N (fixed_sets c w R i k) ends (to-fewer ends alike same-sets few-values only-values p) j v u o s)))
        (λ t.
        let o = ltb→lt v c.d (and_left (ltb v c.d) (largest_family c w R i k j v) t) in
        let (F, p, s) = largest-in N (fixed_sets c w R i k) j v
        (rw (family-is-largest c w R i k g j v) at (and_right (ltb v c.d) (largest_family c w R i k j v) t)) in
        in-largest M (sets_of S) (well-formed c.lower c.upper rows edges S good).ends (to-more ends alike same-sets few-values only-values p) j v u' l
        (and_intro (F j v) (ltb v c.d) s (lt→ltb v c.d o)))

    pub closure-left : closure_sets c.lower c.upper rows edges S ≡ family_bytes c (largest_family c w R i k)
    closure-left =
        closed-sets c.lower c.upper rows edges S good
        ∙ ap (λ (n : ℕ). map (λ j. byte_of (largest M (sets_of S) j)) (below n)) sets-length
        ∙ map_same c.n (λ j u. byte_of-cong (λ v l. family-left j v u l) ∙ sym (bits-byte c.d (largest_family c w R i k j) few-values))

    pub closure-answer : closure_answer c.lower c.upper rows edges S ≡ (if refuted c w R i k then Empty else SomeFamily)
    closure-answer =
        answer-is c.lower c.upper rows edges S good
        ∙ ap (λ (b : Bool). if b then SomeFamily else Empty) some-family ∙ turned (refuted c w R i k)
      where
        turned : (b : Bool) → (if not b then SomeFamily else Empty) ≡ (if b then Empty else SomeFamily)
        turned true = refl
        turned false = refl
