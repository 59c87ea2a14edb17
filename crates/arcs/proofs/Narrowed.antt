-- Sets that were narrowed to the values that are tried and then to the largest family inside them: the values that are tried have the same
-- families. Assumes nothing.
use mathlib.Core.Path.{◌≡◌, refl, sym, ap, ap₂, subst, ◌∙◌}
use mathlib.Core.Bool.{Bool, true, false, not, ◌&&◌}
use mathlib.Core.Logic.{⊎_elim}
use mathlib.Core.List.{List}
use Prim.Native.Nat.{ℕ, ◌<◌}
use native.Mathlib.Omega.{arith}
use lib.Dec.{T, eqb, eqb→eq}
use lib.ListN.{length, get_or, set, length-set}
use lib.Seq.{get_or-set_same, get_or-set_other}
use Rattle.integers.specs.Words.{◌⇒◌}
use Rattle.integers.specs.Tests.{either, is_true, is_false, true-is, same_test, and_left, and_right, and_intro, imp_intro, imp_elim, not-eqb-iff}
use Rattle.integers.specs.Lists.{any-in, all_of, all_same}
use Rattle.definitions.specs.Consistency.{Family, marks}
use Rattle.networks.specs.Network.{Network, SupportedIn, supported_in, families_of}
use Rattle.networks.proofs.Networks.{Ends, Within, NoFamily, supported_in-iff, sets-inside-more, some-tried, none_tried}
use Rattle.marks.specs.Marks.{mark, only_of, in_both}
use Rattle.marks.proofs.Laws.{mark-byte_of, mark-zero}
use Rattle.arcs.specs.Closure.{network_of_bytes, sets_of, some_family}
use Rattle.arcs.specs.Sweeps.{Filled, SettledSets}
use Rattle.arcs.specs.Tried.{has_family, none_has}

-- sets G₂ inside G₁ that hold every family inside G₁
same-families : (N : Network) → Ends N → (G₁ G₂ : Family) → Within N G₂ G₁ → ((F : Family) → SupportedIn N G₁ F → Within N F G₂)
    → some_family N G₂ ≡ some_family N G₁
same-families N ends G₁ G₂ less more = same_test (some_family N G₂) (some_family N G₁)
    (λ t.
    let (F, m, s) = (any-in (λ F. supported_in N G₂ (marks F)) (families_of N)).0 t in
    let p = (supported_in-iff N G₂ (marks F)).0 s in
    true-is (some_family N G₁) (some-tried N G₁ ends (sets-inside-more (λ j v h g u. less j v h g (p.inside j v h g u)) p)))
    (λ t.
    let (F, m, s) = (any-in (λ F. supported_in N G₁ (marks F)) (families_of N)).0 t in
    let p = (supported_in-iff N G₁ (marks F)).0 s in
    true-is (some_family N G₂) (some-tried N G₂ ends (sets-inside-more (more (marks F) p) p)))

and-all : (b : Bool) → (b && true) ≡ b
and-all true = refl
and-all false = refl

same_after : (b x y : Bool) → (T b → x ≡ y) → (b ⇒ x) ≡ (b ⇒ y)
same_after true x y e = e tt
same_after false x y e = refl

-- the sets with only values of o for variable i
among : (S : List ℕ) (i o : ℕ) → i < length S → (j v : ℕ) → v < 8 → sets_of (set S i (in_both (get_or S i 0) o)) j v ≡ (sets_of S j v && (eqb j i ⇒ mark o v))
among S i o g j v l = ⊎_elim
    (λ t.
    let e : j ≡ i = eqb→eq j i t in
    ap (λ (x : ℕ). mark (get_or (set S i (in_both (get_or S i 0) o)) x 0) v) e ∙ ap (λ (s : ℕ). mark s v) (get_or-set_same S i (in_both (get_or S i 0) o) 0 g)
    ∙ mark-byte_of (λ x. mark (get_or S i 0) x && mark o x) v l
    ∙ ap₂ (λ (x : ℕ) (b : Bool). mark (get_or S x 0) v && (b ⇒ mark o v)) (sym e) (sym (is_true (eqb j i) t)))
    (λ t.
    ap (λ (s : ℕ). mark s v) (get_or-set_other S i j (in_both (get_or S i 0) o) 0 ((not-eqb-iff j i).0 t))
    ∙ sym (ap (λ (b : Bool). sets_of S j v && (b ⇒ mark o v)) (is_false (eqb j i) t) ∙ and-all (sets_of S j v)))
    (either (eqb j i))

-- the sets with only the values that are tried
abbrev pub near : List ℕ → ℕ → ℕ → List ℕ
near S i values = set S i (in_both (get_or S i 0) values)

module _ (lower upper rows raised S : List ℕ) (i : ℕ) (g : i < length S) (values : ℕ) where
  abbrev N : Network
  N = network_of_bytes (length S) lower upper rows raised

  abbrev alone : List ℕ → ℕ → List ℕ
  alone Z k = set Z i (in_both (get_or Z i 0) (only_of k))

  -- a family with a tried value alone lies in them
  alone-near : (k : ℕ) → T (mark values k) → (F : Family) → SupportedIn N (sets_of (alone S k)) F → SupportedIn N (sets_of (near S i values)) F
  alone-near k t F p = sets-inside-more (λ j v h l u.
      let s = subst T (among S i (only_of k) g j v l) (p.inside j v h l u) in
      subst T (sym (among S i values g j v l)) (and_intro (sets_of S j v) (eqb j i ⇒ mark values v) (and_left (sets_of S j v) (eqb j i ⇒ mark (only_of k) v) s)
      (imp_intro (eqb j i) (mark values v) (λ e.
      let q : T (eqb v k) = subst T (mark-byte_of (λ x. eqb x k) v l) (imp_elim (eqb j i) (mark (only_of k) v)
      (and_right (sets_of S j v) (eqb j i ⇒ mark (only_of k) v) s) e) in
      subst (λ (x : ℕ). T (mark values x)) (sym (eqb→eq v k q)) t)))) p

  pub near-empty : in_both (get_or S i 0) values ≡ 0 → NoFamily N (sets_of (near S i values))
  near-empty z F p =
      let (v, l, s) = p.non-empty i g in
      subst (λ (x : ℕ). T (mark x v) → ⊥) (sym (get_or-set_same S i (in_both (get_or S i 0) values) 0 g ∙ z)) (λ t. rw (mark-zero v) at t) (p.inside i v g l s)

  -- none is left: all are refuted
  pub near_none : NoFamily N (sets_of (near S i values)) → true ≡ none_has (has_family N S i) values
  unfolding none_has
  near_none none = sym (is_true _ (all_of (λ k. mark values k ⇒ not (has_family N S i k)) 8 (λ k h. imp_intro (mark values k) (not (has_family N S i k)) (λ t.
      true-is _ (ap not (none_tried N (sets_of (alone S k)) (λ F p. none F (alone-near k t F p))))))))

  module _ (S' : List ℕ) (len : length S' ≡ length S) (left : SettledSets N (sets_of (near S i values)) S' true) where
    pub near-filled : Filled S'
    near-filled j h z =
        let (v, l, t) = left.0.non-empty j (rw len at h) in
        subst (λ (x : ℕ). T (mark x v) → ⊥) (sym z) (λ t. rw (mark-zero v) at t) t

    same-family : Ends N → (k : ℕ) → T (mark values k) → has_family N S' i k ≡ has_family N S i k
    same-family ends k t = same-families N ends (sets_of (alone S k)) (sets_of (alone S' k))
        (λ j v h l u.
        let s = subst T (among S' i (only_of k) (omega (arith, len)) j v l) u in
        let w = subst T (among S i values g j v l) (left.0.inside j v h l (and_left (sets_of S' j v) (eqb j i ⇒ mark (only_of k) v) s)) in
        subst T (sym (among S i (only_of k) g j v l)) (and_intro (sets_of S j v) (eqb j i ⇒ mark (only_of k) v)
        (and_left (sets_of S j v) (eqb j i ⇒ mark values v) w) (and_right (sets_of S' j v) (eqb j i ⇒ mark (only_of k) v) s)))
        (λ F p j v h l u.
        let s = subst T (among S i (only_of k) g j v l) (p.inside j v h l u) in
        subst T (sym (among S' i (only_of k) (omega (arith, len)) j v l)) (and_intro (sets_of S' j v) (eqb j i ⇒ mark (only_of k) v)
        (left.1 F (alone-near k t F p) j v h l u) (and_right (sets_of S j v) (eqb j i ⇒ mark (only_of k) v) s)))

    pub near_same : Ends N → none_has (has_family (network_of_bytes (length S') lower upper rows raised) S' i) values ≡ none_has (has_family N S i) values
    unfolding none_has
    near_same ends =
        ap (λ (n : ℕ). none_has (has_family (network_of_bytes n lower upper rows raised) S' i) values) len
        ∙ all_same 8 (λ k l. same_after (mark values k) (not (has_family N S' i k)) (not (has_family N S i k)) (λ t. ap not (same-family ends k t)))

  -- what the sweeps leave of the sets as they are written
  pub near-settled : (o : ℕ) (work : List ℕ) → o ≡ in_both (get_or S i 0) values → work ≡ S → (S' : List ℕ) (r b : Bool) → r ≡ b
      → SettledSets (network_of_bytes (length (set work i o)) lower upper rows raised) (sets_of (set work i o)) S' r
      → SettledSets N (sets_of (near S i values)) S' b
  near-settled o work eo same S' r b q p =
      let e : set work i o ≡ near S i values = ap₂ (λ (l : List ℕ) (s : ℕ). set l i s) same eo in
      subst (SettledSets N (sets_of (near S i values)) S') q
      (subst (λ (n : ℕ). SettledSets (network_of_bytes n lower upper rows raised) (sets_of (near S i values)) S' r) (length-set S i (in_both (get_or S i 0) values))
      (subst (λ (l : List ℕ). SettledSets (network_of_bytes (length l) lower upper rows raised) (sets_of l) S' r) e p))
