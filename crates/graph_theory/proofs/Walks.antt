-- Walks: what one edge more connects, that the labels decide what is connected, and that the edges form no cycle exactly where none joins what
-- the edges before it connect. Assumes nothing.
use mathlib.Core.Path.{◌≡◌, refl, sym, ap, subst, ◌∙◌}
use mathlib.Core.Bool.{Bool, not}
use mathlib.Core.Logic.{◌≢◌, ◌↔◌, ◌⊎◌, inl, inr, ⊎_elim}
use mathlib.Core.List.{List, [], ◌∷◌}
use Prim.Native.Nat.{ℕ, zero, suc, ◌<◌}
use native.Mathlib.Omega.{arith}
use lib.Dec.{T, T_not, not_T, eqb, eqb→eq}
use lib.ListN.{length, get_or, length-map}
use Rattle.integers.specs.Words.{below, is_in, those}
use Rattle.integers.specs.Tests.{either, if-true, if-false, if-cases, eqb-iff, not-eqb-iff, or_left, or_right, or_cases}
use Rattle.integers.specs.Lists.{all-below, is_in-below, is_in-but-one, length_from}
use Rattle.integers.specs.Tables.{get_d_map, get_d-from}
use Rattle.definitions.specs.declared.Case.{Case}
use Rattle.definitions.specs.Case.{lower_end, upper_end}
use Rattle.definitions.specs.Graph.{Connected, other_edges, Acyclic, renamed, relabelled, labelled, connected, is_acyclic}
use Rattle.theory.proofs.Shape.{Shape, lower-below}

module _ (c : Case) where
  module _ {es fs : List ℕ} (more : (e : ℕ) → T (is_in es e) → T (is_in fs e)) where
    -- by more edges
    pub walk_more : {i j : ℕ} → Connected c es i j → Connected c fs i j
    walk_more Connected.here = Connected.here
    walk_more (Connected.up e t w) = Connected.up e (more e t) (walk_more w)
    walk_more (Connected.down e t w) = Connected.down e (more e t) (walk_more w)

  module _ {es : List ℕ} where
    pub walk-on : {i j k : ℕ} → Connected c es i j → Connected c es j k → Connected c es i k
    walk-on Connected.here v = v
    walk-on (Connected.up e t w) v = Connected.up e t (walk-on w v)
    walk-on (Connected.down e t w) v = Connected.down e t (walk-on w v)

    pub walk-back : {i j : ℕ} → Connected c es i j → Connected c es j i
    walk-back Connected.here = Connected.here
    walk-back (Connected.up e t w) = walk-on (walk-back w) (Connected.down e t Connected.here)
    walk-back (Connected.down e t w) = walk-on (walk-back w) (Connected.up e t Connected.here)

  -- ---- one edge more

  head_in : (e : ℕ) (es : List ℕ) → T (is_in (e ∷ es) e)
  head_in e es = or_left (eqb e e) (is_in es e) ((eqb-iff e e).1 refl)

  tail-in : (e : ℕ) (es : List ℕ) (f : ℕ) → T (is_in es f) → T (is_in (e ∷ es) f)
  tail-in e es f t = or_right (eqb e f) (is_in es f) t

  module _ (e : ℕ) (es : List ℕ) where
    -- connected by the rest, or through edge e, one way or the other
    data Through (i j : ℕ) : Type 0 where
      around : Connected c es i j → Through i j
      upwards : Connected c es i (lower_end c e) → Connected c es (upper_end c e) j → Through i j
      downwards : Connected c es i (upper_end c e) → Connected c es (lower_end c e) j → Through i j

    -- a walk before it
    after : {i k j : ℕ} → Connected c es i k → Through k j → Through i j
    after v (Through.around w) = Through.around (walk-on v w)
    after v (Through.upwards w u) = Through.upwards (walk-on v w) u
    after v (Through.downwards w u) = Through.downwards (walk-on v w) u

    up_first : {j : ℕ} → Through (upper_end c e) j → Through (lower_end c e) j
    up_first (Through.around w) = Through.upwards Connected.here w
    up_first (Through.upwards w u) = Through.upwards Connected.here u
    up_first (Through.downwards w u) = Through.around u

    down-first : {j : ℕ} → Through (lower_end c e) j → Through (upper_end c e) j
    down-first (Through.around w) = Through.downwards Connected.here w
    down-first (Through.upwards w u) = Through.around u
    down-first (Through.downwards w u) = Through.downwards Connected.here u

    walk_through : {i j : ℕ} → Connected c (e ∷ es) i j → Through i j
    walk_through Connected.here = Through.around Connected.here
    walk_through {j = j} (Connected.up f t w) = ⊎_elim
        (λ s. subst (λ (f : ℕ). Through (upper_end c f) j → Through (lower_end c f) j) (eqb→eq e f s) up_first (walk_through w))
        (λ s. after (Connected.up f s Connected.here) (walk_through w))
        (or_cases (eqb e f) (is_in es f) t)
    walk_through {j = j} (Connected.down f t w) = ⊎_elim
        (λ s. subst (λ (f : ℕ). Through (lower_end c f) j → Through (upper_end c f) j) (eqb→eq e f s) down-first (walk_through w))
        (λ s. after (Connected.down f s Connected.here) (walk_through w))
        (or_cases (eqb e f) (is_in es f) t)

    through-walk : {i j : ℕ} → Through i j → Connected c (e ∷ es) i j
    through-walk (Through.around w) = walk_more (tail-in e es) w
    through-walk (Through.upwards w u) = walk-on (walk_more (tail-in e es) w) (Connected.up e (head_in e es) (walk_more (tail-in e es) u))
    through-walk (Through.downwards w u) = walk-on (walk_more (tail-in e es) w) (Connected.down e (head_in e es) (walk_more (tail-in e es) u))

  -- ---- labels

  abbrev pub label : List ℕ → ℕ → ℕ
  label labels i = get_or labels i 0

  -- two variables have the same label exactly if they are connected by these edges
  pub record Decides (es : List ℕ) (labels : List ℕ) : Type 0 where
    pub long : length labels ≡ c.n
    pub same : (i j : ℕ) → i < c.n → j < c.n → label labels i ≡ label labels j ↔ Connected c es i j

  no_edge : {i j : ℕ} → Connected c [] i j → i ≡ j
  no_edge Connected.here = refl
  no_edge (Connected.up e m w) = elim m [ ]
  no_edge (Connected.down e m w) = elim m [ ]

  pub first-labels : Decides [] (below c.n)
  first-labels = record {
    long = length_from 0 c.n;
    same = λ i j h g. (
      λ e.
          let same : i ≡ j = omega (arith, get_d-from 0 c.n i 0 h, get_d-from 0 c.n j 0 g) in
          subst (λ (j : ℕ). Connected c [] i j) same Connected.here,
      λ w. ap (label (below c.n)) (no_edge w),
    );
  }

  -- labels a and b after an edge whose lower end has the label p and whose upper end q

  renamed-apart : {p q a b : ℕ} → renamed q p a ≡ renamed q p b → (a ≡ b) ⊎ (((a ≡ p) × (q ≡ b)) ⊎ ((a ≡ q) × (p ≡ b)))
  renamed-apart {p} {q} {a} {b} e = ⊎_elim
      (λ s. ⊎_elim
      (λ t. inl (eqb→eq a q s ∙ sym (eqb→eq b q t)))
      (λ t. inr (inr (eqb→eq a q s, sym (if-true p a (eqb a q) s) ∙ e ∙ if-false p b (eqb b q) t)))
      (either (eqb b q)))
      (λ s. ⊎_elim
      (λ t. inr (inl (sym (if-false p a (eqb a q) s) ∙ e ∙ if-true p b (eqb b q) t, sym (eqb→eq b q t))))
      (λ t. inl (sym (if-false p a (eqb a q) s) ∙ e ∙ if-false p b (eqb b q) t))
      (either (eqb b q)))
      (either (eqb a q))

  renamed-lower : (p q : ℕ) → renamed q p p ≡ renamed q p q
  renamed-lower p q =
      let s = sym (if-true p q (eqb q q) ((eqb-iff q q).1 refl)) in
      if-cases (λ x. x ≡ renamed q p q) (eqb p q) p p (λ t. s) (λ t. s)

  module _ {es labels : List ℕ} (decides : Decides es labels) (e : ℕ) (low : lower_end c e < c.n) (high : upper_end c e < c.n) where
    label_after : (i : ℕ) → i < c.n → label (relabelled c e labels) i ≡ renamed (label labels (upper_end c e)) (label labels (lower_end c e)) (label labels i)
    label_after i h =
        let l = decides.long in
        get_d_map (renamed (label labels (upper_end c e)) (label labels (lower_end c e))) labels i 0 0 (omega arith)

    relabel-decides : Decides (e ∷ es) (relabelled c e labels)
    relabel-decides = record {
      long = rw length-map decides.long;
      same = λ i j h g. (
        λ q. through-walk e es (to i j h g (renamed-apart (sym (label_after i h) ∙ q ∙ label_after j g))),
        λ w. label_after i h ∙ back i j h g (walk_through e es w) ∙ sym (label_after j g),
      );
    }
      where
        p : ℕ
        p = label labels (lower_end c e)

        q : ℕ
        q = label labels (upper_end c e)

        to : (i j : ℕ) → i < c.n → j < c.n
            → (label labels i ≡ label labels j) ⊎ (((label labels i ≡ p) × (q ≡ label labels j)) ⊎ ((label labels i ≡ q) × (p ≡ label labels j))) → Through e es i j
        to i j h g (inl s) = Through.around ((decides.same i j h g).0 s)
        to i j h g (inr (inl (s, t))) = Through.upwards ((decides.same i (lower_end c e) h low).0 s) ((decides.same (upper_end c e) j high g).0 t)
        to i j h g (inr (inr (s, t))) = Through.downwards ((decides.same i (upper_end c e) h high).0 s) ((decides.same (lower_end c e) j low g).0 t)

        back : (i j : ℕ) → i < c.n → j < c.n → Through e es i j → renamed q p (label labels i) ≡ renamed q p (label labels j)
        back i j h g (Through.around w) = ap (renamed q p) ((decides.same i j h g).1 w)
        back i j h g (Through.upwards w u) =
            ap (renamed q p) ((decides.same i (lower_end c e) h low).1 w) ∙ renamed-lower p q ∙ ap (renamed q p) ((decides.same (upper_end c e) j high g).1 u)
        back i j h g (Through.downwards w u) =
            ap (renamed q p) ((decides.same i (upper_end c e) h high).1 w) ∙ sym (renamed-lower p q) ∙ ap (renamed q p) ((decides.same (lower_end c e) j low g).1 u)

  -- ---- the tests decide

  -- the edges below k but e
  abbrev but_one : ℕ → ℕ → List ℕ
  but_one k e = those (λ f. not (eqb f e)) (below k)

  module _ (shape : Shape c) where
    labels-decide : (es : List ℕ) → ((e : ℕ) → T (is_in es e) → e < c.m) → Decides es (labelled c es)
    labels-decide [] h = first-labels
    labels-decide (e ∷ es) h =
        let l = h e (head_in e es) in
        relabel-decides (labels-decide es (λ f t. h f (tail-in e es f t))) e (lower-below shape e l) (shape.below-n e l)

    pub connected-iff : (es : List ℕ) → ((e : ℕ) → T (is_in es e) → e < c.m) → (i j : ℕ) → i < c.n → j < c.n → T (connected c es i j) ↔ Connected c es i j
    connected-iff es h i j p q =
        let same = (labels-decide es h).same i j p q in
        let equal = eqb-iff (label (labelled c es) i) (label (labelled c es) j) in
        (λ t. same.0 (equal.0 t), λ w. equal.1 (same.1 w))

    pub acyclic-iff : T (is_acyclic c) ↔ Acyclic c
    acyclic-iff = (
      λ t e h w. T_not (joined-by-others e) ((all-below test c.m).0 t e h) ((others e h).1 w),
      λ f. (all-below test c.m).1 (λ e h. not_T (joined-by-others e) (λ t. f e h ((others e h).0 t))),
    )
      where
        joined-by-others : ℕ → Bool
        joined-by-others e = connected c (other_edges c e) (lower_end c e) (upper_end c e)

        test : ℕ → Bool
        test e = not (joined-by-others e)

        others : (e : ℕ) → e < c.m → T (joined-by-others e) ↔ Connected c (other_edges c e) (lower_end c e) (upper_end c e)
        others e h = connected-iff (other_edges c e) (λ f t. ((is_in-but-one c.m e f).0 t).0) (lower_end c e) (upper_end c e) (lower-below shape e h) (shape.below-n e h)

  -- ---- edge after edge

  -- none of the first k edges joins what those before it connect
  abbrev pub InTurn : ℕ → Type 0
  InTurn k = (e : ℕ) → e < k → Connected c (below e) (lower_end c e) (upper_end c e) → ⊥

  -- the greatest edge of a cycle joins what those before it connect
  in-turn-apart : (k : ℕ) → InTurn k → (e : ℕ) → e < k → Connected c (but_one k e) (lower_end c e) (upper_end c e) → ⊥
  in-turn-apart zero turn e h w = absurd (omega arith)
  in-turn-apart (suc k) turn e h w = ⊎_elim
      (λ s. turn e h (walk_more (λ f t. let (l, n) = (is_in-but-one (suc k) e f).0 t in let q = eqb→eq e k s in (is_in-below e f).1 (omega arith)) w))
      (λ s. let l : e < k = omega (arith, (not-eqb-iff e k).0 s) in
      go l (in-turn-apart k (λ f g. turn f (omega arith)) e l) (walk_through k (but_one k e) (walk_more (less l) w)))
      (either (eqb e k))
    where
      less : e < k → (f : ℕ) → T (is_in (but_one (suc k) e) f) → T (is_in (k ∷ but_one k e) f)
      less l f t = let (u, n) = (is_in-but-one (suc k) e f).0 t in ⊎_elim
          (λ s. subst (λ (f : ℕ). T (is_in (k ∷ but_one k e) f)) (eqb→eq k f s) (head_in k (but_one k e)))
          (λ s. tail-in k (but_one k e) f ((is_in-but-one k e f).1 (omega (arith, (not-eqb-iff k f).0 s), n)))
          (either (eqb k f))

      wide : {i j : ℕ} → Connected c (but_one k e) i j → Connected c (below k) i j
      wide = walk_more (λ f t. (is_in-below k f).1 ((is_in-but-one k e f).0 t).0)

      go : e < k → (Connected c (but_one k e) (lower_end c e) (upper_end c e) → ⊥) → Through k (but_one k e) (lower_end c e) (upper_end c e) → ⊥
      go l shorter (Through.around v) = shorter v
      go l shorter (Through.upwards v u) =
          turn k (omega arith) (walk-on (walk-back (wide v)) (Connected.up e ((is_in-below k e).1 l) (walk-back (wide u))))
      go l shorter (Through.downwards v u) = turn k (omega arith) (walk-on (wide u) (Connected.down e ((is_in-below k e).1 l) (wide v)))

  pub acyclic-in-turn : Acyclic c ↔ InTurn c.m
  acyclic-in-turn = (
    λ acyclic e h w. acyclic e h (walk_more (λ f t. let l = (is_in-below e f).0 t in (is_in-but-one c.m e f).1 (omega arith, λ q. omega arith)) w),
    λ turn. in-turn-apart c.m turn,
  )

  -- labels that decide what the first k edges connect, and edge k
  module _ (shape : Shape c) {k : ℕ} {labels : List ℕ} (decides : Decides (below k) labels) (h : k < c.m) where
    ends_same : label labels (lower_end c k) ≡ label labels (upper_end c k) ↔ Connected c (below k) (lower_end c k) (upper_end c k)
    ends_same = decides.same (lower_end c k) (upper_end c k) (lower-below shape k h) (shape.below-n k h)

    pub next-labels : Decides (below (suc k)) (relabelled c k labels)
    next-labels = record {
      long = next.long;
      same = λ i j p q. (λ s. walk_more to ((next.same i j p q).0 s), λ w. (next.same i j p q).1 (walk_more back w));
    }
      where
        next : Decides (k ∷ below k) (relabelled c k labels)
        next = relabel-decides decides k (lower-below shape k h) (shape.below-n k h)

        to : (f : ℕ) → T (is_in (k ∷ below k) f) → T (is_in (below (suc k)) f)
        to f t = (is_in-below (suc k) f).1 (⊎_elim (λ s. omega (arith, eqb→eq k f s)) (λ s. omega (arith, (is_in-below k f).0 s)) (or_cases (eqb k f) (is_in (below k) f) t))

        back : (f : ℕ) → T (is_in (below (suc k)) f) → T (is_in (k ∷ below k) f)
        back f t = ⊎_elim (λ s. or_left (eqb k f) (is_in (below k) f) s)
            (λ s. tail-in k (below k) f ((is_in-below k f).1 (omega (arith, (is_in-below (suc k) f).0 t, (not-eqb-iff k f).0 s)))) (either (eqb k f))

    -- its ends have two labels: it joins nothing that was connected
    pub next-in-turn : InTurn k → label labels (lower_end c k) ≢ label labels (upper_end c k) → InTurn (suc k)
    next-in-turn turn n e g = ⊎_elim
        (λ s. subst (λ (e : ℕ). Connected c (below e) (lower_end c e) (upper_end c e) → ⊥) (sym (eqb→eq e k s)) (λ w. n (ends_same.1 w)))
        (λ s. turn e (omega (arith, (not-eqb-iff e k).0 s)))
        (either (eqb e k))

    -- they have one: there is a cycle
    pub next-cyclic : label labels (lower_end c k) ≡ label labels (upper_end c k) → Acyclic c → ⊥
    next-cyclic q acyclic = acyclic-in-turn.0 acyclic k h (ends_same.0 q)
