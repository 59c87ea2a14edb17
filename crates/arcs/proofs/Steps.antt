-- The steps of a closure: one end of an edge is revised, and steps one after the other. Assumes nothing.
use mathlib.Core.Path.{◌≡◌, refl, sym, ap, subst, ◌∙◌}
use mathlib.Core.Bool.{Bool, true, false, ◌&&◌, ◌||◌}
use mathlib.Core.Logic.{◌⊎◌, inl, inr, ⊎_elim}
use mathlib.Core.List.{List, [], ◌∷◌}
use Prim.Native.Nat.{ℕ, zero, suc, ◌+◌, ◌*◌, ◌≤◌, ◌<◌}
use native.Mathlib.Omega.{arith}
use borrow.Author.Tests.{eq-eqb, ne_eqb, eqb-true}
use lib.Dec.{T, eqb, eqb→eq}
use lib.ListN.{length, get_or, set, length-set}
use lib.Seq.{get_or-set_same, get_or-set_other, set-get_or}
use Rattle.std.specs.Prelude.{if◌then◌else◌}
use Rattle.integers.specs.Tests.{either, if-cases, and_intro, and_left, and_right, not-eqb-iff}
use Rattle.integers.specs.Lists.{any_at, any_of}
use Rattle.definitions.specs.Consistency.{Family}
use Rattle.networks.specs.Network.{Network, SupportedIn}
use Rattle.networks.proofs.Networks.{empty-set}
use Rattle.marks.specs.Marks.{mark}
use Rattle.marks.proofs.Laws.{mark-byte_of, mark-zero, byte_small, byte-less, lowest-small, lowest-marked}
use Rattle.arcs.specs.Partners.{is_partner, has_partner, supported_values}
use Rattle.arcs.specs.Closure.{network_of_bytes, sets_of}
use Rattle.arcs.specs.Sweeps.{WellFormed, Filled, Fewer, Said, Swept, SettledSets, ClosedAt, own, other, partner, change_of, both_of, kept_of, total}
use Rattle.arcs.specs.declared.Change.{Change}
use Rattle.arcs.specs.declared.Change.TheVariants.{Still, Struck, Emptied}

-- ---- lists

pub after-set : (P : ℕ → Type 0) (S : List ℕ) (i s j : ℕ) → i < length S → (j ≡ i → P s) → ((j ≡ i → ⊥) → P (get_or S j 0)) → P (get_or (set S i s) j 0)
after-set P S i s j h here there =
    ⊎_elim (λ t. let e = eqb→eq j i t in subst P (sym (ap (λ (k : ℕ). get_or (set S i s) k 0) e ∙ get_or-set_same S i s 0 h)) (here e))
    (λ t. let ne = (not-eqb-iff j i).0 t in subst P (sym (get_or-set_other S i j s 0 ne)) (there ne)) (either (eqb j i))

pub total-set : (S : List ℕ) (i s : ℕ) → i < length S → total (set S i s) + get_or S i 0 ≡ total S + s
unfolding total
total-set [] i s h = absurd (omega arith)
total-set (x ∷ S) zero s h = omega arith
total-set (x ∷ S) (suc i) s h = omega (arith, total-set S i s (omega arith))

pub some-mark : (s : ℕ) → s < 256 → (s ≡ 0 → ⊥) → (v : ℕ) × (v < 8) × T (mark s v)
some-mark s h ne = let filled : 0 < s = omega arith in (_, lowest-small s h filled, lowest-marked s h filled)

-- ---- steps one after the other

module _ (N : Network) where
  pub fewer-none : (S : List ℕ) → Fewer N S S
  fewer-none S = record {
    same_length = refl;
    inside = λ j v h g t. t;
    keeps = λ G F p w. w;
    less = omega arith;
  }

  fewer-then : (S S₁ S₂ : List ℕ) → Fewer N S S₁ → Fewer N S₁ S₂ → Fewer N S S₂
  fewer-then S S₁ S₂ a b = record {
    same_length = b.same_length ∙ a.same_length;
    inside = λ j v h g t. a.inside j v h g (b.inside j v h g t);
    keeps = λ G F p w. b.keeps G F p (a.keeps G F p w);
    less = omega (arith, a.less, b.less);
  }

  pub swept_none : (S : List ℕ) → Swept N (λ e up. e < 0) S S Still
  swept_none S = record { fewer = fewer-none S; said = (refl, λ filled e up h. absurd (omega arith)) }

  -- fewer ends count as visited
  module _ (A C : ℕ → Bool → Type 0) (cover : (e : ℕ) (up : Bool) → C e up → A e up) (S S' : List ℕ) where
    said_of : (r : Change) → Said N A S S' r → Said N C S S' r
    said_of Still p = (p.0, λ filled e up k. p.1 filled e up (cover e up k))
    said_of Struck p = p
    said_of Emptied p = p

    pub swept_of : (r : Change) → Swept N A S S' r → Swept N C S S' r
    swept_of r p = record { fewer = p.fewer; said = said_of r p.said }

  module _ (A B C : ℕ → Bool → Type 0) (cover : (e : ℕ) (up : Bool) → C e up → A e up ⊎ B e up) (S S₁ S₂ : List ℕ) where
    said-then : (r q : Change) → Fewer N S S₁ → Fewer N S₁ S₂ → Said N A S S₁ r → Said N B S₁ S₂ q → Said N C S S₂ (both_of r q)
    said-then Emptied q a b x y = (x.0, x.1, λ v h t. x.2 v h (b.inside x.0 v x.1 h t))
    said-then Still Still a b x y = (
      y.0 ∙ x.0,
      λ filled e up k.
          ⊎_elim (λ p. x.1 filled e up p)
          (λ p. subst (λ (Z : List ℕ). ClosedAt N (sets_of Z) up e) x.0 (y.1 (subst Filled (sym x.0) filled) e up p)) (cover e up k),
    )
    said-then Still Struck a b x y = (omega (arith, y.0, a.less), λ filled. y.1 (subst Filled (sym x.0) filled))
    said-then Still Emptied a b x y = y
    said-then Struck Still a b x y = (omega (arith, x.0, b.less), λ filled. subst Filled (sym y.0) (x.1 filled))
    said-then Struck Struck a b x y = (omega (arith, x.0, b.less), λ filled. y.1 (x.1 filled))
    said-then Struck Emptied a b x y = y

    pub swept-then : (r q : Change) → Swept N A S S₁ r → Swept N B S₁ S₂ q → Swept N C S S₂ (both_of r q)
    swept-then r q a b = record {
      fewer = fewer-then S S₁ S₂ a.fewer b.fewer;
      said = said-then r q a.fewer b.fewer a.said b.said;
    }

  -- a supported family is closed at both ends of every edge
  pub supported-at : {G F : Family} → SupportedIn N G F → (up : Bool) (e : ℕ) → e < N.edges → ClosedAt N F up e
  supported-at p false e h v g t = p.partner-above e v h g t
  supported-at p true e h v g t = p.partner-below e v h g t

-- ---- one end of an edge

abbrev pub place_of : Bool → ℕ → ℕ
place_of false e = 16 * e
place_of true e = 16 * e + 8

or-false : (a b : Bool) → a ≡ false → (a || b) ≡ b
or-false a b e = ap (λ (x : Bool). x || b) e

module _ (n : ℕ) (lower upper rows raised : List ℕ) (good : WellFormed n lower upper rows raised) where
  abbrev N : Network
  N = network_of_bytes n lower upper rows raised

  pub own-variable-in : (up : Bool) (e : ℕ) → e < length raised → own N up e < n
  own-variable-in false e h = (good.ends e h).0
  own-variable-in true e h = (good.ends e h).1

  pub other-in : (up : Bool) (e : ℕ) → e < length raised → other N up e < n
  other-in false e h = (good.ends e h).1
  other-in true e h = (good.ends e h).0

  partner-is : (up : Bool) (e v u : ℕ) → (get_or raised e 0 ≡ 0 → ⊥) → partner N up e v u ≡ mark (get_or rows (place_of up e + v) 0) u
  partner-is false e v u ne = or-false _ _ (ne_eqb (get_or raised e 0) 0 ne)
  partner-is true e v u ne = or-false _ _ (ne_eqb (get_or raised e 0) 0 ne)

  partner-free : (up : Bool) (e v u : ℕ) → get_or raised e 0 ≡ 0 → T (partner N up e v u)
  partner-free false e v u z = rw z tt
  partner-free true e v u z = rw z tt

  module _ (S : List ℕ) (len : length S ≡ n) (bytes : (j : ℕ) → get_or S j 0 < 256) (e : ℕ) (h : e < length raised) where
    -- an edge that is not raised
    pub swept-free : get_or raised e 0 ≡ 0 → Swept N (λ f up. f ≡ e) S S Still
    swept-free z = record {
      fewer = fewer-none N S;
      said = (
        refl,
        λ filled f up q v g t.
            let k : e < length raised = h in
            subst (λ (f : ℕ). (u : ℕ) × (u < 8) × T (sets_of S (other N up f) u) × T (partner N up f v u)) (sym q)
            (let (u, l, m) = some-mark (get_or S (other N up e) 0) (bytes _) (filled (other N up e) (rw len (other-in up e h))) in (
              u,
              l,
              m,
              partner-free up e v
                  u z,
            )),
      );
    }

    module _ (up : Bool) (ne : get_or raised e 0 ≡ 0 → ⊥) where
      abbrev i : ℕ
      i = own N up e

      abbrev j : ℕ
      j = other N up e

      abbrev kept : ℕ
      kept = kept_of rows (place_of up e) i j S

      i-in : i < length S
      i-in = rw len (own-variable-in up e h)

      kept-mark : (v : ℕ) → v < 8 → mark kept v ≡ (sets_of S i v && has_partner (get_or rows (place_of up e + v) 0) (get_or S j 0))
      unfolding supported_values
      kept-mark v g = mark-byte_of (λ v. sets_of S i v && has_partner (get_or rows (place_of up e + v) 0) (get_or S j 0)) v g

      kept_small : kept < 256
      unfolding supported_values
      kept_small = byte_small _

      kept-inside : (v : ℕ) → v < 8 → T (mark kept v) → T (sets_of S i v)
      kept-inside v g t = and_left (sets_of S i v) (has_partner (get_or rows (place_of up e + v) 0) (get_or S j 0)) (rw (kept-mark v g) at t)

      kept_less : kept ≤ get_or S i 0
      unfolding supported_values
      kept_less = byte-less (get_or S i 0) (λ v. sets_of S i v && has_partner (get_or rows (place_of up e + v) 0) (get_or S j 0)) (bytes i)
          (λ v g t. and_left (sets_of S i v) (has_partner (get_or rows (place_of up e + v) 0) (get_or S j 0)) t)

      -- a value has a partner exactly where the search finds one
      partner-to : (v u : ℕ) → u < 8 → T (sets_of S j u) → T (partner N up e v u) → T (has_partner (get_or rows (place_of up e + v) 0) (get_or S j 0))
      partner-to v u g s t = any_of (is_partner (get_or rows (place_of up e + v) 0) (get_or S j 0)) 8 g
          (and_intro (mark (get_or rows (place_of up e + v) 0) u) (sets_of S j u) (rw (partner-is up e v u ne) at t) s)

      partner-from : (v : ℕ) → T (has_partner (get_or rows (place_of up e + v) 0) (get_or S j 0)) → (u : ℕ) × (u < 8) × T (sets_of S j u) × T (partner N up e v u)
      partner-from v t =
          let (u, g, s) = any_at (is_partner (get_or rows (place_of up e + v) 0) (get_or S j 0)) 8 t in (
            u,
            g,
            and_right (mark (get_or rows (place_of up e + v) 0) u) (sets_of S j u) s,
            rw (partner-is up e v u ne)
                (and_left (mark (get_or rows (place_of up e + v) 0) u) (sets_of S j u) s),
          )

      revised-fewer : Fewer N S (set S i kept)
      revised-fewer = record {
        same_length = length-set S i kept;
        inside = λ x v hx g. after-set (λ (s : ℕ). T (mark s v) → T (sets_of S x v)) S i kept x i-in
            (λ q t. subst (λ (y : ℕ). T (sets_of S y v)) (sym q) (kept-inside v g t)) (λ ne t. t);
        keeps = λ G F p w x v hx g t. after-set (λ (s : ℕ). T (mark s v)) S i kept x i-in
            (λ q.
            let f : T (F i v) = subst (λ (y : ℕ). T (F y v)) q t in
            let (u, l, s, a) = supported-at N p up e h v g f in
            rw (kept-mark v g)
            (and_intro (sets_of S i v) (has_partner (get_or rows (place_of up e + v) 0) (get_or S j 0)) (w i v (own-variable-in up e h) g f)
            (partner-to v u l (w j u (other-in up e h) l s) a)))
            (λ ne. w x v hx g t);
        less = omega (arith, kept_less, total-set S i kept i-in);
      }

      revised-said : Said N (λ f q. (f ≡ e) × (q ≡ up)) S (set S i kept) (change_of (get_or S i 0) kept)
      revised-said =
          if-cases (Said N (λ f q. (f ≡ e) × (q ≡ up)) S (set S i kept)) (eqb kept 0) Emptied (if eqb kept (get_or S i 0) then Still else Struck)
          (λ z. (
            i,
            own-variable-in up e h,
            λ v g t. subst (λ (s : ℕ). T (mark s v) → ⊥) (sym (get_or-set_same S i kept 0 i-in ∙ eqb→eq kept 0 z)) (λ t. rw (mark-zero v) at t) t,
          ))
          (λ nz.
          if-cases (Said N (λ f q. (f ≡ e) × (q ≡ up)) S (set S i kept)) (eqb kept (get_or S i 0)) Still Struck
          (λ t.
          let same : kept ≡ get_or S i 0 = eqb→eq kept (get_or S i 0) t in (
            ap (set S i) same ∙ set-get_or S i 0,
            λ filled f q r.
                subst (λ (g : ℕ). ClosedAt N (sets_of S) q g) (sym r.0)
                (subst (λ (b : Bool). ClosedAt N (sets_of S) b e) (sym r.1)
                (λ v g s. partner-from v (and_right (sets_of S i v) _ (rw (kept-mark v g) at (subst (λ (x : ℕ). T (mark x v)) (sym same) s))))),
          ))
          (λ t.
          let other : kept ≡ get_or S i 0 → ⊥ = (not-eqb-iff kept (get_or S i 0)).0 t in (
            omega (arith, kept_less, total-set S i kept i-in),
            λ filled x hx. after-set (λ (s : ℕ). s ≡ 0 → ⊥) S i kept x i-in (λ q. (not-eqb-iff kept 0).0 nz) (λ ne. filled x (rw (length-set S i kept) at hx)),
          )))

      pub swept-end : Swept N (λ f q. (f ≡ e) × (q ≡ up)) S (set S i kept) (change_of (get_or S i 0) kept)
      swept-end = record { fewer = revised-fewer; said = revised-said }

  lower-place : (e : ℕ) → 8 * (2 * e) ≡ 16 * e
  lower-place e = omega arith

  upper-place : (e : ℕ) → 8 * (2 * e + 1) ≡ 16 * e + 8
  upper-place e = omega arith

  -- both ends, one after the other
  pub swept-edge : (S : List ℕ) → length S ≡ n → ((j : ℕ) → get_or S j 0 < 256) → (e : ℕ) → e < length raised → (S₁ S₂ : List ℕ) (r q : Change)
      → ((j : ℕ) → get_or S₁ j 0 < 256) → (get_or raised e 0 ≡ 0 → ⊥)
      → S₁ ≡ set S (get_or lower e 0) (kept_of rows (8 * (2 * e)) (get_or lower e 0) (get_or upper e 0) S)
      → r ≡ change_of (get_or S (get_or lower e 0) 0) (kept_of rows (8 * (2 * e)) (get_or lower e 0) (get_or upper e 0) S)
      → S₂ ≡ set S₁ (get_or upper e 0) (kept_of rows (8 * (2 * e + 1)) (get_or upper e 0) (get_or lower e 0) S₁)
      → q ≡ change_of (get_or S₁ (get_or upper e 0) 0) (kept_of rows (8 * (2 * e + 1)) (get_or upper e 0) (get_or lower e 0) S₁)
      → (z : Change) → z ≡ both_of r q → Swept N (λ f up. f ≡ e) S S₂ z
  swept-edge S len bytes e h S₁ S₂ r q bytes₁ ne es er et eq z ez =
      let len₁ : length S₁ ≡ n = ap length es ∙ length-set S (get_or lower e 0) _ ∙ len in
      rw ez
      (swept-then N (λ f up. (f ≡ e) × (up ≡ false)) (λ f up. (f ≡ e) × (up ≡ true)) (λ f up. f ≡ e) cover S S₁ S₂ r q
      (rw (es, er, lower-place e) (swept-end S len bytes e h false ne)) (rw (et, eq, upper-place e) (swept-end S₁ len₁ bytes₁ e h true ne)))
    where
      cover : (f : ℕ) (up : Bool) → f ≡ e → ((f ≡ e) × (up ≡ false)) ⊎ ((f ≡ e) × (up ≡ true))
      cover f false k = inl (k, refl)
      cover f true k = inr (k, refl)

-- ---- a sweep goes on

module _ (lower upper rows raised : List ℕ) (S₀ S : List ℕ) (same : length S ≡ length S₀) where
  pub well-same : WellFormed (length S₀) lower upper rows raised → WellFormed (length S) lower upper rows raised
  well-same good = subst (λ (n : ℕ). WellFormed n lower upper rows raised) (sym same) good

  pub swept_same : (visited : ℕ → Bool → Type 0) (S' : List ℕ) (r : Change) → Swept (network_of_bytes (length S) lower upper rows raised) visited S S' r
      → Swept (network_of_bytes (length S₀) lower upper rows raised) visited S S' r
  swept_same visited S' r p = subst (λ (n : ℕ). Swept (network_of_bytes n lower upper rows raised) visited S S' r) same p

-- what was done to an edge's two sets
both-emptied : (q : Change) → both_of q Emptied ≡ Emptied
both-emptied Emptied = refl
both-emptied Still = refl
both-emptied Struck = refl

module _ (own kept other left : ℕ) where
  pub first-emptied : kept ≡ 0 → Emptied ≡ both_of (change_of own kept) (change_of other left)
  first-emptied e = rw e refl

  pub second-emptied : left ≡ 0 → Emptied ≡ both_of (change_of own kept) (change_of other left)
  second-emptied e = rw e (sym (both-emptied (change_of own kept)))

  module _ (a : kept ≡ 0 → ⊥) (b : left ≡ 0 → ⊥) where
    by : {x y : Bool} → eqb kept own ≡ x → eqb left other ≡ y
        → both_of (change_of own kept) (change_of other left) ≡ both_of (if x then Still else Struck) (if y then Still else Struck)
    by e f = simp (ne_eqb kept 0 a, ne_eqb left 0 b, e, f)

    pub none-struck : kept ≡ own → left ≡ other → Still ≡ both_of (change_of own kept) (change_of other left)
    none-struck e f = sym (by (eq-eqb kept own e) (eq-eqb left other f))

    pub some-struck : (kept ≡ own → left ≡ other → ⊥) → Struck ≡ both_of (change_of own kept) (change_of other left)
    some-struck differ = go (eqb kept own) (eqb left other) refl refl
      where
        go : (x y : Bool) → eqb kept own ≡ x → eqb left other ≡ y → Struck ≡ both_of (change_of own kept) (change_of other left)
        go true true e f = absurd (differ (eqb-true kept own e) (eqb-true left other f))
        go true false e f = sym (by e f)
        go false true e f = sym (by e f)
        go false false e f = sym (by e f)

pub swept-more : (lower upper rows raised : List ℕ) (S₀ S S' : List ℕ) (change next z : Change) (e : ℕ)
    → Swept (network_of_bytes (length S₀) lower upper rows raised) (λ f up. f < e) S₀ S change
    → Swept (network_of_bytes (length S) lower upper rows raised) (λ f up. f ≡ e) S S' next
    → z ≡ both_of change next → Swept (network_of_bytes (length S₀) lower upper rows raised) (λ f up. f < e + 1) S₀ S' z
swept-more lower upper rows raised S₀ S S' change next z e a b q =
    rw q
    (swept-then (network_of_bytes (length S₀) lower upper rows raised) (λ f up. f < e) (λ f up. f ≡ e) (λ f up. f < e + 1) cover S₀ S S' change next a
    (swept_same lower upper rows raised S₀ S a.fewer.same_length (λ f up. f ≡ e) S' next b))
  where
    cover : (f : ℕ) (up : Bool) → f < e + 1 → (f < e) ⊎ (f ≡ e)
    cover f up h = ⊎_elim (λ t. inr (eqb→eq f e t)) (λ t. let ne = (not-eqb-iff f e).0 t in inl (omega arith)) (either (eqb f e))

-- an empty set is one, whatever was visited
-- a set of this edge is empty
pub emptied-more : (change : Change) {next : Change} → next ≡ Emptied → Emptied ≡ both_of change next
emptied-more change e = rw e (sym (both-emptied change))

pub swept-emptied : (N : Network) (A C : ℕ → Bool → Type 0) (S S' : List ℕ) (z : Change) → z ≡ Emptied → Swept N A S S' z → Swept N C S S' Emptied
swept-emptied N A C S S' z q p = record { fewer = p.fewer; said = subst (Said N A S S') q p.said }

-- ---- sweeps until nothing changes or a set is empty

module _ (lower upper rows raised S₀ S S' : List ℕ) (so_far : Fewer (network_of_bytes (length S₀) lower upper rows raised) S₀ S) (filled : Filled S) (r : Change)
    (swept : Swept (network_of_bytes (length S) lower upper rows raised) (λ f up. f < length raised) S S' r) where
  abbrev M : Network
  M = network_of_bytes (length S₀) lower upper rows raised

  sweep-again : Swept M (λ f up. f < length raised) S S' r
  sweep-again = swept_same lower upper rows raised S₀ S so_far.same_length (λ f up. f < length raised) S' r swept

  pub fewer-all : Fewer M S₀ S'
  fewer-all = fewer-then M S₀ S S' so_far sweep-again.fewer

  pub settled-struck : r ≡ Struck → (total S' < total S) × Filled S'
  settled-struck q = let said = subst (Said M (λ f up. f < length raised) S S') q sweep-again.said in (said.0, said.1 filled)

  pub settled-emptied : r ≡ Emptied → SettledSets M (sets_of S₀) S' false
  settled-emptied q F p =
      let said = subst (Said M (λ f up. f < length raised) S S') q sweep-again.said in
      empty-set (sets_of S') p (fewer-all.keeps (sets_of S₀) F p p.inside) said.0 said.1 said.2

  pub settled-still : ((j : ℕ) → get_or S' j 0 < 256) → r ≡ Still → SettledSets M (sets_of S₀) S' true
  settled-still bytes q =
      let said = subst (Said M (λ f up. f < length raised) S S') q sweep-again.said in
      let filled' : Filled S' = subst Filled (sym said.0) filled in
      let closed : (e : ℕ) (up : Bool) → e < length raised → ClosedAt M (sets_of S') up e
      = λ e up h. subst (λ (Z : List ℕ). ClosedAt M (sets_of Z) up e) (sym said.0) (said.1 filled e up h) in (
        record {
          non-empty = λ j h. some-mark (get_or S' j 0) (bytes j) (filled' j (rw fewer-all.same_length h));
          inside = fewer-all.inside;
          partner-above = λ e v h g t. closed e false h v g t;
          partner-below = λ e u h g t. closed e true h u g t;
        },
        λ F p. fewer-all.keeps (sets_of S₀) F p p.inside,
      )
