-- What a closure answers, by what the sweeps leave. Assumes nothing.
use mathlib.Core.Path.{◌≡◌, sym, ap, subst, ◌∙◌}
use mathlib.Core.Bool.{Bool, true, false}
use mathlib.Core.List.{List, map}
use Prim.Native.Nat.{ℕ, ◌<◌}
use native.Mathlib.Omega.{arith}
use lib.Dec.{T, T_not, eqb, eqb→eq}
use lib.ListN.{length, get_or, replicate, length-replicate, get_or-replicate}
use lib.Seq.{ext_get_or}
use Rattle.std.specs.Prelude.{if◌then◌else◌}
use Rattle.integers.specs.Words.{below, any}
use Rattle.integers.specs.Tests.{tests, if-true, if-false, true-is, false-is, eqb-iff}
use Rattle.integers.specs.Tables.{length-tab, get_d-tab, any-get_d}
use Rattle.definitions.specs.Consistency.{Family}
use Rattle.networks.specs.Network.{Network, largest}
use Rattle.networks.proofs.Networks.{NoFamily, Ends, some-tried, none_tried, closed-is-largest, largest-empty}
use Rattle.theory.proofs.Words.{none_below}
use Rattle.marks.specs.Marks.{mark, byte_of}
use Rattle.marks.proofs.Laws.{byte-is, mark-zero}
use Rattle.arcs.specs.Closure.{network_of_bytes, sets_of, is_malformed, some_family, closure_answer, closure_sets}
use Rattle.arcs.specs.Sweeps.{WellFormed, Filled, SettledSets}
use Rattle.arcs.specs.declared.Closed.TheVariants.{Malformed, Empty, Family as SomeFamily}

module _ (lower upper rows raised S : List ℕ) where
  abbrev N : Network
  N = network_of_bytes (length S) lower upper rows raised

  pub malformed-answer : is_malformed (length S) lower upper rows raised ≡ true
      → (Malformed ≡ closure_answer lower upper rows raised S) × (S ≡ closure_sets lower upper rows raised S)
  unfolding closure_answer closure_sets
  malformed-answer e = (
    sym (if-true _ _ (is_malformed (length S) lower upper rows raised) (true-is _ e)),
    sym
        (if-true _ _ (is_malformed (length S) lower upper rows raised) (true-is _ e)),
  )

  module _ (e : is_malformed (length S) lower upper rows raised ≡ false) where
    pub well-formed : WellFormed (length S) lower upper rows raised
    well-formed =
        let p = simp (tests, none_below) at e in
        record {
          lowers = omega (arith, p.0.0.0);
          uppers = omega (arith, p.0.0.1);
          room = omega (arith, p.0.1);
          ends = λ e h. p.1 e h;
        }

    pub closed-sets : closure_sets lower upper rows raised S ≡ map (λ j. byte_of (largest N (sets_of S) j)) (below (length S))
    unfolding closure_sets
    closed-sets = if-false _ _ (is_malformed (length S) lower upper rows raised) (false-is _ e)

    pub answer-is : closure_answer lower upper rows raised S ≡ (if some_family N (sets_of S) then SomeFamily else Empty)
    unfolding closure_answer
    answer-is = if-false _ _ (is_malformed (length S) lower upper rows raised) (false-is _ e)

    ends-in : Ends N
    ends-in = well-formed.ends

    pub family-answer : (S' : List ℕ) → length S' ≡ length S → ((j : ℕ) → get_or S' j 0 < 256) → (b : Bool) → b ≡ true → SettledSets N (sets_of S) S' b
        → (SomeFamily ≡ closure_answer lower upper rows raised S) × (S' ≡ closure_sets lower upper rows raised S)
    family-answer S' len bytes b q settled =
        let p = subst (SettledSets N (sets_of S) S') q settled in (
          sym (answer-is ∙ ap (λ (b : Bool). if b then SomeFamily else Empty) (some-tried N (sets_of S) ends-in p.0)),
          ext_get_or 0 S' _ (len ∙ sym (length-tab _ 0 (length S)))
              (λ j h.
              let i : j < length S = rw len at h in
              byte-is (get_or S' j 0) _ (bytes j) (λ v g. closed-is-largest N (sets_of S) ends-in p.0 p.1 j v i g)
              ∙ sym (get_d-tab (λ j. byte_of (largest N (sets_of S) j)) (length S) j 0 i))
              ∙ sym closed-sets,
        )

    no-family : NoFamily N (sets_of S) → (Empty ≡ closure_answer lower upper rows raised S) × (replicate (length S) 0 ≡ closure_sets lower upper rows raised S)
    no-family none = (
      sym (answer-is ∙ ap (λ (b : Bool). if b then SomeFamily else Empty) (none_tried N (sets_of S) none)),
      ext_get_or 0 (replicate (length S) 0) _ (length-replicate (length S) 0 ∙ sym (length-tab _ 0 (length S)))
          (λ j h.
          let i : j < length S = rw length-replicate at h in
          get_or-replicate (length S) j 0 0 i
          ∙ byte-is 0 _ (omega arith) (λ v g. mark-zero v ∙ sym (largest-empty N (sets_of S) none j v))
          ∙ sym (get_d-tab (λ j. byte_of (largest N (sets_of S) j)) (length S) j 0 i))
          ∙ sym closed-sets,
    )

    pub empty-answer : (S' cleared : List ℕ) → length S' ≡ length S → (b : Bool) → b ≡ false → SettledSets N (sets_of S) S' b → cleared ≡ replicate (length S') 0
        → (Empty ≡ closure_answer lower upper rows raised S) × (cleared ≡ closure_sets lower upper rows raised S)
    empty-answer S' cleared len b q settled e =
        let (answer, sets) = no-family (subst (SettledSets N (sets_of S) S') q settled) in
        (answer, e ∙ ap (λ (n : ℕ). replicate n 0) len ∙ sets)

-- ---- an empty set among the given ones

module _ (S : List ℕ) where
  pub some-empty : any (λ s. eqb s 0) S ≡ true → (lower upper rows raised : List ℕ) → NoFamily (network_of_bytes (length S) lower upper rows raised) (sets_of S)
  some-empty e lower upper rows raised F p =
      let (j, h, t) = (any-get_d (λ s. eqb s 0) S 0).0 (true-is _ e) in
      let (v, g, s) = p.non-empty j h in
      subst (λ (x : ℕ). T (mark x v) → ⊥) (sym (eqb→eq (get_or S j 0) 0 t)) (λ t. rw (mark-zero v) at t) (p.inside j v h g s)

  pub no-set-empty : any (λ s. eqb s 0) S ≡ false → Filled S
  no-set-empty e j h z = T_not (any (λ s. eqb s 0) S) (false-is _ e) ((any-get_d (λ s. eqb s 0) S 0).1 (j, h, (eqb-iff (get_or S j 0) 0).1 z))

pub all-zero : (n : ℕ) (S : List ℕ) → length S ≡ n → ((j : ℕ) → j < n → get_or S j 0 ≡ 0) → S ≡ replicate n 0
all-zero n S len zero =
    ext_get_or 0 S (replicate n 0) (len ∙ sym (length-replicate n 0)) (λ j h. zero j (rw len at h) ∙ sym (get_or-replicate n j 0 0 (rw len at h)))

-- ---- whether a family is left

pub settled-family : (N : Network) (G : Family) → Ends N → (S' : List ℕ) (left : Bool) → SettledSets N G S' left → some_family N G ≡ left
settled-family N G ends S' true p = some-tried N G ends p.0
settled-family N G ends S' false none = none_tried N G none
