-- Values tried one by one, from the lowest on. Assumes nothing.
use mathlib.Core.Path.{◌≡◌, refl, sym, ap, ap₂, subst, ◌∙◌}
use mathlib.Core.Bool.{Bool, true, false, not, ◌&&◌}
use mathlib.Core.List.{List}
use Prim.Native.Nat.{ℕ, ◌<◌}
use native.Mathlib.Omega.{arith}
use borrow.Author.Tests.{eqb-true, eq-eqb}
use lib.Dec.{T, T_not, not_T, eqb, eqb→eq}
use lib.ListN.{length, get_or, set, length-set}
use lib.Seq.{get_or-set_same}
use Rattle.integers.specs.Words.{any, ◌⇒◌}
use Rattle.integers.specs.Tests.{is_true, true-is, is_false, and_left, and_right, imp_intro, imp_elim}
use Rattle.integers.specs.Lists.{all-at, all_of, all_same}
use Rattle.definitions.specs.Consistency.{Family}
use Rattle.networks.specs.Network.{Network, SupportedIn}
use Rattle.networks.proofs.Networks.{Within, none_tried, sets-inside-more}
use Rattle.marks.specs.Marks.{mark, lowest_of, without, only_of, in_both}
use Rattle.marks.proofs.Laws.{mark-byte_of, mark-zero, byte_of-cong, byte_small, lowest-small, lowest-marked}
use Rattle.arcs.specs.Closure.{network_of_bytes, sets_of, some_family}
use Rattle.arcs.specs.Sweeps.{WellFormed, Filled, SettledSets}
use Rattle.arcs.specs.Tried.{has_family, none_has}
use Rattle.arcs.proofs.Search.{mark-without}
use Rattle.arcs.proofs.Steps.{after-set}
use Rattle.arcs.proofs.Results.{settled-family, some-empty}

-- ---- what is left to be tried

-- `left` holds values of the own set, and says of all values what is asked
pub record Trying (has : ℕ → Bool) (own values left : ℕ) : Type 0 where
  pub small : left < 256
  pub inside : (k : ℕ) → k < 8 → T (mark left k) → T (mark own k)
  pub same : none_has has left ≡ none_has has values

outside-own : (v o h : Bool) → (o ≡ false → h ≡ false) → ((v && o) ⇒ not h) ≡ (v ⇒ not h)
outside-own true true h f = refl
outside-own true false h f = sym (ap not (f refl))
outside-own false o h f = refl

one_less : (a e h : Bool) → (e ≡ true → h ≡ false) → ((a && not e) ⇒ not h) ≡ (a ⇒ not h)
one_less true true h f = sym (ap not (f refl))
one_less true false h f = refl
one_less false e h f = refl

module _ (has : ℕ → Bool) (own values : ℕ) where
  pub trying_start : ((k : ℕ) → k < 8 → mark own k ≡ false → has k ≡ false) → (left : ℕ) → left ≡ in_both values own → Trying has own values left
  unfolding none_has
  trying_start out left e = record {
    small = rw e (byte_small _);
    inside = λ k h t. and_right (mark values k) (mark own k) (rw (e, mark-byte_of (λ j. mark values j && mark own j) k h) at t);
    same = all_same 8 (λ k h.
        ap (λ (b : Bool). b ⇒ not (has k)) (ap (λ (s : ℕ). mark s k) e ∙ mark-byte_of (λ j. mark values j && mark own j) k h)
        ∙ outside-own (mark values k) (mark own k) (has k) (out k h));
  }

  module _ (left : ℕ) (now : Trying has own values left) where
    pub trying-end : left ≡ 0 → true ≡ none_has has values
    unfolding none_has
    trying-end z =
        sym (is_true (none_has has left) (all_of (λ k. mark left k ⇒ not (has k)) 8
        (λ k h. imp_intro (mark left k) (not (has k)) (λ t. absurd (rw (z, mark-zero k) at t)))))
        ∙ now.same

    module _ (k : ℕ) (ne : left ≡ 0 → ⊥) (is : k ≡ lowest_of left) where
      filled : 0 < left
      filled = omega arith

      pub tried-small : k < 8
      tried-small = rw is (lowest-small left now.small filled)

      tried-marked : T (mark left k)
      tried-marked = rw is (lowest-marked left now.small filled)

      pub tried-own : T (mark own k)
      tried-own = now.inside k tried-small tried-marked

      pub trying-found : has k ≡ true → false ≡ none_has has values
      unfolding none_has
      trying-found y =
          sym (is_false (none_has has left) (not_T (none_has has left) (λ t.
          T_not (has k) (imp_elim (mark left k) (not (has k)) (all-at (λ k. mark left k ⇒ not (has k)) 8 t k tried-small) tried-marked) (true-is (has k) y))))
          ∙ now.same

      pub trying-next : has k ≡ false → (less : ℕ) → less ≡ without left k → Trying has own values less
      unfolding none_has
      trying-next n less q = record {
        small = rw q (byte_small _);
        inside = λ j h t. now.inside j h (and_left (mark left j) (not (eqb j k)) (rw (q, mark-without left k j h) at t));
        same = all_same 8 (λ j h.
            ap (λ (b : Bool). b ⇒ not (has j)) (ap (λ (s : ℕ). mark s j) q ∙ mark-without left k j h)
            ∙ one_less (mark left j) (eqb j k) (has j) (λ e. ap has (eqb-true j k e) ∙ n))
            ∙ now.same;
      }

-- ---- a value alone

-- a value of the set alone is the value alone
pub only-own : (own k : ℕ) → T (mark own k) → in_both own (only_of k) ≡ only_of k
only-own own k t = byte_of-cong (λ v h. ap (λ (b : Bool). mark own v && b) (mark-byte_of (λ j. eqb j k) v h) ∙ by v (eqb v k) refl)
  where
    by : (v : ℕ) (b : Bool) → eqb v k ≡ b → (mark own v && b) ≡ b
    by v true e = ap (λ (a : Bool). a && true) (ap (mark own) (eqb-true v k e) ∙ is_true (mark own k) t)
    by v false e = and-false (mark own v)
      where
        and-false : (a : Bool) → (a && false) ≡ false
        and-false true = refl
        and-false false = refl

pub only-filled : (k o : ℕ) → o ≡ only_of k → k < 8 → o ≡ 0 → ⊥
only-filled k o eo l z = T_not false tt (subst T (sym (mark-byte_of (λ j. eqb j k) k l ∙ eq-eqb k k refl) ∙ ap (λ (s : ℕ). mark s k) (sym eo ∙ z)
    ∙ mark-zero k) tt)

-- a copy of the sets, with another set for variable i
module _ (S : List ℕ) (i : ℕ) (g : i < length S) (o : ℕ) (work : List ℕ) (same : work ≡ S) where
  pub copy-length : length (set work i o) ≡ length S
  copy-length = length-set work i o ∙ ap length same

  pub copy-filled : (o ≡ 0 → ⊥) → Filled S → Filled (set work i o)
  copy-filled ne filled j h z =
      after-set (λ (s : ℕ). s ≡ 0 → ⊥) work i o j (rw same g) (λ e. ne) (λ ne. rw same (filled j (rw copy-length at h))) z

  pub copy-well : (lower upper rows raised : List ℕ) → WellFormed (length S) lower upper rows raised
      → WellFormed (length (set work i o)) lower upper rows raised
  copy-well lower upper rows raised well = rw copy-length well

module _ (lower upper rows raised S : List ℕ) (i : ℕ) (g : i < length S) where
  abbrev N : Network
  N = network_of_bytes (length S) lower upper rows raised

  -- a value that is not in the own set has no family
  pub outside-none : (k : ℕ) → k < 8 → mark (get_or S i 0) k ≡ false → has_family N S i k ≡ false
  outside-none k h lacks = none_tried N (sets_of (set S i (in_both (get_or S i 0) (only_of k)))) (λ F p.
      let (v, l, s) = p.non-empty i g in
      let t = rw (get_or-set_same S i (in_both (get_or S i 0) (only_of k)) 0 g, mark-byte_of (λ j. mark (get_or S i 0) j && mark (only_of k) j) v l) at
      (p.inside i v g l s) in
      let e = eqb→eq v k (rw (mark-byte_of (λ j. eqb j k) v l) at (and_right (mark (get_or S i 0) v) (mark (only_of k) v) t)) in
      T_not (mark (get_or S i 0) k) (rw lacks tt) (subst (λ (x : ℕ). T (mark (get_or S i 0) x)) e (and_left (mark (get_or S i 0) v) (mark (only_of k) v) t)))

  module _ (k o : ℕ) (work : List ℕ) (eo : o ≡ only_of k) (same : work ≡ S) where
    -- what the sweeps leave says whether there is a family
    pub alone-family : WellFormed (length S) lower upper rows raised → T (mark (get_or S i 0) k) → (S' : List ℕ) (left : Bool)
        → SettledSets (network_of_bytes (length (set work i o)) lower upper rows raised) (sets_of (set work i o)) S' left → has_family N S i k ≡ left
    alone-family well t S' left p =
        let e : set S i (in_both (get_or S i 0) (only_of k)) ≡ set work i o = ap₂ (λ (l : List ℕ) (s : ℕ). set l i s) (sym same)
        (only-own (get_or S i 0) k t ∙ sym eo) in
        ap₂ (λ (n : ℕ) (l : List ℕ). some_family (network_of_bytes n lower upper rows raised) (sets_of l)) (sym (copy-length S i g o work same)) e
        ∙ settled-family (network_of_bytes (length (set work i o)) lower upper rows raised) (sets_of (set work i o))
        (copy-well S i g o work same lower upper rows raised well).ends S' left p

  -- where a set is empty, no value has a family
  pub empty-none : any (λ s. eqb s 0) S ≡ true → (values : ℕ) → none_has (has_family N S i) values ≡ true
  unfolding none_has
  empty-none e values =
      is_true _ (all_of (λ k. mark values k ⇒ not (has_family N S i k)) 8 (λ k h. imp_intro (mark values k) (not (has_family N S i k)) (λ t.
      true-is _ (ap not (none_tried N (sets_of (set S i (in_both (get_or S i 0) (only_of k))))
      (λ F p. some-empty S e lower upper rows raised F (sets-inside-more (inside k h p) p)))))))
    where
      inside : (k : ℕ) → k < 8 → {F : Family} → SupportedIn N (sets_of (set S i (in_both (get_or S i 0) (only_of k)))) F → Within N F (sets_of S)
      inside k h p j v l m s =
          after-set (λ (b : ℕ). T (mark b v) → T (mark (get_or S j 0) v)) S i (in_both (get_or S i 0) (only_of k)) j g
          (λ q t. rw q (and_left (mark (get_or S i 0) v) (mark (only_of k) v) (rw (mark-byte_of (λ x. mark (get_or S i 0) x && mark (only_of k) x) v m) at t)))
          (λ ne t. t)
          (p.inside j v l m s)
