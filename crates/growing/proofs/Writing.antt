-- A part of a list is written from its top, one place after the other. Assumes nothing.
use mathlib.Core.Path.{◌≡◌, refl, sym, subst, ◌∙◌}
use mathlib.Core.Logic.{◌≢◌, ⊎_elim}
use mathlib.Core.List.{List}
use Prim.Native.Nat.{ℕ, suc, ◌+◌, ◌≤◌, ◌<◌}
use native.Mathlib.Omega.{arith}
use lib.IntN.{ℤ, pos}
use lib.Dec.{eqb, eqb→eq}
use lib.ListN.{length, get_or, set, length-set}
use lib.Seq.{get_or-set_same, get_or-set_other}
use Rattle.integers.specs.Tests.{either, not-eqb-iff}
use Rattle.growing.specs.Parts.{Written, PutIn}

module _ {A : Type 0} (none : A) (u : List A) (to count : ℕ) (f : ℕ → A) where
  pub none_written : Written none u u to count count f
  none_written = record { long = refl; before = λ q h. refl; there = λ i l h. absurd (omega arith); past = λ q h. refl }

  pub one_written : (v : List A) (k j : ℕ) (z : A) → k ≡ suc j → j < count → to + count ≤ length u → z ≡ f j
      → Written none u v to k count f → Written none u (set v (to + j) z) to j count f
  one_written v k j z e l room s w = record {
    long = length-set v (to + j) z ∙ w.long;
    before = λ q h. other q (λ d. omega arith) ∙ w.before q (omega arith);
    there = λ i a b. ⊎_elim
        (λ t.
        let d : j ≡ i = sym (eqb→eq i j t) in
        subst (λ (i : ℕ). get_or (set v (to + j) z) (to + i) none ≡ f i) d (get_or-set_same v (to + j) z none (omega (arith, w.long)) ∙ s))
        (λ t. let d : i ≢ j = (not-eqb-iff i j).0 t in other (to + i) (λ g. d (omega arith)) ∙ w.there i (omega arith) b)
        (either (eqb i j));
    past = λ q h. other q (λ d. omega arith) ∙ w.past q h;
  }
    where
      other : (q : ℕ) → q ≢ to + j → get_or (set v (to + j) z) q none ≡ get_or v q none
      other q d = get_or-set_other v (to + j) q z none d

-- what is moved up makes room for what is put in
pub both-written : (u v t : List ℤ) (first wide count : ℕ) (f : ℕ → ℤ)
    → Written (pos 0) u v (first + wide) 0 count (λ i. get_or u (first + i) (pos 0)) → Written (pos 0) v t first 0 wide f
    → PutIn u t first wide count f
both-written u v t first wide count f a b = record {
  long = b.long ∙ a.long;
  before = λ q h. b.before q (omega arith) ∙ a.before q (omega arith);
  there = λ i h. b.there i (omega arith) h;
  moved = λ i h. b.past (first + wide + i) (omega arith) ∙ a.there i (omega arith) h;
  past = λ q h. b.past q (omega arith) ∙ a.past q h;
}
