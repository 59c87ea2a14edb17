-- The sixteen bytes of an edge, row by row. Assumes nothing.
use mathlib.Core.Path.{◌≡◌, refl, sym, ap, subst, ◌∙◌}
use mathlib.Core.Bool.{Bool, true, false, not, ◌&&◌}
use mathlib.Core.List.{List}
use Prim.Native.Nat.{ℕ, zero, suc, ◌+◌, ◌*◌, ◌≤◌, ◌<◌}
use native.Mathlib.Nat.{mul-le-mul_right}
use native.Mathlib.Omega.{arith}
use borrow.Author.Tests.{ne_eqb, eq-eqb, le-ltb}
use lib.Dec.{T, eqb}
use lib.ListN.{length, get_or, set, replicate}
use Rattle.std.specs.Prelude.{if◌then◌else◌}
use Rattle.integers.specs.Tests.{is_true, and_left}
use Rattle.marks.specs.Marks.{mark, added, without, lowest_of}
use Rattle.marks.proofs.Laws.{mark-zero, byte-is, byte_small, lowest-small, lowest-marked}
use Rattle.arcs.specs.Active.{AddedBelow, Crossed}
use Rattle.arcs.proofs.Search.{mark-without}
use Rattle.arcs.proofs.Steps.{after-set}
use Rattle.arcs.proofs.Marked.{found-next}

-- ---- value k is added below: the values of `left` are still to come

pub record Adding (row k : ℕ) (S₀ S : List ℕ) (left : ℕ) : Type 0 where
  pub small : left < 256
  pub inside : (l : ℕ) → l < 8 → T (mark left l) → T (mark row l)
  pub above : (p : ℕ) → p < 8 → get_or S p 0 ≡ get_or S₀ p 0
  pub below : (l : ℕ) → l < 8 → get_or S (8 + l) 0 ≡ (if mark row l && not (mark left l) then added (get_or S₀ (8 + l) 0) k else get_or S₀ (8 + l) 0)

and-not : (b : Bool) → (b && not b) ≡ false
and-not true = refl
and-not false = refl

and-all : (b : Bool) → (b && true) ≡ b
and-all true = refl
and-all false = refl

module _ (row k : ℕ) (S₀ : List ℕ) where
  pub adding-start : row < 256 → Adding row k S₀ S₀ row
  adding-start h = record {
    small = h;
    inside = λ l g t. t;
    above = λ p g. refl;
    below = λ l g. sym (ap (λ (b : Bool). if b then added (get_or S₀ (8 + l) 0) k else get_or S₀ (8 + l) 0) (and-not (mark row l)));
  }

  module _ (S : List ℕ) (left : ℕ) (now : Adding row k S₀ S left) where
    pub adding-end : left ≡ 0 → length S ≡ length S₀ → AddedBelow row k S₀ S
    adding-end z same = record {
      same_length = same;
      above = now.above;
      below = λ l g. now.below l g ∙ ap (λ (b : Bool). if b then added (get_or S₀ (8 + l) 0) k else get_or S₀ (8 + l) 0)
          (ap (λ (s : ℕ). mark row l && not (mark s l)) z ∙ ap (λ (b : Bool). mark row l && not b) (mark-zero l) ∙ and-all (mark row l));
    }

    module _ (l₀ : ℕ) (ne : left ≡ 0 → ⊥) (is : l₀ ≡ lowest_of left) where
      filled : 0 < left
      filled = omega arith

      pub adding-small : l₀ < 8
      adding-small = rw is (lowest-small left now.small filled)

      marked : T (mark left l₀)
      marked = rw is (lowest-marked left now.small filled)

      abbrev chosen : Bool → ℕ → ℕ
      chosen b l = if b then added (get_or S₀ (8 + l) 0) k else get_or S₀ (8 + l) 0

      pub adding-next : (b less : ℕ) → b ≡ added (get_or S (8 + l₀) 0) k → less ≡ without left l₀ → 8 + l₀ < length S → Adding row k S₀ (set S (8 + l₀) b) less
      adding-next b less eb el h = record {
        small = rw el (byte_small _);
        inside = λ l g t. now.inside l g (and_left (mark left l) (not (eqb l l₀)) (rw (el, mark-without left l₀ l g) at t));
        above = λ p g. after-set (λ (x : ℕ). x ≡ get_or S₀ p 0) S (8 + l₀) b p h (λ e. absurd (let s = adding-small in omega arith)) (λ ne. now.above p g);
        below = λ l g. after-set (λ (x : ℕ). x ≡ chosen (mark row l && not (mark less l)) l) S (8 + l₀) b (8 + l) h
            (λ e.
            let same : l ≡ l₀ = omega arith in
            let yes : mark row l ≡ true = is_true _ (now.inside l g (subst (λ (x : ℕ). T (mark left x)) (sym same) marked)) in
            let here : mark left l ≡ true = is_true _ (subst (λ (x : ℕ). T (mark left x)) (sym same) marked) in
            let gone : mark less l ≡ false = ap (λ (s : ℕ). mark s l) el ∙ mark-without left l₀ l g
            ∙ ap (λ (b : Bool). mark left l && not b) (eq-eqb l l₀ same) ∙ and_none (mark left l) in
            let old : get_or S (8 + l) 0 ≡ get_or S₀ (8 + l) 0 = now.below l g ∙ ap (λ (b : Bool). chosen (mark row l && not b) l) here
            ∙ ap (λ (b : Bool). chosen b l) (and_none (mark row l)) in
            eb ∙ ap (λ (x : ℕ). added (get_or S (8 + x) 0) k) (sym same) ∙ ap (λ (x : ℕ). added x k) old
            ∙ sym (ap (λ (b : Bool). chosen (mark row l && not b) l) gone ∙ ap (λ (b : Bool). chosen (b && true) l) yes))
            (λ ne.
            let other : l ≡ l₀ → ⊥ = λ e. ne (omega arith) in
            let kept : mark less l ≡ mark left l = ap (λ (s : ℕ). mark s l) el ∙ mark-without left l₀ l g
            ∙ ap (λ (b : Bool). mark left l && not b) (ne_eqb l l₀ other) ∙ and-all (mark left l) in
            now.below l g ∙ sym (ap (λ (b : Bool). chosen (mark row l && not b) l) kept));
      }
        where
          and_none : (a : Bool) → (a && false) ≡ false
          and_none true = refl
          and_none false = refl

-- ---- one row more

pub zeros-at : (n q : ℕ) → get_or {A = ℕ} (replicate n 0) q 0 ≡ 0
zeros-at zero q = refl
zeros-at (suc n) zero = refl
zeros-at (suc n) (suc q) = zeros-at n q

pub crossed-none : (row : ℕ → ℕ) (n : ℕ) → Crossed row 0 (replicate n 0)
crossed-none row n = record {
  rows = λ p h. absurd (omega arith);
  rest = λ p h g. zeros-at n p;
  columns = λ l g. zeros-at n (8 + l) ∙ byte-is 0 _ (omega arith) (λ j h. mark-zero j
      ∙ sym (ap (λ (b : Bool). b && mark (row j) l) (le-ltb j 0 (omega arith))));
}

pub row_room : (k d : ℕ) → k < d → k * d + d ≤ d * d
row_room k d h = omega (arith, mul-le-mul_right {m = suc k} {n = d} d h)

pub crossed-next : (row : ℕ → ℕ) (k : ℕ) (S S' : List ℕ) (r : ℕ) → Crossed row k S → k < 8 → k < length S → r ≡ row k → AddedBelow r k (set S k r) S'
    → Crossed row (k + 1) S'
crossed-next row k S S' r now h room e add = record {
  rows = λ p g. add.above p (omega arith) ∙ after-set (λ (x : ℕ). x ≡ row p) S k r p room (λ q. e ∙ ap row (sym q)) (λ ne. now.rows p (omega arith));
  rest = λ p g i. add.above p i ∙ after-set (λ (x : ℕ). x ≡ 0) S k r p room (λ q. absurd (omega arith)) (λ ne. now.rest p (omega arith) i);
  columns = λ l g.
      let old : get_or (set S k r) (8 + l) 0 ≡ get_or S (8 + l) 0 = after-set (λ (x : ℕ). x ≡ get_or S (8 + l) 0) S k r (8 + l) room (λ q. absurd (omega arith))
      (λ ne. refl) in
      add.below l g ∙ ap (λ (x : ℕ). if mark r l then added x k else x) old ∙ ap
      (λ (x : ℕ). if mark x l then added (get_or S (8 + l) 0) k else get_or S (8 + l) 0) e
      ∙ found-next (λ j. mark (row j) l) k (get_or S (8 + l) 0) (now.columns l g);
}
