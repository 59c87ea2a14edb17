-- The lowest partner of each value, written place by place. Assumes nothing.
use mathlib.Core.Path.{◌≡◌, sym, ap, ap₂, ◌∙◌}
use mathlib.Core.Bool.{Bool, true, false, not, ◌&&◌, and-false, and-true}
use mathlib.Core.Logic.{◌⊎◌, inl, inr}
use mathlib.Core.List.{List, map}
use Prim.Native.Nat.{ℕ, ◌≤◌, ◌<◌}
use native.Mathlib.Omega.{arith}
use borrow.Author.Tests.{lt-ltb, le-ltb, eq-eqb, ne_eqb}
use lib.Dec.{T, ltb, eqb, ltb→lt, nltb→le}
use lib.ListN.{length, get_or, set, length-set}
use lib.Seq.{ext_get_or}
use Rattle.std.specs.Prelude.{if◌then◌else◌}
use Rattle.integers.specs.Words.{below}
use Rattle.integers.specs.Tests.{either, is_true, is_false}
use Rattle.integers.specs.Tables.{length-tab, get_d-tab}
use Rattle.integers.specs.Lists.{map_same}
use Rattle.marks.specs.Marks.{mark, lowest_of, without}
use Rattle.marks.proofs.Laws.{mark-high, mark-zero, byte_small, lowest-small, lowest-marked, lowest-below}
use Rattle.arcs.specs.Partners.{lowest_in_both, byte_of_partner, partner_at, lowest_partners}
use Rattle.arcs.proofs.Search.{mark-without}
use Rattle.arcs.proofs.Steps.{after-set}

-- the lowest value of what is left
module _ (left k : ℕ) (small : left < 256) (ne : left ≡ 0 → ⊥) (is : k ≡ lowest_of left) where
  filled : 0 < left
  filled = omega arith

  pub value-small : k < 8
  value-small = rw is (lowest-small left small filled)

  value-marked : mark left k ≡ true
  value-marked = is_true _ (rw is (lowest-marked left small filled))

  unmarked : (p : ℕ) → p < k → mark left p ≡ false
  unmarked p h = let s = value-small in is_false _ (lowest-below left small p (omega arith) (rw (sym is) h))

  mark-less : (p : ℕ) → T (ltb p 8) ⊎ T (not (ltb p 8)) → mark (without left k) p ≡ (mark left p && not (eqb p k))
  mark-less p (inl t) = mark-without left k p (ltb→lt p 8 t)
  mark-less p (inr t) =
      let high = nltb→le p 8 t in
      mark-high (without left k) p (byte_small _) high ∙ sym (ap (λ (b : Bool). b && not (eqb p k)) (mark-high left p small high))

module _ (rows : List ℕ) (other : ℕ) where
  abbrev named : ℕ → ℕ
  named k = byte_of_partner (lowest_in_both (get_or rows k 0) other)

  abbrev chosen : ℕ → Bool → ℕ → ℕ
  chosen p b x = if b && ltb p (length rows) then named p else x

  module _ (left : ℕ) (P : List ℕ) where
    -- no place is left to write
    done : ((p : ℕ) → p < length P → (mark left p && ltb p (length rows)) ≡ false) → P ≡ lowest_partners rows left other P
    unfolding lowest_partners
    done all =
        let f = partner_at rows left other P in
        ext_get_or 0 P (map f (below (length P))) (sym (length-tab f 0 (length P)))
        (λ p h. sym (get_d-tab f (length P) p 0 h ∙ ap (λ (b : Bool). if b then named p else get_or P p 0) (all p h)))

    pub none_left : left ≡ 0 → P ≡ lowest_partners rows left other P
    none_left z = done (λ p h. ap (λ (b : Bool). b && ltb p (length rows)) (ap (λ (s : ℕ). mark s p) z ∙ mark-zero p))

    module _ (k : ℕ) (small : left < 256) (ne : left ≡ 0 → ⊥) (is : k ≡ lowest_of left) where
      unreached : (p : ℕ) → (k ≤ p → ltb p (length rows) ≡ false) → T (ltb p k) ⊎ T (not (ltb p k)) → (mark left p && ltb p (length rows)) ≡ false
      unreached p f (inl t) = ap (λ (b : Bool). b && ltb p (length rows)) (unmarked left k small ne is p (ltb→lt p k t))
      unreached p f (inr t) = ap (λ (b : Bool). mark left p && b) (f (nltb→le p k t)) ∙ and-false (mark left p)

      pub no_row : length rows ≤ k → P ≡ lowest_partners rows left other P
      no_row h = done (λ p g. unreached p (λ l. le-ltb p (length rows) (omega arith)) (either (ltb p k)))

      pub no_place : length P ≤ k → P ≡ lowest_partners rows left other P
      no_place h = done (λ p g. unreached p (λ l. absurd (omega arith)) (either (ltb p k)))

      -- the partner of value k is written, and k struck
      module _ (less b : ℕ) (struck : less ≡ without left k) (row : k < length rows) (place : k < length P) (found : b ≡ named k) where
        marked-as : (p : ℕ) (e : Bool) → eqb p k ≡ e → mark less p ≡ (mark left p && not e)
        marked-as p e q =
            ap (λ (s : ℕ). mark s p) struck ∙ mark-less left k small ne is p (either (ltb p 8)) ∙ ap (λ (a : Bool). mark left p && not a) q

        here : (p : ℕ) → p ≡ k → chosen p (mark less p) b ≡ chosen p (mark left p) (get_or P p 0)
        here p e =
            ap (λ (a : Bool). chosen p a b) (marked-as p true (eq-eqb p k e) ∙ and-false (mark left p))
            ∙ found ∙ ap named (sym e)
            ∙ sym (ap₂ (λ (a c : Bool). if a && c then named p else get_or P p 0) (ap (mark left) e ∙ value-marked left k small ne is)
            (lt-ltb p (length rows) (omega arith)))

        there : (p : ℕ) → (p ≡ k → ⊥) → chosen p (mark less p) (get_or P p 0) ≡ chosen p (mark left p) (get_or P p 0)
        there p differs = ap (λ (a : Bool). chosen p a (get_or P p 0)) (marked-as p false (ne_eqb p k differs) ∙ and-true (mark left p))

        pub value_written : lowest_partners rows less other (set P k b) ≡ lowest_partners rows left other P
        unfolding lowest_partners
        value_written =
            ap (λ (n : ℕ). map (partner_at rows less other (set P k b)) (below n)) (length-set P k b)
            ∙ map_same (length P)
            (λ p h. after-set (λ (x : ℕ). chosen p (mark less p) x ≡ chosen p (mark left p) (get_or P p 0)) P k b p place (here p) (there p))
