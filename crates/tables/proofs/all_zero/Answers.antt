use mathlib.Core.Path.{◌≡◌, sym, ap, ◌∙◌}
use mathlib.Core.Logic.{◌↔◌}
use mathlib.Core.Bool.{Bool, true, false}
use Prim.Native.Nat.{ℕ}
use native.Mathlib.Omega.{arith}
use lib.IntN.{ℤ, pos}
use lib.Bits.{bit_or, or_add_and, and_le_l, and_le_r}
use lib.Dec.{T, not_T, eqb, eqb→eq}
use lib.ListN.{get_or}
use mir.Syntax.{w64}
use mir.Val.{to_z, of_z}
use borrow.Author.Count.{below_more}
use Rattle.integers.specs.Words.{all, eq_z}
use Rattle.integers.specs.Tests.{is_false}
use Rattle.integers.specs.Linear.{read_back, T-eq}
use Rattle.integers.specs.Tables.{all_get_d}
use Rattle.std.proofs.Math.Facts.{to_z_inj, Fits-of_z}
use Rattle.std.proofs.lemmas.Nat.{or_lt}
use mir.Val.{Fits}
use lib.Dec.{lit<}
use Rattle.tables.proofs.all_zero.Goals as goal
use Rattle.tables.proofs.all_zero.Goals.{After-loop-weight}

or-none : (a b : ℕ) → bit_or a b ≡ 0 ↔ (a ≡ 0) × (b ≡ 0)
or-none a b = (
  λ e. (omega (arith, or_add_and a b, and_le_l a b, and_le_r a b), omega (arith, or_add_and a b, and_le_l a b, and_le_r a b)),
  λ (d, e). omega (arith, or_add_and a b),
)

-- a number is 0 just where its bits are
bits-none : (b : ℕ) → Fits w64 b → to_z w64 b ≡ pos 0 ↔ b ≡ 0
bits-none b f = (λ e. to_z_inj f (record { fits = lit< tt }) e, ap (to_z w64))

pub loop-weight-preserved : goal.loop-weight-preserved
loop-weight-preserved c =
    let l = c.loop-weight in
    let i = l.weight-index in
    let z : ℤ = get_or c.args.weights.now i (pos 0) in
    let f = l.auto.bits-fits in
    let g : Fits w64 (of_z w64 z) = Fits-of_z {z = z} (record { sfits = c.weight-1.given }) in
    let both = bits-none (bit_or l.bits-bits (of_z w64 z)) (record { fits = or_lt 64 l.bits-bits (of_z w64 z) f.fits g.fits }) in
    let before = bits-none l.bits-bits f in
    let none = or-none l.bits-bits (of_z w64 z) in (
      λ e. let (a, b) = none.0 (both.0 e) in
          below_more _ _ (l.invariant.0 (before.1 a)) (sym (read_back w64 z c.weight-1.given) ∙ ap (to_z w64) b),
      λ h. both.1 (none.1 (before.0 (l.invariant.1 (λ k g. h k (omega arith))), ap (of_z w64) (h i (omega arith)))),
    )

-- after the loop: the bits are 0 just where all elements are
told : (c : After-loop-weight) → c.loop-weight.bits-bits ≡ 0 ↔ T (all (λ z. eq_z z (pos 0)) c.args.weights.now)
told c =
    let w = c.args.weights.now in
    let zero = bits-none c.loop-weight.bits-bits c.loop-weight.auto.bits-fits in (
      λ e. (all_get_d (λ z. eq_z z (pos 0)) w (pos 0)).1 (λ k h. (T-eq (get_or w k (pos 0)) (pos 0)).1 (c.loop-weight.invariant.0 (zero.1 e) k (omega arith))),
      λ t. zero.0 (c.loop-weight.invariant.1 (λ k h. (T-eq (get_or w k (pos 0)) (pos 0)).0 ((all_get_d (λ z. eq_z z (pos 0)) w (pos 0)).0 t k (omega arith)))),
    )

same : (b : ℕ) (t : Bool) → b ≡ 0 ↔ T t → eqb b 0 ≡ t
same b true (f, g) = rw (g tt)
same b false (f, g) = is_false (eqb b 0) (not_T (eqb b 0) (λ t. f (eqb→eq b 0 t)))

pub returns : goal.returns
returns c = same c.loop-weight.bits-bits _ (told (goal.at.returns c).After-loop-weight)
