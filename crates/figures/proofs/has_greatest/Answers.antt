use mathlib.Core.Path.{◌≡◌, ◌∙◌, ap, refl}
use mathlib.Core.Bool.{Bool, true, false}
use Prim.Native.Nat.{◌<◌, ◌^◌}
use lib.IntN.{ℤ}
use lib.Dec.{eqb}
use lib.Signed.{mag}
use mir.Syntax.{w64}
use mir.Val.{hbits, of_z}
use borrow.Author.Tests.{eqb-true, eq-eqb}
use Rattle.std.specs.Prelude.{Ok}
use Rattle.integers.specs.Words.{eq_z}
use Rattle.definitions.specs.Case.{greatest}
use Rattle.integers.specs.Linear.{same_bits, other-bits}
use Rattle.figures.proofs.Tuples.{scope-greatest}
use Rattle.figures.proofs.has_greatest.Goals as goal
use Rattle.figures.proofs.has_greatest.Goals.{After-greatest-greatest}

-- the scope's greatest weight
most : (c : After-greatest-greatest) → let a = c.args in c.greatest-greatest.result ≡ greatest a.case a.table.now a.x
most c =
    c.greatest-greatest.ensures ∙ scope-greatest c.requires.handed c.args.x c.requires.x_bound.0 c.scope_weights.ensures

-- equal as bits just where equal as numbers
bits_equal : (a b : ℤ) → mag a < 2 ^ hbits w64 → mag b < 2 ^ hbits w64 → eqb (of_z w64 a) (of_z w64 b) ≡ eq_z a b
bits_equal a b f g = by (eqb (of_z w64 a) (of_z w64 b)) refl
  where
    by : (t : Bool) → eqb (of_z w64 a) (of_z w64 b) ≡ t → t ≡ eq_z a b
    by true e = same_bits a b f g (eqb-true (of_z w64 a) (of_z w64 b) e)
    by false e = other-bits a b f g (λ q. let h = eq-eqb (of_z w64 a) (of_z w64 b) q in cc)

pub returns : goal.returns
returns c = let w = c.weight_at in
    let g = c.greatest-greatest in
    let m = most (goal.at.returns c).After-greatest-greatest in
    rw (← w.ensures, ← m) (ap Ok (bits_equal w.result g.result w.type_inv g.type_inv))
