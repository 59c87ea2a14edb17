use Prim.Native.Nat.{◌+◌, ◌/◌, ◌%◌}
use Rattle.lines.proofs.Stores.{four-stored}
use Rattle.lines.proofs.put_four.Goals as goal

pub returns : goal.returns
returns c =
    let a = c.args in
    let n = a.n in
    four-stored a.out.now a.i (48 + n / 1000) (48 + n / 100 % 10) (48 + n / 10 % 10) (48 + n % 10) c.requires.0
