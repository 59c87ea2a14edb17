use mathlib.Core.Path.{◌≡◌}
use Prim.Native.Nat.{◌+◌, ◌-◌}
use native.Mathlib.Omega.{arith}
use borrow.Author.Rules.{rules}
use lib.ListN.{length, take, drop, replicate, length-drop}
use Rattle.definitions.specs.Families.{outside}
use lib.Seq.{take_all}
use Rattle.families.proofs.Bytes.{end-written}
use Rattle.families.proofs.write_end.Goals as goal

pub returns : goal.returns
returns c =
    let a = c.args in
    let d : a.from + a.d - a.from ≡ a.d = omega arith in
    let filled : c.fill.new.self ≡ replicate (length (take (a.from + a.d - a.from) (drop a.from a.partners.now))) outside = search rules in
    let rest = take_all (length a.rows.now - a.row) (drop a.row a.rows.now) (simp length-drop (omega arith)) in
    end-written a.rows.now a.row a.own a.other c.requires.1 a.from a.partners.now a.d _ d c.requires.0 c.requires.2 _ _ _
    filled rest c.lowest_partners.ensures
