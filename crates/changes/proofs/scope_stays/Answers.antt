use mathlib.Core.Path.{◌≡◌, ap₂}
use Prim.Native.Nat.{ℕ, ◌+◌, ◌-◌, ◌≤◌}
use native.Mathlib.Omega.{arith}
use lib.ListN.{length, take, drop}
use mir.Facts.{to_z-of_z}
use Rattle.definitions.specs.Case.{place}
use Rattle.tables.specs.Scopes.{size_of, scope_part}
use Rattle.tables.proofs.Parts.{part-own}
use Rattle.changes.proofs.scope_stays.Goals as goal
use Rattle.changes.proofs.scope_stays.Goals.{After-size_of}

-- where the scope's part begins, and how long it is
part_at : (c : After-size_of) → let a = c.args in
    (c.first_place-first.result ≡ place a.case a.x 0 0)
    × ((c.first_place-first.result + c.size_of.result) - c.first_place-first.result ≡ size_of a.case a.x)
    × (c.first_place-first.result + c.size_of.result ≤ length a.table.now)
part_at c =
    let a = c.args in (
      c.first_place-first.ensures,
      omega (arith, c.size_of.ensures),
      omega
          (arith, c.first_place-first.ensures, c.size_of.ensures, part-own a.case a.x c.requires.in_scope.scope, c.requires.in_scope.long),
    )

part-is : (c : After-size_of) → let a = c.args in
    take ((c.first_place-first.result + c.size_of.result) - c.first_place-first.result) (drop c.first_place-first.result a.table.now)
    ≡ scope_part a.case a.table.now a.x
part-is c = let a = c.args in ap₂ (λ (n p : ℕ). take n (drop p a.table.now)) (part_at c).1 (part_at c).0

pub slice_bounds-part_stays-end : goal.slice_bounds-part_stays-end
slice_bounds-part_stays-end c = omega (arith, part_at c)

pub part_stays-requires : goal.part_stays-requires
part_stays-requires c =
    let f = c.ranges in
    rw (to_z-of_z f.best, to_z-of_z f.rest, to_z-of_z f.amount) c.requires.amounts

pub returns : goal.returns
returns c =
    let f = c.ranges in
    rw (to_z-of_z f.best, to_z-of_z f.rest, to_z-of_z f.amount, part-is (goal.at.returns c).After-size_of) at c.part_stays.ensures
