use mathlib.Core.Path.{◌≡◌, sym, ap, ap₂, ◌∙◌}
use mathlib.Core.List.{List, ◌++◌}
use Prim.Native.Nat.{ℕ, ◌+◌, ◌-◌, ◌≤◌}
use native.Mathlib.Omega.{arith}
use lib.IntN.{ℤ}
use lib.ListN.{length, take, drop}
use mir.Facts.{to_z-of_z}
use Rattle.definitions.specs.Rules.{coherent}
use Rattle.definitions.specs.Case.{place}
use Rattle.tables.specs.Scopes.{size_of, scope_part}
use Rattle.tables.proofs.Parts.{part-own}
use Rattle.changes.specs.Scopes.{lowered_by, part_after}
use Rattle.tables.proofs.Order.{own-places}
use Rattle.changes.proofs.SpacedLaws.{amount-fits}
use Rattle.changes.proofs.ScopeLaws.{part-fits, scope-changed}
use Rattle.changes.proofs.change_scope.Goals as goal
use Rattle.changes.proofs.change_scope.Goals.{After-size_of}

-- where the scope's part begins, and how long it is
part_at : (c : After-size_of) → let a = c.args in
    (c.first_place-first.result ≡ place a.case a.x 0 0)
    × ((c.first_place-first.result + c.size_of.result) - c.first_place-first.result ≡ size_of a.case a.x)
    × (c.first_place-first.result + c.size_of.result ≤ length a.table.now)
part_at c =
    let a = c.args in (
      c.first_place-first.ensures,
      omega (arith, c.size_of.ensures),
      omega
          (arith, c.first_place-first.ensures, c.size_of.ensures, part-own a.case a.x c.requires.in_scope.scope, c.requires.in_scope.long),
    )

part-is : (c : After-size_of) → let a = c.args in
    take ((c.first_place-first.result + c.size_of.result) - c.first_place-first.result) (drop c.first_place-first.result a.table.now)
    ≡ scope_part a.case a.table.now a.x
part-is c = let a = c.args in ap₂ (λ (n p : ℕ). take n (drop p a.table.now)) (part_at c).1 (part_at c).0

pub slice_bounds-change_part-end : goal.slice_bounds-change_part-end
slice_bounds-change_part-end c = omega (arith, part_at c)

pub change_part-requires : goal.change_part-requires
change_part-requires c =
    let a = c.args in
    let f = c.ranges in
    let by = lowered_by a.values a.amount a.best a.rest in
    let limits = coherent a.case.rulebook in
    rw (to_z-of_z f.best, to_z-of_z f.rest, to_z-of_z f.amount, part-is (goal.at.change_part-requires c).After-size_of) (record { amounts_fit = (λ p z. amount-fits limits (by p z) (c.requires.amounts p z)); part_fits = part-fits limits by (scope_part a.case a.table.now a.x) c.requires.t })

pub returns : goal.returns
returns c =
    let a = c.args in
    let f = c.ranges in
    let w = a.table.now in
    let by = lowered_by a.values a.amount a.best a.rest in
    let first = c.first_place-first.result in
    let n = first + c.size_of.result - first in
    let e : c.change_part.new.part ≡ part_after by (take n (drop first w)) = rw (to_z-of_z f.best, to_z-of_z f.rest, to_z-of_z f.amount) at c.change_part.ensures in
    ap (λ (l : List ℤ). take first w ++ (l ++ drop n (drop first w))) e
    ∙ ap₂ (λ (p n : ℕ). take p w ++ (part_after by (take n (drop p w)) ++ drop n (drop p w))) (part_at (goal.at.returns c).After-size_of).0 (part_at (goal.at.returns c).After-size_of).1
    ∙ sym (scope-changed a.case w (own-places a.case c.requires.in_scope.limited w c.requires.in_scope.long) a.x c.requires.in_scope.scope by)
