use mathlib.Core.Path.{◌≡◌, ap, ap₂, ◌∙◌}
use Prim.Native.Nat.{ℕ, ◌+◌, ◌-◌, ◌≤◌}
use native.Mathlib.Omega.{arith}
use lib.ListN.{length, take, drop, set}
use mir.Syntax.{w64}
use Rattle.integers.specs.Words.{greatest_of}
use Rattle.integers.specs.Linear.{read_back}
use Rattle.definitions.specs.Case.{place}
use Rattle.tables.specs.Scopes.{size_of, scope_part}
use Rattle.tables.proofs.Parts.{part-own}
use Rattle.tables.proofs.Order.{own-places}
use Rattle.changes.proofs.ScopeLaws.{best-known}
use Rattle.changes.proofs.keep_greatest.Goals as goal
use Rattle.changes.proofs.keep_greatest.Goals.{After-size_of}

-- where the scope's part begins, and how long it is
part_at : (c : After-size_of) → let a = c.args in
    (c.first_place-first.result ≡ place a.case a.x 0 0)
    × ((c.first_place-first.result + c.size_of.result) - c.first_place-first.result ≡ size_of a.case a.x)
    × (c.first_place-first.result + c.size_of.result ≤ length a.table.now)
part_at c =
    let a = c.args in (
      c.first_place-first.ensures,
      omega (arith, c.size_of.ensures),
      omega
          (arith, c.first_place-first.ensures, c.size_of.ensures, part-own a.case a.x c.requires.in_scope.scope, c.requires.in_scope.long),
    )

part-is : (c : After-size_of) → let a = c.args in
    take ((c.first_place-first.result + c.size_of.result) - c.first_place-first.result) (drop c.first_place-first.result a.table.now)
    ≡ scope_part a.case a.table.now a.x
part-is c = let a = c.args in ap₂ (λ (n p : ℕ). take n (drop p a.table.now)) (part_at c).1 (part_at c).0

pub slice_bounds-greatest-end : goal.slice_bounds-greatest-end
slice_bounds-greatest-end c = omega (arith, part_at c)

pub returns : goal.returns
returns c = let a = c.args in
    ap (set a.best.now a.x) (read_back w64 c.greatest-weight.result c.greatest-weight.type_inv ∙ c.greatest-weight.ensures ∙ ap greatest_of (part-is (goal.at.returns c).After-size_of)
    ∙ best-known a.case a.table.now (own-places a.case c.requires.in_scope.limited a.table.now c.requires.in_scope.long) a.x c.requires.in_scope.scope)
