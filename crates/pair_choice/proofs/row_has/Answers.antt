use mathlib.Core.Path.{◌≡◌, sym, ◌∙◌}
use Prim.Native.Nat.{◌+◌}
use native.Mathlib.Omega.{arith}
use mir.Syntax.{w64}
use Rattle.integers.specs.Linear.{read_back}
use Rattle.definitions.specs.Rules.{rules_in}
use Rattle.tables.proofs.Search.{found, not_found}
use Rattle.pair_choice.specs.PairChoice.{is_asked, at_place}
use borrow.Author.Rules.{rules}
use Rattle.pair_choice.proofs.row_has.Goals as goal
use Rattle.pair_choice.proofs.row_has.Goals.{After-is_asked}

told : (c : After-is_asked) → let a = c.args in
    c.is_asked.result
    ≡ is_asked (rules_in a.rulebook) a.asked (at_place a.table.now a.own) (at_place a.table.now (a.upper + c.loop-l.l))
    (at_place a.table.now (a.row + c.loop-l.l))
told c =
    let a = c.args in
    rw (
      read_back w64 (at_place a.table.now a.own) (search rules),
      read_back w64 (at_place a.table.now (a.upper + c.loop-l.l)) (search rules),
      read_back w64 (at_place a.table.now (a.row + c.loop-l.l)) (search rules),
    ) at c.is_asked.ensures

pub returns-then-is_asked : goal.returns-then-is_asked
returns-then-is_asked c =
    let a = c.args in
    found (λ l. is_asked (rules_in a.rulebook) a.asked (at_place a.table.now a.own) (at_place a.table.now (a.upper + l))
    (at_place a.table.now (a.row + l))) a.d c.loop-l.l (omega arith) (sym (told (goal.at.returns-then-is_asked c).After-is_asked) ∙ c.if-is_asked.true)

pub returns : goal.returns
returns c =
    let a = c.args in
    not_found (λ l. is_asked (rules_in a.rulebook) a.asked (at_place a.table.now a.own) (at_place a.table.now (a.upper + l))
    (at_place a.table.now (a.row + l))) a.d (λ l h. c.loop-l.invariant l (omega arith))
