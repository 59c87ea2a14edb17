use mathlib.Core.Path.{◌≡◌, sym, ◌∙◌}
use mathlib.Core.Bool.{true}
use lib.ListN.{length}
use borrow.Author.Tests.{lt-ltb, le-ltb}
use Rattle.definitions.specs.Rules.{rules_of}
use Rattle.tables.specs.Scopes.{is_sized}
use Rattle.pair_choice.specs.PairChoice.{leaves_by}
use Rattle.pair_choice.proofs.Ranges.{sized-known}
use Rattle.pair_choice.proofs.leaves_range.Goals as goal
use Rattle.pair_choice.proofs.leaves_range.Goals.{Else-not-is_sized}

pub returns-then-not-is_sized : goal.returns-then-not-is_sized
unfolding leaves_by
returns-then-not-is_sized c = rw (sym c.is_sized.ensures ∙ c.if-not-is_sized.true)

right : (c : Else-not-is_sized) → let a = c.args in is_sized (rules_of a.case) a.case (length a.table.now) ≡ true
right c = sym c.is_sized.ensures ∙ c.if-not-is_sized.false

pub returns-then-case-edge : goal.returns-then-case-edge
unfolding leaves_by
returns-then-case-edge c =
    let a = c.args in
    rw (right (goal.at.returns-then-case-edge c).Else-not-is_sized, le-ltb a.edge a.case.m c.if-case-edge.true)

pub round_leaves-requires : goal.round_leaves-requires
round_leaves-requires c =
    let a = c.args in
    (sized-known a.case a.table.now (right (goal.at.round_leaves-requires c).Else-not-is_sized), c.if-case-edge.false)

pub returns : goal.returns
unfolding leaves_by
returns c =
    let a = c.args in
    rw (right (goal.at.returns c).Else-not-is_sized, lt-ltb a.edge a.case.m c.if-case-edge.false) c.round_leaves.ensures
