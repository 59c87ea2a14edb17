use mathlib.Core.Path.{◌≡◌, sym, ◌∙◌}
use mathlib.Core.Bool.{true}
use borrow.Author.Tests.{not-false}
use Rattle.definitions.specs.Rules.{rules_of}
use Rattle.tables.specs.Scopes.{is_sized}
use Rattle.tables.proofs.Order.{sized}
use Rattle.tables.proofs.has_scope.Goals as goal
use Rattle.tables.proofs.has_scope.Goals.{Else-not-is_sized}

right : (c : Else-not-is_sized) → let a = c.args in is_sized (rules_of a.case) a.case a.length ≡ true
right c = sym c.is_sized.ensures ∙ not-false _ c.if-not-is_sized.false-raw

pub scope_count-requires : goal.scope_count-requires
scope_count-requires c = (sized c.args.case _ (right c)).0
