use mathlib.Core.Path.{◌≡◌, sym, ◌∙◌}
use mathlib.Core.Bool.{true, ◌&&◌}
use Prim.Native.Nat.{◌+◌}
use lib.ListN.{length}
use Rattle.definitions.specs.Rules.{rules_of}
use Rattle.definitions.specs.Valid.{within_limits}
use Rattle.tables.specs.Scopes.{is_sized}
use Rattle.tables.proofs.Order.{sized}
use Rattle.joining.proofs.Rooms.{grown-known}
use Rattle.joining.proofs.check_waiting.Goals as goal
use Rattle.joining.proofs.check_waiting.Goals.{Else-not-can_grow, Else-not-is_sized, Else-not-is_sized-2}

grown : (c : Else-not-can_grow) → let a = c.args in
    (within_limits (rules_of a.case) a.case.n a.case.d a.case.m
    && within_limits (rules_of a.case) (a.case.n + 1) a.case.d (a.case.m + a.edges)) ≡ true
grown c = sym c.can_grow.ensures ∙ c.if-not-can_grow.false

long : (c : Else-not-is_sized) → let a = c.args in is_sized (rules_of a.case) a.case (length a.table.now) ≡ true
long c = sym c.is_sized.ensures ∙ c.if-not-is_sized.false

first : (c : Else-not-is_sized-2) → let a = c.args in
    is_sized (rules_of a.case) a.case (length a.starting.now) ≡ true
first c = sym c.is_sized-2.ensures ∙ c.if-not-is_sized-2.false

pub check_lent-requires : goal.check_lent-requires
check_lent-requires c = let a = c.args in
    let (l, n, m) = grown-known a.case a.edges (grown (goal.at.check_lent-requires c).Else-not-can_grow) in record { placed = record { limited = l; sized = (sized a.case (length a.starting.now) (first c)).1; grows = n; room = m }; table_len = (sized a.case (length a.table.now) (long (goal.at.check_lent-requires c).Else-not-is_sized)).1 }
