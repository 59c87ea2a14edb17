use mathlib.Core.Path.{◌≡◌, sym, ◌∙◌}
use mathlib.Core.Bool.{true, ◌&&◌}
use Prim.Native.Nat.{ℕ, ◌+◌, ◌-◌, ◌≤◌, ◌<◌}
use native.Mathlib.Omega.{arith}
use lib.Dec.{T, ltb, ltb→lt, leb→le}
use lib.ListN.{length}
use Rattle.integers.specs.Tests.{true-is, is_true, and_left, and_right}
use Rattle.definitions.specs.declared.Case.{Case}
use Rattle.definitions.specs.Rules.{rules_of}
use Rattle.definitions.specs.Case.{lent_length}
use Rattle.tables.specs.Scopes.{Limited, is_sized}
use Rattle.tables.proofs.Order.{sized}
use Rattle.growing.specs.Growing.{has_room}
use Rattle.growing.proofs.grow.Goals as goal
use Rattle.growing.proofs.grow.Goals.{Then-has_room}

-- Grown where there is room. Assumes nothing.
-- what room tells
roomy : (c : Case) (p s t : ℕ) → T (has_room c p s t)
    → Limited c × ((c.n < (rules_of c).variables) × (c.m + p ≤ (rules_of c).edges)) × ((s ≡ lent_length (rules_of c) c) × (t ≡ lent_length (rules_of c) c))
roomy c p s t h =
    let u = and_left (is_sized (rules_of c) c s && is_sized (rules_of c) c t && ltb c.n (rules_of c).variables) _ h in
    let v = and_left (is_sized (rules_of c) c s && is_sized (rules_of c) c t) _ u in
    let (limited, long) = sized c s (is_true (is_sized (rules_of c) c s) (and_left (is_sized (rules_of c) c s) _ v)) in
    let (_, other) = sized c t (is_true (is_sized (rules_of c) c t) (and_right (is_sized (rules_of c) c s) _ v)) in
    let n = ltb→lt c.n (rules_of c).variables (and_right (is_sized (rules_of c) c s && is_sized (rules_of c) c t) _ u) in
    let m = leb→le p ((rules_of c).edges - c.m) (and_right (is_sized (rules_of c) c s && is_sized (rules_of c) c t && ltb c.n (rules_of c).variables) _ h) in
    (limited, (n, omega (arith, limited.edges)), (long, other))

-- there is room
right : (c : Then-has_room) → let a = c.args in has_room a.case a.edges (length a.starting.now) (length a.table.now) ≡ true
right c = sym c.has_room.ensures ∙ c.if-has_room.true

pub grow_checked-requires : goal.grow_checked-requires
grow_checked-requires c = let a = c.args in
    let (limited, room, long) = roomy a.case a.edges (length a.starting.now) (length a.table.now) (true-is _ (right (goal.at.grow_checked-requires c).Then-has_room)) in
    record { limited = limited; n_bound = room; starting_len = long }
