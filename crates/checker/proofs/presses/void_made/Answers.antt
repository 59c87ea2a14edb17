use mathlib.Core.Path.{◌≡◌, sym, ◌∙◌}
use Prim.Native.Nat.{◌+◌, ◌≤◌}
use native.Mathlib.Omega.{arith}
use lib.ListN.{length}
use Rattle.definitions.specs.Moves.{active_values}
use Rattle.definitions.specs.Replay.{all_barred}
use Rattle.calls.specs.Calls.{is_raised}
use Rattle.tables.proofs.Answered.{limits-known}
use Rattle.bars.proofs.Barring.{rest-barred-is}
use Rattle.checker.proofs.presses.void_made.Goals as goal
use Rattle.checker.proofs.presses.void_made.Goals.{After-rest_barred}

-- what is asked is the barring condition
told : (c : After-rest_barred) → let a = c.args in
    all_barred a.case a.table.now a.variable (active_values a.case a.table.now a.variable) (is_raised a.raised.now)
    ≡ c.rest_barred.result
told c =
    let a = c.args in
    let h = c.requires.handed in
    let q = c.requires.raised_len in
    let room : a.case.n + a.case.m ≤ length a.raised.now = omega (arith, (limits-known h).scopes-placed, q.0) in
    sym (c.rest_barred.ensures ∙ rest-barred-is h c.requires.best_of a.raised.now a.variable room q.1)

pub returns-then-rest_barred : goal.returns-then-rest_barred
returns-then-rest_barred c = rw (told (goal.at.returns-then-rest_barred c).After-rest_barred ∙ c.if-rest_barred.true)

pub returns : goal.returns
returns c = rw (told (goal.at.returns c).After-rest_barred ∙ c.if-rest_barred.false)
