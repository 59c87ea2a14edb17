use Rattle.std.specs.Prelude.{Result, Ok}
use Rattle.definitions.specs.declared.Refusal.{Refusal}
use mathlib.Core.Path.{◌≡◌, refl, ap, subst, ◌∙◌}
use Prim.Native.Nat.{ℕ, ◌≤◌}
use native.Mathlib.Omega.{arith}
use lib.ListN.{length}
use Rattle.definitions.specs.declared.Round.{Round}
use Rattle.definitions.specs.Rules.{rules_of}
use Rattle.definitions.specs.Engine.{round_bytes}
use Rattle.engine.specs.Rounds.{MadeRound, RunIs, stopped_run}
use Rattle.engine.proofs.Runs.{run-starts, run-goes-on, settled-run, void-run, run-leaves, run-limits}
use Rattle.engine.proofs.Runs.{still-settled, still-void, still-refused, still-made}
use Rattle.engine.proofs.run_checked.Goals as goal
use Rattle.engine.proofs.run_checked.Invariants.{Same}
use Rattle.engine.proofs.run_checked.Goals.{After-round_checked-made, At-loop-done}

-- there is room for a round
room : (c : At-loop-done) → round_bytes (rules_of c.args.case) c.args.case ≤ length c.loop-done.out
room c = omega (arith, c.requires.case_in_bounds, c.loop-done.invariant.0.outs)

did : (c : After-round_checked-made) → {r : Result Round Refusal} → c.round_checked-made.result ≡ r
    → MadeRound c.args.pairs c.args.case c.loop-done.table c.loop-done.out c.round_checked-made.new.table
    c.round_checked-made.new.out r
did c e =
    subst (MadeRound c.args.pairs c.args.case c.loop-done.table c.loop-done.out c.round_checked-made.new.table
    c.round_checked-made.new.out) e
    c.round_checked-made.ensures.0

same : (c : After-round_checked-made) → let a = c.args in
    Same a.table.now c.round_checked-made.new.table a.out.now c.round_checked-made.new.out a.best.now
    c.round_checked-made.new.best
same c = let k = c.round_checked-made.auto in let s = c.loop-done.invariant.0 in record {
  tables = k.table ∙ s.tables;
  outs = k.out ∙ s.outs;
  bests = k.best ∙ s.bests;
}

pub loop-done-init : goal.loop-done-init
loop-done-init c =
    let a = c.args in (
      record { tables = refl; outs = refl; bests = refl },
      c.requires.handed.0,
      c.requires.handed.1,
      run-starts a.pairs a.case a.limit a.table.now
          a.out.now,
    )

pub stop_run-requires-in-Settled : goal.stop_run-requires-in-Settled
stop_run-requires-in-Settled c =
    (still-settled c.loop-done.invariant.1 (room (goal.at.stop_run-requires-in-Settled c).At-loop-done) (did (goal.at.stop_run-requires-in-Settled c).After-round_checked-made (c.in-Ok.is ∙ ap Ok c.in-Settled.is)), c.round_checked-made.ensures.1)

pub returns-in-Settled : goal.returns-in-Settled
returns-in-Settled c =
    let a = c.args in
    let l = c.loop-done in
    rw c.stop_run-in-Settled.ensures
    (settled-run a.pairs a.case a.limit a.table.now a.out.now l.done l.table l.out l.invariant.1 (room (goal.at.returns-in-Settled c).At-loop-done) l.invariant.3
    (omega arith)
    (did (goal.at.returns-in-Settled c).After-round_checked-made (c.in-Ok.is ∙ ap Ok c.in-Settled.is)))

pub stop_run-requires : goal.stop_run-requires
stop_run-requires c =
    (still-refused c.loop-done.invariant.1 (room (goal.at.stop_run-requires c).At-loop-done) (did (goal.at.stop_run-requires c).After-round_checked-made c.in-Err.is), c.round_checked-made.ensures.1)

pub returns-in-Err : goal.returns-in-Err
returns-in-Err c =
    let a = c.args in
    let l = c.loop-done in
    rw c.stop_run.ensures
    (run-leaves a.pairs a.case a.limit a.table.now a.out.now l.done l.table l.out l.invariant.1 (room (goal.at.returns-in-Err c).At-loop-done) l.invariant.3
    (omega arith)
    (did (goal.at.returns-in-Err c).After-round_checked-made c.in-Err.is))

pub stop_run-requires-in-Void : goal.stop_run-requires-in-Void
stop_run-requires-in-Void c =
    (still-void c.loop-done.invariant.1 (room (goal.at.stop_run-requires-in-Void c).At-loop-done) (did (goal.at.stop_run-requires-in-Void c).After-round_checked-made (c.in-Ok.is ∙ ap Ok c.in-Void.is)), c.round_checked-made.ensures.1)

pub returns-in-Void : goal.returns-in-Void
returns-in-Void c =
    let a = c.args in
    let l = c.loop-done in
    rw c.stop_run-in-Void.ensures
    (void-run a.pairs a.case a.limit a.table.now a.out.now l.done l.table l.out l.invariant.1 (room (goal.at.returns-in-Void c).At-loop-done) l.invariant.3
    (omega arith)
    (did (goal.at.returns-in-Void c).After-round_checked-made (c.in-Ok.is ∙ ap Ok c.in-Void.is)))

pub loop-done-preserved : goal.loop-done-preserved
loop-done-preserved c =
    let a = c.args in
    let l = c.loop-done in
    let d = did (goal.at.loop-done-preserved c).After-round_checked-made (c.in-Ok.is ∙ ap Ok c.in-Made.is) in (
      same (goal.at.loop-done-preserved c).After-round_checked-made,
      still-made l.invariant.1 (room (goal.at.loop-done-preserved c).At-loop-done) d,
      c.round_checked-made.ensures.1,
      run-goes-on a.pairs a.case a.limit a.table.now a.out.now l.done l.table l.out l.invariant.1 (room (goal.at.loop-done-preserved c).At-loop-done) l.invariant.3
          (omega arith) d,
    )

pub returns : goal.returns
returns c =
    let a = c.args in
    let l = c.loop-done in
    let all : l.done ≡ a.limit = omega arith in
    rw c.stop_run-2.ensures
    (subst (λ (n : ℕ). RunIs a.pairs a.case a.limit a.table.now a.out.now l.table c.at_limit-answer.new.out
    (stopped_run a.case l.table c.at_limit-answer.result n)) all (run-limits a.pairs a.case a.limit a.table.now a.out.now l.done l.table l.out l.invariant.1 (room (goal.at.returns c).At-loop-done) l.invariant.3
    (omega arith) c.at_limit-answer.ensures))
