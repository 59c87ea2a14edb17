use Prim.Native.Nat.{◌<◌}
use Rattle.casefile.proofs.Left.{line_taken, line_refused, left_end}
use mathlib.Core.Path.{◌≡◌, sym, subst, ◌∙◌}
use Prim.Native.Nat.{◌+◌}
use native.Mathlib.Omega.{arith}
use Rattle.case_lines.specs.Dues.{due_awaited, InCase, AtLine, due_at, lines_due}
use Rattle.casefile.specs.Steps.{reading_of}
use Rattle.case_lines.proofs.Dues.{due-known, count-is, next-at}
use Rattle.casefile.proofs.Taken.{same-due-at}
use Rattle.casefile.proofs.body.read_lines.Goals as goal
use Rattle.casefile.proofs.body.read_lines.Goals.{After-lines_due-total, In-loop-q}

total : (c : After-lines_due-total) → c.lines_due-total.result ≡ lines_due c.args.sizes
total c = c.lines_due-total.ensures ∙ count-is c.args.sizes c.requires.sizes_limited

due-here : (c : In-loop-q) → c.loop-q.q < lines_due c.args.sizes
due-here c = omega (arith, total (goal.at.In-loop-q c).After-lines_due-total, c.loop-q-test.true)

known : (c : In-loop-q) → (due_awaited c.loop-q.due ≡ due_at c.args.sizes c.loop-q.q) × InCase c.args.sizes c.loop-q.due
known c = due-known c.args.sizes c.loop-q.q c.loop-q.due (c.loop-q.invariant.3 (due-here c))

pub returns-in-Err : goal.returns-in-Err
returns-in-Err c =
    let a = c.args in
    line_refused a.sizes c.loop-q.lower c.loop-q.upper c.loop-q.table c.loop-q.q a.bytes.now (due-here (goal.at.returns-in-Err c).In-loop-q)
    (same-due-at (known (goal.at.returns-in-Err c).In-loop-q).0 c.take_at.ensures) c.in-Err.is
    ∙ c.loop-q.invariant.2

pub loop-q-preserved : goal.loop-q-preserved
loop-q-preserved c =
    let a = c.args in
    let h = due-here (goal.at.loop-q-preserved c).In-loop-q in
    let (p, n, e) = line_taken a.sizes c.loop-q.lower c.loop-q.upper c.loop-q.table c.loop-q.q a.bytes.now h
    (same-due-at (known (goal.at.loop-q-preserved c).In-loop-q).0 c.take_at.ensures) c.in_default.is c.loop-q.invariant.0 in
    let due : c.loop-q.q + 1 < lines_due a.sizes → AtLine a.sizes (c.loop-q.q + 1) c.next_due-due.result =
    λ f. subst (AtLine a.sizes (c.loop-q.q + 1)) (sym c.next_due-due.ensures)
    (next-at a.sizes c.requires.sizes_limited c.loop-q.due c.loop-q.q (c.loop-q.invariant.3 h) f) in
    (p, n ∙ c.loop-q.invariant.1, sym e ∙ c.loop-q.invariant.2, due)

pub returns : goal.returns
returns c =
    let a = c.args in
    let e : c.loop-q.q ≡ c.lines_due-total.result = omega arith in
    sym (left_end a.sizes (reading_of a.sizes c.loop-q.lower c.loop-q.upper c.loop-q.table) c.lines_due-total.result a.bytes.now
    (omega (arith, total (goal.at.returns c).After-lines_due-total))) ∙ (rw e at c.loop-q.invariant.2)
