use Rattle.case_lines.specs.Dues.{bytes_of_line}
use Rattle.definitions.specs.Rules.{rules_in}
use Rattle.definitions.specs.CaseFiles.{case_text}
use Rattle.case_lines.specs.Dues.{case_with}
use Rattle.case_lines.proofs.Dues.{count-is, first-at, next-at, lines-few, due-known, most_lines}
use Rattle.case_lines.proofs.Tests.{limited-plain}
use Rattle.case_theory.proofs.CaseDues.{line_of}
use mathlib.Core.Path.{◌≡◌, refl, sym, ap, subst, ◌∙◌}
use Prim.Native.Nat.{◌+◌, ◌*◌, ◌≤◌, ◌<◌}
use native.Mathlib.Omega.{arith}
use lib.ListN.{length}
use Rattle.definitions.specs.Lines.{overwritten}
use Rattle.case_lines.specs.Dues.{SizesLimited, due_awaited, InCase, AtLine, due_at, lines_due}
use Rattle.case_writer.proofs.Writes.{case_written, lines-written-all, valid-limited, head-line-fits, case-line-fits, put_first, put_next}
use Rattle.case_writer.proofs.Writes.{case-line-room, over-twice}
use Rattle.case_writer.proofs.put_lines.Goals as goal
use Rattle.case_writer.proofs.put_lines.Goals.{After-line_after-line, After-lines_due-total, After-put_at, In-loop-q, Start}

limited : (a : Start) → SizesLimited a.args.sizes
limited a = valid-limited a.args.sizes a.args.lower.now a.args.upper.now a.args.table.now a.requires.valid

total : (c : After-lines_due-total) → c.lines_due-total.result ≡ lines_due c.args.sizes
total c = c.lines_due-total.ensures ∙ count-is c.args.sizes (limited (goal.at.After-lines_due-total c).Start)

-- the head is in its place
first : (c : After-put_at) → let a = c.args in
    let t = case_written a.sizes a.lower.now a.upper.now a.table.now 0 in
    (length t ≡ bytes_of_line a.sizes.rulebook * (0 + 1)) × (length c.put_at.new.out ≡ length a.out.now)
    × (c.put_at.new.out ≡ overwritten t a.out.now)
first c =
    put_first c.args.sizes c.args.lower.now c.args.upper.now c.args.table.now c.requires.valid c.args.out.now c.put_at.new.out
    (rw c.head_line.ensures at c.put_at.ensures) (omega arith)

-- there is room for line q
room : (c : In-loop-q) → let a = c.args in let b = a.sizes.rulebook in
    (c.loop-q.q < lines_due a.sizes) × (bytes_of_line b * (c.loop-q.q + 1) + bytes_of_line b ≤ length c.loop-q.out) × (c.loop-q.q < most_lines)
room c =
    let s = c.args.sizes in
    let h : c.loop-q.q < lines_due s = omega (arith, total (goal.at.In-loop-q c).After-lines_due-total, c.loop-q-test.true) in (
      h,
      case-line-room (bytes_of_line s.rulebook) c.loop-q.q (lines_due s) (length c.loop-q.out) h
          (omega (arith, c.loop-q.invariant.1, (first (goal.at.In-loop-q c).After-put_at).1, c.requires.sizes_in_bounds)),
      omega (arith, h, lines-few s (limited-plain s (limited (goal.at.In-loop-q c).Start))),
    )

-- the byte of line q
line-byte : (c : In-loop-q) → c.line_length-long.result * (c.loop-q.q + 1) ≡ bytes_of_line c.args.sizes.rulebook * (c.loop-q.q + 1)
line-byte c = ap (λ n. n * (c.loop-q.q + 1)) c.line_length-long.ensures

-- what is due at line q, and its line
known : (c : In-loop-q) → let a = c.args in
    (due_awaited c.loop-q.due ≡ due_at a.sizes c.loop-q.q) × InCase a.sizes c.loop-q.due
known c = due-known c.args.sizes c.loop-q.q c.loop-q.due (c.loop-q.invariant.3 (room c).0)

line-is : (c : After-line_after-line) → let a = c.args in
    c.line_after-line.result ≡ line_of (case_with a.sizes a.lower.now a.upper.now) a.table.now (due_at a.sizes c.loop-q.q)
line-is c =
    let a = c.args in
    c.line_after-line.ensures ∙ ap (line_of (case_with a.sizes a.lower.now a.upper.now) a.table.now) (known (goal.at.After-line_after-line c).In-loop-q).0

pub put_at-requires : goal.put_at-requires
put_at-requires c =
    let h : bytes_of_line c.args.sizes.rulebook ≤ length c.args.out.now = omega (arith, c.requires.sizes_in_bounds) in (
      omega (arith, h),
      rw c.head_line.ensures (head-line-fits c.args.sizes c.args.lower.now c.args.upper.now c.args.table.now
          c.requires.valid),
    )

pub loop-q-init : goal.loop-q-init
loop-q-init c =
    let a = c.args in
    let t = case_written a.sizes a.lower.now a.upper.now a.table.now 0 in
    let (n, k, e) = first (goal.at.loop-q-init c).After-put_at in (
      n,
      refl,
      e ∙ sym (over-twice t t a.out.now (omega arith))
          ∙ ap (overwritten t) (sym e),
      λ h. subst (AtLine a.sizes 0) (sym c.first_due-due.ensures) (first-at a.sizes (limited (goal.at.loop-q-init c).Start) h),
    )

pub put_at-requires-in-loop-q : goal.put_at-requires-in-loop-q
put_at-requires-in-loop-q c = (
  omega (arith, (room (goal.at.put_at-requires-in-loop-q c).In-loop-q).1, line-byte (goal.at.put_at-requires-in-loop-q c).In-loop-q),
  rw (line-is (goal.at.put_at-requires-in-loop-q c).After-line_after-line)
      (case-line-fits c.args.sizes c.args.lower.now c.args.upper.now c.args.table.now c.requires.valid c.loop-q.q (room (goal.at.put_at-requires-in-loop-q c).In-loop-q).0),
)

pub loop-q-preserved : goal.loop-q-preserved
loop-q-preserved c =
    let (n, e, f) = put_next c.args.sizes c.args.lower.now c.args.upper.now c.args.table.now c.requires.valid c.put_at.new.out
    c.loop-q.out c.put_at-in-loop-q.new.out c.loop-q.q
    (room (goal.at.loop-q-preserved c).In-loop-q).0 c.loop-q.invariant.0 c.loop-q.invariant.2 (room (goal.at.loop-q-preserved c).In-loop-q).1 (rw (line-is (goal.at.loop-q-preserved c).After-line_after-line, line-byte (goal.at.loop-q-preserved c).In-loop-q) at c.put_at-in-loop-q.ensures) in
    let due : c.loop-q.q + 1 < lines_due c.args.sizes → AtLine c.args.sizes (c.loop-q.q + 1) c.next_due-due.result = λ g. subst (AtLine c.args.sizes (c.loop-q.q + 1)) (sym c.next_due-due.ensures)
    (next-at c.args.sizes (limited (goal.at.loop-q-preserved c).Start) c.loop-q.due c.loop-q.q (c.loop-q.invariant.3 (room (goal.at.loop-q-preserved c).In-loop-q).0) g) in
    (n, e ∙ c.loop-q.invariant.1, f, due)

pub returns : goal.returns
returns c =
    let a = c.args in
    let t = case_written a.sizes a.lower.now a.upper.now a.table.now 0 in
    let x = case_text (rules_in a.sizes.rulebook) (case_with a.sizes a.lower.now a.upper.now) a.table.now in
    let w : case_written a.sizes a.lower.now a.upper.now a.table.now c.loop-q.q ≡ x = lines-written-all a.sizes a.lower.now a.upper.now a.table.now c.loop-q.q (omega (arith, total (goal.at.returns c).After-lines_due-total, c.loop-q-test.false)) in
    c.loop-q.invariant.2 ∙ ap (λ t. overwritten t c.put_at.new.out) w ∙ ap (overwritten x) (first (goal.at.returns c).After-put_at).2
    ∙ over-twice t x a.out.now (omega (arith, (first (goal.at.returns c).After-put_at).0, ap length w, c.loop-q.invariant.0))
