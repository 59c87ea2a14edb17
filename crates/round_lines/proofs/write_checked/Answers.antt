use mathlib.Core.Path.{◌≡◌, refl, ap, sym, ◌∙◌}
use mathlib.Core.List.{List}
use Prim.Native.Nat.{ℕ, ◌*◌, ◌^◌, ◌≤◌, ◌<◌}
use native.Mathlib.Omega.{arith}
use borrow.Author.Tests.{lt-ltb, le-ltb}
use lib.ListN.{length}
use Rattle.integers.specs.Tests.{false-is}
use Rattle.definitions.specs.declared.Line.{Line}
use Rattle.definitions.specs.Rules.{rules_of, coherent}
use Rattle.definitions.specs.Case.{scope_count}
use Rattle.definitions.specs.Lines.{line_length}
use Rattle.calls.specs.Calls.{WriteCall}
use Rattle.round_lines.specs.Press.{raised_below, entry_lines, first_line, last_lines, put_call, checked_call}
use Rattle.lines.specs.AtWidth.{width_out}
use Rattle.lines.proofs.AtRules.{width-in}
use Rattle.round_lines.proofs.Texts.{raised-few, raised-taken}
use Rattle.round_lines.proofs.Calls.{last-few, entry-count, checked-put}
use Rattle.round_lines.proofs.write_checked.Goals as goal
use Rattle.round_lines.proofs.write_checked.Goals.{After-count_raised-count, After-first_line-first, After-line_count, After-lines_length, Else-out-lines_length, Start}

abbrev raised_here : Start → List ℕ
raised_here s = raised_below s.args.raised.now (scope_count s.args.case)

abbrev lines_here : Start → List Line
lines_here s = entry_lines s.args.entry s.args.variable (raised_here s)

-- so many scopes, and so many of them raised
few : (s : Start) → scope_count s.args.case < 10 ^ 4
few s = let l = s.requires.0 in omega (arith, (coherent s.args.case.rulebook).scopes-few, l.variables, l.edges)

count-is : (c : After-count_raised-count) → c.count_raised-count.result ≡ length (raised_here (goal.at.After-count_raised-count c).Start)
count-is c = c.count_raised-count.ensures ∙ ap length (raised-taken c.args.raised.now (scope_count c.args.case) c.requires.1)

counted : (c : After-count_raised-count) → c.count_raised-count.result ≤ scope_count c.args.case
counted c =
    let a = c.args in
    omega (arith, count-is c, raised-few a.raised.now (scope_count a.case))

pub line_count-requires : goal.line_count-requires
line_count-requires c = omega (arith, counted c, few (goal.at.line_count-requires c).Start)

-- so many lines
lines_are : (c : After-line_count) → c.line_count.result ≡ length (lines_here (goal.at.After-line_count c).Start)
lines_are c =
    (rw (count-is (goal.at.After-line_count c).After-count_raised-count) at c.line_count.ensures) ∙ sym (entry-count c.args.entry c.args.variable (raised_here (goal.at.After-line_count c).Start))

pub lines_length-requires : goal.lines_length-requires
lines_length-requires c =
    (c.requires.0, omega (arith, c.line_count.ensures, counted (goal.at.lines_length-requires c).After-count_raised-count, last-few c.args.entry))

-- the bytes asked
asked : (c : After-lines_length) → c.lines_length.result ≡ line_length (rules_of c.args.case).amount_width * length (lines_here (goal.at.After-lines_length c).Start)
asked c = rw (lines_are (goal.at.After-lines_length c).After-line_count) at c.lines_length.ensures

room : (c : Else-out-lines_length) → line_length (rules_of c.args.case).amount_width * length (lines_here (goal.at.Else-out-lines_length c).Start) ≤ length c.args.out.now
room c = omega (arith, asked (goal.at.Else-out-lines_length c).After-lines_length, c.if-out-lines_length.false)

pub returns-then-out-lines_length : goal.returns-then-out-lines_length
returns-then-out-lines_length c =
    let lines = asked (goal.at.returns-then-out-lines_length c).After-lines_length in
    let short = lt-ltb (length c.args.out.now)
    (line_length (rules_of c.args.case).amount_width * length (lines_here (goal.at.returns-then-out-lines_length c).Start))
    (omega (arith, lines, c.if-out-lines_length.true)) in
    record { value = rw short; out_after = rw short }

pub returns-then-case-variable-clause-value : goal.returns-then-case-variable-clause-value
returns-then-case-variable-clause-value c =
    rw (
      le-ltb (length c.args.out.now) (line_length (rules_of c.args.case).amount_width * length (lines_here (goal.at.returns-then-case-variable-clause-value c).Start))
          (room (goal.at.returns-then-case-variable-clause-value c).Else-out-lines_length),
      le-ltb c.args.variable c.args.case.n c.if-case-variable.true,
    )

pub first_line-first-requires : goal.first_line-first-requires
first_line-first-requires c =
    (omega (arith, few (goal.at.first_line-first-requires c).Start, c.if-case-variable.false), omega (arith, counted (goal.at.first_line-first-requires c).After-count_raised-count, few (goal.at.first_line-first-requires c).Start))

first-is : (c : After-first_line-first) → c.first_line-first.result ≡ first_line c.args.entry c.args.variable (length (raised_here (goal.at.After-first_line-first c).Start))
first-is c = rw (count-is (goal.at.After-first_line-first c).After-count_raised-count) at c.first_line-first.ensures

pub returns : goal.returns
returns c =
    let a = c.args in
    let call : put_call c.amount_width.result c.first_line-first.result (last_lines a.entry) (raised_here (goal.at.returns c).Start) a.out.now
    ≡ checked_call (rules_of a.case) a.case a.out.now a.variable (lines_here (goal.at.returns c).Start) = rw (c.amount_width.ensures, first-is (goal.at.returns c).After-first_line-first)
    (checked-put a.case a.out.now a.raised.now a.variable a.entry (room (goal.at.returns c).Else-out-lines_length) (omega (arith, c.if-case-variable.false))
    (false-is (width_out (rules_of a.case).amount_width) (width-in (rules_of a.case) (coherent a.case.rulebook) refl)) (omega (arith, few (goal.at.returns c).Start))) in
    let taken = ap (λ (xs : List ℕ). put_call c.amount_width.result c.first_line-first.result (last_lines a.entry) xs a.out.now)
    (raised-taken a.raised.now (scope_count a.case) c.requires.1) ∙ call in
    record { value = c.write_lines.ensures.value ∙ ap (λ (u : WriteCall). u.answer) taken; out_after = c.write_lines.ensures.out_after ∙ ap (λ (u : WriteCall). u.out) taken }
