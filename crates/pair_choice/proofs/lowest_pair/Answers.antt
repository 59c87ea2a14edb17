use mathlib.Core.Path.{◌≡◌, sym, ◌∙◌}
use mathlib.Core.Bool.{true, false}
use native.Mathlib.Omega.{arith}
use lib.Dec.{ltb}
use lib.ListN.{length}
use borrow.Author.Tests.{lt-ltb, le-ltb}
use Rattle.integers.specs.Tests.{tests}
use Rattle.definitions.specs.Rules.{rules_of}
use Rattle.definitions.specs.Case.{scope_count}
use Rattle.tables.specs.Scopes.{is_sized}
use Rattle.pair_choice.specs.PairChoice.{marks_short, lowest_pair_answer}
use Rattle.pair_choice.proofs.Ranges.{sized-known}
use Rattle.pair_choice.proofs.lowest_pair.Goals as goal
use Rattle.pair_choice.proofs.lowest_pair.Goals.{Else-best-case, Else-marks_short, Else-not-is_sized}

pub returns-then-not-is_sized : goal.returns-then-not-is_sized
unfolding lowest_pair_answer
returns-then-not-is_sized c = rw (sym c.is_sized.ensures ∙ c.if-not-is_sized.true)

right : (c : Else-not-is_sized) → let a = c.args in is_sized (rules_of a.case) a.case (length a.table.now) ≡ true
right c = sym c.is_sized.ensures ∙ c.if-not-is_sized.false

pub returns-then-best-case : goal.returns-then-best-case
unfolding lowest_pair_answer
returns-then-best-case c =
    let a = c.args in
    rw (right (goal.at.returns-then-best-case c).Else-not-is_sized, lt-ltb (length a.best.now) (scope_count a.case) c.if-best-case.true)

long : (c : Else-best-case) → let a = c.args in ltb (length a.best.now) (scope_count a.case) ≡ false
long c = let a = c.args in le-ltb (length a.best.now) (scope_count a.case) c.if-best-case.false

pub returns-then-marks_short : goal.returns-then-marks_short
unfolding lowest_pair_answer
returns-then-marks_short c =
    rw (right (goal.at.returns-then-marks_short c).Else-not-is_sized, long (goal.at.returns-then-marks_short c).Else-best-case, sym c.marks_short.ensures ∙ c.if-marks_short.true)

enough : (c : Else-marks_short) → let a = c.args in
    marks_short a.case (length a.acts.now) (length a.rows.now) ≡ false
enough c = sym c.marks_short.ensures ∙ c.if-marks_short.false

pub lowest_in-requires : goal.lowest_in-requires
lowest_in-requires c =
    let a = c.args in
    let p = simp tests at (enough c) in
    (sized-known a.case a.table.now (right (goal.at.lowest_in-requires c).Else-not-is_sized), c.if-best-case.false, omega (arith, p.1))

pub returns : goal.returns
unfolding lowest_pair_answer
returns c =
    rw (right (goal.at.returns c).Else-not-is_sized, long (goal.at.returns c).Else-best-case, enough (goal.at.returns c).Else-marks_short) c.lowest_in.ensures
