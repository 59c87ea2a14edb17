use borrow.Author.Tests.{not-false}
use Rattle.lines.proofs.quick_scope.Goals as goal

pub returns : goal.returns
returns c = λ width long h. let i = c.is_raise in
    i.ensures (not-false i.result c.if-not-is_raise.false-raw) width c.small_number.result long (c.small_number.ensures h)
