use Rattle.std.proofs.lemmas.Result.{err_from_is_err_and}
use mathlib.Core.Path.{sym, ap, ◌∙◌}
use mir.Syntax.{w64}
use borrow.Author.Rules.{rules}
use lib.IntN.{nat_abs}
use lib.ListN.{set}
use Rattle.integers.specs.Linear.{read_back}
use Rattle.casefile.proofs.Taken.{edge-refused, ends-left}
use Rattle.casefile.proofs.edges.take_ends.Goals as goal

pub returns-in_err-check_ends : goal.returns-in_err-check_ends
returns-in_err-check_ends c =
    let a = c.args in
    let p = err_from_is_err_and c.from_residual.result c.from_residual.ensures.1 in
    rw (p.1, p.2) (edge-refused a.sizes.n a.lower.now a.upper.now a.e a.line
    (set a.lower.now a.e (nat_abs a.line.b)) (set a.upper.now a.e (nat_abs a.line.c))
    (sym c.in_err-check_ends.was ∙ c.check_ends.ensures))

pub returns : goal.returns
returns c =
    let a = c.args in
    rw (ends-left a.sizes.n a.lower.now a.upper.now a.e a.line
    (sym c.in_ok-check_ends.was ∙ c.check_ends.ensures))
    (rw (
      c.end_of.ensures ∙ ap nat_abs (read_back w64 a.line.b (search rules)),
      c.end_of-2.ensures ∙ ap nat_abs (read_back w64 a.line.c (search rules)),
    ) at c.join.ensures)
