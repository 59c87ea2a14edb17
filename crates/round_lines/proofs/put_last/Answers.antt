use mathlib.Core.Path.{◌≡◌}
use mir.Syntax.{w64}
use borrow.Author.Rules.{rules}
use Rattle.integers.specs.Linear.{read_back}
use Rattle.definitions.specs.RoundLines.{bound_line}
use Rattle.round_lines.proofs.Texts.{put_alone}
use Rattle.round_lines.proofs.put_last.Goals as goal
use Rattle.round_lines.proofs.put_last.Goals.{After-bound_line}

pub returns-in-Press : goal.returns-in-Press
returns-in-Press c =
    let e : c.bound_line.result ≡ bound_line c.in-Press.bound =
    rw (read_back w64 c.in-Press.bound (search rules)) at c.bound_line.ensures in
    let f = rw e at c.put_line.ensures in
    rw c.in-Press.is (put_alone c.args.width (bound_line c.in-Press.bound) f.0 f.1)
