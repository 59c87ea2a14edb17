use mathlib.Core.Path.{ap, ◌∙◌}
use native.Mathlib.Omega.{arith}
use Rattle.std.specs.Prelude.{is_err}
use Rattle.integers.specs.Tests.{is_false}
use Rattle.lines.specs.AtWidth.{width_out}
use Rattle.lines.proofs.Answers.{width-within}
use Rattle.round_lines.proofs.Calls.{tried-told}
use Rattle.round_lines.proofs.too_wide.Goals as goal

pub returns : goal.returns
returns c =
    c.is_err.ensures.value ∙ ap is_err c.write_line_in.ensures.0
    ∙ tried-told c.args.width _ c.args.line c.requires (omega (arith, width-within c.args.width (is_false (width_out c.args.width) c.requires)))
