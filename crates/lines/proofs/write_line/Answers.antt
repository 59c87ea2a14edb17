use mathlib.Core.Path.{ap, ◌∙◌}
use Rattle.definitions.specs.declared.Rulebook.TheVariants.{Desk}
use Rattle.definitions.specs.Rules.{rules_in, coherent}
use Rattle.lines.proofs.AtRules.{write-at-rules}
use Rattle.lines.proofs.write_line.Goals as goal

pub returns : goal.returns
returns c =
    let a = c.args in
    let e = write-at-rules (rules_in Desk) (coherent Desk) c.amount_width.ensures a.out.now a.line in
    (c.write_line_in.ensures.0 ∙ ap (λ r. r.answer) e, c.write_line_in.ensures.1 ∙ ap (λ r. r.out) e)
