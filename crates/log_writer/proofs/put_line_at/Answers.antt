use mathlib.Core.Path.{ap, ◌∙◌}
use Rattle.definitions.specs.declared.Rulebook.TheVariants.{Desk}
use Rattle.definitions.specs.Rules.{rules_in, coherent}
use Rattle.log_writer.specs.Writers.{put_of}
use Rattle.log_writer.proofs.Puts.{put-at-rules}
use Rattle.log_writer.proofs.put_line_at.Goals as goal

pub returns : goal.returns
returns c =
    let a = c.args in
    let e = put-at-rules (rules_in Desk) (coherent Desk) c.amount_width.ensures a.out.now a.at a.line in
    (c.put_line_in.ensures.0 ∙ ap put_of e, c.put_line_in.ensures.1 ∙ ap (λ r. r.out) e)
