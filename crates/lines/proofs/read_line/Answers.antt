use mathlib.Core.Path.{◌∙◌}
use Rattle.definitions.specs.declared.Rulebook.TheVariants.{Desk}
use Rattle.definitions.specs.Rules.{rules_in, coherent}
use Rattle.lines.proofs.AtRules.{read-at-rules}
use Rattle.lines.proofs.read_line.Goals as goal

pub returns : goal.returns
returns c =
    c.read_line_in.ensures ∙ read-at-rules (rules_in Desk) (coherent Desk) c.amount_width.ensures c.args.bytes.now
