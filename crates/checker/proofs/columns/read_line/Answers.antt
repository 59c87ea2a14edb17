use mathlib.Core.Path.{◌∙◌}
use Rattle.definitions.specs.Rules.{coherent, rules_of}
use Rattle.lines.proofs.AtRules.{read-at-rules}
use Rattle.checker.proofs.columns.read_line.Goals as goal

pub returns : goal.returns
returns c = let a = c.args in
    c.read_line_in.ensures ∙ read-at-rules (rules_of a.case) (coherent a.case.rulebook) c.amount_width.ensures a.bytes.now
