use mathlib.Core.Path.{ap, ◌∙◌}
use Rattle.pair_rounds.proofs.Texts.{line_at}
use Rattle.pair_rounds.proofs.put_line.Goals as goal

pub returns : goal.returns
returns c =
    let a = c.args in
    let p = line_at a.case a.out.now a.at a.line c.requires.0 c.requires.1 c.amount_width.ensures c.put_line_in-put.ensures.1 in
    (ap (λ q. q.at) c.put_line_in-put.ensures.0 ∙ p.0, p.1)
