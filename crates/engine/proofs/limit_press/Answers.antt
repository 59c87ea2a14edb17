use mathlib.Core.Path.{sym, ◌∙◌}
use Rattle.engine.proofs.Rounds.{next-pressed, next-voids}
use Rattle.engine.proofs.Runs.{limit-round, limit-void}
use Rattle.engine.proofs.limit_press.Goals as goal

pub returns-in-Some : goal.returns-in-Some
returns-in-Some c =
    let f = c.requires.0 in
    limit-round f.handed c.requires.1 (next-pressed f (sym (sym c.in-Some.is ∙ c.least_gap-least.ensures)))

pub returns-in-None : goal.returns-in-None
returns-in-None c =
    let f = c.requires.0 in
    let least = sym (sym c.in-None.is ∙ c.least_gap-least.ensures) in
    limit-void f.handed c.requires.1 (next-voids f least) (c.void_line.ensures c.args.table.now c.args.best.now f least).output
