use mathlib.Core.Path.{ap, ◌∙◌}
use Rattle.integers.specs.Words.{any}
use Rattle.definitions.specs.Rules.{coherent}
use Rattle.definitions.specs.Case.{is_barred}
use Rattle.theory.proofs.Validity.{working-handed}
use Rattle.tables.proofs.Answered.{scope-weights-known}
use Rattle.leaving.proofs.Growth.{part-some-barred}
use Rattle.leaving.proofs.carry.scope_barred.Goals as goal

pub returns : goal.returns
returns c = let a = c.args in
    c.any_barred.ensures
    ∙ ap (any is_barred) (c.scope_weights.ensures ∙ scope-weights-known (working-handed (coherent a.case.rulebook) c.requires.handed) a.x c.requires.x_bound)
    ∙ part-some-barred a.case a.starting.now c.requires.handed.own-fits a.x c.requires.x_bound
