use Rattle.std.proofs.Common.{◌≡◌, ◌∙◌, rules, not}
use Rattle.std.specs.Prelude.{count_by, pos, ℤ}
use Rattle.integers.specs.Words.{eq_z}
use Rattle.drivers.proofs.Laws.{not-zero-count}
use Rattle.drivers.proofs.not_zero.Goals as goal

pub returns : goal.returns
returns c =
    let e : c.count.result ≡ count_by (λ (z : ℤ). not (eq_z z (pos 0))) c.args.weights.now = search rules in e ∙ not-zero-count c.args.weights.now
