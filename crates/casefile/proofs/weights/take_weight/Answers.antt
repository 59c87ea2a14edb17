use Rattle.std.proofs.lemmas.Result.{err_from_is_err_and}
use mathlib.Core.Path.{refl, sym, ◌∙◌}
use borrow.Author.Rules.{rules}
use Rattle.tables.proofs.Order.{outcome-done, outcome-refused}
use Rattle.casefile.proofs.weights.take_weight.Goals as goal

pub returns-in_err-weigh : goal.returns-in_err-weigh
returns-in_err-weigh c =
    let o = outcome-refused (sym c.in_err-weigh.was ∙ c.weigh.ensures) in
    let p = err_from_is_err_and c.from_residual.result c.from_residual.ensures.1 in
    rw (p.1, p.2) (rw o (refl, refl))

pub returns : goal.returns
returns c = let o = outcome-done (sym c.in_ok-weigh.was ∙ c.weigh.ensures) in rw o (refl, search rules)
