use mathlib.Core.Path.{ap, ◌∙◌}
use Rattle.choice.specs.Choice.{lowest_unsupported}
use Rattle.choice.proofs.Firsts.{lowest-narrowed}
use Rattle.choice.proofs.lowest_unsupported.Goals as goal

pub returns : goal.returns
returns c =
    let a = c.args in record {
      value = c.lowest_in.ensures
          ∙ ap (lowest_unsupported a.lower.now a.upper.now a.acts.now a.rows.now a.edges.now)
          c.closure.ensures.sets_after
          ∙ lowest-narrowed a.lower.now a.upper.now a.acts.now a.rows.now a.edges.now a.sets.now;
      sets_after = c.closure.ensures.sets_after;
    }
