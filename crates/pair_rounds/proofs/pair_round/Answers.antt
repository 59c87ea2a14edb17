use mathlib.Core.Path.{sym, ◌∙◌}
use native.Mathlib.Omega.{arith}
use Rattle.integers.specs.Tests.{true-is, false-is}
use Rattle.tables.proofs.Answered.{limits-known}
use Rattle.pair_choice.proofs.Pairs.{leaves-is}
use Rattle.pair_rounds.proofs.Rounds.{best-found, pair-round-refused}
use Rattle.pair_rounds.proofs.pair_round.Goals as goal

pub returns-then-leaves_range : goal.returns-then-leaves_range
returns-then-leaves_range c =
    pair-round-refused c.args.out.now c.requires.handed.0 c.requires.handed.1 c.requires.case_in_bounds
    (true-is _ (sym (c.leaves_range.ensures ∙ leaves-is c.requires.handed.0 c.args.edge c.requires.handed.1) ∙ c.if-leaves_range.true))

pub shift_pair-requires : goal.shift_pair-requires
shift_pair-requires c =
    let h = c.requires.handed.0 in record {
      ready = record {
        handed = h;
        greatest-held = best-found _ _ h (omega (arith, (limits-known h).scopes-placed)) c.greatest_weights.ensures.1;
        edge = c.requires.handed.1;
      };
      t = (false-is _ (sym (c.leaves_range.ensures ∙ leaves-is h c.args.edge c.requires.handed.1) ∙ c.if-leaves_range.false), c.requires.case_in_bounds);
    }
