use mathlib.Core.Path.{sym, ap, ◌∙◌}
use mir.Syntax.{w64}
use borrow.Author.Rules.{rules}
use Rattle.std.specs.Prelude.{Some}
use Rattle.integers.specs.Linear.{read_back}
use Rattle.engine.proofs.press_or_void.Goals as goal

pub returns-in-None : goal.returns-in-None
returns-in-None c =
    let f = c.requires.0 in
    (c.void_line.ensures c.args.table.now c.args.best.now f (sym (sym c.in-None.is ∙ c.least_gap-least.ensures)), f.greatest-held)

pub press_round-requires : goal.press_round-requires
press_round-requires c =
    record {
      found = (c.requires.0, sym c.least_gap-least.ensures ∙ c.in-Some.is ∙ ap Some (sym (read_back w64 c.in-Some.amount (search rules))));
      case_in_bounds = c.requires.1;
    }
