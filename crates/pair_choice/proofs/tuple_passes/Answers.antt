use mathlib.Core.Path.{◌≡◌, sym, ap, ◌∙◌}
use mathlib.Core.Bool.{not}
use mir.Syntax.{w64}
use mir.Facts.{to_z-of_z}
use Rattle.integers.specs.Linear.{read_back}
use Rattle.definitions.specs.Case.{is_barred}
use Rattle.pair_choice.specs.PairChoice.{shifted_of}
use Rattle.pair_choice.proofs.tuple_passes.Goals as goal
use Rattle.pair_choice.proofs.tuple_passes.Goals.{After-is_barred}

told : (c : After-is_barred) → is_barred c.args.weight ≡ c.is_barred.result
told c = sym (c.is_barred.ensures ∙ ap is_barred (to_z-of_z c.ranges.weight))

pub returns : goal.returns
returns c =
    rw (told (goal.at.returns c).After-is_barred ∙ c.if-is_barred.false) (ap not (rw (
      read_back w64 c.shifted.result c.shifted.type_inv ∙ c.shifted.ensures ∙ ap shifted_of (to_z-of_z c.ranges.own),
      read_back w64 c.shifted-2.result c.shifted-2.type_inv ∙ c.shifted-2.ensures ∙ ap shifted_of (to_z-of_z c.ranges.other),
      to_z-of_z c.ranges.weight,
      to_z-of_z c.ranges.most,
    ) at c.tuple_stays.ensures))
