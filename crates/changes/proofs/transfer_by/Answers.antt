use mathlib.Core.Path.{◌≡◌, sym, ◌∙◌}
use mathlib.Core.Bool.{true}
use lib.IntN.{pos, neg_ℤ, ◌-ℤ◌}
use mir.Syntax.{w64}
use mir.Val.{SFits, to_z, of_z}
use mir.Facts.{to_z-of_z}
use Rattle.integers.specs.Tests.{true-is}
use Rattle.definitions.specs.Rules.{rules_in, coherent}
use Rattle.changes.specs.Spaced.{spaced_stay, spaced_add}
use Rattle.changes.proofs.SpacedLaws.{back_fits, back_is, stay-fits, inside-kept, stay-kept}
use Rattle.changes.proofs.transfer_by.Goals as goal
use Rattle.changes.proofs.transfer_by.Goals.{Else-not-spaced_stay-2, Start}

back-room : (s : Start) → SFits w64 (pos 0 -ℤ s.args.amount)
back-room s = back_fits (coherent s.args.rulebook) s.args.amount s.requires.t.0

back_at : (s : Start) → to_z w64 (of_z w64 (pos 0 -ℤ to_z w64 (of_z w64 s.args.amount))) ≡ neg_ℤ s.args.amount
back_at s = back_is s.args.amount s.ranges.amount (back-room s)

others-stay : (c : Else-not-spaced_stay-2) → let a = c.args in spaced_stay (rules_in a.rulebook) a.table.now a.start a.step a.count (neg_ℤ a.amount) ≡ true
others-stay c = rw (back_at (goal.at.Else-not-spaced_stay-2 c).Start) at (sym c.spaced_stay-2.ensures ∙ c.if-not-spaced_stay-2.false)

pub spaced_add-requires-2 : goal.spaced_add-requires-2
spaced_add-requires-2 c =
    let a = c.args in
    let kept = stay-kept a.table.now a.own a.start a.step a.count a.amount c.requires.by_index (rules_in a.rulebook) (neg_ℤ a.amount) in record {
      inside = rw (c.spaced_add.ensures, to_z-of_z c.ranges.amount)
          (inside-kept a.table.now a.own a.start a.step a.count a.amount c.requires.by_index c.requires.inside_2);
      sums_fit = (
        rw (c.spaced_add.ensures, back_at (goal.at.spaced_add-requires-2 c).Start, to_z-of_z c.ranges.amount)
            (stay-fits (coherent a.rulebook) (spaced_add a.table.now a.own 1 1 a.amount) a.start a.step a.count (neg_ℤ a.amount)
            (true-is _ (kept ∙ others-stay (goal.at.spaced_add-requires-2 c).Else-not-spaced_stay-2))),
        c.requires.t.1,
      );
    }
