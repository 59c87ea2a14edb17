use mathlib.Core.Path.{◌≡◌, refl, sym, ap, subst, ◌∙◌}
use lib.ListN.{length, get_or, take}
use lib.Seq.{length-take-le}
use Rattle.arcs.specs.Tried.{tried_answer}
use Rattle.choice.specs.Choice.{says_unsupported, lowest_unsupported}
use Rattle.engine.specs.Search.{ChosenIn, ChosenIs}
use Rattle.engine.proofs.Asking.{edges_of}
use Rattle.engine.proofs.Choice.{chosen-in, chosen-says, lowest-chosen}
use borrow.Author.Rules.{rules}
use Rattle.definitions.specs.Rules.{edge_places}
use Rattle.engine.proofs.choosing.choose.Goals as goal
use Rattle.engine.proofs.choosing.choose.Goals.{Start}

ends : (c : Start) → (length c.args.case.lower ≡ edge_places) × (length c.args.case.upper ≡ edge_places)
ends c = (search rules, search rules)

pub returns : goal.returns
returns c =
    let a = c.args in
    let edges = edges_of a.case a.raised.now in
    let sets = take a.case.n a.acts.now in
    let e = sym (c.lowest_unsupported.ensures.value
    ∙ ap (lowest_unsupported a.case.lower a.case.upper a.acts.now a.rows.now edges) c.copy_from_slice.ensures.after) in (
      subst (ChosenIn a.case) e
          (chosen-in a.case (λ i. says_unsupported (tried_answer a.case.lower a.case.upper a.rows.now edges sets i (get_or a.acts.now i 0)))
          (length sets) (length-take-le a.case.n a.acts.now c.requires.1)),
      λ w p all.
          subst (ChosenIs a.case w) e
          (chosen-says a.case w (lowest_unsupported a.case.lower a.case.upper a.acts.now a.rows.now edges sets)
          (sym (lowest-chosen a.case w a.raised.now a.acts.now p all (λ j h. refl) (ends (goal.at.returns c).Start).0 (ends (goal.at.returns c).Start).1
          c.requires.0 c.requires.1))),
    )
