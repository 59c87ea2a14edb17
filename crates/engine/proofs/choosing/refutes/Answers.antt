use borrow.Author.Rules.{rules}
use mathlib.Core.Path.{◌≡◌, refl, ap, ap₂, ◌∙◌}
use Prim.Native.Nat.{ℕ, ◌≤◌}
use native.Mathlib.Omega.{arith}
use lib.ListN.{length}
use Rattle.std.specs.Prelude.{if◌then◌else◌}
use Rattle.choice.specs.Choice.{says_unsupported}
use Rattle.engine.proofs.Asking.{asked-says}
use Rattle.definitions.specs.Rules.{edge_places}
use Rattle.calls.specs.Calls.{is_raised}
use Rattle.engine.proofs.choosing.refutes.Goals as goal
use Rattle.engine.proofs.choosing.refutes.Goals.{After-allow, Start}

room : (c : After-allow) → c.args.case.n ≤ length c.allow.new.sets
room c = omega (arith, c.requires.3, c.allow.auto.sets)

ends : (c : Start) → (length c.args.case.lower ≡ edge_places) × (length c.args.case.upper ≡ edge_places)
ends c = (search rules, search rules)

pub returns : goal.returns
returns c = λ w p.
    let a = c.args in
    let q = c.allow in
    c.is_unsupported.ensures ∙ ap says_unsupported c.none_supported.ensures
    ∙ asked-says a.case w a.raised.now q.new.sets (is_raised a.raised.now) p
    (λ j h. q.ensures j h ∙ ap₂ (λ (v full : ℕ). if is_raised a.raised.now j then v else full) (p.acts-are j h)
    c.full.ensures)
    (λ e g. refl) (ends (goal.at.returns c).Start).0 (ends (goal.at.returns c).Start).1 c.requires.0 (room (goal.at.returns c).After-allow) a.variable c.requires.2
