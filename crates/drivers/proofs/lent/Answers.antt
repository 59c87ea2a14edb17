use mathlib.Core.Path.{◌≡◌, sym, ◌∙◌}
use mathlib.Core.Bool.{true}
use borrow.Author.Tests.{eq-eqb, ne_eqb}
use Rattle.definitions.specs.Rules.{rules_of}
use Rattle.definitions.specs.Case.{own_length}
use Rattle.definitions.specs.Valid.{within_limits}
use Rattle.drivers.specs.Taken.{lent_places}
use Rattle.drivers.proofs.lent.Goals as goal

pub returns-then-not-within_limits : goal.returns-then-not-within_limits
unfolding lent_places
returns-then-not-within_limits c = rw (sym c.within_limits.ensures ∙ c.if-not-within_limits.true)

pub returns-then-told-places_of : goal.returns-then-told-places_of
unfolding lent_places
returns-then-told-places_of c =
    let a = c.args in
    let right : within_limits (rules_of a.case) a.case.n a.case.d a.case.m ≡ true = sym c.within_limits.ensures ∙ c.if-not-within_limits.false in
    rw (right, ne_eqb a.told (own_length a.case) (λ e. c.if-told-places_of.true (e ∙ sym c.places_of.ensures)))

pub returns : goal.returns
unfolding lent_places
returns c =
    let a = c.args in
    let right : within_limits (rules_of a.case) a.case.n a.case.d a.case.m ≡ true = sym c.within_limits.ensures ∙ c.if-not-within_limits.false in
    rw (right, eq-eqb a.told (own_length a.case) (c.if-told-places_of.false ∙ c.places_of.ensures))
    (rw (c.variables-variables.ensures, c.edges.ensures) at c.places_of-2.ensures)
