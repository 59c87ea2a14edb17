use mathlib.Core.Path.{ap, sym, ◌∙◌}
use mathlib.Core.Bool.{Bool}
use Prim.Native.Nat.{◌≤◌}
use native.Mathlib.Omega.{arith}
use lib.ListN.{length}
use lib.Seq.{length-take-le}
use Rattle.std.specs.Prelude.{if◌then◌else◌}
use Rattle.arcs.specs.declared.Tried.{Tried}
use Rattle.definitions.specs.Rules.{variable_places}
use Rattle.arcs.proofs.Results.{well-formed, no-set-empty}
use Rattle.arcs.proofs.Trying.{empty-none}
use Rattle.arcs.proofs.Refutation.{too_many, no-variable, malformed, tried-known}
use Rattle.arcs.proofs.none_supported.Goals as goal

pub returns-then-n-gt-VARIABLE_PLACES : goal.returns-then-n-gt-VARIABLE_PLACES
returns-then-n-gt-VARIABLE_PLACES c =
    let a = c.args in
    too_many a.lower.now a.upper.now a.rows.now a.raised.now a.sets.now a.variable a.values (omega (arith, c.if-n-gt-VARIABLE_PLACES.true))

pub returns-then-n-variable : goal.returns-then-n-variable
returns-then-n-variable c =
    let a = c.args in
    no-variable a.lower.now a.upper.now a.rows.now a.raised.now a.sets.now a.variable a.values (omega (arith, c.if-n-variable.true))

pub returns-then-is_malformed : goal.returns-then-is_malformed
returns-then-is_malformed c =
    let a = c.args in
    malformed a.lower.now a.upper.now a.rows.now a.raised.now a.sets.now a.variable a.values
    (sym c.is_malformed.ensures ∙ c.if-is_malformed.true)

pub returns-then-has_empty : goal.returns-then-has_empty
returns-then-has_empty c =
    let a = c.args in
    sym (tried-known a.lower.now a.upper.now a.rows.now a.raised.now a.sets.now a.variable a.values
    (omega (arith, c.if-n-gt-VARIABLE_PLACES.false)) (omega (arith, c.if-n-variable.false))
    (sym c.is_malformed.ensures ∙ c.if-is_malformed.false)
    ∙ ap (λ (b : Bool). if b then Tried.Unsupported else Tried.Supported)
    (empty-none a.lower.now a.upper.now a.rows.now a.raised.now a.sets.now a.variable
    (omega (arith, c.if-n-variable.false)) (sym c.has_empty.ensures ∙ c.if-has_empty.true) a.values))

pub none_has-requires : goal.none_has-requires
none_has-requires c =
    let a = c.args in
    let few : length a.sets.now ≤ variable_places = omega (arith, c.if-n-gt-VARIABLE_PLACES.false) in
    record {
      well_formed = well-formed a.lower.now a.upper.now a.rows.now a.raised.now a.sets.now (sym c.is_malformed.ensures ∙ c.if-is_malformed.false);
      filled = (
        no-set-empty a.sets.now (sym c.has_empty.ensures ∙ c.if-has_empty.false),
        omega (arith, c.if-n-variable.false),
        length-take-le _ _ (omega (arith, few)),
        length-take-le _ _ (omega (arith, few)),
      );
    }

pub returns : goal.returns
returns c =
    let a = c.args in
    c.tried_of.ensures
    ∙ ap (λ (b : Bool). if b then Tried.Unsupported else Tried.Supported) c.none_has.ensures
    ∙ sym (tried-known a.lower.now a.upper.now a.rows.now a.raised.now a.sets.now a.variable a.values
    (omega (arith, c.if-n-gt-VARIABLE_PLACES.false)) (omega (arith, c.if-n-variable.false))
    (sym c.is_malformed.ensures ∙ c.if-is_malformed.false))
