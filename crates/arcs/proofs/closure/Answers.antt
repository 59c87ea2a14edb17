use mathlib.Core.Path.{◌≡◌, sym, ◌∙◌}
use lib.ListN.{length, replicate}
use borrow.Author.Rules.{rules}
use native.Mathlib.Omega.{arith}
use Rattle.arcs.proofs.Results.{malformed-answer, well-formed, family-answer, empty-answer}
use Rattle.arcs.proofs.closure.Goals as goal

pub returns-then-is_malformed : goal.returns-then-is_malformed
returns-then-is_malformed c =
    let s = c.args in
    let h = malformed-answer s.lower.now s.upper.now s.rows.now s.raised.now s.sets.now
    (sym c.is_malformed.ensures ∙ c.if-is_malformed.true) in
    record { value = h.0; sets_after = h.1 }

pub narrow-requires : goal.narrow-requires
narrow-requires c =
    let s = c.args in
    well-formed s.lower.now s.upper.now s.rows.now s.raised.now s.sets.now
    (sym c.is_malformed.ensures ∙ c.if-is_malformed.false)

pub returns-then-narrow : goal.returns-then-narrow
returns-then-narrow c =
    let s = c.args in
    let h = family-answer s.lower.now s.upper.now s.rows.now s.raised.now s.sets.now
    (sym c.is_malformed.ensures ∙ c.if-is_malformed.false) c.narrow.new.sets c.narrow.auto.sets
    (λ j. omega (arith, c.type_inv.sets j))
    _ c.if-narrow.true
    c.narrow.ensures in
    record { value = h.0; sets_after = h.1 }

pub returns : goal.returns
returns c =
    let s = c.args in
    let cleared : c.fill.new.self ≡ replicate (length c.narrow.new.sets) 0 = search rules in
    let h = empty-answer s.lower.now s.upper.now s.rows.now s.raised.now s.sets.now
    (sym c.is_malformed.ensures ∙ c.if-is_malformed.false) _ _ c.narrow.auto.sets _ c.if-narrow.false c.narrow.ensures
    cleared in record { value = h.0; sets_after = h.1 }
