use mathlib.Core.Path.{◌≡◌, sym, ap, ◌∙◌}
use mathlib.Core.Bool.{Bool}
use Prim.Native.Nat.{ℕ}
use native.Mathlib.Omega.{arith}
use lib.ListN.{length}
use Rattle.arcs.specs.Tried.{tried_answer}
use Rattle.choice.specs.Choice.{says_unsupported, unsupported_in}
use Rattle.choice.proofs.Firsts.{first-is, first-nothing}
use Rattle.choice.proofs.lowest_in.Goals as goal

pub returns-then-is_unsupported : goal.returns-then-is_unsupported
returns-then-is_unsupported c =
    let a = c.args in
    let i = c.loop-i.i in
    let asks : ℕ → Bool = unsupported_in a.lower.now a.upper.now a.acts.now a.rows.now a.edges.now a.sets.now in
    let asked : asks i ≡ c.is_unsupported.result =
    ap says_unsupported (sym (c.none_supported-tried.ensures
    ∙ ap (λ (v : ℕ). tried_answer a.lower.now a.upper.now a.rows.now a.edges.now a.sets.now i v) c.byte_at.ensures))
    ∙ sym c.is_unsupported.ensures in
    sym (first-is asks (length a.sets.now) i (omega arith) (asked ∙ c.if-is_unsupported.true) c.loop-i.invariant)

pub returns : goal.returns
returns c =
    let a = c.args in
    let asks : ℕ → Bool = unsupported_in a.lower.now a.upper.now a.acts.now a.rows.now a.edges.now a.sets.now in
    sym (first-nothing asks (length a.sets.now) (λ j h. c.loop-i.invariant j (omega arith)))
