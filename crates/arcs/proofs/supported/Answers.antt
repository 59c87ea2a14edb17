use Rattle.std.specs.Prelude.{is_none}
use mathlib.Core.Path.{◌≡◌, ap, ◌∙◌}
use mathlib.Core.Bool.{Bool}
use Prim.Native.Nat.{ℕ, ◌+◌}
use native.Mathlib.Omega.{arith}
use lib.ListN.{get_or}
use Rattle.arcs.specs.Partners.{has_partner, supported_values}
use Rattle.arcs.proofs.Search.{nothing-found, kept_below, kept-none, kept-one-more, kept-all}
use Rattle.arcs.proofs.supported.Goals as goal

pub loop-k-init : goal.loop-k-init
loop-k-init c = kept-none _ _ c.ranges.set.fits

pub loop-k-preserved : goal.loop-k-preserved
loop-k-preserved c =
    let a = c.args in
    let l = c.loop-k in
    let row = get_or a.rows.now (a.at + l.k) 0 in
    c.kept_with-kept.ensures
    ∙ kept-one-more (λ v. has_partner (get_or a.rows.now (a.at + v) 0) a.other) a.set l.k l.kept l.invariant
    (is_none c.lowest_partner.result)
    (ap is_none c.lowest_partner.ensures ∙ nothing-found row a.other)

pub returns : goal.returns
unfolding supported_values
returns c =
    let l = c.loop-k in
    let a = c.args in
    let has : ℕ → Bool = λ v. has_partner (get_or a.rows.now (a.at + v) 0) a.other in
    let all : l.k ≡ 8 = omega (arith, l.auto.k-end) in
    l.invariant ∙ ap (kept_below has a.set) all ∙ kept-all has a.set
