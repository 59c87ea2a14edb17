use mathlib.Core.Path.{◌≡◌, ap₂, ◌∙◌}
use Prim.Native.Nat.{ℕ, ◌+◌, ◌-◌, ◌≤◌}
use native.Mathlib.Omega.{arith}
use lib.ListN.{length, take, drop}
use Rattle.integers.specs.Words.{all}
use Rattle.definitions.specs.Case.{place, own_length, is_barred}
use Rattle.tables.specs.Scopes.{size_of}
use Rattle.logs.specs.Waiting.{small_case}
use Rattle.joining.proofs.Rooms.{scope-fits, scope-waits}
use Rattle.joining.proofs.waiting.scope_barred.Goals as goal
use Rattle.joining.proofs.waiting.scope_barred.Goals.{After-scope_size}

fits : (c : After-scope_size) →
    c.own_length.result + c.scope_place.result + c.scope_size.result ≤ length c.args.starting.now
fits c = omega (
  arith,
  c.own_length.ensures,
  c.scope_place.ensures,
  c.scope_size.ensures,
  scope-fits c.requires.placed c.args.y c.requires.y_le_edges,
)

pub slice_bounds-all_barred-end : goal.slice_bounds-all_barred-end
slice_bounds-all_barred-end c = fits c

pub returns : goal.returns
returns c = let a = c.args in
    let n : (c.own_length.result + c.scope_place.result + c.scope_size.result) - (c.own_length.result + c.scope_place.result)
    ≡ size_of (small_case a.case a.edges) a.y = omega (arith, c.scope_size.ensures) in
    let p : c.own_length.result + c.scope_place.result ≡ own_length a.case + place (small_case a.case a.edges) a.y 0 0 = omega (arith, c.own_length.ensures, c.scope_place.ensures) in
    c.all_barred.ensures ∙ ap₂ (λ (n p : ℕ). all is_barred (take n (drop p a.starting.now))) n p
    ∙ scope-waits a.starting.now c.requires.placed a.y c.requires.y_le_edges
