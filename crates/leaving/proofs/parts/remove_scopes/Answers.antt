use mathlib.Core.Path.{◌≡◌, ap, ap₂, ◌∙◌}
use mathlib.Core.List.{List, ◌++◌}
use Prim.Native.Nat.{ℕ, ◌-◌, ◌≤◌}
use native.Mathlib.Omega.{arith}
use lib.IntN.{ℤ, pos}
use lib.ListN.{length, replicate}
use lib.Seq.{length-take-le}
use Rattle.definitions.specs.Case.{own_length}
use Rattle.logs.specs.Leave.{fresh_case}
use Rattle.leaving.proofs.Kept.{kept-length, kept-all}
use Rattle.leaving.proofs.parts.remove_scopes.Goals as goal

pub returns : goal.returns
returns c = let a = c.args in
    let w = a.table.now in
    let e = c.keep_parts-kept.ensures in
    let n = c.keep_parts-kept.result in
    let v = c.keep_parts-kept.new.table in
    let s = c.requires.shape in
    let fits : own_length a.case ≤ length w = omega (arith, c.requires.limited.own-lent, c.requires.table_len) in
    let m : length v - n ≡ length w - own_length (fresh_case a.case a.variable) = omega (arith, e.0, length-take-le n v (omega (arith, e.0, e.1)), ap length e.2, kept-length a.case a.variable w s.0 s.1 s.2 fits) in
    c.zero_from.ensures
    ∙ ap₂ (λ (l : List ℤ) (m : ℕ). l ++ replicate m (pos 0)) e.2 m ∙ kept-all a.case a.variable w s.0 s.1 s.2 fits
