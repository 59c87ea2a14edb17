use mathlib.Core.Path.{◌≡◌, refl, sym, ap}
use Prim.Native.Nat.{◌+◌, ◌*◌, ◌<◌}
use native.Mathlib.Omega.{arith}
use Rattle.case_lines.specs.Dues.{due_awaited, places_of}
use Rattle.case_lines.proofs.Dues.{value-due, tuple-due}
use Rattle.casefile.proofs.Taken.{same-due, variable-bar-step, ends-bar-step, edge-bar-step}
use Rattle.casefile.proofs.body.take_bar.Goals as goal
use Rattle.casefile.proofs.body.take_bar.Goals.{In-EdgeWeight, In-VariableWeight}

-- what is due names places of the case, and its weight's place is in the table
variable-known : (c : In-VariableWeight) → let s = c.args.sizes in let i = c.in-VariableWeight.variable in let k = c.in-VariableWeight.value in
    (i < s.n) × (k < s.d) × (c.place_of-place.result ≡ i * s.d + k) × (c.place_of-place.result < places_of s)
variable-known c =
    value-due c.args.sizes c.requires.sizes_limited.0 c.place_of-place.result c.args.due c.place_of-place.ensures c.requires.sizes_limited.1 c.in-VariableWeight.variable
    c.in-VariableWeight.value c.in-VariableWeight.is

edge-known : (c : In-EdgeWeight) → let s = c.args.sizes in let e = c.in-EdgeWeight.edge in let k = c.in-EdgeWeight.k in let l = c.in-EdgeWeight.l in
    (e < s.m) × (k < s.d) × (l < s.d) × (c.place_of-place.result ≡ s.n * s.d + (e * (s.d * s.d) + (k * s.d + l))) × (c.place_of-place.result < places_of s)
edge-known c =
    tuple-due c.args.sizes c.requires.sizes_limited.0 c.place_of-place.result c.args.due c.place_of-place.ensures c.requires.sizes_limited.1 c.in-EdgeWeight.edge c.in-EdgeWeight.k c.in-EdgeWeight.l
    c.in-EdgeWeight.is

pub others_barred-requires : goal.others_barred-requires
others_barred-requires c = omega (arith, variable-known (goal.at.others_barred-requires c).In-VariableWeight, c.requires.sizes_in_bounds)

pub bar-requires : goal.bar-requires
bar-requires c =
    let h = variable-known (goal.at.bar-requires c).In-VariableWeight in record { a_bound = (omega (arith, h.0, c.requires.sizes_limited.0.variables-few), omega (arith, h.1, c.requires.sizes_limited.0.values-few), omega arith); place_in_bounds = omega (arith, h.3, c.requires.sizes_in_bounds) }

pub others_barred-requires-in-EdgeWeight : goal.others_barred-requires-in-EdgeWeight
others_barred-requires-in-EdgeWeight c = omega (arith, edge-known (goal.at.others_barred-requires-in-EdgeWeight c).In-EdgeWeight, c.requires.sizes_in_bounds)

pub bar-requires-in-EdgeWeight : goal.bar-requires-in-EdgeWeight
bar-requires-in-EdgeWeight c =
    let h = edge-known (goal.at.bar-requires-in-EdgeWeight c).In-EdgeWeight in
    let v = c.requires.sizes_limited.0.values-few in
    record { a_bound = (omega (arith, h.0, c.requires.sizes_limited.0.edges_placed), omega (arith, h.1), omega (arith, h.2)); place_in_bounds = omega (arith, h.4, c.requires.sizes_in_bounds) }

pub returns-in-VariableWeight : goal.returns-in-VariableWeight
returns-in-VariableWeight c =
    let a = c.args in
    λ lower upper. same-due (sym (ap due_awaited c.in-VariableWeight.is))
    (variable-bar-step a.sizes lower upper a.table.now a.line c.requires.sizes_in_bounds c.requires.line_value c.in-VariableWeight.variable c.in-VariableWeight.value
    (variable-known (goal.at.returns-in-VariableWeight c).In-VariableWeight).0 (rw (c.is_of_kind.ensures, c.others_barred.ensures, (variable-known (goal.at.returns-in-VariableWeight c).In-VariableWeight).2) at c.bar.ensures))

pub returns-in-EdgeEnds : goal.returns-in-EdgeEnds
returns-in-EdgeEnds c =
    let a = c.args in
    λ lower upper. same-due (sym (ap due_awaited c.in-EdgeEnds.is))
    (ends-bar-step a.sizes lower upper a.table.now a.line c.requires.line_value c.in-EdgeEnds.field-0 refl)

pub returns-in-EdgeWeight : goal.returns-in-EdgeWeight
returns-in-EdgeWeight c =
    let a = c.args in
    λ lower upper. same-due (sym (ap due_awaited c.in-EdgeWeight.is))
    (edge-bar-step a.sizes lower upper a.table.now a.line c.requires.sizes_in_bounds c.requires.line_value c.in-EdgeWeight.edge c.in-EdgeWeight.k c.in-EdgeWeight.l (edge-known (goal.at.returns-in-EdgeWeight c).In-EdgeWeight).0
    (rw (c.is_of_kind-in-EdgeWeight.ensures, c.others_barred-in-EdgeWeight.ensures, (edge-known (goal.at.returns-in-EdgeWeight c).In-EdgeWeight).3) at c.bar-in-EdgeWeight.ensures))
