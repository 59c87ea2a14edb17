use mathlib.Core.Path.{◌≡◌, sym, ap}
use Prim.Native.Nat.{◌+◌, ◌*◌, ◌<◌}
use native.Mathlib.Omega.{arith}
use lib.ListN.{length}
use Rattle.case_lines.specs.Dues.{due_awaited, places_of}
use Rattle.case_lines.proofs.Dues.{value-due, tuple-due}
use Rattle.casefile.proofs.Taken.{same-due, variable-step, ends-step, edge-step}
use Rattle.casefile.proofs.body.take_plain.Goals as goal
use Rattle.casefile.proofs.body.take_plain.Goals.{In-EdgeWeight, In-VariableWeight}

-- what is due names places of the case, and its weight's place is in the table
variable-known : (c : In-VariableWeight) → let s = c.args.sizes in let i = c.in-VariableWeight.variable in let k = c.in-VariableWeight.value in
    (i < s.n) × (k < s.d) × (c.place_of-place.result ≡ i * s.d + k) × (c.place_of-place.result < places_of s)
variable-known c =
    value-due c.args.sizes c.requires.sizes_limited.0 c.place_of-place.result c.args.due c.place_of-place.ensures c.requires.sizes_limited.1 c.in-VariableWeight.variable
    c.in-VariableWeight.value c.in-VariableWeight.is

edge-known : (c : In-EdgeWeight) → let s = c.args.sizes in let e = c.in-EdgeWeight.edge in let k = c.in-EdgeWeight.k in let l = c.in-EdgeWeight.l in
    (e < s.m) × (k < s.d) × (l < s.d) × (c.place_of-place.result ≡ s.n * s.d + (e * (s.d * s.d) + (k * s.d + l))) × (c.place_of-place.result < places_of s)
edge-known c =
    tuple-due c.args.sizes c.requires.sizes_limited.0 c.place_of-place.result c.args.due c.place_of-place.ensures c.requires.sizes_limited.1 c.in-EdgeWeight.edge c.in-EdgeWeight.k c.in-EdgeWeight.l
    c.in-EdgeWeight.is

pub take_weight-requires-in-EdgeWeight : goal.take_weight-requires-in-EdgeWeight
take_weight-requires-in-EdgeWeight c =
    let h : c.place_of-place.result < length c.args.table.now = omega (arith, (edge-known (goal.at.take_weight-requires-in-EdgeWeight c).In-EdgeWeight).4, c.requires.sizes_in_bounds) in record {
      a_bound = (
        omega (arith, edge-known (goal.at.take_weight-requires-in-EdgeWeight c).In-EdgeWeight, c.requires.sizes_limited.0.edges_placed),
        omega (arith, edge-known (goal.at.take_weight-requires-in-EdgeWeight c).In-EdgeWeight, c.requires.sizes_limited.0.values-few),
        omega
            (arith, edge-known (goal.at.take_weight-requires-in-EdgeWeight c).In-EdgeWeight, c.requires.sizes_limited.0.values-few),
      );
      place_in_bounds = h;
    }

pub returns-in-VariableWeight : goal.returns-in-VariableWeight
returns-in-VariableWeight c =
    let a = c.args in
    same-due (sym (ap due_awaited c.in-VariableWeight.is))
    (variable-step a.sizes a.lower.now a.upper.now a.table.now a.line c.requires.sizes_in_bounds c.requires.line_value c.in-VariableWeight.variable
    c.in-VariableWeight.value (variable-known (goal.at.returns-in-VariableWeight c).In-VariableWeight).0 (rw (c.is_of_kind.ensures, (variable-known (goal.at.returns-in-VariableWeight c).In-VariableWeight).2) at c.take_weight.ensures))

pub returns-in-EdgeEnds : goal.returns-in-EdgeEnds
returns-in-EdgeEnds c =
    let a = c.args in
    same-due (sym (ap due_awaited c.in-EdgeEnds.is)) (ends-step a.sizes a.lower.now a.upper.now a.table.now a.line
    c.in-EdgeEnds.edge c.take_ends.ensures)

pub returns-in-EdgeWeight : goal.returns-in-EdgeWeight
returns-in-EdgeWeight c =
    let a = c.args in
    same-due (sym (ap due_awaited c.in-EdgeWeight.is))
    (edge-step a.sizes a.lower.now a.upper.now a.table.now a.line c.requires.sizes_in_bounds c.requires.line_value c.in-EdgeWeight.edge c.in-EdgeWeight.k c.in-EdgeWeight.l
    (edge-known (goal.at.returns-in-EdgeWeight c).In-EdgeWeight).0 (rw (c.is_of_kind-in-EdgeWeight.ensures, (edge-known (goal.at.returns-in-EdgeWeight c).In-EdgeWeight).3) at c.take_weight-in-EdgeWeight.ensures))
