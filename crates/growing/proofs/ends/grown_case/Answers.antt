use Prim.Native.Nat.{◌+◌, ◌≤◌}
use mir.Syntax.{w64}
use Rattle.integers.specs.Linear.{read_back}
use native.Mathlib.Omega.{arith}
use Rattle.definitions.specs.Rules.{coherent, edge_places}
use Rattle.growing.proofs.GrownEnds.{upper-same}
use borrow.Author.Rules.{rules}
use Rattle.growing.proofs.ends.grown_case.Goals as goal
use Rattle.growing.proofs.ends.grown_case.Goals.{Start}

-- the edges have places
few : (s : Start) → s.args.case.m + s.args.edges ≤ edge_places
few s = omega (arith, (coherent s.args.case.rulebook).edges_placed)

pub returns : goal.returns
returns c = let a = c.args in
    let e = upper-same a.lower.now a.case.n a.edges (omega (arith, few (goal.at.returns c).Start, c.grown_ends.ensures.1)) (omega (arith, few (goal.at.returns c).Start)) in
    rw (c.grown_ends.ensures.0, c.grown_ends-2.ensures.0, e, read_back w64 a.case.carry (search rules))
