use lib.Dec.{lit<}
use lib.IntN.{pos}
use mir.Syntax.{w64}
use Rattle.integers.specs.Linear.{read_back, same_bits, other-bits}
use Rattle.drivers.proofs.Laws.{takes-head, takes-ends, takes-weight}
use Rattle.drivers.proofs.taken.Goals as goal

pub returns-then-kind-eq10 : goal.returns-then-kind-eq10
returns-then-kind-eq10 c =
    let a = c.args in
    takes-head a.held a.table.now a.line (same_bits a.line.kind (pos 10) c.struct_told-1.given.0.1 (lit< tt) c.if-kind-eq10.true)
    c.headed.ensures c.zero_from.ensures

pub returns-then-kind-eq12 : goal.returns-then-kind-eq12
returns-then-kind-eq12 c =
    let a = c.args in
    let s = c.struct_told-1.given.0.1 in
    takes-ends a.held a.table.now a.line (other-bits a.line.kind (pos 10) s (lit< tt) c.if-kind-eq10.false)
    (same_bits a.line.kind (pos 12) s (lit< tt) c.if-kind-eq12.true) c.joined.ensures

pub returns-else-kind-eq12 : goal.returns-else-kind-eq12
returns-else-kind-eq12 c =
    let a = c.args in
    let s = c.struct_told-1.given.0.1 in
    let amount = read_back w64 a.line.amount c.struct_told-else-kind-eq12-1.given.1.1.1.1.0.1 in
    takes-weight a.held a.table.now a.line (other-bits a.line.kind (pos 10) s (lit< tt) c.if-kind-eq10.false)
    (other-bits a.line.kind (pos 12) s (lit< tt) c.if-kind-eq12.false) c.put.ensures.0 (rw amount at c.put.ensures.1)
