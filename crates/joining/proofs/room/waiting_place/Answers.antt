use native.Mathlib.Omega.{arith}
use Rattle.tables.proofs.Order.{variables-small, edges-small}
use Rattle.definitions.specs.Rules.{coherent}
use Rattle.case_lines.specs.Dues.{due_awaited}
use Rattle.joining.proofs.Rooms.{is-due, squares-small}
use Rattle.log_theory.proofs.WaitingDues.{weights-few}
use Rattle.joining.proofs.room.waiting_place.Goals as goal

pub overflow_add-result : goal.overflow_add-result
overflow_add-result c = let a = c.args in
    omega (
      arith,
      c.own_length.ensures,
      c.weights_read.ensures,
      variables-small a.case c.requires.limited,
      edges-small a.case c.requires.limited,
      weights-few a.case a.edges (due_awaited a.due) (is-due a.case a.edges a.due c.requires.in_case),
      c.requires.limited.values-few,
      squares-small a.case.d a.edges c.requires.limited.values-few (omega (arith, c.requires.edges_bound, (coherent a.case.rulebook).edges_placed)),
    )
