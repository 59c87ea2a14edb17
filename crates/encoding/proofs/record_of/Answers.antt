-- Field by field. Assumes nothing.
use mir.Syntax.{w64}
use Rattle.integers.specs.Linear.{read_back}
use Rattle.encoding.specs.RecordBytes.{record_in}
use Rattle.encoding.proofs.record_of.Goals as goal

pub returns : goal.returns
unfolding record_in
returns c =
    rw (
      read_back w64 c.signed_of-start.result c.signed_of-start.type_inv,
      c.number_at-rounds.ensures,
      c.signed_of-start.ensures,
      c.number_at.ensures,
      c.marks_at-raised.ensures,
      c.due_of-due.ensures,
      c.begun_at-begun.ensures,
      c.standing_of-standing.ensures,
    )
