-- Field by field. Assumes nothing.
use mir.Syntax.{w64}
use Rattle.integers.specs.Linear.{read_back}
use Rattle.encoding.specs.CaseBytes.{case_in}
use Rattle.encoding.proofs.case_of.Goals as goal

pub returns : goal.returns
unfolding case_in
returns c =
    rw (
      read_back w64 c.signed_of-carry.result c.signed_of-carry.type_inv,
      c.number_at-n.ensures,
      c.number_at-d.ensures,
      c.number_at-m.ensures,
      c.ends_at-lower.ensures,
      c.ends_at-upper.ensures,
      c.signed_of-carry.ensures,
      c.number_at.ensures,
    )
