use mathlib.Core.List.{[]}
use Rattle.casefile.proofs.Cases.{handed-refused, handed-taken}
use Rattle.casefile.proofs.read_body.Goals as goal

pub returns-in-Err : goal.returns-in-Err
returns-in-Err c =
    handed-refused c.args.sizes.rulebook c.read_lines.result _ c.read_lines.ensures
    c.in-Err.is (c.file_refused.ensures [])

pub returns-in-Ok : goal.returns-in-Ok
returns-in-Ok c =
    handed-taken c.args.sizes.rulebook c.read_lines.result _ c.read_lines.ensures
    c.in-Ok.is (c.file_accepted.ensures [])
