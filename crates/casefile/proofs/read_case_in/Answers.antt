use Rattle.casefile.proofs.Zeroing.{lines-few}
use Rattle.casefile.proofs.read_case_in.Goals as goal

pub zero_past-requires : goal.zero_past-requires
zero_past-requires c =
    let a = c.args in
    lines-few a.rulebook a.bytes.now a.table.now c.read_lines_in-read.ensures.0
