use Rattle.casefile.proofs.Zeroing.{alone-few}
use Rattle.casefile.proofs.read_case_alone_in.Goals as goal

pub zero_past-requires : goal.zero_past-requires
zero_past-requires c =
    let a = c.args in
    alone-few a.rulebook a.bytes.now a.table.now c.read_lines_alone_in-read.ensures.0
