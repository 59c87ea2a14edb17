-- Part after part. Assumes nothing.
use native.Mathlib.Omega.{arith}
use mathlib.Core.Path.{sym}
use Rattle.definitions.specs.Rules.{scope_places}
use Rattle.texts.proofs.Placed.{Printed}
use mir.Syntax.{w64}
use Rattle.integers.specs.Linear.{read_back}
use Rattle.encoding.specs.RecordBytes.{begun_recorded, record_numbers, record_tags, record_bytes}
use Rattle.encoding.proofs.Parts.{next-part, full, numbers-length, tags-length}
use borrow.Author.Rules.{rules}
use Rattle.encoding.proofs.write_record.Goals as goal

pub returns : goal.returns
unfolding record_bytes
returns c =
    let t = c.args.replay in
    let q = c.begun_of-begun.ensures in
    let a = rw (read_back w64 t.start (search rules), q) at c.put_words.ensures in
    let b = rw q at c.put_tags.ensures in
    let one : Printed (record_numbers t.rounds t.start (begun_recorded t.due)) c.args.out.now c.put_words.new.out 48 = record { bytes = a; count = sym (numbers-length t.rounds t.start (begun_recorded t.due)) } in
    full (next-part (next-part one (record_tags t.moved (begun_recorded t.due) t.standing) 4
    (tags-length t.moved (begun_recorded t.due) t.standing) b) t.raised scope_places c.put_marks.ensures.1 c.put_marks.ensures.0)
    (omega arith)
