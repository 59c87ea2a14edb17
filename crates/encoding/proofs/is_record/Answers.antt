-- Test by test. Assumes nothing.
use Rattle.encoding.specs.RecordBytes.{is_record}
use borrow.Author.Rules.{rules}
use Rattle.encoding.proofs.is_record.Goals as goal

pub returns : goal.returns
unfolding is_record
returns c = search rules
