-- Number after number. Assumes nothing.
use mir.Syntax.{w64}
use Rattle.integers.specs.Linear.{read_back}
use Rattle.encoding.specs.Numbers.{word_of}
use Rattle.encoding.specs.RecordBytes.{record_numbers}
use Rattle.encoding.proofs.Parts.{first-number, next-number}
use borrow.Author.Rules.{rules}
use Rattle.encoding.proofs.put_words.Goals as goal

pub returns : goal.returns
unfolding record_numbers
returns c =
    let t = c.args.begun in
    let start = rw (read_back w64 c.args.start c.ranges.start.sfits) at c.bits_of.ensures in
    let amount = rw (read_back w64 t.amount (search rules)) at c.bits_of-2.ensures in
    let two = next-number (first-number c.args.rounds c.put_word.ensures) (word_of c.args.start) (rw start at c.put_word-2.ensures) in
    let four = next-number (next-number two t.variable c.put_word-3.ensures) (word_of t.amount) (rw amount at c.put_word-4.ensures) in
    (next-number (next-number four t.left c.put_word-5.ensures) t.last.scope c.put_word-6.ensures).bytes
