-- Part after part. Assumes nothing.
use native.Mathlib.Omega.{arith}
use mir.Syntax.{w64}
use Rattle.integers.specs.Linear.{read_back}
use Rattle.definitions.specs.Rules.{edge_places}
use Rattle.encoding.specs.Numbers.{word_of}
use Rattle.encoding.specs.CaseBytes.{bytes_of_case}
use Rattle.encoding.proofs.Parts.{first-number, next-number, next-part, full}
use borrow.Author.Rules.{rules}
use Rattle.encoding.proofs.write_case_bytes.Goals as goal

pub returns : goal.returns
unfolding bytes_of_case
returns c =
    let t = c.args.case in
    let numbers = next-number (next-number (first-number t.n c.put_word.ensures) t.d c.put_word-2.ensures) t.m c.put_word-3.ensures in
    let lower = next-part numbers t.lower edge_places c.put_ends.ensures.1 c.put_ends.ensures.0 in
    let upper = next-part lower t.upper edge_places c.put_ends-2.ensures.1 c.put_ends-2.ensures.0 in
    let carry = rw (read_back w64 t.carry (search rules)) at c.bits_of.ensures in
    full (next-number upper (word_of t.carry) (rw carry at c.put_word-4.ensures)) (omega arith)
