-- The eight bytes are copied out. Assumes nothing.
use mathlib.Core.Path.{◌≡◌, ap, ◌∙◌}
use lib.ListN.{take, drop}
use borrow.Author.Rules.{rules}
use Rattle.encoding.specs.Numbers.{value_of_bytes, number_at}
use Rattle.encoding.proofs.Values.{eight_is}
use Rattle.encoding.proofs.number_at.Goals as goal

pub returns : goal.returns
unfolding number_at
returns c =
    let word = c.copy_from_slice.new.self in
    let e : word ≡ take 8 (drop c.args.at c.args.bytes.now) = search rules in
    c.from_le_bytes.ensures ∙ eight_is word c.copy_from_slice.ensures.len ∙ ap value_of_bytes e
