use Rattle.std.specs.Prelude.{Ok}
use mathlib.Core.Path.{◌≡◌, sym, ap, ◌∙◌}
use Prim.Native.Nat.{◌-◌}
use native.Mathlib.Omega.{arith}
use lib.IntN.{ℤ}
use lib.Seq.{length-take-le}
use lib.ListN.{length, take}
use Rattle.definitions.specs.Lines.{number_text, column_text}
use Rattle.lines.proofs.Answers.{number_short, number-done}
use Rattle.lines.proofs.Signs.{same}
use Rattle.lines.proofs.write_number.Goals as goal
use Rattle.lines.proofs.write_number.Goals.{After-text_length-n, Else-out-n}

-- The room, and then a column that is exactly as wide as the number. Assumes nothing.
text-is : (c : After-text_length-n) → c.text_length-n.result ≡ length (number_text c.args.z)
text-is c =
    c.text_length-n.ensures ∙ ap (λ z. length (number_text z)) (same c.args.z c.ranges.z)

-- the column is as wide as the number
part-is : (c : Else-out-n) → length (take c.text_length-n.result c.args.out.now) ≡ length
    (number_text c.args.z)
part-is c = length-take-le c.text_length-n.result c.args.out.now c.if-out-n.false ∙ text-is (goal.at.Else-out-n c).After-text_length-n

exact : (z : ℤ) → column_text (length (number_text z)) z ≡ number_text z
exact z = let e : length (number_text z) - length (number_text z) ≡ 0 = omega arith in rw e

pub returns-then-out-n : goal.returns-then-out-n
returns-then-out-n c =
    let a = c.args in
    let p = sym (number_short a.out.now a.z (rw (text-is (goal.at.returns-then-out-n c).After-text_length-n) at c.if-out-n.true)) in
    (ap (λ r. r.answer) p, ap (λ r. r.out) p)

pub returns : goal.returns
returns c =
    let p = sym (number-done c.args.out.now c.args.z (rw (text-is (goal.at.returns c).After-text_length-n) at c.if-out-n.false)) in
    let put : c.put_column.new.out ≡ number_text c.args.z = c.put_column.ensures
    ∙ rw (part-is (goal.at.returns c).Else-out-n, same c.args.z c.ranges.z) (exact c.args.z) in
    (ap Ok (text-is (goal.at.returns c).After-text_length-n) ∙ ap (λ r. r.answer) p, rw (put, text-is (goal.at.returns c).After-text_length-n) (ap (λ r. r.out) p))
