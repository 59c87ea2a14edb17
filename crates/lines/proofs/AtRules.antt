-- At the width of coherent rules the calls are those under the rules. Assumes nothing.
use Rattle.std.specs.Prelude.{Ok, Err, Option, Some, None}
use mathlib.Core.Path.{◌≡◌, refl, ap, ◌∙◌}
use mathlib.Core.Bool.{false}
use mathlib.Core.List.{List, ◌++◌, append-nil}
use Prim.Native.Nat.{ℕ}
use native.Mathlib.Omega.{arith}
use lib.ListN.{length, drop_of_length-le}
use borrow.Author.Tests.{le-leb, le-ltb}
use Rattle.definitions.specs.declared.Line.{Line}
use Rattle.definitions.specs.declared.Refusal.TheVariants.{NotInColumns}
use Rattle.definitions.specs.Rules.{Rules, Coherent}
use Rattle.definitions.specs.Lines.{line_length, line_text, line_too_wide, read_line}
use Rattle.calls.specs.Calls.{read_line_answer, write_refusal, write_line_call}
use Rattle.definitions.proofs.LineLaws.{line-length}
use Rattle.lines.specs.Found.{line_answer}
use Rattle.lines.specs.AtWidth.{width_out, line_out, read_line_at, write_refusal_at, write_line_at}
use Rattle.lines.proofs.Answers.{write_done}

answer-is : (o : Option Line) → line_answer o ≡ (elim o [ None ↦ Err NotInColumns | Some l ↦ Ok l ])
answer-is None = refl
answer-is (Some l) = refl

module _ (r : Rules) (coherent : Coherent r) {width : ℕ} (e : width ≡ r.amount_width) where
  pub width-in : width_out width ≡ false
  width-in = rw e (simp (le-leb 1 r.amount_width coherent.amount-some, le-leb r.amount_width 18 coherent.amount-fits))

  pub read-at-rules : (bytes : List ℕ) → read_line_at width bytes ≡ read_line_answer r bytes
  unfolding read_line_at read_line_answer
  read-at-rules bytes = rw width-in (rw e (answer-is (read_line r.amount_width bytes)))

  pub refusal-at-rules : (room : ℕ) (l : Line) → write_refusal_at width room l ≡ write_refusal r room l
  refusal-at-rules room l = rw width-in (rw e)

  pub write-at-rules : (out : List ℕ) (l : Line) → write_line_at width out l ≡ write_line_call r out l
  unfolding write_line_at write_line_call
  write-at-rules out l = rw width-in (rw e)

-- a part as long as a line holds the line alone
pub line-over : (r : Rules) → Coherent r → {width : ℕ} → width ≡ r.amount_width → (part : List ℕ) (l : Line)
    → length part ≡ line_length r.amount_width → line_too_wide r.amount_width l ≡ false → (write_line_at width part l).out ≡ line_text r.amount_width l
line-over r coherent e part l n f =
    let w = r.amount_width in
    let i : line_out w l ≡ false = rw (width-in r coherent {width = w} refl) f in
    ap (λ w. (write_line_at w part l).out) e ∙ ap (λ c. c.out) (write_done w part l (le-ltb (length part) (line_length w) (omega arith)) i)
    ∙ ap (λ t. line_text w l ++ t) (drop_of_length-le part {i = length (line_text w l)} (omega (arith, line-length w l f))) ∙ append-nil (line_text w l)
