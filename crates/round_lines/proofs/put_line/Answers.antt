use mathlib.Core.Path.{◌≡◌, ◌∙◌}
use mathlib.Core.List.{List}
use Prim.Native.Nat.{ℕ, ◌+◌, ◌-◌}
use native.Mathlib.Omega.{arith}
use lib.Seq.{length-take-le, drop-drop}
use lib.ListN.{length, take, drop, length-drop}
use Rattle.integers.specs.Tests.{is_false}
use Rattle.definitions.specs.Lines.{line_length}
use Rattle.lines.specs.AtWidth.{line_out}
use Rattle.round_lines.proofs.Texts.{line-alone, line-put}
use Rattle.round_lines.proofs.put_line.Goals as goal
use Rattle.round_lines.proofs.put_line.Goals.{Start}

abbrev part_of : Start → List ℕ
part_of a = take (a.args.at + 15 + a.args.width - a.args.at) (drop a.args.at a.args.out.now)

part_length : (a : Start) → length (part_of a) ≡ line_length a.args.width
part_length a =
    length-take-le (a.args.at + 15 + a.args.width - a.args.at) (drop a.args.at a.args.out.now) (simp length-drop (omega arith))
    ∙ omega arith

pub returns : goal.returns
returns c =
    let o = c.args.out.now in
    let w = c.args.width in
    let n : c.args.at + 15 + w - c.args.at ≡ line_length w = omega arith in
    let t = c.write_line_in.ensures.1 ∙ line-alone w (part_of (goal.at.returns c).Start) c.args.line (part_length (goal.at.returns c).Start) (is_false (line_out w c.args.line) c.requires.1) in (
      omega arith,
      λ p q e f. line-put w o _ p q c.args.at c.args.line c.requires.1 (rw (t, n, drop-drop (line_length w) c.args.at o)) e f,
    )
