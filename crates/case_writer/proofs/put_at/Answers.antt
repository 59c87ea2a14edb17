use mathlib.Core.Path.{◌≡◌, ◌∙◌}
use Prim.Native.Nat.{◌+◌, ◌-◌}
use native.Mathlib.Omega.{arith}
use lib.Seq.{length-take-le, drop-drop}
use lib.ListN.{length, take, drop, length-drop}
use Rattle.definitions.specs.Rules.{rules_in, coherent}
use Rattle.case_lines.specs.Dues.{bytes_of_line}
use Rattle.lines.proofs.AtRules.{line-over}
use Rattle.case_writer.proofs.put_at.Goals as goal

pub returns : goal.returns
returns c =
    let b = c.args.rulebook in
    let o = c.args.out.now in
    let e : c.args.from + c.line_length.result - c.args.from ≡ bytes_of_line b = omega (arith, c.line_length.ensures) in
    let part = take (bytes_of_line b) (drop c.args.from o) in
    let m : length part ≡ bytes_of_line b = length-take-le (bytes_of_line b) (drop c.args.from o) (simp length-drop (omega arith)) in
    rw (
      (rw e at c.write_line_in.ensures.1) ∙ line-over (rules_in b) (coherent b) c.amount_width.ensures part c.args.line m
          c.requires.1,
      e,
      drop-drop (bytes_of_line b) c.args.from o,
    )
