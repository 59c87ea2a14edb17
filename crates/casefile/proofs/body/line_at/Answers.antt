use mathlib.Core.Path.{◌≡◌, sym, ◌∙◌}
use Prim.Native.Nat.{◌+◌, ◌-◌}
use native.Mathlib.Omega.{arith}
use lib.ListN.{take, drop, length-drop}
use Rattle.definitions.specs.Rules.{rules_in, coherent}
use Rattle.lines.proofs.AtRules.{read-at-rules}
use Rattle.case_lines.specs.Dues.{bytes_of_line}
use Rattle.casefile.proofs.Heads.{cut_short, not-cut}
use Rattle.casefile.proofs.body.line_at.Goals as goal

pub returns-then-bytes-from : goal.returns-then-bytes-from
returns-then-bytes-from c =
    let a = c.args in
    sym (cut_short a.rulebook (drop a.from a.bytes.now) (rw length-drop (omega (arith, c.line_length-long.ensures))))

pub returns : goal.returns
returns c =
    let a = c.args in
    let t = drop a.from a.bytes.now in
    let n : a.from + c.line_length-long.result - a.from ≡ bytes_of_line a.rulebook = omega (arith, c.line_length-long.ensures) in
    (rw n at c.read_line_in.ensures) ∙ read-at-rules (rules_in a.rulebook) (coherent a.rulebook) c.amount_width.ensures
    (take (bytes_of_line a.rulebook) t)
    ∙ sym (not-cut a.rulebook t (rw length-drop (omega (arith, c.line_length-long.ensures))))
