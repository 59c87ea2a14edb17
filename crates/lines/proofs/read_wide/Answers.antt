use mathlib.Core.Path.{sym, ap, ◌∙◌}
use Prim.Native.Nat.{◌≤◌}
use native.Mathlib.Omega.{arith}
use lib.ListN.{length, drop, length-drop}
use lib.Seq.{take_all}
use Rattle.definitions.specs.Lines.{read_column}
use Rattle.lines.proofs.read_wide.Goals as goal

pub returns-then-t-i-eq4 : goal.returns-then-t-i-eq4
returns-then-t-i-eq4 c =
    let t = c.args.t.now in
    let i = c.blank_words-i.result in
    let n : length (drop i t) ≤ 4 = simp length-drop (omega arith) in
    c.read_narrow.ensures ∙ ap read_column (take_all 4 (drop i t) n) ∙ sym c.blank_words-i.ensures.1
