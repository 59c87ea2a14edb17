use mathlib.Core.Path.{sym, ap, ◌∙◌}
use Prim.Native.Nat.{◌≤◌, ◌<◌}
use native.Mathlib.Omega.{arith}
use lib.ListN.{length}
use Rattle.checker.specs.Checker.{BlockCall}
use Rattle.checker.specs.Taken.{bytes_per_line}
use Rattle.checker.proofs.Fold.{block-short, block-long}
use Rattle.checker.proofs.lent.refused_lines.Goals as goal

pub returns-then-bytes-line : goal.returns-then-bytes-line
returns-then-bytes-line c = λ w e. let a = c.args in
    let short : length a.bytes.now < bytes_per_line a.case = omega (arith, c.line_length-line.ensures, c.if-bytes-line.true) in
    let f = sym (block-short a.case w a.replay a.bytes.now e short) in
    (c.no_lines.ensures ∙ ap (λ (x : BlockCall). x.block) f, ap (λ (x : BlockCall). x.table) f)

pub returns : goal.returns
returns c = λ w e. let a = c.args in
    let long : bytes_per_line a.case ≤ length a.bytes.now = omega (arith, c.line_length-line.ensures, c.if-bytes-line.false) in
    let s = rw c.line_length-line.ensures at (c.first_number.ensures w e) in
    let f = sym (block-long a.case w a.replay a.bytes.now s long) in
    (c.no_lines-2.ensures ∙ ap (λ (x : BlockCall). x.block) f, ap (λ (x : BlockCall). x.table) f)
