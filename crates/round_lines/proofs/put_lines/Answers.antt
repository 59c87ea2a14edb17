use mathlib.Core.Path.{refl, sym, ◌∙◌}
use mathlib.Core.List.{[], ◌++◌}
use lib.ListN.{length}
use Rattle.definitions.specs.Lines.{line_text}
use Rattle.round_lines.specs.Press.{raised_below, raise_texts}
use Rattle.round_lines.proofs.put_lines.Goals as goal

pub returns : goal.returns
returns c =
    let a = c.args in
    let xs = raised_below a.raised.now (length a.raised.now) in
    let t = line_text a.width a.first in
    let e1 = c.put_line-next.ensures.1 [] a.out.now refl refl in
    let e2 = c.put_raises-end.ensures.put t a.out.now e1.0 (e1.1 ∙ sym c.put_line-next.ensures.0) in
    let e3 = c.put_last.ensures (t ++ raise_texts a.width xs) a.out.now e2.0 e2.1 in
    record { value = sym e3.1; out_after = e3.0 }
