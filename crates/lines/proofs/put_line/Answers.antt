use native.Mathlib.Omega.{arith}
use mir.Syntax.{w64}
use Rattle.integers.specs.Linear.{read_back}
use Rattle.definitions.proofs.ColumnLaws.{column-length}
use Rattle.definitions.proofs.LineLaws.{EachFits, fits_each}
use Rattle.definitions.specs.Lines.{column_text}
use Rattle.lines.proofs.Stores.{columns-stored}
use Rattle.lines.proofs.put_line.Goals as goal
use Rattle.lines.proofs.put_line.Goals.{Start}

-- Five columns one after the other, and the line feed. Assumes nothing.
fits : (s : Start) → EachFits s.args.width s.args.line
fits s = fits_each s.args.width s.args.line s.requires.1

pub returns : goal.returns
returns c =
    let l = c.args.line in
    let w = c.args.width in
    let f = fits (goal.at.returns c).Start in
    let r = c.struct_told-1.given in
    columns-stored c.args.out.now (column_text 2 l.kind) (column_text 4 l.a) (column_text 4 l.b) (column_text 4 l.c) (column_text w l.amount)
    c.put_column_at.new.out c.put_column_at-2.new.out c.put_column_at-3.new.out c.put_column_at-4.new.out c.put_column_at-5.new.out
    w (omega (arith, c.requires.0))
    (column-length 2 l.kind f.kind) (column-length 4 l.a f.a) (column-length 4 l.b f.b) (column-length 4 l.c f.c)
    (column-length w l.amount f.amount)
    (rw (read_back w64 l.kind r.0.1) at c.put_column_at.ensures)
    (rw (read_back w64 l.a r.1.0.1) at c.put_column_at-2.ensures)
    (rw (read_back w64 l.b r.1.1.0.1) at c.put_column_at-3.ensures)
    (rw (read_back w64 l.c r.1.1.1.0.1) at c.put_column_at-4.ensures)
    (rw (read_back w64 l.amount r.1.1.1.1.0.1) at c.put_column_at-5.ensures)
