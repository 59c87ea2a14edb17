use Rattle.std.specs.Prelude.{Err}
use mathlib.Core.Path.{refl, ap₂}
use lib.ListN.{length}
use borrow.Author.Tests.{lt-ltb, le-ltb}
use Rattle.definitions.specs.declared.Case.{Case}
use Rattle.definitions.specs.declared.Refusal.{Refusal}
use Rattle.definitions.specs.declared.Rulebook.TheVariants.{Desk}
use Rattle.definitions.specs.CaseFiles.{read_case_alone}
use Rattle.texts.specs.Texts.{text_room}
use Rattle.pressing.specs.declared.Pressed.{Pressed}
use Rattle.pressing.proofs.Calls.{same-pressing, start_is, start-refused, start-read}
use Rattle.pressing.proofs.start.Goals as goal

abbrev to_pressed : Case → Refusal → Pressed
to_pressed k x = record { pressing = record { case = k; lines = 0; left = 0 }; written = Err x }

pub returns-then-out-lt-ROOM : goal.returns-then-out-lt-ROOM
returns-then-out-lt-ROOM c =
    same-pressing (start_is Desk c.args.bytes.now c.args.table.now c.args.out.now
    (lt-ltb (length c.args.out.now) text_room c.if-out-lt-ROOM.true))
    (ap₂ to_pressed c.no_case.ensures c.head_or_short-refusal.ensures, refl, refl)

pub returns-in-Err : goal.returns-in-Err
returns-in-Err c =
    same-pressing (start_is Desk c.args.bytes.now c.args.table.now c.args.out.now
    (le-ltb (length c.args.out.now) text_room c.if-out-lt-ROOM.false))
    (start-refused c.args.out.now (read_case_alone Desk c.args.bytes.now c.args.table.now) c.read_case_alone-read.ensures c.in-Err.is
    c.write_refused-written.ensures)

pub returns-in-Ok : goal.returns-in-Ok
returns-in-Ok c =
    same-pressing (start_is Desk c.args.bytes.now c.args.table.now c.args.out.now
    (le-ltb (length c.args.out.now) text_room c.if-out-lt-ROOM.false))
    (start-read c.args.out.now (read_case_alone Desk c.args.bytes.now c.args.table.now) c.read_case_alone-read.ensures c.in-Ok.is)
