use mir.Syntax.{w64}
use borrow.Author.Rules.{rules}
use Rattle.integers.specs.Linear.{read_back}
use Rattle.checker.proofs.presses.target_made.Goals as goal

pub returns-in-Press : goal.returns-in-Press
returns-in-Press c = let e = rw (read_back w64 c.in-Press.amount (search rules)) at c.press_made.ensures in
    rw c.in-Press.is e
