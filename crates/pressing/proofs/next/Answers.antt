use Rattle.std.specs.Prelude.{Result, ℕ}
use Rattle.definitions.specs.declared.Refusal.{Refusal}
use mathlib.Core.Path.{refl, ap}
use borrow.Author.Tests.{eq-eqb, ne_eqb}
use Rattle.pressing.proofs.Calls.{same-pressing, next-is}
use Rattle.pressing.proofs.next.Goals as goal

pub returns-then-pressing-eq0 : goal.returns-then-pressing-eq0
returns-then-pressing-eq0 c =
    same-pressing (next-is c.args.pressing c.args.table.now c.args.out.now (eq-eqb c.args.pressing.left 0 c.if-pressing-eq0.true))
    (ap (λ (x : Result ℕ Refusal). record { pressing = c.args.pressing; written = x }) c.ask_round-written.ensures, refl, refl)

pub returns : goal.returns
returns c =
    same-pressing (next-is c.args.pressing c.args.table.now c.args.out.now (ne_eqb c.args.pressing.left 0 c.if-pressing-eq0.false))
    c.one_round.ensures
