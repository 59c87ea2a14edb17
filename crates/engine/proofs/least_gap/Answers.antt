use Rattle.std.specs.Prelude.{Result, Ok, ℤ}
use Rattle.definitions.specs.declared.Refusal.{Refusal}
use mathlib.Core.Path.{◌≡◌, sym, ◌∙◌}
use Prim.Native.Nat.{ℕ}
use native.Mathlib.Omega.{arith}
use borrow.Author.Rules.{rules}
use Rattle.definitions.specs.Engine.{least_gap}
use Rattle.gaps.specs.Gaps.{else_no_gap}
use Rattle.gaps.proofs.Amounts.{gap-answer}
use Rattle.engine.proofs.Rounds.{no-gap-bits, some-gap-bits}
use Rattle.engine.proofs.least_gap.Goals as goal
use Rattle.engine.proofs.least_gap.Goals.{After-least_gap-gap, In-Ok}

-- the answer is the least gap
answered : (c : After-least_gap-gap) {f : Result ℤ Refusal} → c.least_gap-gap.result ≡ f → let a = c.args in
    f ≡ Ok (else_no_gap (least_gap a.case a.table.now a.variable))
answered c e =
    let p = c.requires in
    sym e ∙ c.least_gap-gap.ensures ∙ gap-answer p.handed p.greatest-held c.args.raised.now c.args.variable p.which p.kept p.room

-- the amount, or the number that stands for none
amount-is : (c : In-Ok) → c.in-Ok.amount ≡ else_no_gap (least_gap c.args.case c.args.table.now c.args.variable)
amount-is c = let e = answered (goal.at.In-Ok c).After-least_gap-gap c.in-Ok.is in cc

pub returns-then-amount-eq-NO_GAP : goal.returns-then-amount-eq-NO_GAP
returns-then-amount-eq-NO_GAP c =
    sym (no-gap-bits c.requires (search rules) (amount-is (goal.at.returns-then-amount-eq-NO_GAP c).In-Ok) c.if-amount-eq-NO_GAP.true)

pub returns-else-amount-eq-NO_GAP : goal.returns-else-amount-eq-NO_GAP
returns-else-amount-eq-NO_GAP c =
    sym (some-gap-bits c.requires (search rules) (amount-is (goal.at.returns-else-amount-eq-NO_GAP c).In-Ok) c.if-amount-eq-NO_GAP.false)

pub returns-in-Err : goal.returns-in-Err
returns-in-Err c =
    let e = answered (goal.at.returns-in-Err c).After-least_gap-gap c.in-Err.is in
    let u : ◌≡◌ {A = ℕ} 0 1 = cc in
    absurd (omega arith)
