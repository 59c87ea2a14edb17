use mathlib.Core.Path.{◌≡◌, sym, ◌∙◌}
use native.Mathlib.Omega.{arith}
use borrow.Author.Count.{below_more}
use Rattle.definitions.specs.Rules.{rules_of}
use Rattle.choice.proofs.Firsts.{first-is, first-nothing}
use Rattle.pair_choice.specs.PairChoice.{active_choice, takes_pair}
use Rattle.pair_choice.proofs.Choices.{choice-passed, candidate-taken}
use Rattle.pair_choice.proofs.lowest_in.Goals as goal
use Rattle.pair_choice.proofs.lowest_in.Goals.{After-has_choice, else-not-has_choice-via-then-not-has_choice+else-takes_round, else-not-has_choice-via-else-not-has_choice}

told : (c : After-has_choice) → let a = c.args in c.has_choice.result ≡ active_choice a.case a.acts.now a.rows.now c.loop-e.e
told c =
    rw (c.byte_at-own.ensures, c.from.ensures, c.byte_at-other.ensures, c.from-in-loop-e.ensures) at c.has_choice.ensures

pub returns-then-takes_round : goal.returns-then-takes_round
returns-then-takes_round c =
    let a = c.args in
    let none = sym (told (goal.at.returns-then-takes_round c).After-has_choice) ∙ c.if-not-has_choice.true in
    sym (first-is (takes_pair (rules_of a.case) a.case a.table.now a.best.now a.acts.now a.rows.now) a.case.m c.loop-e.e (omega arith)
    (candidate-taken (rules_of a.case) a.case a.table.now a.best.now a.acts.now a.rows.now c.loop-e.e _ c.takes_round.ensures none ∙ c.if-takes_round.true)
    c.loop-e.invariant)

pub loop-e-preserved : goal.loop-e-preserved
loop-e-preserved c =
    let a = c.args in
    let active = sym (told (goal.at.loop-e-preserved c).After-has_choice) in
    below_more _ _ c.loop-e.invariant (elim c.else-not-has_choice.branch [
      | else-not-has_choice-via-then-not-has_choice+else-takes_round w ↦
          candidate-taken (rules_of a.case) a.case a.table.now a.best.now a.acts.now a.rows.now c.loop-e.e _ w.takes_round.ensures
          (active ∙ w.if-not-has_choice.true) ∙ w.if-takes_round.false
      | else-not-has_choice-via-else-not-has_choice w ↦
          choice-passed (rules_of a.case) a.case a.table.now a.best.now a.acts.now a.rows.now c.loop-e.e (active ∙ w.if-not-has_choice.false)
    ])

pub returns : goal.returns
returns c =
    let a = c.args in
    sym (first-nothing (takes_pair (rules_of a.case) a.case a.table.now a.best.now a.acts.now a.rows.now) a.case.m
    (λ e h. c.loop-e.invariant e (omega arith)))
