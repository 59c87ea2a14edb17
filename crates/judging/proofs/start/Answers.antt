use mathlib.Core.Path.{◌≡◌, ap, ap₂, ◌∙◌}
use mathlib.Core.List.{List}
use lib.IntN.{ℤ}
use Rattle.definitions.specs.declared.CaseRead.{CaseRead}
use Rattle.definitions.specs.Rules.{rules_of}
use Rattle.definitions.specs.declared.Rulebook.TheVariants.{Desk}
use Rattle.definitions.specs.CaseFiles.{CaseCall, read_case}
use Rattle.checker.specs.declared.Replay.{Replay}
use Rattle.checker.specs.Checker.{fresh_replay}
use Rattle.judging.specs.Judging.{JudgingState, start_judging}
use Rattle.judging.proofs.start.Goals as goal

to_state : CaseRead → Replay → List ℤ → JudgingState
to_state x p w = record { case = x.case; weights = w; replay = p; answer = x.answer }

pub returns : goal.returns
unfolding start_judging to_state
returns c =
    let call : CaseCall = read_case Desk c.args.front.now c.args.table.now in
    let (p, q) = c.read_case-read.ensures in
    let f : c.fresh-replay.result ≡ fresh_replay (rules_of call.read.case) call.read.case call.table = c.fresh-replay.ensures ∙ ap₂ (λ (x : CaseRead) (t : List ℤ). fresh_replay (rules_of x.case) x.case t) p q in
    ap₂ (λ (x : CaseRead) (p : Replay). to_state x p c.read_case-read.new.table) p f
    ∙ ap (to_state call.read (fresh_replay (rules_of call.read.case) call.read.case call.table)) q
