use mathlib.Core.Path.{◌≡◌, sym, ap, ap₂, ◌∙◌}
use mathlib.Core.List.{List}
use Prim.Native.Nat.{ℕ, ◌-◌}
use native.Mathlib.Omega.{arith}
use lib.ListN.{length, take, drop}
use lib.Seq.{length-take-le}
use Rattle.definitions.specs.declared.Rulebook.TheVariants.{Desk}
use Rattle.judging.specs.Judging.{JudgingState, state_of, start_judging}
use Rattle.replay.specs.Turns.{case_end}
use Rattle.replay.proofs.Turning.{part-from, judges-all}
use Rattle.replay.proofs.judge_input.Goals as goal

pub returns : goal.returns
returns g c =
    let old = c.args.buf.now in
    let filled = c.args.filled.to in
    let input = take filled old in
    let w = c.args.table.now in
    let zero : filled - 0 ≡ filled = omega arith in
    let whole : take (filled - 0) (drop 0 old) ≡ input = ap (λ (n : ℕ). take n old) zero in
    let begun : state_of c.start-begun.result c.start-begun.new.table ≡ start_judging Desk input w = c.start-begun.ensures ∙ ap (λ (l : List ℕ). start_judging Desk l w) whole in
    let (from, most) = c.case_bytes-from.ensures in
    let long : length input ≡ filled = length-take-le filled old c.requires in
    let at : c.case_bytes-from.result ≡ case_end (start_judging Desk input w).answer (length input) = from ∙ ap₂ case_end (ap (λ (g : JudgingState). g.answer) begun) (sym long) in
    let bytes = part-from old c.case_bytes-from.result filled most c.requires ∙ ap (λ (n : ℕ). drop n input) at in
    let same : length c.turn-first.new.buf ≡ length old = omega (arith, c.turn-first.auto) in
    rw same at (judges-all input w c.start-begun.result c.start-begun.new.table (take (filled - c.case_bytes-from.result) (drop c.case_bytes-from.result old))
    begun bytes c.turn-first.ensures c.go_on.ensures)
