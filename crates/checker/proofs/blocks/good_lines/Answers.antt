use Rattle.std.specs.Prelude.{Ok}
use mathlib.Core.Path.{◌≡◌, refl, sym, ap, ◌∙◌}
use mathlib.Core.Bool.{not}
use mathlib.Core.List.{List}
use Prim.Native.Nat.{ℕ, ◌+◌, ◌-◌, ◌≤◌, ◌<◌}
use native.Mathlib.Omega.{arith}
use lib.IntN.{ℤ}
use lib.Dec.{T}
use lib.ListN.{length, take, drop, length-drop}
use lib.Seq.{drop-drop}
use Rattle.definitions.specs.declared.Case.{Case}
use Rattle.definitions.specs.Rules.{rules_of}
use Rattle.definitions.specs.Valid.{working_weight}
use Rattle.theory.proofs.Validity.{Handed}
use Rattle.tables.proofs.Answered.{limits-known}
use Rattle.checker.specs.declared.Replay.{Replay}
use Rattle.checker.specs.Checker.{BlockCall, record_out, step_replay, fold_replay}
use Rattle.checker.specs.Taken.{good_replay, step_of, bytes_per_line, more_by}
use Rattle.checker.proofs.Ends.{whole_again}
use Rattle.checker.proofs.Fold.{turn-done, turn-refused, no_more}
use Rattle.checker.proofs.blocks.good_lines.Goals as goal
use Rattle.checker.proofs.blocks.good_lines.Goals.{After-good_line-taken, After-progress_of-progress}

whole-record : (c : After-progress_of-progress) → good_replay c.progress_of-progress.result c.args.replay.raised ≡ c.args.replay
whole-record c = whole_again c.args.replay c.requires.standing_value.0 c.progress_of-progress.ensures

line-is : (c : After-progress_of-progress) → c.line_length-line.result ≡ bytes_per_line c.args.case
line-is c = c.line_length-line.ensures

abbrev case : (c : After-good_line-taken) → Case
case c = c.args.case

abbrev bytes : (c : After-good_line-taken) → List ℕ
bytes c = c.args.bytes.now

abbrev before : (c : After-good_line-taken) → Replay
before c = good_replay c.loop-from.progress c.loop-from.raised

abbrev raised : (c : After-good_line-taken) → List ℕ
raised c = c.good_line-taken.new.raised

abbrev table : (c : After-good_line-taken) → List ℤ
table c = c.good_line-taken.new.table

long : (c : After-good_line-taken) → bytes_per_line (case c) ≤ length (drop c.loop-from.from (bytes c))
long c = omega (arith, line-is (goal.at.After-good_line-taken c).After-progress_of-progress, length-drop c.loop-from.from (bytes c), c.loop-from-test.true)

step : (c : After-good_line-taken) → step_of c.good_line-taken.result (raised c) (table c)
    ≡ step_replay (rules_of (case c)) (case c) c.loop-from.table (before c) (take (bytes_per_line (case c)) (drop c.loop-from.from (bytes c)))
step c =
    let z : (c.loop-from.from + c.line_length-line.result) - c.loop-from.from
    ≡ bytes_per_line (case c) = omega (arith, line-is (goal.at.After-good_line-taken c).After-progress_of-progress) in
    rw z at c.good_line-taken.ensures.table_after

done : (c : After-good_line-taken) → (e : c.good_line-taken.result.answer ≡ Ok tt) → (more_by c.loop-from.done (fold_replay (rules_of (case c)) (case c) c.loop-from.table (before c) (drop c.loop-from.from (bytes c)))
    ≡ more_by (c.loop-from.done + 1)
    (fold_replay (rules_of (case c)) (case c) (table c) (good_replay c.good_line-taken.result.progress (raised c))
    (drop (bytes_per_line (case c)) (drop c.loop-from.from (bytes c)))))
    × Handed (rules_of (case c)) (working_weight (rules_of (case c))) (case c) (table c)
    × T (not (record_out (rules_of (case c)) (case c) (good_replay c.good_line-taken.result.progress (raised c))))
done c e = turn-done (case c) c.loop-from.table (before c) (drop c.loop-from.from (bytes c)) (long c) c.good_line-taken.result (raised c) (table c) (step c) c.loop-from.done e

pub returns-in-Err : goal.returns-in-Err
returns-in-Err c = let l = c.loop-from in let b = c.args in
    let e = sym (turn-refused (case (goal.at.returns-in-Err c).After-good_line-taken) l.table (before (goal.at.returns-in-Err c).After-good_line-taken) (drop l.from (bytes (goal.at.returns-in-Err c).After-good_line-taken)) (long (goal.at.returns-in-Err c).After-good_line-taken) c.good_line-taken.result (raised (goal.at.returns-in-Err c).After-good_line-taken) (table (goal.at.returns-in-Err c).After-good_line-taken) (step (goal.at.returns-in-Err c).After-good_line-taken)
    l.done c.in-Err.is)
    ∙ l.invariant.7
    ∙ ap (λ (q : Replay). fold_replay (rules_of b.case) b.case b.table.now q b.bytes.now) (whole-record (goal.at.returns-in-Err c).After-progress_of-progress) in
    (rw c.record_of.ensures (ap (λ (x : BlockCall). x.block) e), ap (λ (x : BlockCall). x.table) e)

pub raise_on-on-requires : goal.raise_on-on-requires
raise_on-on-requires c = let i = c.loop-from.invariant in
    let (e, g, f) = done (goal.at.raise_on-on-requires c).After-good_line-taken c.in_default.is in record { limited = limits-known g; raised_len = (omega (arith, c.good_line-taken.auto, i.3), omega (arith, line-is (goal.at.raise_on-on-requires c).After-progress_of-progress, i), omega (arith, i, c.loop-from-test.true), f) }

pub loop-from-preserved : goal.loop-from-preserved
loop-from-preserved c = let l = c.loop-from in
    let (e, g, f) = done (goal.at.loop-from-preserved c).After-good_line-taken c.in_default.is in
    let (o, u) = c.raise_on-on.ensures.onward.goes (case (goal.at.loop-from-preserved c).After-good_line-taken) (table (goal.at.loop-from-preserved c).After-good_line-taken) g refl refl f in (
      c.raise_on-on.ensures.done_le_from.0,
      c.raise_on-on.ensures.done_le_from.2,
      omega (arith, c.good_line-taken.auto, l.invariant),
      omega (arith, c.raise_on-on.auto, c.good_line-taken.auto, l.invariant),
      g,
      c.good_line-taken.ensures.best_of_2,
      u,
      sym o
          ∙ ap (λ (b : List ℕ). more_by (l.done + 1)
          (fold_replay (rules_of (case (goal.at.loop-from-preserved c).After-good_line-taken)) (case (goal.at.loop-from-preserved c).After-good_line-taken) (table (goal.at.loop-from-preserved c).After-good_line-taken) (good_replay c.good_line-taken.result.progress (raised (goal.at.loop-from-preserved c).After-good_line-taken)) b))
          (ap (λ (n : ℕ). drop (l.from + n) (bytes (goal.at.loop-from-preserved c).After-good_line-taken)) (line-is (goal.at.loop-from-preserved c).After-progress_of-progress) ∙ sym (drop-drop (bytes_per_line (case (goal.at.loop-from-preserved c).After-good_line-taken)) l.from (bytes (goal.at.loop-from-preserved c).After-good_line-taken)))
          ∙ sym e ∙ l.invariant.7,
    )

pub returns : goal.returns
returns c = let l = c.loop-from in let a = c.args in let t = drop l.from a.bytes.now in
    let short : length t < bytes_per_line a.case = omega (arith, line-is (goal.at.returns c).After-progress_of-progress, length-drop l.from a.bytes.now, c.loop-from-test.false) in
    let e = sym (no_more a.case l.table (good_replay l.progress l.raised) t l.done short) ∙ l.invariant.7
    ∙ ap (λ (q : Replay). fold_replay (rules_of a.case) a.case a.table.now q a.bytes.now) (whole-record (goal.at.returns c).After-progress_of-progress) in
    (rw c.record_of-2.ensures (ap (λ (x : BlockCall). x.block) e), ap (λ (x : BlockCall). x.table) e)
