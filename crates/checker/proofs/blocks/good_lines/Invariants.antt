use mathlib.Core.Path.{◌≡◌}
use mathlib.Core.Bool.{not}
use Prim.Native.Nat.{◌-◌, ◌≤◌}
use lib.Dec.{T}
use lib.ListN.{length, drop}
use Rattle.definitions.specs.Rules.{rules_of, scope_places}
use Rattle.definitions.specs.Valid.{working_weight}
use Rattle.theory.proofs.Validity.{Handed}
use Rattle.tables.specs.Scopes.{BestOf}
use Rattle.checker.specs.Checker.{record_out, fold_replay}
use Rattle.checker.specs.Taken.{good_replay, more_by}
use Rattle.checker.proofs.blocks.good_lines.Given as goal

abbrev pub invariant-loop-from : goal.invariant-loop-from
invariant-loop-from l =
    (l.done ≤ l.from) × (l.from ≤ length l.bytes) × (length l.best ≡ scope_places) × (length l.raised ≡ scope_places)
    × Handed (rules_of l.case) (working_weight (rules_of l.case)) l.case l.table × BestOf l.case l.table l.best
    × T (not (record_out (rules_of l.case) l.case (good_replay l.progress l.raised)))
    × (more_by l.done (fold_replay (rules_of l.case) l.case l.table (good_replay l.progress l.raised) (drop l.from l.bytes))
    ≡ fold_replay (rules_of l.case) l.case l.initial.table (good_replay l.initial.progress l.initial.raised) l.bytes)

abbrev pub decreases-loop-from : goal.decreases-loop-from
decreases-loop-from l = length l.bytes - l.from
