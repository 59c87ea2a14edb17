-- The raise lines of a press or a void line that are taken together from the front of a block, its last line excepted. Assumes nothing.
use Rattle.std.specs.Prelude.{◌≡◌, not, List, ℕ, zero, suc, ℤ, T, Option, Some, None}
use Rattle.definitions.specs.declared.Case.{Case}
use Rattle.definitions.specs.Rules.{rules_of}
use Rattle.definitions.specs.Case.{scope_count}
use Rattle.definitions.specs.Valid.{working_weight}
use Rattle.theory.proofs.Validity.{Handed}
use Rattle.checker.specs.declared.Target.{Target}
use Rattle.checker.specs.declared.Due.{Due}
use Rattle.checker.specs.declared.Progress.{Progress}
use Rattle.checker.specs.Checker.{record_out, fold_replay}
use Rattle.checker.specs.Taken.{good_replay, bytes_per_line, more_by}

-- ---- inside a press or a void line

abbrev pub held_progress : Progress → ℕ → Target → ℕ → Option ℕ → Progress
held_progress q i target left last_one = record { rounds = q.rounds; start = q.start; moved = q.moved; due = Due.Raise i target left last_one }

-- the last scope by the lowest one above the raised ones
abbrev pub last_under : ℕ → Option ℕ
last_under zero = None
last_under (suc x) = Some x

abbrev pub raising_progress : Progress → ℕ → Target → ℕ → ℕ → Progress
raising_progress q i target left next = held_progress q i target left (last_under next)

-- The fold over t, with n lines done before it, is the fold over u with m lines done before it: the lines between them, of so many bytes each,
-- got no number.
pub record Onward (long scopes n : ℕ) (p : Progress) (raised t : List ℕ) (m : ℕ) (q : Progress) (marked u : List ℕ) : Type 0 where
  pub goes :
      (c : Case) (w : List ℤ) → Handed (rules_of c) (working_weight (rules_of c)) c w → bytes_per_line c ≡ long → scope_count c ≡ scopes
      → T (not (record_out (rules_of c) c (good_replay p raised)))
      → (more_by n (fold_replay (rules_of c) c w (good_replay p raised) t) ≡ more_by m (fold_replay (rules_of c) c w (good_replay q marked) u))
      × T (not (record_out (rules_of c) c (good_replay q marked)))
