-- Raised scopes as marks, and what is asked of a press after the check. Assumes nothing.
use Rattle.std.specs.Prelude.{not, ◌||◌, List, [], ◌∷◌, ℕ, ℤ, set}
use Rattle.integers.specs.Words.{is_in}
use Rattle.definitions.specs.declared.Case.{Case}
use Rattle.definitions.specs.declared.Refusal.TheVariants.{RaiseNotAscending, NotRefuted, LeavesRange}
use Rattle.definitions.specs.Rules.{Rules}
use Rattle.definitions.specs.Refusals.{Test, ◌when◌}
use Rattle.definitions.specs.Moves.{active_press, moved, active_refuted, leaves_range}
use Rattle.calls.specs.Calls.{is_rising}

-- 1 at each of these places
unfoldable pub marked : List ℕ → List ℕ → List ℕ
marked l [] = l
marked l (x ∷ xs) = marked (set l x 1) xs

-- numbers 10 and 11
abbrev pub asked_of_raised : Rules → Case → List ℤ → ℕ → List ℕ → ℤ → List Test
asked_of_raised r c w i raised a =
    NotRefuted when (not (active_refuted c w i raised)) ∷ LeavesRange when (leaves_range r c w (moved c (active_press c w i raised a) w)) ∷ []

-- numbers 9, 10 and 11
abbrev pub asked_of_press : Rules → Case → List ℤ → ℕ → List ℕ → ℤ → List Test
asked_of_press r c w i raised a = RaiseNotAscending when (not (is_rising raised) || is_in raised i) ∷ asked_of_raised r c w i raised a
