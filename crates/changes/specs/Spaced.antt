-- A weight with an amount added, where a barred tuple's weight stays; weights that stand `step` apart: `count` of them, from place `start` on.
-- Assumes nothing.
use Rattle.std.specs.Prelude.{Bool, ◌&&◌, List, ℕ, zero, suc, ◌+◌, ◌*◌, ◌<◌, ℤ, pos, neg_ℤ, ◌+ℤ◌, length, get_or, set, if◌then◌else◌}
use Rattle.std.specs.Int.{w64}
use Rattle.std.proofs.Common.{SFits}
use Rattle.integers.specs.Words.{below, all, within_z, minus}
use Rattle.definitions.specs.Rules.{Rules}
use Rattle.definitions.specs.Case.{is_barred}
use Rattle.definitions.specs.Moves.{keeps_range}

-- an amount that may be added or subtracted
abbrev pub amount_within : Rules → ℤ → Bool
amount_within r by = within_z (minus r.moving) (pos r.moving) by

-- what the weight z gets where `by` is added, and the weight then
abbrev pub sparing : ℤ → ℤ → ℤ
sparing z by = if is_barred z then pos 0 else by

abbrev pub weight_with : ℤ → ℤ → ℤ
weight_with z by = z +ℤ sparing z by

-- it keeps its range
abbrev pub stays_with : Rules → ℤ → ℤ → Bool
stays_with r z by = keeps_range r z (z +ℤ by)

-- the weight at a place
abbrev pub weight_at : List ℤ → ℕ → ℤ
weight_at w p = get_or w p (pos 0)

-- they lie in the table
abbrev pub Inside : List ℤ → ℕ → ℕ → ℕ → Type 0
Inside w start step count = (j : ℕ) → j < count → start + j * step < length w

-- they keep their range with `by` added
abbrev pub spaced_stay : Rules → List ℤ → ℕ → ℕ → ℕ → ℤ → Bool
spaced_stay r w start step count by = all (λ j. stays_with r (weight_at w (start + j * step)) by) (below count)

-- they fit a machine word with `by` added
abbrev pub SumsFit : List ℤ → ℕ → ℕ → ℕ → ℤ → Type 0
SumsFit w start step count by = (j : ℕ) → j < count → SFits w64 (weight_with (weight_at w (start + j * step)) by)

-- the table with `by` added to each
unfoldable pub spaced_add : List ℤ → ℕ → ℕ → ℕ → ℤ → List ℤ
spaced_add w start step zero by = w
spaced_add w start step (suc j) by =
    set (spaced_add w start step j by) (start + j * step) (weight_with (weight_at (spaced_add w start step j by) (start + j * step)) by)

-- `a` added at `own` and subtracted from the others
abbrev pub transfer_stays : Rules → List ℤ → ℕ → ℕ → ℕ → ℕ → ℤ → Bool
transfer_stays r w own start step count a = spaced_stay r w own 1 1 a && spaced_stay r w start step count (neg_ℤ a)

abbrev pub transferred : List ℤ → ℕ → ℕ → ℕ → ℕ → ℤ → List ℤ
transferred w own start step count a = spaced_add (spaced_add w own 1 1 a) start step count (neg_ℤ a)
