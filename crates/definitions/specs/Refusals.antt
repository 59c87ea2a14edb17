-- Document 01, "Turned back, in checking order". Assumes nothing.
use Rattle.std.specs.Prelude.{Bool, List, [], ◌∷◌, ℕ, ltb, if◌then◌else◌, Option, Some, None}
use Rattle.definitions.specs.declared.Refusal.{Refusal}
use Rattle.definitions.specs.declared.Refusal.TheVariants.{
  NotInColumns,
  NotDue,
  OutsideLimits,
  WrongLength,
  OutOfRange,
  EndsNotAscending,
  EdgeRepeated,
  WeightOutOfRange,
  RaiseNotAscending,
  NotRefuted,
  LeavesRange,
  OtherBound,
  BoundNotLower,
  CutShort,
  ScopeBarred,
  NotAllBarred,
}

-- its number: 1 to 14 are document 01's, 15 and 16 document 02's (change 2). They are asked in the order 1 to 8, 15, 9, 10, 16, 11 to 14
abbrev pub number : Refusal → ℕ
number NotInColumns = 1
number NotDue = 2
number OutsideLimits = 3
number WrongLength = 4
number OutOfRange = 5
number EndsNotAscending = 6
number EdgeRepeated = 7
number WeightOutOfRange = 8
number RaiseNotAscending = 9
number NotRefuted = 10
number LeavesRange = 11
number OtherBound = 12
number BoundNotLower = 13
number CutShort = 14
number ScopeBarred = 15
number NotAllBarred = 16

-- 0 where no number applies
abbrev pub number_of : Option Refusal → ℕ
number_of None = 0
number_of (Some x) = number x

-- a refusal, and whether it applies
pub record Test : Type 0 where
  pub refusal : Refusal
  pub applies : Bool

infix 70 ◌when◌
abbrev pub ◌when◌ : Refusal → Bool → Test
x when b = record { refusal = x; applies = b }

-- refusals are asked in the order in which they stand, and the first that applies is the answer
abbrev pub first_refusal : List Test → Option Refusal
first_refusal [] = None
first_refusal (t ∷ ts) = if t.applies then Some t.refusal else first_refusal ts

-- its turn in the checking order
abbrev pub turn : Refusal → ℕ
turn NotInColumns = 1
turn NotDue = 2
turn OutsideLimits = 3
turn WrongLength = 4
turn OutOfRange = 5
turn EndsNotAscending = 6
turn EdgeRepeated = 7
turn WeightOutOfRange = 8
turn ScopeBarred = 9
turn RaiseNotAscending = 10
turn NotRefuted = 11
turn NotAllBarred = 12
turn LeavesRange = 13
turn OtherBound = 14
turn BoundNotLower = 15
turn CutShort = 16

-- of two lists of tests, each in the checking order, the number that is asked first
abbrev pub sooner : Option Refusal → Option Refusal → Option Refusal
sooner None y = y
sooner (Some x) None = Some x
sooner (Some x) (Some y) = if ltb (turn y) (turn x) then Some y else Some x
