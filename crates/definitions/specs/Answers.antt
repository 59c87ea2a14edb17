-- What each answer of the library says in document 01's terms: its number (0 where none applies) and its values. Assumes nothing.
use Rattle.definitions.specs.declared.RefusedAt.{RefusedAt}
use Rattle.definitions.specs.declared.Line.{Line}
use Rattle.std.specs.Prelude.{List, [], ◌∷◌, ℕ, ℤ, pos, nat_abs, eqb, get_or, if◌then◌else◌, Result, Ok, Err, Option, Some, None, ⊤, Bool, true, false}
use Rattle.definitions.specs.declared.Refusal.{Refusal}
use Rattle.definitions.specs.declared.Refusal.TheVariants.{
  NotInColumns,
  NotDue,
  OutsideLimits,
  WrongLength,
  OutOfRange,
  EndsNotAscending,
  EdgeRepeated,
  WeightOutOfRange,
  RaiseNotAscending,
  NotRefuted,
  LeavesRange,
  OtherBound,
  BoundNotLower,
  CutShort,
  ScopeBarred,
  NotAllBarred,
}
use Rattle.definitions.specs.declared.CaseSize.{CaseSize}
use Rattle.definitions.specs.declared.Span.{Span}
use Rattle.definitions.specs.declared.Round.{Round}
use Rattle.definitions.specs.declared.RunAnswer.{RunAnswer}
use Rattle.definitions.specs.declared.Choice.{Choice}
use Rattle.definitions.specs.declared.Judgement.{Judgement}
use Rattle.definitions.specs.Refusals.{number}

pub record Says : Type 0 where
  pub number : ℕ
  pub values : List ℤ

abbrev says_no : Refusal → Says
says_no x = record { number = number x; values = [] }

-- a refusal in a file names its line
abbrev says_no_at : Refusal → ℕ → Says
says_no_at x at = record { number = number x; values = pos at ∷ [] }

abbrev gives : List ℤ → Says
gives values = record { number = 0; values = values }

abbrev pub outcome_says : Result ⊤ Refusal → Says
outcome_says (Ok tt) = gives []
outcome_says (Err x) = says_no x

abbrev pub figure_says : Result ℤ Refusal → Says
figure_says (Ok z) = gives (z ∷ [])
figure_says (Err x) = says_no x

-- yes is 1, no is 0
abbrev pub verdict_says : Result Bool Refusal → Says
verdict_says (Ok true) = gives (pos 1 ∷ [])
verdict_says (Ok false) = gives (pos 0 ∷ [])
verdict_says (Err x) = says_no x

-- kind, a, b, c, amount
abbrev pub line_says : Result Line Refusal → Says
line_says (Ok l) = gives (l.kind ∷ l.a ∷ l.b ∷ l.c ∷ l.amount ∷ [])
line_says (Err x) = says_no x

-- n, D, m, the table's length
abbrev pub size_says : Result CaseSize Refusal → Says
size_says (Ok s) = gives (pos s.n ∷ pos s.d ∷ pos s.m ∷ pos s.table ∷ [])
size_says (Err x) = says_no x

-- the lines used
abbrev pub file_says : Result ℕ RefusedAt → Says
file_says (Ok lines) = gives (pos lines ∷ [])
file_says (Err x) = says_no_at x.refusal x.line

abbrev pub written_says : Result ℕ Refusal → Says
written_says (Ok n) = gives (pos n ∷ [])
written_says (Err x) = says_no x

-- the stretch's first byte and the byte after its last
abbrev pub span_says : Result Span RefusedAt → Says
span_says (Ok span) = gives (pos span.from ∷ pos span.to ∷ [])
span_says (Err x) = says_no_at x.refusal x.line

-- settled has no values; a round its bytes and the upper bound; a void line its bytes
abbrev pub round_says : Result Round Refusal → Says
round_says (Ok Round.Settled) = gives []
round_says (Ok (Round.Made bytes bound)) = gives (pos bytes ∷ bound ∷ [])
round_says (Ok (Round.Void bytes)) = gives (pos bytes ∷ [])
round_says (Err x) = says_no x

-- settled is 0, limit is 1, void is 2
abbrev pub run_says : Result RunAnswer Refusal → Says
run_says (Ok RunAnswer.Settled) = gives (pos 0 ∷ [])
run_says (Ok RunAnswer.Limit) = gives (pos 1 ∷ [])
run_says (Ok RunAnswer.Void) = gives (pos 2 ∷ [])
run_says (Err x) = says_no x

-- the first plan is 0, the second 1
abbrev pub choice_says : Result Choice Refusal → Says
choice_says (Ok Choice.First) = gives (pos 0 ∷ [])
choice_says (Ok Choice.Second) = gives (pos 1 ∷ [])
choice_says (Err x) = says_no x

-- the rounds and the upper bound; void has no values
abbrev pub judgement_says : Result Judgement RefusedAt → Says
judgement_says (Ok (Judgement.Accepted rounds bound)) = gives (pos rounds ∷ bound ∷ [])
judgement_says (Ok Judgement.Void) = gives []
judgement_says (Err x) = says_no_at x.refusal x.line

-- ---- what is said, part by part

-- the value in a place, 0 where there is none; a value that counts, as a count
abbrev pub value_at : Says → ℕ → ℤ
value_at s k = get_or s.values k (pos 0)

abbrev pub count_at : Says → ℕ → ℕ
count_at s k = nat_abs (value_at s k)

-- the line that a refusal in a file names, 0 where none applies
abbrev pub line_named : Says → ℕ
line_named s = if eqb s.number 0 then 0 else count_at s 0

-- all refusals, and the one that has a number
abbrev pub refusals : List Refusal
refusals =
    NotInColumns
    ∷ NotDue
    ∷ OutsideLimits
    ∷ WrongLength
    ∷ OutOfRange
    ∷ EndsNotAscending
    ∷ EdgeRepeated
    ∷ WeightOutOfRange
    ∷ RaiseNotAscending
    ∷ NotRefuted
    ∷ LeavesRange
    ∷ OtherBound
    ∷ BoundNotLower
    ∷ CutShort
    ∷ ScopeBarred
    ∷ NotAllBarred
    ∷ []

abbrev pub refusal_among : ℕ → List Refusal → Option Refusal
refusal_among n [] = None
refusal_among n (x ∷ xs) = if eqb n (number x) then Some x else refusal_among n xs

abbrev pub refusal_of : ℕ → Option Refusal
refusal_of n = refusal_among n refusals

-- ---- answers of more than one part

abbrev pub refused_at : Refusal → ℕ → RefusedAt
refused_at x at = record { refusal = x; line = at }

abbrev pub size_with : ℕ → ℕ → ℕ → ℕ → CaseSize
size_with n d m long = record { n = n; d = d; m = m; table = long }

abbrev pub from_to : ℕ → ℕ → Span
from_to a b = record { from = a; to = b }

-- ---- an answer by whether a refusal applies

abbrev pub answer_of : {A : Type 0} → Option Refusal → A → Result A Refusal
answer_of None a = Ok a
answer_of (Some x) a = Err x

abbrev pub outcome_of : Option Refusal → Result ⊤ Refusal
outcome_of o = answer_of o tt

-- a, unless a refusal applies: then b
abbrev pub unless_refused : {A : Type 0} → Option Refusal → A → A → A
unless_refused None a b = a
unless_refused (Some x) a b = b
