-- An answer is known by the number and the values that it says: answers that say the same are equal, so that a contract which names an answer
-- states document 01's number and values. Assumes nothing.
use Rattle.definitions.specs.declared.RefusedAt.{RefusedAt}
use Rattle.definitions.specs.declared.Line.{Line}
use mathlib.Core.Path.{◌≡◌, refl, sym, ap, ◌∙◌}
use mathlib.Core.Bool.{true, false}
use mathlib.Core.List.{List, [], ◌∷◌}
use lib.IntN.{ℤ, pos, nat_abs}
use lib.Dec.{leb, eqb}
use Rattle.std.specs.Prelude.{if◌then◌else◌, Result, Ok, Err, Option, Some, None, ⊤, ℕ, Bool}
use Rattle.integers.specs.Words.{eq_z}
use Rattle.definitions.specs.declared.Refusal.{Refusal}
use Rattle.definitions.specs.declared.Refusal.TheVariants.{
  NotInColumns,
  NotDue,
  OutsideLimits,
  WrongLength,
  OutOfRange,
  EndsNotAscending,
  EdgeRepeated,
  WeightOutOfRange,
  RaiseNotAscending,
  NotRefuted,
  LeavesRange,
  OtherBound,
  BoundNotLower,
  CutShort,
  ScopeBarred,
  NotAllBarred,
}
use Rattle.definitions.specs.declared.CaseSize.{CaseSize}
use Rattle.definitions.specs.declared.Span.{Span}
use Rattle.definitions.specs.declared.Round.{Round}
use Rattle.definitions.specs.declared.RunAnswer.{RunAnswer}
use Rattle.definitions.specs.declared.Choice.{Choice}
use Rattle.definitions.specs.declared.Judgement.{Judgement}
use Rattle.definitions.specs.Refusals.{number}
use Rattle.definitions.specs.Answers.{Says, outcome_says, figure_says, verdict_says, line_says, size_says, file_says, written_says, span_says, refused_at, size_with, from_to}
use Rattle.definitions.specs.Answers.{round_says, run_says, choice_says, judgement_says, value_at, count_at, refusal_of}

-- ---- numbers

-- a number says which refusal it is, and is 1 to 16
pub record Numbered (x : Refusal) : Type 0 where
  pub back : refusal_of (number x) ≡ Some x
  pub least : eqb (number x) 0 ≡ false
  pub most : leb (number x) 16 ≡ true

pub numbered : (x : Refusal) → Numbered x
numbered NotInColumns = record { back = refl; least = refl; most = refl }
numbered NotDue = record { back = refl; least = refl; most = refl }
numbered OutsideLimits = record { back = refl; least = refl; most = refl }
numbered WrongLength = record { back = refl; least = refl; most = refl }
numbered OutOfRange = record { back = refl; least = refl; most = refl }
numbered EndsNotAscending = record { back = refl; least = refl; most = refl }
numbered EdgeRepeated = record { back = refl; least = refl; most = refl }
numbered WeightOutOfRange = record { back = refl; least = refl; most = refl }
numbered RaiseNotAscending = record { back = refl; least = refl; most = refl }
numbered NotRefuted = record { back = refl; least = refl; most = refl }
numbered LeavesRange = record { back = refl; least = refl; most = refl }
numbered OtherBound = record { back = refl; least = refl; most = refl }
numbered BoundNotLower = record { back = refl; least = refl; most = refl }
numbered CutShort = record { back = refl; least = refl; most = refl }
numbered ScopeBarred = record { back = refl; least = refl; most = refl }
numbered NotAllBarred = record { back = refl; least = refl; most = refl }

module _ {A : Type 0} where
  -- a where no number is said, else what f gives of its refusal
  abbrev unless : A → (Refusal → A) → Option Refusal → A
  unless a f None = a
  unless a f (Some x) = f x

  abbrev from : Says → A → (Refusal → A) → A
  from s a f = unless a f (refusal_of s.number)

  refused-back : (x : Refusal) (a : A) (f : Refusal → A) → unless a f (refusal_of (number x)) ≡ f x
  refused-back x a f = ap (unless a f) (numbered x).back

  -- answers that can be read back
  pub same-said : (says : A → Says) (read : Says → A) → ((a : A) → read (says a) ≡ a) → (a b : A) → says a ≡ says b → a ≡ b
  same-said says read back a b e = sym (back a) ∙ ap read e ∙ back b

-- ---- answers

abbrev outcome_from : Says → Result ⊤ Refusal
outcome_from s = from s (Ok tt) Err

outcome-back : (a : Result ⊤ Refusal) → outcome_from (outcome_says a) ≡ a
outcome-back (Ok tt) = refl
outcome-back (Err x) = refused-back x _ Err

pub outcome-same : (a b : Result ⊤ Refusal) → outcome_says a ≡ outcome_says b → a ≡ b
outcome-same = same-said outcome_says outcome_from outcome-back

abbrev figure_from : Says → Result ℤ Refusal
figure_from s = from s (Ok (value_at s 0)) Err

figure-back : (a : Result ℤ Refusal) → figure_from (figure_says a) ≡ a
figure-back (Ok z) = refl
figure-back (Err x) = refused-back x _ Err

pub figure-same : (a b : Result ℤ Refusal) → figure_says a ≡ figure_says b → a ≡ b
figure-same = same-said figure_says figure_from figure-back

abbrev verdict_from : Says → Result Bool Refusal
verdict_from s = from s (Ok (eq_z (value_at s 0) (pos 1))) Err

verdict-back : (a : Result Bool Refusal) → verdict_from (verdict_says a) ≡ a
verdict-back (Ok true) = refl
verdict-back (Ok false) = refl
verdict-back (Err x) = refused-back x _ Err

pub verdict-same : (a b : Result Bool Refusal) → verdict_says a ≡ verdict_says b → a ≡ b
verdict-same = same-said verdict_says verdict_from verdict-back

abbrev line_from : Says → Result Line Refusal
line_from s = from s (Ok (record { kind = value_at s 0; a = value_at s 1; b = value_at s 2; c = value_at s 3; amount = value_at s 4 })) Err

line-back : (a : Result Line Refusal) → line_from (line_says a) ≡ a
line-back (Ok l) = refl
line-back (Err x) = refused-back x _ Err

pub line_same : (a b : Result Line Refusal) → line_says a ≡ line_says b → a ≡ b
line_same = same-said line_says line_from line-back

abbrev size_from : Says → Result CaseSize Refusal
size_from s = from s (Ok (size_with (count_at s 0) (count_at s 1) (count_at s 2) (count_at s 3))) Err

size_back : (a : Result CaseSize Refusal) → size_from (size_says a) ≡ a
size_back (Ok s) = refl
size_back (Err x) = refused-back x _ Err

pub size_same : (a b : Result CaseSize Refusal) → size_says a ≡ size_says b → a ≡ b
size_same = same-said size_says size_from size_back

abbrev file_from : Says → Result ℕ RefusedAt
file_from s = from s (Ok (count_at s 0)) (λ x. Err (refused_at x (count_at s 0)))

file-back : (a : Result ℕ RefusedAt) → file_from (file_says a) ≡ a
file-back (Ok lines) = refl
file-back (Err x) = refused-back x.refusal (Ok x.line) (λ y. Err (refused_at y x.line))

pub file-same : (a b : Result ℕ RefusedAt) → file_says a ≡ file_says b → a ≡ b
file-same = same-said file_says file_from file-back

abbrev written_from : Says → Result ℕ Refusal
written_from s = from s (Ok (count_at s 0)) Err

written_back : (a : Result ℕ Refusal) → written_from (written_says a) ≡ a
written_back (Ok n) = refl
written_back (Err x) = refused-back x _ Err

pub written_same : (a b : Result ℕ Refusal) → written_says a ≡ written_says b → a ≡ b
written_same = same-said written_says written_from written_back

abbrev span_from : Says → Result Span RefusedAt
span_from s = from s (Ok (from_to (count_at s 0) (count_at s 1))) (λ x. Err (refused_at x (count_at s 0)))

span-back : (a : Result Span RefusedAt) → span_from (span_says a) ≡ a
span-back (Ok span) = refl
span-back (Err x) = refused-back x.refusal (Ok (from_to x.line 0)) (λ y. Err (refused_at y x.line))

pub span_same : (a b : Result Span RefusedAt) → span_says a ≡ span_says b → a ≡ b
span_same = same-said span_says span_from span-back

-- settled has no values, a void line one
abbrev round_with : List ℤ → Result Round Refusal
round_with [] = Ok Round.Settled
round_with (z ∷ []) = Ok (Round.Void (nat_abs z))
round_with (z ∷ y ∷ zs) = Ok (Round.Made (nat_abs z) y)

abbrev round_from : Says → Result Round Refusal
round_from s = from s (round_with s.values) Err

round-back : (a : Result Round Refusal) → round_from (round_says a) ≡ a
round-back (Ok Round.Settled) = refl
round-back (Ok (Round.Made bytes bound)) = refl
round-back (Ok (Round.Void bytes)) = refl
round-back (Err x) = refused-back x _ Err

pub round_same : (a b : Result Round Refusal) → round_says a ≡ round_says b → a ≡ b
round_same = same-said round_says round_from round-back

abbrev run_from : Says → Result RunAnswer Refusal
run_from s =
    from s (if eq_z (value_at s 0) (pos 0) then Ok RunAnswer.Settled else if eq_z (value_at s 0) (pos 1) then Ok RunAnswer.Limit else Ok RunAnswer.Void) Err

run-back : (a : Result RunAnswer Refusal) → run_from (run_says a) ≡ a
run-back (Ok RunAnswer.Settled) = refl
run-back (Ok RunAnswer.Limit) = refl
run-back (Ok RunAnswer.Void) = refl
run-back (Err x) = refused-back x _ Err

pub run-same : (a b : Result RunAnswer Refusal) → run_says a ≡ run_says b → a ≡ b
run-same = same-said run_says run_from run-back

abbrev choice_from : Says → Result Choice Refusal
choice_from s = from s (if eq_z (value_at s 0) (pos 0) then Ok Choice.First else Ok Choice.Second) Err

choice-back : (a : Result Choice Refusal) → choice_from (choice_says a) ≡ a
choice-back (Ok Choice.First) = refl
choice-back (Ok Choice.Second) = refl
choice-back (Err x) = refused-back x _ Err

pub choice-same : (a b : Result Choice Refusal) → choice_says a ≡ choice_says b → a ≡ b
choice-same = same-said choice_says choice_from choice-back

-- void has no values
abbrev judgement_with : List ℤ → ℤ → Result Judgement RefusedAt
judgement_with [] bound = Ok Judgement.Void
judgement_with (z ∷ zs) bound = Ok (Judgement.Accepted (nat_abs z) bound)

abbrev judgement_from : Says → Result Judgement RefusedAt
judgement_from s = from s (judgement_with s.values (value_at s 1)) (λ x. Err (refused_at x (count_at s 0)))

judgement-back : (a : Result Judgement RefusedAt) → judgement_from (judgement_says a) ≡ a
judgement-back (Ok (Judgement.Accepted rounds bound)) = refl
judgement-back (Ok Judgement.Void) = refl
judgement-back (Err x) = refused-back x.refusal (Ok (Judgement.Accepted x.line (pos 0))) (λ y. Err (refused_at y x.line))

pub judgement-same : (a b : Result Judgement RefusedAt) → judgement_says a ≡ judgement_says b → a ≡ b
judgement-same = same-said judgement_says judgement_from judgement-back
