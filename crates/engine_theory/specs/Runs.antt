-- Runs round by round: bound lines, what each call wrote, the output after it, a run that goes on after earlier rounds, where a void line comes
-- next. Assumes nothing.
use Rattle.definitions.specs.declared.Refusal.{Refusal}
use Rattle.std.specs.Prelude.{◌≡◌, List, [], ◌∷◌, ◌++◌, ℕ, zero, suc, ◌+◌, ℤ, Result, Ok, Err}
use Rattle.integers.specs.Words.{joined, those}
use Rattle.definitions.specs.declared.Case.{Case}
use Rattle.definitions.specs.declared.RunAnswer.{RunAnswer}
use Rattle.definitions.specs.Rules.{Rules}
use Rattle.definitions.specs.Lines.{read_line, has_kind, overwritten}
use Rattle.definitions.specs.RoundLines.{void_text}
use Rattle.definitions.specs.Engine.{Next, nothing, round, void, Made, settled, refused, made, voided, make_next}
use Rattle.calls.specs.EngineCalls.{RunCall}

-- the bound lines among these lines
abbrev pub bound_lines : Rules → List (List ℕ) → List (List ℕ)
bound_lines r ts = those (λ t. has_kind 4 (read_line r.amount_width t)) ts

-- a void line comes next
abbrev pub VoidNext : Rules → (Rules → Case → List ℤ → Next) → Case → List ℤ → Type 0
VoidNext r next c w = (i : ℕ) × (raised : List ℕ) × (next r c w ≡ void i raised)

-- what each call of a run wrote: one list of lines for each round, and at the end one for a void line
abbrev pub texts_of : Made → (List ℤ → List (List (List ℕ))) → List (List (List ℕ))
texts_of settled go = []
texts_of (refused x) go = []
texts_of (made v lines) go = lines ∷ go v
texts_of (voided lines) go = lines ∷ []

abbrev pub texts_at_limit : Rules → Next → List (List (List ℕ))
texts_at_limit r nothing = []
texts_at_limit r (round moves) = []
texts_at_limit r (void i raised) = void_text r i raised ∷ []

abbrev pub call_texts : Rules → (Rules → Case → List ℤ → Next) → Case → ℕ → List ℤ → List (List (List ℕ))
call_texts r next c zero w = texts_at_limit r (next r c w)
call_texts r next c (suc left) w = texts_of (make_next r c w (next r c w)) (λ v. call_texts r next c left v)

-- how many of them are those of a void line
abbrev pub void_texts : Result RunAnswer Refusal → ℕ
void_texts (Ok RunAnswer.Settled) = 0
void_texts (Ok RunAnswer.Limit) = 0
void_texts (Ok RunAnswer.Void) = 1
void_texts (Err x) = 0

-- an output after each call's lines were written from its first byte, one call after another
abbrev pub written_in_turn : List (List (List ℕ)) → List ℕ → List ℕ
written_in_turn [] out = out
written_in_turn (lines ∷ rest) out = written_in_turn rest (overwritten (joined lines) out)

-- a run before which so many rounds were made, and so much of the log was written
abbrev pub preceded : ℕ → List ℕ → RunCall → RunCall
preceded done log u = record {
  run = record { answer = u.run.answer; rounds = done + u.run.rounds; bound = u.run.bound };
  table = u.table;
  out = u.out;
  log = log ++ u.log;
}
