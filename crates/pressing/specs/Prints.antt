-- What a start and the rounds after it print, and the promise of it. Assumes nothing.
use Rattle.definitions.specs.declared.Refusal.{Refusal}
use Rattle.std.specs.Prelude.{◌≡◌, ◌⊎◌, List, [], ◌++◌, ℕ, zero, suc, ◌+◌, ◌≤◌, length, take, Result, Ok, Err}
use Rattle.definitions.specs.declared.Rulebook.{Rulebook}
use Rattle.definitions.specs.Rules.{rules_in}
use Rattle.definitions.specs.Lines.{line_length}
use Rattle.definitions.specs.CaseFiles.{case_size}
use Rattle.definitions.specs.Programs.{press_limit, table_for, press_prints}
use Rattle.definitions.specs.Places.{longest_case, longest_round}
use Rattle.pressing.specs.Pressing.{PressingCall, start_pressing, next_pressing}

-- what a call is to print: so many of the output's first bytes
abbrev pub printed_bytes : Result ℕ Refusal → List ℕ → List ℕ
printed_bytes (Ok n) out = take n out
printed_bytes (Err x) out = []

abbrev pub text_of : PressingCall → List ℕ
text_of g = printed_bytes g.pressed.written g.out

abbrev pub called : PressingCall → PressingCall
called g = next_pressing g.pressed.pressing g.table g.out

-- so many calls of `next`, each with the record, the table and the output that the last one left
abbrev pub after_calls : ℕ → PressingCall → PressingCall
after_calls zero g = g
after_calls (suc n) g = after_calls n (called g)

-- the text of a call, followed by the texts of so many calls of `next`
abbrev pub printed_of : ℕ → PressingCall → List ℕ
printed_of zero g = text_of g
printed_of (suc n) g = text_of g ++ printed_of n (called g)

-- nothing more is due
abbrev pub Over : PressingCall → Type 0
Over g = g.pressed.pressing.left ≡ 0

-- g is a start on the input t: after 100,000 calls of `next`, or before, nothing more is due; and after however many calls nothing more is
-- due, what was printed is what `press` prints
pub record Printed (b : Rulebook) (t : List ℕ) (g : PressingCall) : Type 0 where
  pub ends : (n : ℕ) → press_limit ≤ n → Over (after_calls n g)
  pub printed : (n : ℕ) → Over (after_calls n g) → printed_of n g ≡ press_prints b t

-- for every input, of which a front was read that holds the longest case and a line more or all of it, and every output as long as a round
abbrev pub PressPrinted : Rulebook → Type 0
PressPrinted b = (front rest out : List ℕ) → (longest_case (rules_in b) + line_length (rules_in b).amount_width ≤ length front) ⊎ (rest ≡ [])
    → longest_round (rules_in b) ≤ length out
    → Printed b (front ++ rest) (start_pressing b front (table_for (case_size b front)) out)
