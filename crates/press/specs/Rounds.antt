-- How many bytes `press` hands to be printed, call after call, and of which text. That a write is handed them and prints them, no contract can say.
-- Assumes nothing.
use Rattle.std.specs.Prelude.{◌≡◌, Bool, true, not, ◌||◌, ◌⊎◌, List, [], ◌++◌, ℕ, ◌+◌, ◌≤◌, ℤ, T, eqb, length}
use Rattle.definitions.specs.declared.Rulebook.TheVariants.{Desk}
use Rattle.definitions.specs.Programs.{press_limit, press_prints}
use Rattle.streams.specs.declared.Filled.{Filled}
use Rattle.streams.specs.Streams.{is_over, is_failed}
use Rattle.pressing.specs.Pressing.{PressingCall, next_pressing}
use Rattle.pressing.specs.Prints.{text_of, after_calls, printed_of}
use Rattle.press.specs.declared.Printed.{Printed}
use Rattle.press.specs.declared.State.{State}

-- a write failed, or nothing more is due
abbrev pub nothing_due : State → Bool
nothing_due s = not s.all || eqb s.pressed.pressing.left 0

-- the next call, whose text is handed to be printed
pub record NextCall (s : State) (w : List ℤ) (out : List ℕ) (r : State) (v : List ℤ) (after : List ℕ) : Type 0 where
  pub pressed : r.pressed ≡ (next_pressing s.pressed.pressing w out).pressed
  pub table : v ≡ (next_pressing s.pressed.pressing w out).table
  pub output : after ≡ (next_pressing s.pressed.pressing w out).out
  pub bytes : r.bytes ≡ s.bytes + length (text_of (next_pressing s.pressed.pressing w out))

-- the texts of a call and of so many calls of `next` after it, handed to be printed until a write failed, nothing more is due or all rounds are made
pub record Rounds (g : PressingCall) (r : State) (v : List ℤ) (after : List ℕ) : Type 0 where
  pub calls : ℕ
  pub pressed : r.pressed ≡ (after_calls calls g).pressed
  pub table : v ≡ (after_calls calls g).table
  pub output : after ≡ (after_calls calls g).out
  pub bytes : r.bytes ≡ length (printed_of calls g)
  pub ends : T (nothing_due r) ⊎ (press_limit ≤ calls)

-- what is handed to be printed where a fill read this front of the input: nothing where a read failed; else, where no write failed, what `press`
-- prints of the input
pub record Presses (front : List ℕ) (filled : Filled) (r : Printed) : Type 0 where
  pub printed : List ℕ
  pub bytes : r.bytes ≡ length printed
  pub failed : T (is_failed filled) → printed ≡ []
  pub says : T (not (is_failed filled)) → r.all ≡ true → (rest : List ℕ) → (T (is_over filled) → rest ≡ []) → printed ≡ press_prints Desk (front ++ rest)
