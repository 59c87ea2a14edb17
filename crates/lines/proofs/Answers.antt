-- What the calls answer at width w: at each way out of the code. Assumes nothing.
use Rattle.std.specs.Prelude.{Result, Ok, Err, Option}
use Rattle.definitions.specs.declared.Refusal.{Refusal}
use mathlib.Core.Path.{◌≡◌, sym, ◌∙◌}
use mathlib.Core.Bool.{Bool, true, false, ◌||◌}
use mathlib.Core.Logic.{◌≢◌}
use mathlib.Core.List.{List}
use Prim.Native.Nat.{ℕ, ◌+◌, ◌≤◌, ◌<◌}
use native.Mathlib.Omega.{arith}
use lib.IntN.{ℤ}
use lib.Dec.{ltb}
use lib.ListN.{length, get_or}
use borrow.Author.Tests.{lt-ltb, le-ltb, eq-eqb, ne_eqb}
use Rattle.integers.specs.Tests.{false-is, tests}
use Rattle.definitions.specs.declared.Line.{Line}
use Rattle.definitions.specs.declared.Refusal.TheVariants.{NotInColumns, WrongLength, OutOfRange}
use Rattle.definitions.specs.Lines.{number_text, line_text, line_too_wide, column_at, read_line, overwritten}
use Rattle.lines.specs.Found.{line_found, line_answer}
use Rattle.lines.specs.AtWidth.{width_out, line_out, read_line_at, write_line_at}
use Rattle.lines.specs.WriteNumber.{write_number_call}

-- a width that is not out
pub width-within : (w : ℕ) → width_out w ≡ false → (1 ≤ w) × (w ≤ 18)
width-within w f = simp tests at f

right-false : (a b : Bool) → (a || b) ≡ false → b ≡ false
right-false false b f = f
right-false true b f = absurd (false-is true f)

-- a line that is not out
pub line-within : (w : ℕ) (l : Line) → line_out w l ≡ false → line_too_wide w l ≡ false
line-within w l f = right-false (width_out w) (line_too_wide w l) f

module _ (w : ℕ) where
  module _ (t : List ℕ) where
    pub read-width : width_out w ≡ true → Err NotInColumns ≡ read_line_at w t
    unfolding read_line_at
    read-width f = rw f

    module _ (i : width_out w ≡ false) where
      read_is : read_line_at w t ≡ line_answer (read_line w t)
      unfolding read_line_at
      read_is = rw i

      pub read_length : length t ≢ 14 + w + 1 → Err NotInColumns ≡ read_line_at w t
      read_length h = sym (read_is ∙ simp (ne_eqb (length t) (15 + w) (λ q. h (omega arith))))

      pub read-feed : length t ≡ 14 + w + 1 → get_or t (14 + w) 0 ≢ 10 → Err NotInColumns ≡ read_line_at w t
      read-feed h n = sym (read_is ∙ simp (eq-eqb (length t) (15 + w) (omega arith), ne_eqb _ _ n))

      pub read-columns : length t ≡ 14 + w + 1 → get_or t (14 + w) 0 ≡ 10 → {kind a b c amount : Option ℤ} {r : Result Line Refusal}
          → kind ≡ column_at 0 2 t → a ≡ column_at 2 4 t → b ≡ column_at 6 4 t → c ≡ column_at 10 4 t → amount ≡ column_at 14 w t
          → r ≡ line_answer (line_found kind a b c amount) → r ≡ read_line_at w t
      read-columns h f p q u v x y =
          rw (p, q, u, v, x) at y ∙ sym (read_is ∙ simp (eq-eqb (length t) (15 + w) (omega arith), eq-eqb _ _ f))

  module _ (out : List ℕ) (l : Line) where
    pub write-short : ltb (length out) (15 + w) ≡ true → write_line_at w out l ≡ record { answer = Err WrongLength; out = out }
    unfolding write_line_at
    write-short s = rw s

    pub write-wide : ltb (length out) (15 + w) ≡ false → line_out w l ≡ true → write_line_at w out l ≡ record { answer = Err OutOfRange; out = out }
    unfolding write_line_at
    write-wide s t = rw (s, t)

    pub write_done : ltb (length out) (15 + w) ≡ false → line_out w l ≡ false
        → write_line_at w out l ≡ record { answer = Ok tt; out = overwritten (line_text w l) out }
    unfolding write_line_at
    write_done s t = rw (s, t)

module _ (out : List ℕ) (z : ℤ) where
  pub number_short : length out < length (number_text z) → write_number_call out z ≡ record { answer = Err WrongLength; out = out }
  unfolding write_number_call
  number_short h = simp (lt-ltb _ _ h)

  pub number-done : length (number_text z) ≤ length out → write_number_call out z ≡ record
      { answer = Ok (length (number_text z)); out = overwritten (number_text z) out }
  unfolding write_number_call
  number-done h = simp (le-ltb _ _ h)
