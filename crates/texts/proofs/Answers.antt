-- What the calls answer, at each way out of the code. Assumes nothing.
use Rattle.std.specs.Prelude.{Result, Ok, Err}
use Rattle.definitions.specs.declared.Refusal.{Refusal}
use mathlib.Core.Path.{◌≡◌, sym, ap, ◌∙◌}
use mathlib.Core.List.{List}
use Prim.Native.Nat.{ℕ, ◌≤◌, ◌<◌}
use lib.ListN.{length}
use borrow.Author.Tests.{lt-ltb, le-ltb}
use Rattle.definitions.specs.declared.Refusal.TheVariants.{WrongLength, OutOfRange}
use Rattle.definitions.specs.Lines.{overwritten}
use Rattle.calls.specs.Calls.{WriteCall}
use Rattle.texts.specs.Texts.{text_room, greatest_count, write_text_call}

module _ (out : List ℕ) (count : ℕ) (text : List ℕ) where
  pub text-short : length out < text_room → write_text_call out count text ≡ record { answer = Err WrongLength; out = out }
  text-short h = simp (lt-ltb _ _ h)

  pub text-great : text_room ≤ length out → greatest_count < count → write_text_call out count text ≡ record { answer = Err OutOfRange; out = out }
  text-great h g = simp (le-ltb _ _ h, lt-ltb _ _ g)

  pub text-done : text_room ≤ length out → count ≤ greatest_count
      → write_text_call out count text ≡ record { answer = Ok (length text); out = overwritten text out }
  text-done h g = simp (le-ltb _ _ h, le-ltb _ _ g)

  -- the text was printed
  pub text-printed : text_room ≤ length out → count ≤ greatest_count → {n : ℕ} {l : List ℕ} → n ≡ length text → l ≡ overwritten text out
      → Ok n ≡ (write_text_call out count text).answer × (l ≡ (write_text_call out count text).out)
  text-printed h g p q = let e = sym (text-done h g) in (ap Ok p ∙ ap (λ r. r.answer) e, q ∙ ap (λ r. r.out) e)

-- an answer and an output that are those of a call are those of any call equal to it
pub same-written : {x y : WriteCall} → x ≡ y → {r : Result ℕ Refusal} {l : List ℕ} → (r ≡ x.answer) × (l ≡ x.out) → (r ≡ y.answer) × (l ≡ y.out)
same-written e (p, q) = (p ∙ ap (λ (k : WriteCall). k.answer) e, q ∙ ap (λ (k : WriteCall). k.out) e)
