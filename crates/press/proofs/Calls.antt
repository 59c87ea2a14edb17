-- One call more, and from the loop's contract to what is printed. Assumes nothing.
use Rattle.std.specs.Prelude.{Result, Ok, Err}
use Rattle.definitions.specs.declared.Refusal.{Refusal}
use mathlib.Core.Path.{◌≡◌, refl, sym, ap, subst, ◌∙◌}
use mathlib.Core.Bool.{Bool, true, false, not}
use mathlib.Core.Logic.{◌⊎◌, inl, inr, ⊎_elim}
use mathlib.Core.List.{List, [], ◌++◌, append_assoc}
use Prim.Native.Nat.{ℕ, zero, suc, ◌+◌, ◌≤◌}
use native.Mathlib.Omega.{arith}
use lib.IntN.{ℤ}
use lib.Dec.{T, eqb, eqb→eq}
use lib.ListN.{length, take, length-append, length-take}
use Rattle.definitions.specs.declared.Rulebook.TheVariants.{Desk}
use Rattle.definitions.specs.Rules.{rules_in}
use Rattle.definitions.specs.Places.{input_places, longest_round, longest_case}
use Rattle.definitions.specs.Lines.{line_length}
use Rattle.definitions.specs.CaseFiles.{case_size}
use Rattle.definitions.specs.Programs.{press_limit, table_for}
use Rattle.streams.specs.declared.Filled.{Filled}
use Rattle.streams.specs.Streams.{is_over, is_failed, printed_part}
use Rattle.pressing.specs.declared.Pressed.{Pressed}
use Rattle.pressing.specs.Pressing.{PressingCall, start_pressing, next_pressing}
use Rattle.pressing.specs.Prints.{printed_bytes, text_of, called, after_calls, printed_of, Over, Printed}
use Rattle.pressing.proofs.Prints.{press-printed}
use Rattle.press.specs.declared.State.{State}
use Rattle.press.specs.Rounds.{nothing_due, NextCall, Rounds, Presses}

-- the part that is printed of an output
pub printed-part-is : (x : Result ℕ Refusal) (out : List ℕ) → printed_part x out ≡ printed_bytes x out
printed-part-is (Ok n) out = refl
printed-part-is (Err x) out = refl

after_last : (n : ℕ) (g : PressingCall) → after_calls (suc n) g ≡ called (after_calls n g)
after_last zero g = refl
after_last (suc n) g = after_last n (called g)

printed-last : (n : ℕ) (g : PressingCall) → printed_of (suc n) g ≡ printed_of n g ++ text_of (after_calls (suc n) g)
printed-last zero g = refl
printed-last (suc n) g =
    ap (λ (l : List ℕ). text_of g ++ l) (printed-last n (called g))
    ∙ sym (append_assoc (text_of g) (printed_of n (called g)) (text_of (after_calls (suc (suc n)) g)))

-- a text is no longer than the output
pub text-most : (x : Result ℕ Refusal) (out : List ℕ) → length (printed_bytes x out) ≤ length out
text-most (Ok n) out = rw length-take (omega arith)
text-most (Err x) out = omega arith

-- the calls so far
pub record Made (n : ℕ) (g : PressingCall) (s : State) (w : List ℤ) (out : List ℕ) : Type 0 where
  pub pressed : s.pressed ≡ (after_calls n g).pressed
  pub table : w ≡ (after_calls n g).table
  pub output : out ≡ (after_calls n g).out
  pub bytes : s.bytes ≡ length (printed_of n g)

pub made_ends : {n : ℕ} {g : PressingCall} {s : State} {w : List ℤ} {out : List ℕ} → Made n g s w out → T (nothing_due s) ⊎ (press_limit ≤ n) → Rounds g s w out
made_ends {n} m e = record { calls = n; pressed = m.pressed; table = m.table; output = m.output; bytes = m.bytes; ends = e }

-- one call more
module _ {n : ℕ} {g : PressingCall} {s r : State} {w v : List ℤ} {out after : List ℕ} (m : Made n g s w out) (x : NextCall s w out r v after) where
  same_next : next_pressing s.pressed.pressing w out ≡ after_calls (suc n) g
  same_next = rw (m.pressed, m.table, m.output) (sym (after_last n g))

  pub made-next : Made (suc n) g r v after
  made-next = record {
    pressed = x.pressed ∙ ap (λ (k : PressingCall). k.pressed) same_next;
    table = x.table ∙ ap (λ (k : PressingCall). k.table) same_next;
    output = x.output ∙ ap (λ (k : PressingCall). k.out) same_next;
    bytes =
        let e = ap (λ (k : PressingCall). length (text_of k)) same_next in
        let p = ap length (printed-last n g) ∙ length-append (printed_of n g) (text_of (after_calls (suc n) g)) in
        omega (arith, m.bytes, x.bytes);
  }

  pub bytes-more : r.bytes ≤ s.bytes + length after
  bytes-more =
      let call : PressingCall = next_pressing s.pressed.pressing w out in
      omega (arith, x.bytes, text-most call.pressed.written call.out, ap length x.output)

-- a call by its parts
pub same-call : (x : PressingCall) {p : Pressed} {w : List ℤ} {out : List ℕ} → p ≡ x.pressed → w ≡ x.table → out ≡ x.out
    → ◌≡◌ {A = PressingCall} (record { pressed = p; table = w; out = out }) x
same-call x e f h = rw (e, f, h) refl

-- a buffer that is full, by the bytes that were read
pub read_all : {over : Type 0} (buf : List ℕ) (to : ℕ) → length buf ≡ input_places → length (take to buf) ≡ to → (length buf ≤ to) ⊎ over
    → (input_places ≤ length (take to buf)) ⊎ over
read_all buf to long count (inl h) = inl (omega arith)
read_all buf to long count (inr o) = inr o

-- a read failed
pub failed-press : (front : List ℕ) (filled : Filled) → is_failed filled ≡ true → Presses front filled (record { bytes = 0; all = true })
failed-press front filled e = record {
  printed = [];
  bytes = refl;
  failed = λ f. refl;
  says = λ f all rest none. absurd (subst (λ (b : Bool). T (not b)) e f);
}

-- what the rounds after a start print
module _ (front out : List ℕ) (filled : Filled) {r : State} {v : List ℤ} {after : List ℕ} (enough : (input_places ≤ length front) ⊎ T (is_over filled))
    (room : longest_round (rules_in Desk) ≤ length out) (o : Rounds (start_pressing Desk front (table_for (case_size Desk front)) out) r v after) where
  abbrev begun : PressingCall
  begun = start_pressing Desk front (table_for (case_size Desk front)) out

  read : (rest : List ℕ) → (T (is_over filled) → rest ≡ []) → (longest_case (rules_in Desk) + line_length (rules_in Desk).amount_width ≤ length front) ⊎ (rest ≡ [])
  read rest e = ⊎_elim (λ h. inl (omega arith)) (λ t. inr (e t)) enough

  over : (rest : List ℕ) → Printed Desk (front ++ rest) begun → r.all ≡ true → T (nothing_due r) ⊎ (press_limit ≤ o.calls) → Over (after_calls o.calls begun)
  over rest p e (inr h) = p.ends o.calls h
  over rest p e (inl t) =
      let last : T (eqb r.pressed.pressing.left 0) = rw e at t in
      ap (λ (k : Pressed). k.pressing.left) (sym o.pressed) ∙ eqb→eq r.pressed.pressing.left 0 last

  pub rounds-press : {bytes : ℕ} {all : Bool} → is_failed filled ≡ false → bytes ≡ r.bytes → all ≡ r.all
      → Presses front filled (record { bytes = bytes; all = all })
  rounds-press done b a = record {
    printed = printed_of o.calls begun;
    bytes = b ∙ o.bytes;
    failed = λ f. absurd (subst T done f);
    says = λ f e rest none.
        let p = press-printed Desk front rest out (read rest none) room in
        p.printed o.calls (over rest p (sym a ∙ e) o.ends);
  }
