-- What the calls leave, at each way out of the code. Assumes nothing.
use Rattle.definitions.specs.Answers.{refused_at, answer_of}
use mathlib.Core.Path.{◌≡◌, refl, sym, ap, ap₂, ◌∙◌}
use mathlib.Core.Bool.{Bool}
use mathlib.Core.List.{List}
use Prim.Native.Nat.{ℕ, ◌-◌}
use lib.IntN.{ℤ}
use lib.Dec.{eqb, ltb}
use lib.ListN.{length}
use Rattle.std.specs.Prelude.{if◌then◌else◌, Result, Ok, Err}
use Rattle.definitions.specs.declared.Rulebook.{Rulebook}
use Rattle.definitions.specs.declared.CaseRead.{CaseRead}
use Rattle.definitions.specs.declared.Refusal.{Refusal}
use Rattle.definitions.specs.declared.Round.{Round}
use Rattle.definitions.specs.Rules.{rules_of}
use Rattle.definitions.specs.CaseFiles.{CaseCall, case_of, case_size, read_case_alone}
use Rattle.definitions.specs.Engine.{engine_next}
use Rattle.calls.specs.EngineCalls.{RoundCall, is_leaving, engine_refusal}
use Rattle.definitions.specs.Programs.{press_limit}
use Rattle.texts.specs.Texts.{text_room, write_refused_call}
use Rattle.pressing.specs.declared.Pressing.{Pressing}
use Rattle.pressing.specs.declared.Pressed.{Pressed}
use Rattle.pressing.specs.Pressing.{PressingCall, with_left, after_text, press_refusal, after_round}
use Rattle.pressing.specs.Pressing.{head_or_short, after_case, start_pressing, round_next, next_pressing}

abbrev to_pressed : Pressing → Result ℕ Refusal → Pressed
to_pressed p x = record { pressing = p; written = x }

abbrev pub Leaves : Pressed → List ℤ → List ℕ → PressingCall → Type 0
Leaves p w out g = (p ≡ g.pressed) × (w ≡ g.table) × (out ≡ g.out)

-- an answer, a table and an output that are those of a call are those of any call equal to it
pub same-pressing : {x y : PressingCall} → x ≡ y → {p : Pressed} {w : List ℤ} {out : List ℕ} → Leaves p w out x → Leaves p w out y
same-pressing e (p, q, o) = (p ∙ ap (λ (k : PressingCall). k.pressed) e, q ∙ ap (λ (k : PressingCall). k.table) e, o ∙ ap (λ (k : PressingCall). k.out) e)

-- ---- a text
module _ (p : Pressing) (x : Result ℕ Refusal) where
  pub text-last : {n : ℕ} {q : Pressing} → x ≡ Ok n → q ≡ with_left p 0 → to_pressed q (Ok n) ≡ after_text p x
  text-last {n} e d = ap (λ (k : Pressing). to_pressed k (Ok n)) d ∙ sym (ap (after_text p) e)

  pub text-not : {y : Refusal} → x ≡ Err y → to_pressed p (Err y) ≡ after_text p x
  text-not e = sym (ap (after_text p) e)

-- ---- a refusal by the engine, by whether it is number 11
module _ (x : Refusal) (lines : ℕ) (out : List ℕ) where
  pub refusal_is : {b : Bool} → b ≡ is_leaving x → {c : Bool} → b ≡ c
      → (if c then write_refused_call out x lines else record { answer = Err x; out = out }) ≡ press_refusal x lines out
  refusal_is d e = ap (λ (b : Bool). if b then write_refused_call out x lines else record { answer = Err x; out = out }) (sym e ∙ d)

-- ---- a round
module _ (p : Pressing) (call : RoundCall) {res : Result Round Refusal} {v : List ℤ} {bytes : List ℕ}
    (told : (res ≡ call.answer) × (v ≡ call.table) × (bytes ≡ call.out)) where
  pub round-settled : res ≡ Ok Round.Settled → {q : Pressed} → q ≡ after_text p (Ok 0) → Leaves q v bytes (after_round p call call.answer)
  round-settled e d = let (a, t, o) = told in same-pressing (ap (after_round p call) (sym e ∙ a)) (d, t, o)

  pub round-made : {n : ℕ} {bound : ℤ} → res ≡ Ok (Round.Made n bound) → {q : Pressing} → q ≡ with_left p (p.left - 1)
      → Leaves (to_pressed q (Ok n)) v bytes (after_round p call call.answer)
  round-made {n} e d = let (a, t, o) = told in same-pressing (ap (after_round p call) (sym e ∙ a)) (ap (λ (k : Pressing). to_pressed k (Ok n)) d, t, o)

  pub round-void : {n : ℕ} → res ≡ Ok (Round.Void n) → {q : Pressed} → q ≡ after_text p (Ok n) → Leaves q v bytes (after_round p call call.answer)
  round-void e d = let (a, t, o) = told in same-pressing (ap (after_round p call) (sym e ∙ a)) (d, t, o)

  pub call-refused : {x : Refusal} → res ≡ Err x → {y : Result ℕ Refusal} {out : List ℕ}
      → (y ≡ (press_refusal x p.lines bytes).answer) × (out ≡ (press_refusal x p.lines bytes).out)
      → {q : Pressed} → q ≡ after_text p y → Leaves q v out (after_round p call call.answer)
  call-refused {x} e (w, n) d =
      let (a, t, o) = told in
      same-pressing (ap (after_round p call) (sym e ∙ a)) (
        d ∙ ap (after_text p) (w ∙ ap (λ (l : List ℕ). (press_refusal x p.lines l).answer) o),
        t,
        n ∙ ap (λ (l : List ℕ). (press_refusal x p.lines l).out) o,
      )

-- ---- where no round may follow
module _ (p : Pressing) (w : List ℤ) (out : List ℕ) where
  abbrev idle : PressingCall
  idle = record { pressed = to_pressed p (answer_of (engine_refusal (rules_of p.case) engine_next p.case w out) 0); table = w; out = out }

  pub next-is : {b : Bool} → eqb p.left 0 ≡ b → (if b then idle else round_next p w out) ≡ next_pressing p w out
  unfolding next_pressing
  next-is e = sym (ap (λ (b : Bool). if b then idle else round_next p w out) e)

-- ---- the start
module _ (book : Rulebook) (t : List ℕ) (w : List ℤ) (out : List ℕ) where
  abbrev unread : PressingCall
  unread = record {
    pressed = to_pressed (record { case = case_of book 0 0 0; lines = 0; left = 0 }) (Err (head_or_short (case_size book t)));
    table =
        w;
    out = out;
  }

  abbrev begun : PressingCall
  begun = after_case out (read_case_alone book t w) (read_case_alone book t w).read.answer

  pub start_is : {b : Bool} → ltb (length out) text_room ≡ b → (if b then unread else begun) ≡ start_pressing book t w out
  unfolding start_pressing
  start_is e = sym (ap (λ (b : Bool). if b then unread else begun) e)

module _ (out : List ℕ) (call : CaseCall) {read : CaseRead} {v : List ℤ} (told : (read ≡ call.read) × (v ≡ call.table)) where
  pub start-refused : {x : Refusal} {at : ℕ} → read.answer ≡ Err (refused_at x at)
      → {y : Result ℕ Refusal} {bytes : List ℕ} → (y ≡ (write_refused_call out x at).answer) × (bytes ≡ (write_refused_call out x at).out)
      → Leaves (to_pressed (record { case = read.case; lines = at; left = 0 }) y) v bytes (after_case out call call.read.answer)
  start-refused {x} {at} e (a, o) =
      let (p, q) = told in
      same-pressing (ap (after_case out call) (sym e ∙ ap (λ (k : CaseRead). k.answer) p))
      (ap₂ (λ (k : CaseRead) (z : Result ℕ Refusal). to_pressed (record { case = k.case; lines = at; left = 0 }) z) p a, q, o)

  pub start-read : {lines : ℕ} → read.answer ≡ Ok lines
      → Leaves (to_pressed (record { case = read.case; lines = lines; left = press_limit }) (Ok 0)) v out (after_case out call call.read.answer)
  start-read {lines} e =
      let (p, q) = told in
      same-pressing (ap (after_case out call) (sym e ∙ ap (λ (k : CaseRead). k.answer) p))
      (ap (λ (k : CaseRead). to_pressed (record { case = k.case; lines = lines; left = press_limit }) (Ok 0)) p, q, refl)
