-- From the loop's contract to the printed text: what is judged turn after turn is a cut of the whole input. Assumes nothing.
use Rattle.std.specs.Prelude.{Result, Ok}
use Rattle.definitions.specs.declared.Refusal.{Refusal}
use Rattle.definitions.specs.declared.RefusedAt.{RefusedAt}
use mathlib.Core.Path.{◌≡◌, refl, sym, ap, ap₂, subst, ◌∙◌}
use mathlib.Core.Bool.{false, not}
use mathlib.Core.Logic.{◌⊎◌, inl, inr}
use mathlib.Core.List.{List, [], ◌++◌}
use Prim.Native.Nat.{ℕ, ◌*◌, ◌/◌, ◌≤◌, ◌-◌}
use native.Mathlib.Nat.{mul-le-mul_left}
use native.Mathlib.Omega.{arith}
use lib.IntN.{ℤ}
use lib.Dec.{T, eqb}
use lib.ListN.{length, take, drop, length-append}
use lib.Seq.{length-take-le, drop-append-le, take-append_seam}
use borrow.Author.Tests.{le-leb}
use Rattle.integers.specs.Tests.{is_false}
use Rattle.integers.specs.Words.{joined}
use Rattle.definitions.specs.declared.Rulebook.TheVariants.{Desk}
use Rattle.definitions.specs.Rules.{rules_in}
use Rattle.definitions.specs.Places.{input_places, longest_case, placed}
use Rattle.definitions.specs.Lines.{whole_lines, overwritten}
use Rattle.definitions.specs.CaseFiles.{case_size, read_case}
use Rattle.definitions.specs.Programs.{table_for, replay_prints}
use Rattle.texts.specs.Texts.{text_room, greatest_count}
use Rattle.judging.specs.Judging.{JudgingState, state_of, start_judging, finish_judging}
use Rattle.judging.specs.Cuts.{Cut}
use Rattle.judging.proofs.Prints.{lines-within, replay-printed}
use Rattle.streams.specs.declared.Filled.{Filled}
use Rattle.streams.specs.Streams.{is_over, is_failed, printed_part}
use Rattle.replay.specs.declared.Turned.{Turned}
use Rattle.replay.specs.Turns.{desk_line, case_end, most_turns, Judges, Prints}

start-answer : (front : List ℕ) (w : List ℤ) → (start_judging Desk front w).answer ≡ (read_case Desk front w).read.answer
unfolding start_judging
start-answer front w = refl

-- the bytes of a case that fits
case-fits : (lines most : ℕ) → lines * desk_line ≤ most → case_end (Ok lines) most ≡ lines * desk_line
case-fits lines most h = simp (le-leb lines (most / desk_line) (omega arith))

module _ {room : ℕ} {front : List ℕ} {first : Filled} {r : Turned} {v : List ℤ} (enough : (longest_case (rules_in Desk) ≤ length front) ⊎ T (is_over first))
    (o : Judges room front (table_for (case_size Desk front)) first r v) where
  abbrev w : List ℤ
  w = table_for (case_size Desk front)

  log_is : (lines : ℕ) → (read_case Desk front w).read.answer ≡ Ok lines
      → drop (lines * desk_line) (front ++ o.more) ≡ joined o.blocks ++ o.tail
  log_is lines e =
      let fits = lines-within Desk front w e in
      let at : case_end (start_judging Desk front w).answer (length front) ≡ lines * desk_line =
      ap (λ (a : Result ℕ RefusedAt). case_end a (length front)) (start-answer front w ∙ e) ∙ case-fits lines (length front) fits in
      drop-append-le (lines * desk_line) front o.more fits ∙ ap (λ (n : ℕ). drop n front ++ o.more) (sym at) ∙ o.all

  held-or-all : (longest_case (rules_in Desk) ≤ length front) ⊎ T (is_over first) → (longest_case (rules_in Desk) ≤ length front) ⊎ (o.more ≡ [])
  held-or-all (inl h) = inl h
  held-or-all (inr e) = inr (o.ends e).0

  cut : Cut Desk (front ++ o.more)
  cut = record {
    front = front;
    rest = o.more;
    whole = refl;
    enough = held-or-all enough;
    blocks = o.blocks;
    tail = o.tail;
    lines-whole = o.lines-whole;
    tail-short = o.short;
    log = log_is;
  }

  finished : (out : List ℕ) → text_room ≤ length out → whole_lines (rules_in Desk).amount_width (front ++ o.more) ≤ greatest_count
      → finish_judging (state_of r.judging v) (not (eqb r.held 0)) out
      ≡ record { answer = Ok (length (replay_prints Desk (front ++ o.more))); out = overwritten (replay_prints Desk (front ++ o.more)) out }
  unfolding cut
  finished out room few =
      ap₂ (λ (s : JudgingState) (n : ℕ). finish_judging s (not (eqb n 0)) out) o.state o.held
      ∙ (replay-printed Desk (front ++ o.more) cut few out room)

  -- so few lines do not use up the turns
  read-over : input_places - desk_line ≤ room → whole_lines (rules_in Desk).amount_width (front ++ o.more) ≤ greatest_count → T (is_over r.filled)
  read-over wide few = go o.over
    where
      go : T (is_over r.filled) ⊎ (most_turns * room ≤ length o.more) → T (is_over r.filled)
      go (inl e) = e
      go (inr h) = absurd (omega (arith, length-append front o.more, mul-le-mul_left {m = input_places - desk_line} {n = room} most_turns wide))

  -- a read failed
  pub failed-prints : T (is_failed r.filled) → (text : List ℕ) → Prints room front first text []
  failed-prints e text = record {
    state = r;
    table = v;
    judged = o;
    failed = λ f. refl;
    finished = λ n. absurd (subst T (is_false (is_failed r.filled) n) e);
    says = λ n few. absurd (subst T (is_false (is_failed r.filled) n) e);
  }

  -- what the finish writes after the loop
  pub judges-prints : input_places - desk_line ≤ room → is_failed r.filled ≡ false → (out : List ℕ) → text_room ≤ length out → {a : Result ℕ Refusal} {after : List ℕ}
      → (a ≡ (finish_judging (state_of r.judging v) (not (eqb r.held 0)) out).answer)
      × (after ≡ (finish_judging (state_of r.judging v) (not (eqb r.held 0)) out).out)
      → Prints room front first out (printed_part a after)
  judges-prints wide done out fits (p, q) = record {
    state = r;
    table = v;
    judged = o;
    failed = λ f. absurd (subst T done f);
    finished = λ n. ap₂ printed_part p q;
    says = λ n few. (
      read-over wide few,
      ap₂ printed_part (p ∙ ap (λ k. k.answer) (finished out fits few)) (q ∙ ap (λ k. k.out) (finished out fits few))
          ∙ take-append_seam (replay_prints Desk (front ++ o.more)) (drop (length (replay_prints Desk (front ++ o.more))) out),
    );
  }

-- a buffer that was filled holds the longest case
pub enough-read : (buf : List ℕ) (filled : Filled) → filled.to ≤ length buf → length buf ≡ input_places → (length buf ≤ filled.to) ⊎ T (is_over filled)
    → (longest_case (rules_in Desk) ≤ length (take filled.to buf)) ⊎ T (is_over filled)
enough-read buf filled h e (inl full) = inl (omega (arith, length-take-le filled.to buf h, (placed Desk).input))
enough-read buf filled h e (inr over) = inr over
