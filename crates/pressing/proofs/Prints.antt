-- The start and the rounds print what document 01 says of the whole input. Assumes nothing.
use Rattle.definitions.specs.declared.RefusedAt.{RefusedAt}
use Rattle.definitions.specs.Answers.{refused_at, answer_of}
use mathlib.Core.Path.{◌≡◌, refl, sym, ap, subst, ◌∙◌}
use mathlib.Core.Bool.{Bool}
use mathlib.Core.List.{List, [], ◌++◌, append_assoc, append-nil}
use Prim.Native.Nat.{ℕ, zero, suc, ◌*◌, ◌-◌, ◌≤◌}
use native.Mathlib.Nat.{mul-le-mul_left}
use native.Mathlib.Omega.{arith}
use lib.IntN.{ℤ}
use lib.Dec.{eqb}
use lib.ListN.{length, drop, length-append, length-drop}
use lib.Seq.{take-append_seam}
use borrow.Author.Tests.{le-ltb, ne_eqb}
use Rattle.std.specs.Prelude.{if◌then◌else◌, Result, Ok, Err, Option, Some, None}
use Rattle.integers.specs.Words.{joined}
use Rattle.integers.specs.Lists.{joined-append}
use Rattle.definitions.specs.declared.Rulebook.{Rulebook}
use Rattle.definitions.specs.declared.Case.{Case}
use Rattle.definitions.specs.declared.CaseRead.{CaseRead}
use Rattle.definitions.specs.declared.Refusal.{Refusal}
use Rattle.definitions.specs.declared.Refusal.TheVariants.{LeavesRange}
use Rattle.definitions.specs.Rules.{Rules, Coherent, coherent, rules_in, rules_of}
use Rattle.calls.specs.Calls.{WriteCall}
use Rattle.definitions.specs.Valid.{working_weight}
use Rattle.definitions.specs.Moves.{Move, after_moves}
use Rattle.definitions.specs.Lines.{line_length, overwritten}
use Rattle.definitions.specs.CaseFiles.{CaseCall, case_of, case_refused, case_size, rest_refusal, nothing_after, read_lines, read_lines_alone, read_case_alone}
use Rattle.definitions.specs.Engine.{Next, nothing, round, void, Made, engine_next, round_bytes, made_of, make_next, at_limit, onward, run_from}
use Rattle.calls.specs.EngineCalls.{RoundCall, round_made, engine_refusal, round_call}
use Rattle.definitions.specs.Places.{longest_lines, longest_round, placed}
use Rattle.definitions.specs.Programs.{press_limit, refused_text, table_for, press_run, press_read}
use Rattle.definitions.specs.RoundLines.{round_text, void_text}
use Rattle.reach_theory.proofs.Counts.{rounds_left, left-most, left_less, void-left-some}
use Rattle.pressing.proofs.Unlimited.{most-few}
use Rattle.theory.proofs.Validity.{Handed, valid-facts, working-handed}
use Rattle.case_theory.proofs.CaseReads.{zeroed-read, alone-rulebook}
use Rattle.case_theory.proofs.CaseTexts.{written-read-alone}
use Rattle.engine_theory.proofs.Runs.{RoundFrom, handed-on}
use Rattle.engine_theory.proofs.Engine.{engine-lawful}
use Rattle.engine_theory.proofs.Calls.{taken-iff, call-taken, round-short}
use Rattle.texts.specs.Texts.{text_room, greatest_count, write_refused_call}
use Rattle.texts.proofs.Answers.{text-done}
use Rattle.judging.proofs.Fronts.{front_line, lines-line, press-front}
use Rattle.judging.proofs.Prints.{few-lines}
use Rattle.pressing.specs.Pressing.{PressingCall, after_text, after_round, head_or_short, after_case, start_pressing, round_next, next_pressing}
use Rattle.pressing.specs.Prints.{printed_bytes, text_of, called, after_calls, printed_of, Over, Printed, PressPrinted}

-- ---- nothing more is due

-- what a call of `next` then leaves
abbrev idle : PressingCall → PressingCall
idle g = record {
  pressed = record {
    pressing = g.pressed.pressing;
    written =
        answer_of (engine_refusal (rules_of g.pressed.pressing.case) engine_next g.pressed.pressing.case g.table g.out) 0;
  };
  table = g.table;
  out = g.out;
}

-- it prints nothing, whatever it is asked
idle-text : (g : PressingCall) → text_of (idle g) ≡ []
idle-text g = go (engine_refusal (rules_of g.pressed.pressing.case) engine_next g.pressed.pressing.case g.table g.out)
  where
    go : (o : Option Refusal) → printed_bytes (answer_of o 0) g.out ≡ []
    go None = refl
    go (Some x) = refl

over-idle : (g : PressingCall) → Over g → called g ≡ idle g
unfolding next_pressing
over-idle g e = ap (λ (n : ℕ). if eqb n 0 then idle g else round_next g.pressed.pressing g.table g.out) e

over-after : (n : ℕ) (g : PressingCall) → Over g → Over (after_calls n g)
over-after zero g e = e
over-after (suc n) g e = subst (λ (k : PressingCall). Over (after_calls n k)) (sym (over-idle g e)) (over-after n (idle g) e)

over-printed : (n : ℕ) (g : PressingCall) → Over g → printed_of n g ≡ text_of g
over-printed zero g e = refl
over-printed (suc n) g e =
    ap (λ (k : PressingCall). text_of g ++ printed_of n k) (over-idle g e)
    ∙ ap (λ (l : List ℕ). text_of g ++ l) (over-printed n (idle g) e ∙ idle-text g) ∙ append-nil (text_of g)

-- the line of a case that is read alone
module _ (book : Rulebook) (t : List ℕ) (w : List ℤ) where
  -- what is left after the case, by its refusal
  rest : ℕ → Option Refusal → CaseCall
  rest lines o = elim o [
    | None ↦ read_lines book t w
    | Some x ↦ case_refused book x lines (read_lines book t w).table
  ]

  rest-line : (lines : ℕ) (o : Option Refusal) → (read_lines book t w).read.answer ≡ Ok lines
      → front_line (rest lines o).read.answer ≤ longest_lines (rules_in book)
  unfolding rest
  rest-line lines None e = lines-line book t w
  rest-line lines (Some x) e = omega (arith, lines-line book t w, ap front_line e)

  alone-line : front_line (read_case_alone book t w).read.answer ≤ longest_lines (rules_in book)
  unfolding rest
  alone-line =
      omega (
        arith,
        ap (λ (x : CaseRead). front_line x.answer) (zeroed-read (read_lines_alone book t w)),
        go (read_lines book t w).read.answer refl,
      )
    where
      go : (a : Result ℕ RefusedAt) → (read_lines book t w).read.answer ≡ a
          → front_line (nothing_after book t (read_lines book t w) a).read.answer ≤ longest_lines (rules_in book)
      go (Err x) e = lines-line book t w
      go (Ok lines) e = rest-line lines (rest_refusal (rules_in book) (drop (lines * line_length (rules_in book).amount_width) t)) e

-- ---- rounds

module _ (c : Case) (at : ℕ) (few : at ≤ greatest_count) where
  abbrev r : Rules
  r = rules_of c

  abbrev whole : Coherent r
  whole = coherent c.rulebook

  -- so many rounds may follow
  abbrev stand : ℕ → List ℤ → List ℕ → Result ℕ Refusal → PressingCall
  stand left w out written = record { pressed = record { pressing = record { case = c; lines = at; left = left }; written = written }; table = w; out = out }

  abbrev written : List ℕ → List ℕ → ℕ → List ℤ → PressingCall
  written text out left v = stand left v (overwritten text out) (Ok (length text))

  -- what a call of `next` leaves where a round may follow
  data Called (left : ℕ) (w : List ℤ) (out : List ℕ) : PressingCall → Type 0 where
    settles : engine_next r c w ≡ nothing → Called left w out (stand 0 w out (Ok 0))
    refuses : {moves : List Move} → engine_next r c w ≡ round moves → after_moves r c moves w ≡ None
        → Called left w out (written (refused_text LeavesRange at) out 0 w)
    voids : {i : ℕ} {raised : List ℕ} → engine_next r c w ≡ void i raised → Called left w out (written (joined (void_text r i raised)) out 0 w)
    makes : {moves : List Move} {v : List ℤ} → RoundFrom r engine_next c w moves v → Called left w out (written (joined (round_text r c moves v)) out left v)

  module _ (left : ℕ) (w : List ℤ) (out : List ℕ) (h : Handed r (working_weight r) c w) (long : round_bytes r c ≤ length out) (room : text_room ≤ length out) where
    text-written : write_refused_call out LeavesRange at ≡ record {
      answer = Ok (length (refused_text LeavesRange at));
      out =
          overwritten (refused_text LeavesRange at) out;
    }
    unfolding write_refused_call
    text-written = text-done out at (refused_text LeavesRange at) room few

    abbrev told : RoundCall → PressingCall
    told u = after_round (record { case = c; lines = at; left = suc left }) u u.answer

    called-told : (x : Result ℕ Refusal) → called (stand (suc left) w out x) ≡ told (round_made c w out (make_next r c w (engine_next r c w)))
    unfolding next_pressing
    called-told x =
        ap (λ (b : Bool). if b then idle (stand (suc left) w out x) else told (round_call r engine_next c w out)) (ne_eqb (suc left) 0 (λ z. omega arith))
        ∙ ap told (call-taken r engine_next c w out ((taken-iff r engine_next c w out).1 (h, long)))

    abbrev leads-to : Made → PressingCall
    leads-to m = told (round_made c w out m)

    called_is : (x : Result ℕ Refusal) → Called left w out (called (stand (suc left) w out x))
    called_is x = subst (Called left w out) (sym (called-told x)) (go (engine_next r c w) refl)
      where
        leads : (moves : List Move) (o : Option (List ℤ)) → engine_next r c w ≡ round moves → after_moves r c moves w ≡ o
            → Called left w out (leads-to (made_of r c moves o))
        leads moves None e f =
            subst (Called left w out) (sym (ap (λ (k : WriteCall). record {
              pressed =
                  after_text (record { case = c; lines = at; left = suc left }) k.answer;
              table = w;
              out = k.out;
            }) text-written)) (refuses e f)
        leads moves (Some v) e f =
            let less : left ≡ suc left - 1 = omega arith in
            subst (λ (k : ℕ). Called left w out (written (joined (round_text r c moves v)) out k v)) less (makes (record { handed = h; comes = e; leads = f }))

        go : (n : Next) → engine_next r c w ≡ n → Called left w out (leads-to (make_next r c w n))
        go nothing e = settles e
        go (void i raised) e = voids e
        go (round moves) e = leads moves (after_moves r c moves w) e refl

  -- what is left to print after so many calls
  abbrev more : ℕ → PressingCall → List ℕ
  more zero g = []
  more (suc n) g = printed_of n (called g)

  text-more : (n : ℕ) (g : PressingCall) → printed_of n g ≡ text_of g ++ more n g
  text-more zero g = sym (append-nil (text_of g))
  text-more (suc n) g = refl

  over-more : (n : ℕ) (g : PressingCall) → Over g → more n g ≡ []
  over-more zero g e = refl
  over-more (suc n) g e = ap (printed_of n) (over-idle g e) ∙ over-printed n (idle g) e ∙ idle-text g

  kept-long : {w v : List ℤ} {moves : List Move} → RoundFrom r engine_next c w moves v → (out : List ℕ) → round_bytes r c ≤ length out
      → length (overwritten (joined (round_text r c moves v)) out) ≡ length out
  kept-long m out long = simp (length-append, length-drop) (omega (arith, round-short whole (engine-lawful whole c) m))

  ends-after : (left : ℕ) (w : List ℤ) (out : List ℕ) (x : Result ℕ Refusal) → Handed r (working_weight r) c w → round_bytes r c ≤ length out → text_room ≤ length out
      → (n : ℕ) → left ≤ n → Over (after_calls n (stand left w out x))
  ends-after zero w out x h long room n k = over-after n (stand 0 w out x) refl
  ends-after (suc left) w out x h long room zero k = absurd (omega arith)
  ends-after (suc left) w out x h long room (suc n) k =
      go (called (stand (suc left) w out x)) (called_is left w out h long room x) (λ v bytes y g l m. ends-after left v bytes y g l m n (omega arith))
    where
      go : (g : PressingCall) → Called left w out g
          → ((v : List ℤ) (bytes : List ℕ) (y : Result ℕ Refusal) → Handed r (working_weight r) c v → round_bytes r c ≤ length bytes → text_room ≤ length bytes
          → Over (after_calls n (stand left v bytes y)))
          → Over (after_calls n g)
      go g (settles e) on = over-after n g refl
      go g (refuses e f) on = over-after n g refl
      go g (voids e) on = over-after n g refl
      go g (makes {moves} {v} m) on =
          let same = kept-long m out long in
          on v (overwritten (joined (round_text r c moves v)) out) (Ok (length (joined (round_text r c moves v))))
          (handed-on whole (engine-lawful whole c) m) (omega arith) (omega arith)

  -- where no more rounds can come than may follow, a void line does not come after the last of them
  prints-after : (left done : ℕ) (w : List ℤ) (out : List ℕ) (x : Result ℕ Refusal) (log : List (List ℕ)) → Handed r (working_weight r) c w
      → rounds_left c w ≤ left → round_bytes r c ≤ length out → text_room ≤ length out
      → (n : ℕ) → Over (after_calls n (stand left w out x)) → joined log ++ more n (stand left w out x) ≡ press_run at (run_from r engine_next c left done w log)
  prints-after zero done w out x log h enough long room n over =
      ap (λ (l : List ℕ). joined log ++ l) (over-more n (stand 0 w out x) refl) ∙ go (engine_next r c w) refl
    where
      go : (n : Next) → engine_next r c w ≡ n → joined log ++ [] ≡ press_run at (at_limit r n done w log)
      go nothing e = refl
      go (round moves) e = refl
      go (void i raised) e = absurd (omega (arith, void-left-some whole h e))
  prints-after (suc left) done w out x log h enough long room zero over = absurd (omega arith)
  prints-after (suc left) done w out x log h enough long room (suc n) over =
      go (called (stand (suc left) w out x)) (called_is left w out h long room x) over
      (λ v bytes y l g e k m o. prints-after left (suc done) v bytes y l g e k m n o)
    where
      go : (g : PressingCall) → Called left w out g → Over (after_calls n g)
          → ((v : List ℤ) (bytes : List ℕ) (y : Result ℕ Refusal) (l : List (List ℕ)) → Handed r (working_weight r) c v → rounds_left c v ≤ left
          → round_bytes r c ≤ length bytes → text_room ≤ length bytes
          → Over (after_calls n (stand left v bytes y)) → joined l ++ more n (stand left v bytes y) ≡ press_run at (run_from r engine_next c left (suc done) v l))
          → joined log ++ printed_of n g ≡ press_run at (onward (make_next r c w (engine_next r c w)) done w log
          (λ v lines. run_from r engine_next c left (suc done) v lines))
      go g (settles e) over on =
          ap (λ (l : List ℕ). joined log ++ l) (over-printed n g refl)
          ∙ sym (ap (λ (k : Next). press_run at (onward (make_next r c w k) done w log (λ v lines. run_from r engine_next c left (suc done) v lines))) e)
      go g (refuses {moves} e f) over on =
          ap (λ (l : List ℕ). joined log ++ l) (over-printed n g refl
          ∙ take-append_seam (refused_text LeavesRange at) (drop (length (refused_text LeavesRange at)) out))
          ∙ sym (ap (λ (k : Next). press_run at (onward (make_next r c w k) done w log (λ v lines. run_from r engine_next c left (suc done) v lines))) e
          ∙ ap (λ (o : Option (List ℤ)). press_run at (onward (made_of r c moves o) done w log (λ v lines. run_from r engine_next c left (suc done) v lines))) f)
      go g (voids {i} {raised} e) over on =
          let lines : List (List ℕ) = void_text r i raised in
          ap (λ (l : List ℕ). joined log ++ l) (over-printed n g refl ∙ take-append_seam (joined lines) (drop (length (joined lines)) out))
          ∙ sym (joined-append log lines) ∙ sym (append-nil (joined (log ++ lines)))
          ∙ sym (ap (λ (k : Next). press_run at (onward (make_next r c w k) done w log (λ v lines. run_from r engine_next c left (suc done) v lines))) e)
      go g (makes {moves} {v} m) over on =
          let lines : List (List ℕ) = round_text r c moves v in
          let same = kept-long m out long in
          let fewer = left_less whole h m.comes m.leads in
          let rest = on v (overwritten (joined lines) out) (Ok (length (joined lines))) (log ++ lines) (handed-on whole (engine-lawful whole c) m)
          (omega arith) (omega arith) (omega arith) over in
          ap (λ (l : List ℕ). joined log ++ l) (text-more n g
          ∙ ap (λ (l : List ℕ). l ++ more n g) (take-append_seam (joined lines) (drop (length (joined lines)) out)))
          ∙ sym (append_assoc (joined log) (joined lines) (more n g)) ∙ ap (λ (l : List ℕ). l ++ more n g) (sym (joined-append log lines)) ∙ rest
          ∙ sym (ap (λ (k : Next). press_run at (onward (make_next r c w k) done w log (λ v lines. run_from r engine_next c left (suc done) v lines))) m.comes
          ∙ ap (λ (o : Option (List ℤ)). press_run at (onward (made_of r c moves o) done w log (λ v lines. run_from r engine_next c left (suc done) v lines)))
          m.leads)

-- ---- an input that is read under a rulebook

round-fits : {c : Case} {w : List ℤ} → Handed (rules_of c) (working_weight (rules_of c)) c w → round_bytes (rules_of c) c ≤ longest_round (rules_of c)
round-fits {c} h = mul-le-mul_left (line_length (rules_of c).amount_width) (omega (arith, h.variables-most, h.edges_most, h.values-most))

module _ (book : Rulebook) (texts-fit : text_room ≤ longest_round (rules_in book)) where
  module _ (t out : List ℕ) (long : longest_round (rules_in book) ≤ length out) where
    abbrev lent : List ℤ
    lent = table_for (case_size book t)

    abbrev call : CaseCall
    call = read_case_alone book t lent

    abbrev begun : PressingCall
    begun = start_pressing book t lent out

    begins : begun ≡ after_case out call call.read.answer
    unfolding start_pressing
    begins =
        ap (λ (b : Bool). if b then record {
          pressed = record { pressing = record { case = case_of book 0 0 0; lines = 0; left = 0 }; written = Err (head_or_short (case_size book t)) };
          table = lent;
          out = out;
        } else after_case out call call.read.answer) (le-ltb (length out) text_room (omega arith))

    line-few : {a : Result ℕ RefusedAt} → call.read.answer ≡ a → front_line a ≤ greatest_count
    line-few e = omega (arith, alone-line book t lent, ap front_line e, few-lines (coherent book))

    refused-text : (x : Refusal) (line : ℕ) → line ≤ greatest_count → text_of (after_case out call (Err (refused_at x line))) ≡ refused_text x line
    unfolding write_refused_call
    refused-text x line k =
        ap (λ (u : WriteCall). printed_bytes u.answer u.out) (text-done out line (refused_text x line) (omega arith) k)
        ∙ take-append_seam (refused_text x line) (drop (length (refused_text x line)) out)

    -- by what the case's reading answers
    abbrev Right : Result ℕ RefusedAt → Type 0
    Right a = Printed book t (after_case out call a)

    right : (a : Result ℕ RefusedAt) → call.read.answer ≡ a → Right a
    right (Err x) e =
        let is : text_of (after_case out call (Err x)) ≡ refused_text x.refusal x.line = refused-text x.refusal x.line (line-few e) in
        record {
          ends = λ n k. over-after n (after_case out call (Err x)) refl;
          printed = λ n over. over-printed n (after_case out call (Err x)) refl ∙ is ∙ sym (ap (press_read call) e);
        }
    right (Ok lines) e =
        let c : Case = call.read.case in
        let whole : Coherent (rules_of c) = coherent c.rulebook in
        let h : Handed (rules_of c) (working_weight (rules_of c)) c call.table =
        working-handed whole (valid-facts (rules_of c) c call.table (written-read-alone book t lent e).accepted) in
        let most : rounds_left c call.table ≤ press_limit =
        omega (arith, left-most c call.table, most-few c.rulebook c h.variables-most h.values-most h.edges_most) in
        let same : longest_round (rules_of c) ≡ longest_round (rules_in book) = ap (λ (b : Rulebook). longest_round (rules_in b)) (alone-rulebook book t lent) in
        let fits = round-fits h in
        let k : lines ≤ greatest_count = line-few e in
        record {
          ends = ends-after c lines k press_limit call.table out (Ok 0) h (omega arith) (omega arith);
          printed = λ n over.
              text-more c lines k n (after_case out call (Ok lines))
              ∙ prints-after c lines k press_limit 0 call.table out (Ok 0) [] h most (omega arith) (omega arith) n over
              ∙ sym (ap (press_read call) e);
        }

    prints : Printed book t begun
    prints = subst (Printed book t) (sym begins) (right call.read.answer refl)

  press-prints : PressPrinted book
  press-prints front rest out enough long =
      let p = prints front out long in
      record { ends = p.ends; printed = λ n over. p.printed n over ∙ sym (press-front book front rest enough) }

-- for every rulebook
pub press-printed : (book : Rulebook) → PressPrinted book
press-printed book = press-prints book (placed book).text
