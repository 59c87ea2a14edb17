-- The start, the blocks and the finish print what document 01 says of the whole input, for every cut of it. Assumes nothing.
use Rattle.definitions.specs.declared.RefusedAt.{RefusedAt}
use Rattle.definitions.specs.Answers.{refused_at}
use mathlib.Core.Path.{◌≡◌, refl, sym, ap, subst, ◌∙◌}
use mathlib.Core.Bool.{Bool, true, false, not}
use mathlib.Core.List.Memᴰ
use mathlib.Core.List.{List, [], ◌∷◌, ◌++◌, append_assoc}
use Prim.Native.Nat.{ℕ, ◌+◌, ◌*◌, ◌-◌, ◌/◌, ◌%◌, ◌≤◌, ◌<◌}
use native.Mathlib.Nat.{zero-add, mul_comm, mul-le-mul, mod-add-mod, mod-eq_of_lt, add-mul-div_right}
use native.Mathlib.Omega.{arith}
use lib.IntN.{ℤ}
use lib.Dec.{T, eqb}
use lib.ListN.{length, take, drop, length-append, length-drop, length-take}
use borrow.Author.Tests.{eqb-true}
use Rattle.std.specs.Prelude.{if◌then◌else◌, Result, Ok, Err, ⊤}
use Rattle.integers.specs.Words.{joined}
use Rattle.integers.specs.Lists.{◌∈◌}
use Rattle.definitions.specs.declared.Rulebook.{Rulebook}
use Rattle.definitions.specs.declared.Case.{Case}
use Rattle.definitions.specs.declared.Refusal.{Refusal}
use Rattle.definitions.specs.Rules.{Rules, Coherent, coherent, rules_in, rules_of, edge_places}
use Rattle.definitions.specs.Case.{upper_bound}
use Rattle.definitions.specs.Valid.{working_weight, valid}
use Rattle.definitions.specs.Lines.{line_length, whole_lines, lines_in, has_part, overwritten}
use Rattle.definitions.specs.Places.{longest_lines}
use Rattle.definitions.specs.CaseFiles.{CaseCall, read_case, case_size}
use Rattle.definitions.specs.declared.Judgement.{Judgement}
use Rattle.definitions.specs.Programs.{judgement_text, table_for, judge_log, judge_read, judge, replay_prints}
use Rattle.checker.specs.Checker.{BlockCall, is_void, good_in, fresh_replay, end_replay, fold_replay}
use Rattle.theory.proofs.Validity.{Handed, valid-facts}
use Rattle.theory.proofs.Replays.{sound-fresh, sound-after, handed-after}
use Rattle.case_theory.proofs.CaseReads.{read-rulebook}
use Rattle.case_theory.proofs.CaseTexts.{IsText, written_read, text-length, line_count}
use Rattle.checker_promise.proofs.Logs.{log_judged, fresh-lent, log-judged, log-table, log-rounds}
use Rattle.texts.specs.Texts.{text_room, greatest_count, write_refused_call, write_accepted_call, write_void_call, write_judgement_call}
use Rattle.texts.proofs.Answers.{text-done}
use Rattle.judging.specs.Judging.{JudgingState, answer_at, start_judging, judgement_from, judgement_of, finish_judging}
use Rattle.judging.specs.Cuts.{Cut, after_blocks, replay_printed}
use Rattle.judging.proofs.Fronts.{case-line, case-front}
use Rattle.judging.proofs.Blocks.{counted-few, fold-most, Stands, stays, blocks-stand}
use Rattle.judging.proofs.Ends.{finish-judged}

-- ---- the part line of whole lines and a tail
module _ (width : ℕ) where
  whole-mod : (x ys : List ℕ) → has_part width x ≡ false → length (x ++ ys) % line_length width ≡ length ys % line_length width
  whole-mod x ys h =
      let e : length x % line_length width ≡ 0 = eqb-true (length x % line_length width) 0 (go (eqb (length x % line_length width) 0) h) in
      ap (λ (n : ℕ). n % line_length width) (length-append x ys) ∙ sym (mod-add-mod (length x) (line_length width) (length ys))
      ∙ ap (λ (n : ℕ). n % line_length width) (ap (λ (n : ℕ). n + length ys) e ∙ zero-add (length ys))
    where
      go : (b : Bool) → not b ≡ false → b ≡ true
      go true e = refl
      go false e = cc

  joined-mod : (xs : List (List ℕ)) → ((x : List ℕ) → x ∈ xs → has_part width x ≡ false) → (tail : List ℕ)
      → length (joined xs ++ tail) % line_length width ≡ length tail % line_length width
  joined-mod [] h tail = refl
  joined-mod (x ∷ xs) h tail =
      ap (λ (s : List ℕ). length s % line_length width) (append_assoc x (joined xs) tail)
      ∙ whole-mod x (joined xs ++ tail) (h x (Memᴰ.head refl)) ∙ joined-mod xs (λ k m. h k (Memᴰ.tail m)) tail

  part_left : (xs : List (List ℕ)) → ((x : List ℕ) → x ∈ xs → has_part width x ≡ false) → (tail : List ℕ) → length tail < line_length width
      → has_part width (joined xs ++ tail) ≡ not (eqb (length tail) 0)
  part_left xs h tail short = ap (λ (n : ℕ). not (eqb n 0)) (joined-mod xs h tail ∙ mod-eq_of_lt short)

  -- lines passed, and the whole lines after them
  lines_after : (lines : ℕ) (t : List ℕ) → lines * line_length width ≤ length t
      → lines + whole_lines width (drop (lines * line_length width) t) ≡ whole_lines width t
  lines_after lines t h =
      let k : ℕ = line_length width in
      let e : length t ≡ length t - lines * k + lines * k = omega arith in
      let d : length t / k ≡ (length t - lines * k) / k + lines = ap (λ (n : ℕ). n / k) e
      ∙ add-mul-div_right (length t - lines * k) lines {z = k} (omega arith) in
      rw length-drop (omega arith)

-- the lines of a case that is read lie in the input's front
pub lines-within : (book : Rulebook) (front : List ℕ) (w : List ℤ) {lines : ℕ} → (read_case book front w).read.answer ≡ Ok lines
    → lines * line_length (rules_in book).amount_width ≤ length front
lines-within book front w {lines} e =
    let c : Case = (read_case book front w).read.case in
    let k : ℕ = line_length (rules_in book).amount_width in
    let text = written_read book front w e in
    let width : line_length (rules_of c).amount_width ≡ k = ap (λ (b : Rulebook). line_length (rules_in b).amount_width) (read-rulebook book front w) in
    let same : lines * k ≡ length (take (lines * k) front) =
    ap (λ (n : ℕ). n * k) text.same_count ∙ mul_comm (line_count c) k ∙ sym (ap (λ (n : ℕ). n * line_count c) width)
    ∙ sym (text-length (coherent c.rulebook) c (read_case book front w).table (valid-facts (rules_of c) c (read_case book front w).table text.accepted)) ∙ ap length text.same_text in
    omega (arith, length-take (lines * k) front)

-- ---- the text of a judgement

-- the count in it
abbrev count_of : Result Judgement RefusedAt → ℕ
count_of (Ok (Judgement.Accepted rounds bound)) = rounds
count_of (Ok Judgement.Void) = 0
count_of (Err x) = x.line

judged-written : (out : List ℕ) (j : Result Judgement RefusedAt) → text_room ≤ length out → count_of j ≤ greatest_count
    → write_judgement_call out j ≡ record { answer = Ok (length (judgement_text j)); out = overwritten (judgement_text j) out }
unfolding write_refused_call write_accepted_call write_void_call
judged-written out (Ok (Judgement.Accepted rounds bound)) h g = text-done out rounds (judgement_text (Ok (Judgement.Accepted rounds bound))) h g
judged-written out (Ok Judgement.Void) h g = text-done out 0 (judgement_text (Ok Judgement.Void)) h g
judged-written out (Err x) h g = text-done out x.line (judgement_text (Err x)) h g

log-count : (k at : ℕ) (answer end : Result ⊤ Refusal) (part : Bool) (good : Result Judgement RefusedAt) → at ≤ k → count_of good ≤ k → count_of (log_judged at answer end part good) ≤ k
log-count k at (Err x) end part good p q = p
log-count k at (Ok tt) (Err x) part good p q = p
log-count k at (Ok _) (Ok _) true good p q = p
log-count k at (Ok _) (Ok _) false good p q = q

-- every case has few lines
pub few-lines : {r : Rules} → Coherent r → longest_lines r ≤ greatest_count
few-lines {r} whole =
    let p : r.variables * r.values ≤ 256 * 8 = mul-le-mul whole.variables-few whole.values-few in
    let q : r.values * r.values ≤ 8 * 8 = mul-le-mul whole.values-few whole.values-few in
    let v : 1 + r.values * r.values ≤ 65 = omega arith in
    let u : r.edges * (1 + r.values * r.values) ≤ edge_places * 65 = mul-le-mul whole.edges_placed v in
    omega arith

-- ---- a valid case and its log: whole lines and a tail
module _ (c : Case) (w : List ℤ) (v : T (valid (rules_of c) c w)) (log : List ℕ) where
  abbrev rules : Rules
  rules = rules_of c

  abbrev whole : Coherent rules
  whole = coherent c.rulebook

  abbrev all : BlockCall
  all = fold_replay rules c w (fresh_replay rules c w) log

  handed-all : Handed rules (working_weight rules) c all.table
  handed-all = rw (log-table whole c w v log) (handed-after whole c w v (lines_in rules.amount_width log))

  rounds-few : all.block.replay.rounds ≤ greatest_count
  rounds-few =
      rw (log-rounds whole c w v log)
      (omega (arith, (sound-after rules _ (lines_in rules.amount_width log) (sound-fresh whole c w v)).few, whole.rounds-fit))

  -- the count in the judgement where no number applies
  good-few : count_of (good_in c all.block.replay all.table) ≤ greatest_count
  good-few = go (is_void all.block.replay.due)
    where
      go : (over : Bool) → count_of (if over then Ok Judgement.Void else Ok (Judgement.Accepted all.block.replay.rounds (upper_bound c all.table))) ≤ greatest_count
      go true = omega arith
      go false = rounds-few

  -- what stands after the blocks is judged as the log is
  stands-judged : {g : JudgingState} {lines : ℕ} (part : Bool) → Stands g c lines all → lines + all.block.lines ≤ greatest_count
      → judgement_from g part g.answer
      ≡ log_judged (lines + all.block.lines) all.block.answer (end_replay rules c all.block.replay) part
      (good_in c all.block.replay all.table)
  stands-judged {g} {lines} part s h =
      go all.block.answer refl (s.answer ∙ ap (λ (n : ℕ). answer_at n all.block.answer) (counted-few lines all.block.lines h))
    where
      go : (o : Result ⊤ Refusal) → all.block.answer ≡ o → g.answer ≡ answer_at (lines + all.block.lines) o
          → judgement_from g part g.answer
          ≡ log_judged (lines + all.block.lines) o (end_replay rules c all.block.replay) part
          (good_in c all.block.replay all.table)
      go (Err x) d e = ap (judgement_from g part) e
      go (Ok tt) d e =
          ap (judgement_from g part) e
          ∙ rw (s.case-kept d, s.replay d, s.table d)
          (finish-judged c all.table all.block.replay handed-all (lines + all.block.lines) part
          (good_in c all.block.replay all.table) all.block.replay.standing refl)

-- ---- a cut of an input that is read under a rulebook
module _ (book : Rulebook) (t : List ℕ) (cut : Cut book t) (short : whole_lines (rules_in book).amount_width t ≤ greatest_count) where
  abbrev lent : List ℤ
  lent = table_for (case_size book cut.front)

  abbrev call : CaseCall
  call = read_case book cut.front lent

  abbrev after : JudgingState
  after = after_blocks (start_judging book cut.front lent) cut.blocks

  abbrev judged : Result Judgement RefusedAt
  judged = judgement_of after (not (eqb (length cut.tail) 0))

  -- the whole input is read as the front is
  same_read : read_case book t (table_for (case_size book t)) ≡ call
  same_read =
      let (p, q) = case-front book cut.front cut.rest cut.enough in
      rw cut.whole (ap (λ (s : _). read_case book (cut.front ++ cut.rest) (table_for s)) p ∙ q lent)

  judge-is : judge book t ≡ judge_read t call call.read.answer
  judge-is = ap (λ (k : CaseCall). judge_read t k k.read.answer) same_read

  -- the judgement is that of the whole input, and its count can be written
  abbrev Right : Type 0
  Right = (judged ≡ judge book t) × (count_of (judge book t) ≤ greatest_count)

  abbrev c : Case
  c = call.read.case

  abbrev w : List ℤ
  w = call.table

  abbrev begun : JudgingState
  begun = record { case = c; weights = w; replay = fresh_replay (rules_of c) c w; answer = call.read.answer }

  begins : start_judging book cut.front lent ≡ begun
  unfolding start_judging
  begins = refl

  right-refused : {x : Refusal} {at : ℕ} → call.read.answer ≡ Err (refused_at x at) → Right
  unfolding judgement_of
  right-refused {x} {at} e =
      let stay : after ≡ begun = ap (λ (g : JudgingState). after_blocks g cut.blocks) begins ∙ stays begun e cut.blocks in
      let is : judge book t ≡ (Err (refused_at x at)) = judge-is ∙ ap (judge_read t call) e in
      let line : at ≤ longest_lines (rules_in book) = rw e at (case-line book cut.front lent) in (
        ap (λ (g : JudgingState). judgement_from g (not (eqb (length cut.tail) 0)) g.answer) stay
            ∙ ap (judgement_from begun (not (eqb (length cut.tail) 0))) e ∙ sym is,
        rw is (omega (arith, few-lines (coherent book))),
      )

  module _ {lines : ℕ} (e : call.read.answer ≡ Ok lines) where
    abbrev log : List ℕ
    log = joined cut.blocks ++ cut.tail

    -- the case is under the reader's rulebook
    abbrev width : ℕ
    width = (rules_of c).amount_width

    same_width : (rules_in book).amount_width ≡ width
    same_width = sym (ap (λ (b : Rulebook). (rules_in b).amount_width) (read-rulebook book cut.front lent))

    text : IsText c w lines (take (lines * line_length (rules_in book).amount_width) cut.front)
    text = written_read book cut.front lent e

    case-fits : lines * line_length width ≤ length t
    case-fits = subst (λ (k : ℕ). lines * line_length k ≤ length t) same_width
        (omega (arith, lines-within book cut.front lent e, ap length cut.whole, length-append cut.front cut.rest))

    log_is : drop (lines * line_length width) t ≡ log
    log_is = subst (λ (k : ℕ). drop (lines * line_length k) t ≡ log) same_width (cut.log lines e)

    blocks-whole : (x : List ℕ) → x ∈ cut.blocks → has_part width x ≡ false
    blocks-whole x i = subst (λ (k : ℕ). has_part k x ≡ false) same_width (cut.lines-whole x i)

    tail-short : length cut.tail < line_length width
    tail-short = subst (λ (k : ℕ). length cut.tail < line_length k) same_width cut.tail-short

    lines-few : lines + (all c w text.accepted log).block.lines ≤ greatest_count
    lines-few =
        let k = rw log_is at (lines_after width lines t case-fits) in
        let u : whole_lines width t ≤ greatest_count = subst (λ (k : ℕ). whole_lines k t ≤ greatest_count) same_width short in
        omega (arith, fold-most (rules_of c) c w (fresh_replay (rules_of c) c w) log)

    stand : Stands after c lines (all c w text.accepted log)
    stand =
        rw begins
        (blocks-stand c cut.tail tail-short cut.blocks blocks-whole (fresh_replay (rules_of c) c w) call.read.answer w lines e
        (omega (arith, lines-few)) (fresh-lent (coherent c.rulebook) c w text.accepted log))

    right-read : Right
    unfolding judgement_of
    right-read =
        let b : BlockCall = all c w text.accepted log in
        let is = judge-is ∙ ap (judge_read t call) e ∙ ap (judge_log c w lines) log_is ∙ log-judged c w text.accepted log lines in
        let part = part_left width cut.blocks blocks-whole cut.tail tail-short in (
          stands-judged c w text.accepted log (not (eqb (length cut.tail) 0)) stand lines-few
              ∙ ap (λ (p : Bool). log_judged (lines + b.block.lines) b.block.answer (end_replay (rules_of c) c b.block.replay) p
              (good_in c b.block.replay b.table)) (sym part)
              ∙ sym is,
          rw is (log-count greatest_count (lines + b.block.lines) b.block.answer (end_replay (rules_of c) c b.block.replay) (has_part width log)
              (good_in c b.block.replay b.table) lines-few (good-few c w text.accepted log)),
        )

  right : (a : Result ℕ RefusedAt) → call.read.answer ≡ a → Right
  right (Err x) e = right-refused e
  right (Ok lines) e = right-read e

  -- for every input of at most so many lines and every cut of it, what is written is what `replay` prints
  pub replay-printed : (out : List ℕ) → text_room ≤ length out
      → replay_printed book cut.front cut.blocks cut.tail out ≡ record
      { answer = Ok (length (replay_prints book t)); out = overwritten (replay_prints book t) out }
  unfolding finish_judging
  replay-printed out room =
      let (p, q) = right call.read.answer refl in
      ap (write_judgement_call out) p ∙ judged-written out (judge book t) room q
