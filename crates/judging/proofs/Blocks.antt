-- Blocks handed over one after another, beside the fold over all their lines, where no number applies to what is lent. Assumes nothing.
use Rattle.std.specs.Prelude.{Result, Ok, Err, ⊤}
use Rattle.definitions.specs.declared.RefusedAt.{RefusedAt}
use Rattle.definitions.specs.Answers.{refused_at}
use mathlib.Core.Path.{◌≡◌, refl, sym, ap, ap₂, ◌∙◌}
use mathlib.Core.Bool.{false}
use mathlib.Core.List.Memᴰ
use mathlib.Core.List.{List, [], ◌∷◌, ◌++◌, append_assoc}
use Prim.Native.Nat.{ℕ, zero, suc, ◌+◌, ◌≤◌, ◌<◌}
use native.Mathlib.Nat.{div-eq_of_lt}
use native.Mathlib.Omega.{arith}
use lib.IntN.{ℤ}
use lib.ListN.{length, drop}
use Rattle.integers.specs.Words.{joined}
use Rattle.integers.specs.Lists.{◌∈◌}
use Rattle.definitions.specs.declared.Case.{Case}
use Rattle.definitions.specs.declared.Refusal.{Refusal}
use Rattle.definitions.specs.Rules.{Rules, coherent, rules_of}
use Rattle.definitions.specs.Lines.{line_length, cut_lines, whole_lines, lines_in, has_part}
use Rattle.checker.specs.declared.Replay.{Replay}
use Rattle.checker.specs.Checker.{Between, BlockCall, taken_lines, first_refused, step_between, after_lines, line_answers, fold_replay}
use Rattle.checker_promise.proofs.Blocks.{lines-append, answers-append, or_else, folds-join, Lent, block-lent, lent-after}
use Rattle.texts.specs.Texts.{greatest_count}
use Rattle.judging.specs.Judging.{JudgingState, lines_counted, answer_at, block_from, block_judging}
use Rattle.judging.specs.Cuts.{after_blocks}

-- ---- lines and answers

lines-count : (long n : ℕ) (t : List ℕ) → length (cut_lines long n t) ≡ n
lines-count long zero t = refl
lines-count long (suc n) t = ap suc (lines-count long n (drop long t))

taken_refused : (os ps : List (Result ⊤ Refusal)) {x : Refusal} → first_refused os ≡ Err x → taken_lines (os ++ ps) ≡ taken_lines os
taken_refused [] ps e = cc
taken_refused ((Ok tt) ∷ os) ps e = ap (λ (n : ℕ). 1 + n) (taken_refused os ps e)
taken_refused (Err x ∷ os) ps e = refl

taken-most : (os : List (Result ⊤ Refusal)) → taken_lines os ≤ length os
taken-most [] = omega arith
taken-most ((Ok tt) ∷ os) = omega (arith, taken-most os)
taken-most (Err x ∷ os) = omega arith

counted-more : (at m n : ℕ) → lines_counted (lines_counted at m) n ≡ lines_counted at (m + n)
counted-more at m n = omega arith

pub counted-few : (at n : ℕ) → at + n ≤ greatest_count → lines_counted at n ≡ at + n
counted-few at n h = omega arith

module _ (r : Rules) where
  answers-count : (b : Between) (ts : List (List ℕ)) → length (line_answers r b ts) ≡ length ts
  answers-count b [] = refl
  answers-count b (t ∷ ts) = ap suc (answers-count (step_between r b t) ts)

  module _ (c : Case) (w : List ℤ) (p : Replay) where
    pub fold-most : (bytes : List ℕ) → (fold_replay r c w p bytes).block.lines ≤ whole_lines r.amount_width bytes
    unfolding fold_replay
    fold-most bytes =
        let b : Between = record { case = c; table = w; replay = p } in
        let ts = lines_in r.amount_width bytes in
        omega (arith, taken-most (line_answers r b ts), answers-count b ts, lines-count (line_length r.amount_width) (whole_lines r.amount_width bytes) bytes)

    -- a line refused in xs is the first
    fold-refused : (xs ys : List ℕ) → has_part r.amount_width xs ≡ false → {x : Refusal} → (fold_replay r c w p xs).block.answer ≡ Err x
        → (fold_replay r c w p (xs ++ ys)).block.lines ≡ (fold_replay r c w p xs).block.lines
    unfolding fold_replay
    fold-refused xs ys whole e =
        let b : Between = record { case = c; table = w; replay = p } in
        let ts = lines_in r.amount_width xs in
        let us = lines_in r.amount_width ys in
        ap taken_lines (ap (line_answers r b) (lines-append r.amount_width xs ys whole) ∙ answers-append r b ts us)
        ∙ taken_refused (line_answers r b ts) (line_answers r (after_lines r b ts) us) e

    -- no whole line
    fold-short : (bytes : List ℕ) → length bytes < line_length r.amount_width
        → fold_replay r c w p bytes ≡ record { block = record { replay = p; lines = 0; answer = (Ok tt) }; table = w }
    unfolding fold_replay
    fold-short bytes h = let n : whole_lines r.amount_width bytes ≡ 0 = div-eq_of_lt h in rw n

-- ---- the fold

-- what stands after blocks, beside the fold over them all from line `at`
pub record Stands (g : JudgingState) (c : Case) (at : ℕ) (call : BlockCall) : Type 0 where
  pub answer : g.answer ≡ answer_at (lines_counted at call.block.lines) call.block.answer
  pub case-kept : call.block.answer ≡ Ok tt → g.case ≡ c
  pub replay : call.block.answer ≡ Ok tt → g.replay ≡ call.block.replay
  pub table : call.block.answer ≡ Ok tt → g.weights ≡ call.table

-- once refused, nothing changes
block-stays : (g : JudgingState) {x : Refusal} {at : ℕ} → g.answer ≡ Err (refused_at x at) → (y : List ℕ) → block_judging g y ≡ g
unfolding block_judging
block-stays g e y = ap (block_from g y) e

pub stays : (g : JudgingState) {x : Refusal} {at : ℕ} → g.answer ≡ Err (refused_at x at) → (xs : List (List ℕ)) → after_blocks g xs ≡ g
stays g e [] = refl
stays g e (y ∷ ys) = ap (λ (k : JudgingState). after_blocks k ys) (block-stays g e y) ∙ stays g e ys

block-first : (g : JudgingState) (x : List ℕ) {at : ℕ} → g.answer ≡ Ok at → block_judging g x ≡ block_from g x (Ok at)
unfolding block_judging
block-first g x e = ap (block_from g x) e

-- a block and then the others
module _ (c : Case) (w : List ℤ) (p : Replay) (at : ℕ) (x rest : List ℕ) (whole : has_part (rules_of c).amount_width x ≡ false) where
  abbrev r : Rules
  r = rules_of c

  abbrev first : BlockCall
  first = fold_replay r c w p x

  abbrev second : BlockCall
  second = fold_replay r c first.table first.block.replay rest

  abbrev next : Result ⊤ Refusal → JudgingState
  next o = record {
    case = c;
    weights = first.table;
    replay = first.block.replay;
    answer = answer_at (lines_counted at first.block.lines) o;
  }

  stand-done : {g : JudgingState} → first.block.answer ≡ Ok tt → Stands g c (lines_counted at first.block.lines) second
      → Stands g c at (fold_replay r c w p (x ++ rest))
  stand-done {g} d i =
      let a : or_else first.block.answer second.block.answer ≡ second.block.answer = rw d in
      rw (folds-join r c w p x rest whole)
      (record {
        answer = i.answer ∙ ap₂ answer_at (counted-more at first.block.lines second.block.lines) (sym a);
        case-kept = λ e. i.case-kept (sym a ∙ e);
        replay = λ e. i.replay (sym a ∙ e);
        table = λ e. i.table (sym a ∙ e);
      })

  never : {y : Refusal} → ◌≡◌ {A = Result ⊤ Refusal} (Err y) (Ok tt) → ⊥
  never e = let z : ◌≡◌ {A = ℕ} 0 1 = cc in omega arith

  stand-refused : {y : Refusal} → first.block.answer ≡ Err y → Stands (next (Err y)) c at (fold_replay r c w p (x ++ rest))
  stand-refused {y} d =
      let a : (fold_replay r c w p (x ++ rest)).block.answer ≡ Err y = ap (λ (k : BlockCall). k.block.answer) (folds-join r c w p x rest whole)
      ∙ ap (λ (o : Result ⊤ Refusal). or_else o second.block.answer) d in
      record {
        answer = sym (ap₂ (λ (n : ℕ) (o : Result ⊤ Refusal). answer_at (lines_counted at n) o) (fold-refused r c w p x rest whole d) a);
        case-kept = λ e. absurd (never (sym a ∙ e));
        replay = λ e. absurd (never (sym a ∙ e));
        table = λ e. absurd (never (sym a ∙ e));
      }

  stand-next : (xs : List (List ℕ)) → (first.block.answer ≡ Ok tt
      → Stands (after_blocks (next (Ok tt)) xs) c (lines_counted at first.block.lines) second)
      → (o : Result ⊤ Refusal) → first.block.answer ≡ o → Stands (after_blocks (next o) xs) c at (fold_replay r c w p (x ++ rest))
  stand-next xs i (Ok tt) d = stand-done d (i d)
  stand-next xs i (Err y) d = rw (stays (next (Err y)) refl xs) (stand-refused d)

-- blocks of whole lines, and fewer bytes than a line
module _ (c : Case) (tail : List ℕ) (short : length tail < line_length (rules_of c).amount_width) where
  abbrev stood : Replay → Result ℕ RefusedAt → List ℤ → JudgingState
  stood p a w = record { case = c; weights = w; replay = p; answer = a }

  pub blocks-stand : (xs : List (List ℕ)) → ((x : List ℕ) → x ∈ xs → has_part (rules_of c).amount_width x ≡ false)
      → (p : Replay) (a : Result ℕ RefusedAt) (w : List ℤ) (at : ℕ) → a ≡ Ok at → at ≤ greatest_count → Lent (rules_of c) c w p
      → Stands (after_blocks (stood p a w) xs) c at (fold_replay (rules_of c) c w p (joined xs ++ tail))
  blocks-stand [] whole p a w at e few l =
      rw (fold-short (rules_of c) c w p tail short)
      (record {
        answer = e ∙ ap Ok (sym (counted-few at 0 (omega arith) ∙ omega arith));
        case-kept = λ d. refl;
        replay = λ d. refl;
        table =
            λ d. refl;
      })
  blocks-stand (x ∷ xs) whole p a w at e few l =
      let r : Rules = rules_of c in
      let rest : List ℕ = joined xs ++ tail in
      let all_whole = whole x (Memᴰ.head refl) in
      let g : JudgingState = next c w p at x rest all_whole (Ok tt) in
      let i : (fold_replay r c w p x).block.answer ≡ Ok tt → Stands (after_blocks g xs) c (lines_counted at (fold_replay r c w p x).block.lines)
      (second c w p at x rest all_whole) =
      λ d. blocks-stand xs (λ k m. whole k (Memᴰ.tail m)) g.replay g.answer g.weights
      (lines_counted at (fold_replay r c w p x).block.lines) refl (omega arith) (lent-after (coherent c.rulebook) c w p x l d) in
      rw (append_assoc x (joined xs) tail, block-first (stood p a w) x e, block-lent (coherent c.rulebook) c w p x l)
      (stand-next c w p at x rest all_whole xs i (fold_replay r c w p x).block.answer refl)
