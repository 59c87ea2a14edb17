-- A block of no line, and a block by its first line: where that is done the fold over the other lines follows, where it is refused nothing
-- does. Assumes nothing.
use Rattle.std.specs.Prelude.{Result, Ok, Err, Option, Some, None, ⊤}
use mathlib.Core.Path.{◌≡◌, refl, sym, ap, subst, ◌∙◌}
use mathlib.Core.Bool.{not}
use mathlib.Core.Logic.{⊎_elim}
use mathlib.Core.List.{List, [], ◌∷◌}
use Prim.Native.Nat.{ℕ, suc, ◌+◌, ◌-◌, ◌/◌, ◌≤◌, ◌<◌}
use native.Mathlib.Nat.{div-eq_of_lt, add-div_left}
use native.Mathlib.Numerals.{add-one}
use native.Mathlib.Omega.{arith}
use borrow.Author.Tests.{ne_eqb}
use lib.IntN.{ℤ}
use lib.Dec.{T, ltb, ltb→lt, nltb→le}
use lib.ListN.{length, take, drop, length-drop}
use Rattle.integers.specs.Tests.{either}
use Rattle.definitions.specs.declared.Case.{Case}
use Rattle.definitions.specs.declared.Line.{Line}
use Rattle.definitions.specs.declared.Refusal.{Refusal}
use Rattle.definitions.specs.Rules.{Rules, coherent, rules_of}
use Rattle.definitions.specs.Refusals.{first_refusal}
use Rattle.definitions.specs.Valid.{working_weight}
use Rattle.definitions.specs.Lines.{read_line, line_length, lines_in, whole_lines}
use Rattle.theory.proofs.Validity.{Handed}
use Rattle.checker.specs.declared.Replay.{Replay}
use Rattle.checker.specs.declared.Taken.{Taken}
use Rattle.checker.specs.Checker.{
  Between,
  StepCall,
  BlockCall,
  Asked,
  refused_replay,
  record_out,
  of_due,
  step_refused,
  step_by,
  step_tests,
  step_line,
  step_standing,
  step_replay,
  step_between,
  taken_lines,
  first_refused,
  after_lines,
  line_answers,
  no_line,
  lent_standing,
  fold_replay,
  block_replay,
}
use Rattle.checker.specs.Taken.{replay_of, good_replay, step_of, bytes_per_line, more_by}
use Rattle.checker.proofs.Leaves.{Left, step-leaves}

pub more-by : (n : ℕ) (x : BlockCall) → more_by n (more_by 1 x) ≡ more_by (n + 1) x
more-by n x = ap (λ (k : ℕ). record { block = record { replay = x.block.replay; lines = k; answer = x.block.answer }; table = x.table }) (omega arith)

pub more-none : (x : BlockCall) → more_by 0 x ≡ x
more-none x = ap (λ (k : ℕ). record { block = record { replay = x.block.replay; lines = k; answer = x.block.answer }; table = x.table }) (omega arith)

abbrev block : ℕ → Replay → Result ⊤ Refusal → List ℤ → BlockCall
block n p o w = record { block = record { replay = p; lines = n; answer = o }; table = w }

-- a block that ends with this step
abbrev pub ends_with : StepCall → BlockCall
ends_with call = record { block = record { replay = call.stepped.replay; lines = 0; answer = call.stepped.answer }; table = call.table }

ended : (n : ℕ) (p : Replay) (o : Result ⊤ Refusal) (w : List ℤ) → record { block = record { replay = p; lines = n + 0; answer = o }; table = w } ≡ block n p o w
ended n p o w = ap (λ (k : ℕ). block k p o w) (omega arith)

-- ---- lines

module _ (width : ℕ) (t : List ℕ) where
  pub no-line : length t < line_length width → whole_lines width t ≡ 0
  no-line h = div-eq_of_lt h

  pub some-line : line_length width ≤ length t → whole_lines width t ≡ suc (whole_lines width (drop (line_length width) t))
  some-line h =
      let k : ℕ = line_length width in
      let e : length t ≡ k + (length t - k) = omega arith in
      ap (λ (n : ℕ). n / k) e ∙ add-div_left (length t - k) {k = k} (omega arith) ∙ rw (length-drop k t) (add-one ((length t - k) / k))

  pub first-line : line_length width ≤ length t → lines_in width t ≡ take (line_length width) t ∷ lines_in width (drop (line_length width) t)
  first-line h = rw (some-line h)

-- ---- a record that stands refused answers every line by the same refusal

pub stands : (p : Replay) {x : Refusal} → p.standing ≡ Err x → refused_replay p x ≡ p
stands p e = ap (λ (s : Result ⊤ Refusal). record { rounds = p.rounds; start = p.start; moved = p.moved; raised = p.raised; due = p.due; standing = s }) (sym e)

module _ (r : Rules) where
  stays : (b : Between) {x : Refusal} → b.replay.standing ≡ Err x → (t : List ℕ) → step_between r b t ≡ b
  unfolding step_replay
  stays b e t = rw e

  pub all_stay : (b : Between) {x : Refusal} → b.replay.standing ≡ Err x → (ts : List (List ℕ)) → after_lines r b ts ≡ b
  all_stay b e [] = refl
  all_stay b e (t ∷ ts) = ap (λ (d : Between). after_lines r d ts) (stays b e t) ∙ all_stay b e ts

-- ---- no line

module _ (c : Case) (w : List ℤ) (p : Replay) where
  abbrev asked : Option Refusal
  asked = lent_standing (rules_of c) c w p p.standing

  block_none : (t : List ℕ) → length t < bytes_per_line c → block_replay (rules_of c) c w p t ≡ no_line w p asked
  unfolding block_replay
  block_none t h = rw (no-line (rules_of c).amount_width t h)

module _ (c : Case) (w : List ℤ) (p : Replay) (t : List ℕ) where
  pub fold-none : length t < bytes_per_line c
      → fold_replay (rules_of c) c w p t ≡ record { block = record { replay = p; lines = 0; answer = (Ok tt) }; table = w }
  unfolding fold_replay
  fold-none h = rw (no-line (rules_of c).amount_width t h)

  block-some : bytes_per_line c ≤ length t → block_replay (rules_of c) c w p t ≡ fold_replay (rules_of c) c w p t
  unfolding block_replay
  block-some h =
      let e = some-line (rules_of c).amount_width t h in
      rw (ne_eqb (whole_lines (rules_of c).amount_width t) 0 (λ d. omega arith))

  pub no_more : (n : ℕ) → length t < bytes_per_line c
      → more_by n (fold_replay (rules_of c) c w p t) ≡ record { block = record { replay = p; lines = n; answer = (Ok tt) }; table = w }
  no_more n h = ap (more_by n) (fold-none h) ∙ ended n p (Ok tt) w

  -- the fold by the step of the first line
  abbrev stepped : StepCall → BlockCall
  stepped call =
      let b : Between = record { case = c; table = call.table; replay = call.stepped.replay } in
      let ts = lines_in (rules_of c).amount_width (drop (bytes_per_line c) t) in
      let os = call.stepped.answer ∷ line_answers (rules_of c) b ts in
      record {
        block = record { replay = (after_lines (rules_of c) b ts).replay; lines = taken_lines os; answer = first_refused os };
        table = (after_lines (rules_of c) b ts).table;
      }

  module _ (h : bytes_per_line c ≤ length t) (call : StepCall) (s : step_replay (rules_of c) c w p (take (bytes_per_line c) t) ≡ call) where
    first_step : fold_replay (rules_of c) c w p t ≡ stepped call
    unfolding fold_replay
    first_step =
        ap (λ (ts : List (List ℕ)).
        let b : Between = record { case = c; table = w; replay = p } in
        record {
          block = record {
            replay = (after_lines (rules_of c) b ts).replay;
            lines = taken_lines (line_answers (rules_of c) b ts);
            answer = first_refused
                (line_answers (rules_of c) b ts);
          };
          table = (after_lines (rules_of c) b ts).table;
        }) (first-line (rules_of c).amount_width t h)
        ∙ ap stepped s

    pub fold_done : call.stepped.answer ≡ Ok tt
        → fold_replay (rules_of c) c w p t ≡ more_by 1 (fold_replay (rules_of c) c call.table call.stepped.replay (drop (bytes_per_line c) t))
    unfolding fold_replay
    fold_done e = first_step ∙ rw e

    pub fold-refused : {x : Refusal} → call.stepped.answer ≡ Err x → call.stepped.replay.standing ≡ Err x
        → fold_replay (rules_of c) c w p t ≡ ends_with call
    fold-refused e f = first_step
        ∙ rw (
          e,
          all_stay (rules_of c) (record { case = c; table = call.table; replay = call.stepped.replay }) f
              (lines_in (rules_of c).amount_width (drop (bytes_per_line c) t)),
        )

-- a refused line leaves a record that stands refused
module _ (r : Rules) (c : Case) (w : List ℤ) (p : Replay) {x : Refusal} where
  by-test : (a : Asked) (o : Option Refusal) → (step_by w p a o).stepped.answer ≡ Err x
      → (step_by w p a o).stepped.replay.standing ≡ Err x
  by-test a None e = cc
  by-test a (Some y) e = cc

  by-line : (l : Option Line) → (step_line r c w p l).stepped.answer ≡ Err x → (step_line r c w p l).stepped.replay.standing ≡ Err x
  by-line None e = cc
  by-line (Some l) e = by-test (of_due r c w p p.due l) (first_refusal (step_tests r c w p l (of_due r c w p p.due l))) e

  pub refused-stands : (t : List ℕ) → (step_replay r c w p t).stepped.answer ≡ Err x
      → (step_replay r c w p t).stepped.replay.standing ≡ Err x
  unfolding step_replay
  refused-stands t = go p.standing
    where
      go : (s : Result ⊤ Refusal) → (step_standing r c w p t s).stepped.answer ≡ Err x
          → (step_standing r c w p t s).stepped.replay.standing ≡ Err x
      go (Ok tt) e = by-line (read_line r.amount_width t) e
      go (Err y) e = cc

-- ---- a turn: the block's first line taken with the record in parts

module _ (c : Case) (w : List ℤ) (p : Replay) (t : List ℕ) (h : bytes_per_line c ≤ length t) (k : Taken) (raised : List ℕ) (v : List ℤ)
    (s : step_of k raised v ≡ step_replay (rules_of c) c w p (take (bytes_per_line c) t)) where
  pub turn-done : (n : ℕ) → k.answer ≡ Ok tt
      → (more_by n (fold_replay (rules_of c) c w p t) ≡ more_by (n + 1) (fold_replay (rules_of c) c v (good_replay k.progress raised) (drop (bytes_per_line c) t)))
      × Handed (rules_of c) (working_weight (rules_of c)) c v × T (not (record_out (rules_of c) c (good_replay k.progress raised)))
  turn-done n e =
      let l = subst (Left (rules_of c) c w) (sym s)
      (step-leaves (coherent c.rulebook) c w p (take (bytes_per_line c) t) (ap (λ (x : StepCall). x.stepped.answer) (sym s) ∙ e)) in
      let g = e in (
        ap (more_by n)
            (fold_done c w p t h (step_of k raised v) (sym s) e
            ∙ ap (λ (d : Result ⊤ Refusal). more_by 1 (fold_replay (rules_of c) c v (replay_of k.progress raised d) (drop (bytes_per_line c) t))) g)
            ∙ more-by n (fold_replay (rules_of c) c v (good_replay k.progress raised) (drop (bytes_per_line c) t)),
        l.handed-over,
        subst (λ (d : Result ⊤ Refusal). T (not (record_out (rules_of c) c (replay_of k.progress raised d)))) g l.record-in,
      )

  pub turn-refused : (n : ℕ) {x : Refusal} → k.answer ≡ Err x
      → more_by n (fold_replay (rules_of c) c w p t)
      ≡ record {
        block = record
            { replay = replay_of k.progress raised (Err x); lines = n; answer = Err x };
        table = v;
      }
  turn-refused n e =
      ap (more_by n) (fold-refused c w p t h (step_of k raised v) (sym s) e e)
      ∙ ap (λ (o : Result ⊤ Refusal). record { block = record { replay = replay_of k.progress raised o; lines = n + 0; answer = o }; table = v }) e
      ∙ ended n _ _ v

-- ---- a block by what applies to what was handed over: nothing, and a number

module _ (c : Case) (w : List ℤ) (p : Replay) (t : List ℕ) where
  pub block-good : lent_standing (rules_of c) c w p p.standing ≡ None → block_replay (rules_of c) c w p t ≡ fold_replay (rules_of c) c w p t
  block-good e = ⊎_elim
      (λ s. let h = ltb→lt (length t) (bytes_per_line c) s in block_none c w p t h ∙ ap (no_line w p) e ∙ sym (fold-none c w p t h))
      (λ s. block-some c w p t (nltb→le (length t) (bytes_per_line c) s))
      (either (ltb (length t) (bytes_per_line c)))

  pub block-short : {x : Refusal} → lent_standing (rules_of c) c w p p.standing ≡ Some x → length t < bytes_per_line c
      → block_replay (rules_of c) c w p t ≡ ends_with (step_refused p w x)
  block-short e h = block_none c w p t h ∙ ap (no_line w p) e

  pub block-long : {x : Refusal} → step_replay (rules_of c) c w p (take (bytes_per_line c) t) ≡ step_refused p w x → bytes_per_line c ≤ length t
      → block_replay (rules_of c) c w p t ≡ ends_with (step_refused p w x)
  block-long {x} e h = block-some c w p t h ∙ fold-refused c w p t h (step_refused p w x) e refl refl
