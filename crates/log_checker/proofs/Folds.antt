-- The fold of the replay over the lines of a block: by its first line, and by the fold of the stretch, up to the line that this refuses. Assumes
-- nothing.
use Rattle.std.specs.Prelude.{Result, Ok, Err, Option, Some, None, ⊤}
use mathlib.Core.Path.{◌≡◌, refl, sym, ap, subst, ◌∙◌}
use mathlib.Core.Logic.{◌≢◌, ⊎_elim}
use mathlib.Core.List.{List, [], ◌∷◌}
use Prim.Native.Nat.{ℕ, zero, suc, ◌+◌, ◌*◌, ◌≤◌, ◌<◌}
use native.Mathlib.Omega.{arith}
use borrow.Author.Tests.{ne_eqb}
use lib.IntN.{ℤ}
use lib.Dec.{T, ltb, ltb→lt, nltb→le}
use lib.ListN.{length, take, drop, length-drop}
use lib.Seq.{drop-drop}
use Rattle.integers.specs.Tests.{either}
use Rattle.definitions.specs.declared.Case.{Case}
use Rattle.definitions.specs.declared.Line.{Line}
use Rattle.definitions.specs.declared.Refusal.{Refusal}
use Rattle.definitions.specs.declared.Refusal.TheVariants.{NotDue}
use Rattle.definitions.specs.Rules.{Rules, rules_of}
use Rattle.definitions.specs.Refusals.{first_refusal, sooner}
use Rattle.definitions.specs.Lines.{read_line, line_length, whole_lines, lines_in}
use Rattle.checker.specs.declared.Replay.{Replay as Stretch}
use Rattle.checker.specs.Checker.{StepCall as StretchCall, BlockCall as StretchLines, Asked, step_refused as refused_step, step_by as stretch_by}
use Rattle.checker.specs.Checker.{step_tests, of_due, step_line as stretch_line, step_standing as stretch_standing, step_replay as step_stretch, fold_replay as fold_stretch}
use Rattle.checker.specs.Checker.{taken_lines, first_refused}
use Rattle.checker.specs.Taken.{bytes_per_line, more_by as more_lines}
use Rattle.checker.proofs.Fold.{no-line, some-line, first-line, ends_with as stretch_ends}
use Rattle.checker.proofs.Fold.{fold-none as stretch-none, fold_done as stretch-done, fold-refused as stretch-refused}
use Rattle.log_checker.specs.Checker.{Between, StepCall, BlockCall, LineAsked, with_stretch, lent_number, of_line, step_by, step_line, step_standing}
use Rattle.log_checker.specs.Checker.{step_replay, after_lines, line_answers, fold_replay, is_between, no_line, lent_standing, block_replay}
use Rattle.log_checker.specs.Taken.{Settled, standing_good, lifted, lifted_lines, more_by, ends_with}
use Rattle.log_checker.proofs.Lift.{lift-done, lift-refused, settled-after}

pub more-by : (n k : ℕ) (x : BlockCall) → more_by n (more_by k x) ≡ more_by (n + k) x
more-by n k x = ap (λ (j : ℕ). record { lines = j; answer = x.answer; after = x.after }) (omega arith)

pub more-none : (x : BlockCall) → more_by 0 x ≡ x
more-none x = ap (λ (j : ℕ). record { lines = j; answer = x.answer; after = x.after }) (omega arith)

-- ---- a refused line leaves a record that stands refused, and that answers every line by the same refusal

module _ (r : Rules) (b : Between) {x : Refusal} where
  by_number : (a : LineAsked) (o : Option Refusal) → (step_by r b a o).answer ≡ Err x
      → (step_by r b a o).after.replay.stretch.standing ≡ Err x
  by_number a None e = cc
  by_number a (Some y) e = cc

  by-line : (l : Option Line) → (step_line r b l).answer ≡ Err x → (step_line r b l).after.replay.stretch.standing ≡ Err x
  by-line None e = cc
  by-line (Some l) e =
      let a = of_line r b b.replay.joining l in by_number a (sooner (lent_number r b) (first_refusal a.tests)) e

  pub refused-stands : (t : List ℕ) → (step_replay r b t).answer ≡ Err x → (step_replay r b t).after.replay.stretch.standing ≡ Err x
  unfolding step_replay
  refused-stands t = go b.replay.stretch.standing refl
    where
      go : (s : Result ⊤ Refusal) → b.replay.stretch.standing ≡ s → (step_standing r b t s).answer ≡ Err x
          → (step_standing r b t s).after.replay.stretch.standing ≡ Err x
      go (Ok tt) d e = by-line (read_line r.amount_width t) e
      go (Err y) d e = cc

  stays : b.replay.stretch.standing ≡ Err x → (t : List ℕ) → (step_replay r b t).after ≡ b
  unfolding step_replay
  stays e t = rw e

pub all_stay : (r : Rules) (b : Between) {x : Refusal} → b.replay.stretch.standing ≡ Err x → (ts : List (List ℕ)) → after_lines r b ts ≡ b
all_stay r b e [] = refl
all_stay r b e (t ∷ ts) = ap (λ (d : Between). after_lines r d ts) (stays r b e t) ∙ all_stay r b e ts

-- ---- by the first line

module _ (r : Rules) (b : Between) (t : List ℕ) where
  abbrev long : ℕ
  long = line_length r.amount_width

  pub fold-none : length t < long → fold_replay r b t ≡ record { lines = 0; answer = Ok tt; after = b }
  unfolding fold_replay
  fold-none h = rw (no-line r.amount_width t h)

  pub block_none : length t < long → block_replay r b t ≡ no_line r b (lent_standing r b b.replay.stretch.standing)
  unfolding block_replay
  block_none h = rw (no-line r.amount_width t h)

  pub block-some : long ≤ length t → block_replay r b t ≡ fold_replay r b t
  unfolding block_replay
  block-some h =
      let e = some-line r.amount_width t h in
      rw (ne_eqb (whole_lines r.amount_width t) 0 (λ d. omega arith))

  -- the fold by the step of the first line
  abbrev stepped : StepCall → BlockCall
  stepped call =
      let ts = lines_in r.amount_width (drop long t) in
      let os = call.answer ∷ line_answers r call.after ts in
      record { lines = taken_lines os; answer = first_refused os; after = after_lines r call.after ts }

  module _ (h : long ≤ length t) (call : StepCall) (s : step_replay r b (take long t) ≡ call) where
    first_step : fold_replay r b t ≡ stepped call
    unfolding fold_replay
    first_step =
        ap (λ (ts : List (List ℕ)).
        record { lines = taken_lines (line_answers r b ts); answer = first_refused (line_answers r b ts); after = after_lines r b ts })
        (first-line r.amount_width t h)
        ∙ ap stepped s

    pub fold_done : call.answer ≡ Ok tt → fold_replay r b t ≡ more_by 1 (fold_replay r call.after (drop long t))
    unfolding fold_replay
    fold_done e = first_step ∙ rw e

    pub fold-refused : {x : Refusal} → call.answer ≡ Err x → fold_replay r b t ≡ ends_with call
    fold-refused {x} e =
        let f : call.after.replay.stretch.standing ≡ Err x =
        ap (λ (k : StepCall). k.after.replay.stretch.standing) (sym s) ∙ refused-stands r b (take long t) (ap (λ (k : StepCall). k.answer) s ∙ e) in
        first_step ∙ rw (e, all_stay r call.after f (lines_in r.amount_width (drop long t)))

-- ---- a line that the stretch refuses changes nothing but the standing

module _ (r : Rules) (c : Case) (w : List ℤ) (p : Stretch) {x : Refusal} where
  refused-by : (a : Asked) (o : Option Refusal) → (stretch_by w p a o).stepped.answer ≡ Err x → stretch_by w p a o ≡ refused_step p w x
  refused-by a None e = cc
  refused-by a (Some y) e = let d : y ≡ x = cc in ap (refused_step p w) d

  refused-line : (l : Option Line) → (stretch_line r c w p l).stepped.answer ≡ Err x → stretch_line r c w p l ≡ refused_step p w x
  refused-line None e = ap (refused_step p w) (cc)
  refused-line (Some l) e = refused-by (of_due r c w p p.due l) (first_refusal (step_tests r c w p l (of_due r c w p p.due l))) e

  pub refused-only : (t : List ℕ) → (step_stretch r c w p t).stepped.answer ≡ Err x → step_stretch r c w p t ≡ refused_step p w x
  unfolding step_stretch
  refused-only t = go p.standing
    where
      go : (s : Result ⊤ Refusal) → (stretch_standing r c w p t s).stepped.answer ≡ Err x → stretch_standing r c w p t s ≡ refused_step p w x
      go (Ok tt) e = refused-line (read_line r.amount_width t) e
      go (Err y) e = let d : y ≡ x = cc in ap (refused_step p w) d

-- ---- by the fold of the stretch

-- with another table and another record of the stretch
abbrev pub moved_to : Between → List ℤ → Stretch → Between
moved_to b w p = record { case = b.case; starting = b.starting; table = w; replay = with_stretch b.replay p }

abbrev stretch_fold : Between → List ℕ → StretchLines
stretch_fold b t = fold_stretch (rules_of b.case) b.case b.table b.replay.stretch t

-- the stretch refuses a line: what stands before it, and that the fold goes on from there
pub record Stops (b : Between) (t : List ℕ) (x : Refusal) (f : StretchLines) : Type 0 where
  pub room : f.block.lines * bytes_per_line b.case + bytes_per_line b.case ≤ length t
  pub settled : Settled (moved_to b f.table (standing_good f.block.replay))
  pub stands : f.block.replay.standing ≡ Err x
  pub goes : fold_replay (rules_of b.case) b t
      ≡ more_by f.block.lines
      (fold_replay (rules_of b.case) (moved_to b f.table (standing_good f.block.replay)) (drop (f.block.lines * bytes_per_line b.case) t))
  pub step : step_stretch (rules_of b.case) b.case f.table (standing_good f.block.replay)
      (take (bytes_per_line b.case) (drop (f.block.lines * bytes_per_line b.case) t))
      ≡ refused_step (standing_good f.block.replay) f.table x

never : {x : Refusal} → ◌≡◌ {A = Result ⊤ Refusal} (Ok tt) (Err x) → ⊥
never {x} e = let z : ◌≡◌ {A = ℕ} 0 1 = cc in omega arith

module _ (b : Between) (s : Settled b) (t : List ℕ) where
  abbrev r : Rules
  r = rules_of b.case

  abbrev size : ℕ
  size = bytes_per_line b.case

  abbrev first : StretchCall
  first = step_stretch r b.case b.table b.replay.stretch (take size t)

  abbrev next : Between
  next = moved_to b first.table first.stepped.replay

  by-stretch : (h : size ≤ length t) → first.stepped.answer ≡ Ok tt → stretch_fold b t ≡ more_lines 1 (stretch_fold next (drop size t))
  by-stretch h e = stretch-done b.case b.table b.replay.stretch t h first refl e

  by-replay : (h : size ≤ length t) → first.stepped.answer ≡ Ok tt → fold_replay r b t ≡ more_by 1 (fold_replay r next (drop size t))
  by-replay h e = fold_done r b t h (lifted b first) (lift-done b s (take size t) e) e

  -- the first line is refused
  first-refused : {x : Refusal} → size ≤ length t → first.stepped.answer ≡ Err x
      → stretch_fold b t ≡ stretch_ends (refused_step b.replay.stretch b.table x)
  first-refused {x} h e = stretch-refused b.case b.table b.replay.stretch t h (refused_step b.replay.stretch b.table x)
      (refused-only r b.case b.table b.replay.stretch (take size t) e) refl refl

  stop-here : {x : Refusal} → size ≤ length t → first.stepped.answer ≡ Err x → Stops b t x (stretch_fold b t)
  stop-here {x} h e =
      let p = b.replay.stretch in
      let k = refused-only r b.case b.table p (take size t) e in
      let g : standing_good p ≡ p =
      ap (λ (y : Result ⊤ Refusal). record { rounds = p.rounds; start = p.start; moved = p.moved; raised = p.raised; due = p.due; standing = y })
      (sym s.lent.good) in
      let z : 0 * size ≡ 0 = omega arith in
      subst (Stops b t x) (sym (first-refused h e)) (record {
        room = omega (arith, z);
        settled = subst (λ (q : Stretch). Settled (moved_to b b.table q)) (sym g) s;
        stands = refl;
        goes = subst (λ (n : ℕ). fold_replay r b t ≡ more_by 0 (fold_replay r (moved_to b b.table (standing_good p)) (drop n t))) (sym z)
            (subst (λ (q : Stretch). fold_replay r b t ≡ more_by 0 (fold_replay r (moved_to b b.table q) t)) (sym g) (sym (more-none (fold_replay r b t))));
        step = subst (λ (n : ℕ). step_stretch r b.case b.table (standing_good p) (take size (drop n t)) ≡ refused_step (standing_good p) b.table x) (sym z)
            (subst (λ (q : Stretch). step_stretch r b.case b.table q (take size t) ≡ refused_step q b.table x) (sym g) k);
      })

  -- a later one is
  stop-later : {x : Refusal} → size ≤ length t → first.stepped.answer ≡ Ok tt → Stops next (drop size t) x (stretch_fold next (drop size t))
      → Stops b t x (stretch_fold b t)
  stop-later {x} h e q =
      let f = stretch_fold next (drop size t) in
      let k = f.block.lines in
      let z : (1 + k) * size ≡ size + k * size = omega arith in
      let d : drop ((1 + k) * size) t ≡ drop (k * size) (drop size t) = ap (λ (n : ℕ). drop n t) z ∙ sym (drop-drop (k * size) size t) in
      subst (Stops b t x) (sym (by-stretch h e)) (record {
        room = omega (arith, q.room, length-drop size t, z);
        settled = q.settled;
        stands = q.stands;
        goes =
            by-replay h e ∙ ap (more_by 1) q.goes
            ∙ more-by 1 k (fold_replay r (moved_to b f.table (standing_good f.block.replay)) (drop (k * size) (drop size t)))
            ∙ ap (λ (u : List ℕ). more_by (1 + k) (fold_replay r (moved_to b f.table (standing_good f.block.replay)) u)) (sym d);
        step = subst (λ (u : List ℕ). step_stretch r b.case f.table (standing_good f.block.replay) (take size u)
            ≡ refused_step (standing_good f.block.replay) f.table x) (sym d) q.step;
      })

  -- no line is left
  no_lines : length t < size → ((stretch_fold b t).block.answer ≡ Ok tt) × (fold_replay r b t ≡ lifted_lines b (stretch_fold b t))
  no_lines h = let e = stretch-none b.case b.table b.replay.stretch t h in
      (ap (λ (k : StretchLines). k.block.answer) e, fold-none r b t h ∙ sym (ap (lifted_lines b) e))

-- the stretch's lines up to one that is refused
whole : (b : Between) (f : StretchLines) {x : Refusal} → f.block.answer ≡ Err x → f.block.replay.standing ≡ Err x
    → more_by f.block.lines (ends_with (lifted b (refused_step (standing_good f.block.replay) f.table x))) ≡ lifted_lines b f
whole b f e d = let z : f.block.lines + 0 ≡ f.block.lines = omega arith in rw (z, e, d)

abbrev size_in : Between → ℕ
size_in b = bytes_per_line b.case

-- so many bytes at most
by_lines : (P : Between → List ℕ → Type 0) → ((b : Between) (s : Settled b) (t : List ℕ) → length t < size_in b → P b t)
    → ((b : Between) (s : Settled b) (t : List ℕ) → size_in b ≤ length t → (o : Result ⊤ Refusal) → (first b s t).stepped.answer ≡ o
    → (o ≡ Ok tt → P (next b s t) (drop (size_in b) t)) → P b t)
    → (n : ℕ) (b : Between) → Settled b → (t : List ℕ) → length t ≤ n → P b t
by_lines P short long zero b s t l = short b s t (omega arith)
by_lines P short long (suc n) b s t l = ⊎_elim
    (λ u. short b s t (ltb→lt (length t) (size_in b) u))
    (λ u. let h = nltb→le (length t) (size_in b) u in
    long b s t h (first b s t).stepped.answer refl
    (λ d. by_lines P short long n (next b s t) (settled-after b s (take (size_in b) t) d) (drop (size_in b) t) (omega (arith, length-drop (size_in b) t))))
    (either (ltb (length t) (size_in b)))

module _ (b : Between) (s : Settled b) (t : List ℕ) where
  pub stops : {x : Refusal} → (stretch_fold b t).block.answer ≡ Err x → Stops b t x (stretch_fold b t)
  stops {x} = by_lines (λ b t. (stretch_fold b t).block.answer ≡ Err x → Stops b t x (stretch_fold b t))
      (λ b s t h e. absurd (never (sym (no_lines b s t h).0 ∙ e))) at_first (length t) b s t (omega arith)
    where
      at_first : (b : Between) (s : Settled b) (t : List ℕ) → size_in b ≤ length t → (o : Result ⊤ Refusal) → (first b s t).stepped.answer ≡ o
          → (o ≡ Ok tt → (stretch_fold (next b s t) (drop (size_in b) t)).block.answer ≡ Err x
          → Stops (next b s t) (drop (size_in b) t) x (stretch_fold (next b s t) (drop (size_in b) t)))
          → (stretch_fold b t).block.answer ≡ Err x → Stops b t x (stretch_fold b t)
      at_first b s t h (Ok tt) d q e =
          stop-later b s t h d (q refl (ap (λ (k : StretchLines). k.block.answer) (sym (by-stretch b s t h d)) ∙ e))
      at_first b s t h (Err y) d q e =
          let z : Err y ≡ Err x = ap (λ (k : StretchLines). k.block.answer) (sym (first-refused b s t h d)) ∙ e in
          stop-here b s t h (d ∙ z)

  taken : (stretch_fold b t).block.answer ≡ Ok tt → fold_replay (rules_of b.case) b t ≡ lifted_lines b (stretch_fold b t)
  taken = by_lines (λ b t. (stretch_fold b t).block.answer ≡ Ok tt → fold_replay (rules_of b.case) b t ≡ lifted_lines b (stretch_fold b t))
      (λ b s t h e. (no_lines b s t h).1) at_first (length t) b s t (omega arith)
    where
      at_first : (b : Between) (s : Settled b) (t : List ℕ) → size_in b ≤ length t → (o : Result ⊤ Refusal) → (first b s t).stepped.answer ≡ o
          → (o ≡ Ok tt → (stretch_fold (next b s t) (drop (size_in b) t)).block.answer ≡ Ok tt
          → fold_replay (rules_of b.case) (next b s t) (drop (size_in b) t) ≡ lifted_lines b (stretch_fold (next b s t) (drop (size_in b) t)))
          → (stretch_fold b t).block.answer ≡ Ok tt → fold_replay (rules_of b.case) b t ≡ lifted_lines b (stretch_fold b t)
      at_first b s t h (Ok tt) d q e =
          let k = by-stretch b s t h d in
          by-replay b s t h d ∙ ap (more_by 1) (q refl (ap (λ (k : StretchLines). k.block.answer) (sym k) ∙ e)) ∙ sym (ap (lifted_lines b) k)
      at_first b s t h (Err y) d q e =
          absurd (never (sym e ∙ ap (λ (k : StretchLines). k.block.answer) (first-refused b s t h d)))

  -- the fold is that of the stretch, unless this refuses a line by number 2 between rounds
  pub fold-lifted : ((x : Refusal) → (stretch_fold b t).block.answer ≡ Err x → T (is_between (stretch_fold b t).block.replay) → x ≢ NotDue)
      → fold_replay (rules_of b.case) b t ≡ lifted_lines b (stretch_fold b t)
  fold-lifted n = go (stretch_fold b t).block.answer refl
    where
      go : (o : Result ⊤ Refusal) → (stretch_fold b t).block.answer ≡ o → fold_replay (rules_of b.case) b t ≡ lifted_lines b (stretch_fold b t)
      go (Ok tt) e = taken e
      go (Err x) e =
          let q = stops e in
          let f = stretch_fold b t in
          let d = moved_to b f.table (standing_good f.block.replay) in
          let u = drop (f.block.lines * size_in b) t in
          let k = ap (λ (k : StretchCall). k.stepped.answer) q.step in
          let l : step_replay (rules_of b.case) d (take (size_in b) u) ≡ lifted d (refused_step (standing_good f.block.replay) f.table x) =
          lift-refused d q.settled (take (size_in b) u) k (n x e) ∙ ap (lifted d) q.step in
          q.goes
          ∙ ap (more_by f.block.lines) (fold-refused (rules_of b.case) d u (omega (arith, q.room, length-drop (f.block.lines * size_in b) t)) _ l refl)
          ∙ whole b f e q.stands
