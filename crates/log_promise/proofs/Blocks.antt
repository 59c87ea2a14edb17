-- A log in blocks: the block of whole lines xs and then ys is the block of ys after that of xs, so a log may be cut into blocks of whole lines
-- anywhere. This holds of everything that stands between lines beside a state of the plain replay, of a fresh record first. Assumes nothing.
use mathlib.Core.Path.{◌≡◌, refl, sym, ap, subst, ◌∙◌}
use mathlib.Core.Bool.{false}
use mathlib.Core.List.Memᴰ
use mathlib.Core.List.{List, [], ◌∷◌, ◌++◌, append_assoc}
use Prim.Native.Nat.{ℕ, zero, suc, ◌+◌, ◌/◌}
use native.Mathlib.Nat.{zero-add, add-div_left}
use native.Mathlib.Numerals.{add-one}
use native.Mathlib.Omega.{arith}
use lib.Dec.{eqb}
use lib.ListN.{length, take, drop, length-append}
use borrow.Author.Tests.{ne_eqb}
use lib.Seq.{take_at, drop_at}
use Rattle.std.specs.Prelude.{if◌then◌else◌, Result, Ok, Err, Option, Some, None, ⊤}
use Rattle.integers.specs.Words.{joined}
use Rattle.integers.specs.Options.{none-some}
use Rattle.integers.specs.Lists.{◌∈◌}
use Rattle.integers.specs.Tables.{Parts as InParts}
use Rattle.definitions.specs.declared.Refusal.{Refusal}
use Rattle.definitions.specs.Rules.{Rules}
use Rattle.definitions.specs.Lines.{line_length, cut_lines, whole_lines, lines_in, has_part}
use Rattle.definitions.specs.Answers.{outcome_of}
use Rattle.logs.specs.Logs.{LogState, step_log, after_log}
use Rattle.checker.specs.declared.Replay.{Replay as Stretch}
use Rattle.checker.specs.Checker.{taken_lines, first_refused}
use Rattle.checker.proofs.Fold.{stands}
use Rattle.log_checker.specs.Checker.{Between, BlockCall, step_replay, after_lines, line_answers, fold_replay, lent_number, lent_standing, no_line, block_replay}
use Rattle.log_checker.proofs.Folds.{refused-stands, all_stay}
use Rattle.definitions.proofs.LineLaws.{lines-whole, joined-whole}
use Rattle.log_promise.proofs.LogAgrees.{AgreesLog, agrees-step, answer-agrees, fold-agrees}

-- ---- lines of bytes

line-front : (width : ℕ) (l t : List ℕ) → length l ≡ line_length width → lines_in width (l ++ t) ≡ l ∷ lines_in width t
line-front width l t e =
    let n : whole_lines width (l ++ t) ≡ suc (whole_lines width t) =
    ap (λ (n : ℕ). n / line_length width) (length-append l t ∙ ap (λ (n : ℕ). n + length t) e) ∙ add-div_left (length t) {k = line_length width} (omega arith)
    ∙ add-one (whole_lines width t) in
    rw (n, take_at l t (line_length width) e, drop_at l t (line_length width) e)

lines-front : (width : ℕ) (ls : List (List ℕ)) (t : List ℕ) → InParts (line_length width) ls → lines_in width (joined ls ++ t) ≡ ls ++ lines_in width t
lines-front width [] t h = refl
lines-front width (l ∷ ls) t h =
    rw (append_assoc l (joined ls) t, line-front width l (joined ls ++ t) (h l (Memᴰ.head refl)))
    (ap (λ (k : List (List ℕ)). l ∷ k) (lines-front width ls t (λ k m. h k (Memᴰ.tail m))))

pub lines-append : (width : ℕ) (xs ys : List ℕ) → has_part width xs ≡ false → lines_in width (xs ++ ys) ≡ lines_in width xs ++ lines_in width ys
lines-append width xs ys whole =
    ap (λ (x : List ℕ). lines_in width (x ++ ys)) (sym (joined-whole width xs whole)) ∙ lines-front width (lines_in width xs) ys (lines-whole width xs)

-- ---- answers one after the other

-- the first refusal of two
abbrev pub or_else : Result ⊤ Refusal → Result ⊤ Refusal → Result ⊤ Refusal
or_else (Ok tt) o = o
or_else (Err x) o = Err x

first-append : (os ps : List (Result ⊤ Refusal)) → first_refused (os ++ ps) ≡ or_else (first_refused os) (first_refused ps)
first-append [] ps = refl
first-append ((Ok tt) ∷ os) ps = first-append os ps
first-append (Err x ∷ os) ps = refl

module _ (r : Rules) where
  -- a record that stands refused answers every line by the same refusal
  step-stands : (b : Between) {x : Refusal} → b.replay.stretch.standing ≡ Err x → (t : List ℕ)
      → step_replay r b t ≡ record { answer = Err x; after = b }
  unfolding step_replay
  step-stands b e t = rw e

  none-taken : (b : Between) {x : Refusal} → b.replay.stretch.standing ≡ Err x → (us : List (List ℕ)) → taken_lines (line_answers r b us) ≡ 0
  none-taken b e [] = refl
  none-taken b e (u ∷ us) = rw (step-stands b e u)

  pub after-lines : (b : Between) (ts us : List (List ℕ)) → after_lines r b (ts ++ us) ≡ after_lines r (after_lines r b ts) us
  after-lines b [] us = refl
  after-lines b (t ∷ ts) us = after-lines (step_replay r b t).after ts us

  pub answers-append : (b : Between) (ts us : List (List ℕ)) → line_answers r b (ts ++ us) ≡ line_answers r b ts ++ line_answers r (after_lines r b ts) us
  answers-append b [] us = refl
  answers-append b (t ∷ ts) us = ap (λ (os : List (Result ⊤ Refusal)). (step_replay r b t).answer ∷ os) (answers-append (step_replay r b t).after ts us)

  taken-append : (b : Between) (ts us : List (List ℕ))
      → taken_lines (line_answers r b ts ++ line_answers r (after_lines r b ts) us)
      ≡ taken_lines (line_answers r b ts) + taken_lines (line_answers r (after_lines r b ts) us)
  taken-append b [] us = sym (zero-add _)
  taken-append b (t ∷ ts) us = go (step_replay r b t).answer refl (taken-append (step_replay r b t).after ts us)
    where
      next : Between
      next = (step_replay r b t).after

      more : List (Result ⊤ Refusal)
      more = line_answers r next ts

      rest : List (Result ⊤ Refusal)
      rest = line_answers r (after_lines r next ts) us

      go : (o : Result ⊤ Refusal) → (step_replay r b t).answer ≡ o → taken_lines (more ++ rest) ≡ taken_lines more + taken_lines rest
          → taken_lines (o ∷ (more ++ rest)) ≡ taken_lines (o ∷ more) + taken_lines rest
      go (Ok tt) e i = omega arith
      go (Err x) e i =
          let s = refused-stands r b t e in
          sym (zero-add (taken_lines rest) ∙ ap (λ (d : Between). taken_lines (line_answers r d us)) (all_stay r next s ts) ∙ none-taken next s us)

  -- ---- blocks

  -- one block and then another: the lines taken add up, and the first refusal is the answer
  abbrev pub then_block : BlockCall → BlockCall → BlockCall
  then_block x y = record { lines = x.lines + y.lines; answer = or_else x.answer y.answer; after = y.after }

  -- blocks one after the other, each with what the last one left
  abbrev pub blocks_replay : Between → List (List ℕ) → List ℕ → BlockCall
  blocks_replay b [] y = block_replay r b y
  blocks_replay b (x ∷ xs) y = let call = block_replay r b x in then_block call (blocks_replay call.after xs y)

  abbrev fold_of : Between → List (List ℕ) → BlockCall
  fold_of b ts = record { lines = taken_lines (line_answers r b ts); answer = first_refused (line_answers r b ts); after = after_lines r b ts }

  fold-append : (b : Between) (ts us : List (List ℕ)) → fold_of b (ts ++ us) ≡ then_block (fold_of b ts) (fold_of (after_lines r b ts) us)
  fold-append b ts us = rw (
    after-lines b ts us,
    answers-append b ts us,
    taken-append b ts us,
    first-append (line_answers r b ts) (line_answers r (after_lines r b ts) us),
  )

  pub folds-join : (b : Between) (xs ys : List ℕ) → has_part r.amount_width xs ≡ false
      → fold_replay r b (xs ++ ys) ≡ then_block (fold_replay r b xs) (fold_replay r (fold_replay r b xs).after ys)
  unfolding fold_replay
  folds-join b xs ys whole =
      ap (fold_of b) (lines-append r.amount_width xs ys whole) ∙ fold-append b (lines_in r.amount_width xs) (lines_in r.amount_width ys)

  -- ---- a block of any bytes

  module _ (b : Between) (bytes : List ℕ) where
    abbrev width : ℕ
    width = r.amount_width

    -- by how many whole lines it has
    abbrev block_at : ℕ → BlockCall
    block_at n = if eqb n 0 then no_line r b (lent_standing r b b.replay.stretch.standing) else fold_of b (cut_lines (line_length width) n bytes)

    some-line : (n : ℕ) → block_at (suc n) ≡ fold_of b (cut_lines (line_length width) (suc n) bytes)
    some-line n = rw (ne_eqb (suc n) 0 (λ e. omega arith))

    -- where no number applies to what is handed over, a block is the fold
    pub block-lent : lent_standing r b b.replay.stretch.standing ≡ None → block_replay r b bytes ≡ fold_replay r b bytes
    unfolding fold_replay block_replay
    block-lent e = go (whole_lines width bytes)
      where
        go : (n : ℕ) → block_at n ≡ fold_of b (cut_lines (line_length width) n bytes)
        go zero = ap (no_line r b) e
        go (suc n) = some-line n

    -- a record that stands refused stays, and is answered by the same refusal
    module _ {x : Refusal} (e : b.replay.stretch.standing ≡ Err x) where
      block-stands : block_replay r b bytes ≡ record { lines = 0; answer = Err x; after = b }
      unfolding fold_replay block_replay
      block-stands = go (whole_lines width bytes)
        where
          go : (n : ℕ) → block_at n ≡ record { lines = 0; answer = Err x; after = b }
          go zero =
              ap (λ (s : Result ⊤ Refusal). no_line r b (lent_standing r b s)) e
              ∙ ap (λ (q : Stretch). record {
                lines = 0;
                answer = Err x;
                after = record {
                  case = b.case;
                  starting = b.starting;
                  table = b.table;
                  replay = record { stretch = q; joining = b.replay.joining; lower = b.replay.lower };
                };
              }) (stands b.replay.stretch e)
          go (suc n) =
              let t = take (line_length width) bytes in
              let ts = cut_lines (line_length width) n (drop (line_length width) bytes) in
              some-line n ∙ rw (all_stay r b e (t ∷ ts), step-stands b e t)

      fold-stands : fold_replay r b bytes ≡ record { lines = 0; answer = (fold_replay r b bytes).answer; after = b }
      unfolding fold_replay
      fold-stands = let ts = lines_in width bytes in rw (all_stay r b e ts, none-taken b e ts)

  -- ---- beside the plain replay

  module _ {s : LogState} {b : Between} (a : AgreesLog r s b) where
    pub agrees-standing : b.replay.stretch.standing ≡ outcome_of s.stretch.refusal
    agrees-standing = ap (λ (b : Between). b.replay.stretch.standing) a.same

    pub agrees-lent : s.stretch.refusal ≡ None → lent_standing r b b.replay.stretch.standing ≡ None
    agrees-lent e =
        ap (lent_standing r b) (agrees-standing ∙ ap outcome_of e) ∙ subst (λ (x : Between). lent_number r x ≡ None) (sym a.same) (a.parts.lent e)

  -- a block keeps the agreement
  module _ {s : LogState} {b : Between} (a : AgreesLog r s b) (bytes : List ℕ) where
    abbrev pub later : LogState
    later = after_log r s (lines_in r.amount_width bytes)

    pub fold-later : AgreesLog r later (fold_replay r b bytes).after
    unfolding fold_replay
    fold-later = fold-agrees a (lines_in r.amount_width bytes)

    pub block-agrees : (u : LogState) × AgreesLog r u (block_replay r b bytes).after
    block-agrees = go s.stretch.refusal refl
      where
        go : (o : Option Refusal) → s.stretch.refusal ≡ o → (u : LogState) × AgreesLog r u (block_replay r b bytes).after
        go None e = (later, subst (λ (x : BlockCall). AgreesLog r later x.after) (sym (block-lent b bytes (agrees-lent a e))) fold-later)
        go (Some x) e =
            (s, subst (λ (k : BlockCall). AgreesLog r s k.after) (sym (block-stands b bytes (agrees-standing a ∙ ap outcome_of e))) a)

-- where no line was answered by a number, none has applied
none-applied : {r : Rules} {s : LogState} {b : Between} → AgreesLog r s b → (ts : List (List ℕ)) → s.stretch.refusal ≡ None
    → first_refused (line_answers r b ts) ≡ Ok tt → (after_log r s ts).stretch.refusal ≡ None
none-applied a [] e d = e
none-applied {r} {s} {b} a (t ∷ ts) e d = go (step_log r s t).stretch.refusal refl (answer-agrees a t) (none-applied {s = step_log r s t} (agrees-step a t) ts)
  where
    first : Result ⊤ Refusal → Result ⊤ Refusal
    first o = first_refused (o ∷ line_answers r (step_replay r b t).after ts)

    go : (o : Option Refusal) → (step_log r s t).stretch.refusal ≡ o → (step_replay r b t).answer ≡ outcome_of (step_log r s t).stretch.refusal
        → ((step_log r s t).stretch.refusal ≡ None → first_refused (line_answers r (step_replay r b t).after ts) ≡ Ok tt
        → (after_log r (step_log r s t) ts).stretch.refusal ≡ None) → (after_log r (step_log r s t) ts).stretch.refusal ≡ None
    go None f g more = more f (sym (ap first (g ∙ ap outcome_of f)) ∙ d)
    go (Some x) f g more = let z = sym (ap first (g ∙ ap outcome_of f)) ∙ d in cc

pub fold-none : {r : Rules} {s : LogState} {b : Between} (a : AgreesLog r s b) (bytes : List ℕ) → s.stretch.refusal ≡ None
    → (fold_replay r b bytes).answer ≡ Ok tt → (later r a bytes).stretch.refusal ≡ None
unfolding fold_replay
fold-none {r} a bytes e d = none-applied a (lines_in r.amount_width bytes) e d

module _ {r : Rules} where
  module _ {s : LogState} {b : Between} (a : AgreesLog r s b) (xs ys : List ℕ) (whole : has_part r.amount_width xs ≡ false) where
    abbrev first : BlockCall
    first = fold_replay r b xs

    abbrev second : BlockCall
    second = fold_replay r first.after ys

    -- the second block after the first fold
    second_is : s.stretch.refusal ≡ None → then_block r first second ≡ then_block r first (block_replay r first.after ys)
    second_is e = go (later r a xs).stretch.refusal refl
      where
        go : (o : Option Refusal) → (later r a xs).stretch.refusal ≡ o → then_block r first second ≡ then_block r first (block_replay r first.after ys)
        go None f = ap (then_block r first) (sym (block-lent r first.after ys (agrees-lent r (fold-later r a xs) f)))
        go (Some x) f =
            let z : first.after.replay.stretch.standing ≡ Err x = agrees-standing r (fold-later r a xs) ∙ ap outcome_of f in
            told first.answer refl z
          where
            told : (o : Result ⊤ Refusal) → first.answer ≡ o → first.after.replay.stretch.standing ≡ Err x
                → then_block r first second ≡ then_block r first (block_replay r first.after ys)
            told (Ok tt) d z = absurd (none-some (sym (fold-none a xs e d) ∙ f))
            told (Err y) d z =
                ap (then_block r first) (fold-stands r first.after ys z)
                ∙ ap (λ (o : Result ⊤ Refusal). record { lines = first.lines + 0; answer = or_else o second.answer; after = first.after }) d
                ∙ sym (ap (λ (o : Result ⊤ Refusal). record { lines = first.lines + 0; answer = or_else o (Err x); after = first.after }) d)
                ∙ ap (then_block r first) (sym (block-stands r first.after ys z))

    pub blocks-join : block_replay r b (xs ++ ys) ≡ then_block r (block_replay r b xs) (block_replay r (block_replay r b xs).after ys)
    blocks-join = go s.stretch.refusal refl
      where
        go : (o : Option Refusal) → s.stretch.refusal ≡ o
            → block_replay r b (xs ++ ys) ≡ then_block r (block_replay r b xs) (block_replay r (block_replay r b xs).after ys)
        go (Some x) e =
            let z = agrees-standing r a ∙ ap outcome_of e in
            rw (block-stands r b (xs ++ ys) z, block-stands r b xs z) (rw (block-stands r b ys z))
        go None e =
            let l = agrees-lent r a e in
            rw (block-lent r b (xs ++ ys) l, block-lent r b xs l) (folds-join r b xs ys whole ∙ second_is e)

  -- a log cut into blocks of whole lines, the last of which may end in a part line, is one block
  pub blocks-fold : {s : LogState} {b : Between} → AgreesLog r s b → (xs : List (List ℕ)) (y : List ℕ)
      → ((x : List ℕ) → x ∈ xs → has_part r.amount_width x ≡ false) → blocks_replay r b xs y ≡ block_replay r b (joined xs ++ y)
  blocks-fold a [] y whole = refl
  blocks-fold {b = b} a (x ∷ xs) y whole =
      let call = block_replay r b x in
      let all_whole = whole x (Memᴰ.head refl) in
      let (u, k) = block-agrees r a x in
      ap (then_block r call) (blocks-fold {s = u} k xs y (λ k m. whole k (Memᴰ.tail m)))
      ∙ sym (blocks-join a x (joined xs ++ y) all_whole)
      ∙ ap (block_replay r b) (sym (append_assoc x (joined xs) y))
