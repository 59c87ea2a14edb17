-- A log in blocks: the block of whole lines xs and then ys is the block of ys after that of xs, so a log may be cut into blocks of whole lines
-- anywhere. This holds of every case, table and record where what a block of no line is asked stands already: no number applies to what is
-- lent, or the record stands refused. Every line leaves it so. Assumes nothing.
use Rattle.definitions.specs.Answers.{outcome_of}
use mathlib.Core.Path.{◌≡◌, refl, sym, ap, ◌∙◌}
use mathlib.Core.Bool.{false, not}
use mathlib.Core.List.Memᴰ
use mathlib.Core.List.{List, [], ◌∷◌, ◌++◌, append_assoc}
use Prim.Native.Nat.{ℕ, zero, suc, ◌+◌, ◌/◌}
use native.Mathlib.Nat.{zero-add, add-div_left}
use native.Mathlib.Numerals.{add-one}
use native.Mathlib.Omega.{arith}
use lib.IntN.{ℤ}
use lib.Dec.{T, eqb}
use lib.ListN.{length, take, drop, length-append}
use borrow.Author.Tests.{ne_eqb}
use lib.Seq.{take_at, drop_at}
use Rattle.std.specs.Prelude.{if◌then◌else◌, Result, Ok, Err, Option, Some, None, ⊤}
use Rattle.integers.specs.Words.{joined}
use Rattle.integers.specs.Options.{none-some}
use Rattle.integers.specs.Lists.{◌∈◌}
use Rattle.integers.specs.Tables.{Parts}
use Rattle.definitions.specs.declared.Case.{Case}
use Rattle.definitions.specs.declared.Refusal.{Refusal}
use Rattle.checker.specs.declared.Replay.{Replay}
use Rattle.definitions.specs.Rules.{Rules, Coherent}
use Rattle.definitions.specs.Refusals.{first_refusal}
use Rattle.definitions.specs.Valid.{working_weight, handed_over}
use Rattle.definitions.specs.Lines.{line_length, cut_lines, whole_lines, lines_in, has_part}
use Rattle.checker.specs.Checker.{Between, BlockCall, taken_lines, first_refused, no_line, record_out}
use Rattle.checker.specs.Checker.{step_replay, step_between, after_lines, line_answers, fold_replay, lent_standing, block_replay}
use Rattle.checker.proofs.Leaves.{step-leaves}
use Rattle.checker.proofs.Fold.{stands, all_stay, refused-stands}
use Rattle.theory.proofs.Validity.{Handed, handed}
use Rattle.theory.proofs.Replays.{none-iff}
use Rattle.definitions.proofs.LineLaws.{lines-whole, joined-whole}

-- ---- lines of bytes

line-front : (width : ℕ) (l t : List ℕ) → length l ≡ line_length width → lines_in width (l ++ t) ≡ l ∷ lines_in width t
line-front width l t e =
    let n : whole_lines width (l ++ t) ≡ suc (whole_lines width t) =
    ap (λ (n : ℕ). n / line_length width) (length-append l t ∙ ap (λ (n : ℕ). n + length t) e) ∙ add-div_left (length t) {k = line_length width} (omega arith)
    ∙ add-one (whole_lines width t) in
    rw (n, take_at l t (line_length width) e, drop_at l t (line_length width) e)

lines-front : (width : ℕ) (ls : List (List ℕ)) (t : List ℕ) → Parts (line_length width) ls → lines_in width (joined ls ++ t) ≡ ls ++ lines_in width t
lines-front width [] t h = refl
lines-front width (l ∷ ls) t h =
    rw (append_assoc l (joined ls) t, line-front width l (joined ls ++ t) (h l (Memᴰ.head refl)))
    (ap (λ (k : List (List ℕ)). l ∷ k) (lines-front width ls t (λ k m. h k (Memᴰ.tail m))))

pub lines-append : (width : ℕ) (xs ys : List ℕ) → has_part width xs ≡ false → lines_in width (xs ++ ys) ≡ lines_in width xs ++ lines_in width ys
lines-append width xs ys whole =
    ap (λ (x : List ℕ). lines_in width (x ++ ys)) (sym (joined-whole width xs whole)) ∙ lines-front width (lines_in width xs) ys (lines-whole width xs)

-- ---- answers one after the other

-- the first refusal of two
abbrev pub or_else : Result ⊤ Refusal → Result ⊤ Refusal → Result ⊤ Refusal
or_else (Ok tt) o = o
or_else (Err x) o = Err x

first-append : (os ps : List (Result ⊤ Refusal)) → first_refused (os ++ ps) ≡ or_else (first_refused os) (first_refused ps)
first-append [] ps = refl
first-append ((Ok tt) ∷ os) ps = first-append os ps
first-append (Err x ∷ os) ps = refl

never : {x : Refusal} → ◌≡◌ {A = Result ⊤ Refusal} (Err x) (Ok tt) → ⊥
never e = let z : ◌≡◌ {A = ℕ} 0 1 = cc in omega arith

good-refused : {x : Refusal} → ◌≡◌ {A = Result ⊤ Refusal} (Ok tt) (Err x) → ⊥
good-refused e = let z : ◌≡◌ {A = ℕ} 0 1 = cc in omega arith

module _ (r : Rules) where
  -- a record that stands refused answers every line by the same refusal
  step-stands : (b : Between) {x : Refusal} → b.replay.standing ≡ Err x → (t : List ℕ)
      → ((step_replay r b.case b.table b.replay t).stepped.answer ≡ Err x) × ((step_between r b t).replay.standing ≡ Err x)
  unfolding step_replay
  step-stands b e t = (rw e, rw e)

  none-taken : (b : Between) {x : Refusal} → b.replay.standing ≡ Err x → (ts us : List (List ℕ))
      → taken_lines (line_answers r (after_lines r b ts) us) ≡ 0
  none-taken b e [] [] = refl
  none-taken b e [] (u ∷ us) = rw (step-stands b e u).0
  none-taken b e (t ∷ ts) us = none-taken (step_between r b t) (step-stands b e t).1 ts us

  pub after-lines : (b : Between) (ts us : List (List ℕ)) → after_lines r b (ts ++ us) ≡ after_lines r (after_lines r b ts) us
  after-lines b [] us = refl
  after-lines b (t ∷ ts) us = after-lines (step_between r b t) ts us

  pub answers-append : (b : Between) (ts us : List (List ℕ)) → line_answers r b (ts ++ us) ≡ line_answers r b ts ++ line_answers r (after_lines r b ts) us
  answers-append b [] us = refl
  answers-append b (t ∷ ts) us = ap (λ (os : List (Result ⊤ Refusal)). (step_replay r b.case b.table b.replay t).stepped.answer ∷ os)
      (answers-append (step_between r b t) ts us)

  taken-append : (b : Between) (ts us : List (List ℕ))
      → taken_lines (line_answers r b ts ++ line_answers r (after_lines r b ts) us)
      ≡ taken_lines (line_answers r b ts) + taken_lines (line_answers r (after_lines r b ts) us)
  taken-append b [] us = sym (zero-add _)
  taken-append b (t ∷ ts) us = go (step_replay r b.case b.table b.replay t).stepped.answer refl (taken-append (step_between r b t) ts us)
    where
      more : List (Result ⊤ Refusal)
      more = line_answers r (step_between r b t) ts

      rest : List (Result ⊤ Refusal)
      rest = line_answers r (after_lines r (step_between r b t) ts) us

      go : (o : Result ⊤ Refusal) → (step_replay r b.case b.table b.replay t).stepped.answer ≡ o → taken_lines (more ++ rest) ≡ taken_lines more + taken_lines rest
          → taken_lines (o ∷ (more ++ rest)) ≡ taken_lines (o ∷ more) + taken_lines rest
      go (Ok tt) e i = omega arith
      go (Err x) e i = sym (zero-add (taken_lines rest)
          ∙ none-taken (step_between r b t) (refused-stands r b.case b.table b.replay t e) ts us)

  case-kept : (b : Between) (ts : List (List ℕ)) → (after_lines r b ts).case ≡ b.case
  case-kept b [] = refl
  case-kept b (t ∷ ts) = case-kept (step_between r b t) ts

  -- ---- blocks

  -- one block and then another: the lines taken add up, and the first refusal is the answer
  abbrev pub then_block : BlockCall → BlockCall → BlockCall
  then_block x y = record {
    block = record { replay = y.block.replay; lines = x.block.lines + y.block.lines; answer = or_else x.block.answer y.block.answer };
    table = y.table;
  }

  -- blocks one after the other, each with the table and the record that the last one left
  abbrev pub blocks_replay : Case → List ℤ → Replay → List (List ℕ) → List ℕ → BlockCall
  blocks_replay c w p [] y = block_replay r c w p y
  blocks_replay c w p (x ∷ xs) y =
      let call = block_replay r c w p x in
      then_block call (blocks_replay c call.table call.block.replay xs y)

  abbrev fold_of : Between → List (List ℕ) → BlockCall
  fold_of b ts = record {
    block = record { replay = (after_lines r b ts).replay; lines = taken_lines (line_answers r b ts); answer = first_refused (line_answers r b ts) };
    table = (after_lines r b ts).table;
  }

  fold-append : (b : Between) (ts us : List (List ℕ)) → fold_of b (ts ++ us) ≡ then_block (fold_of b ts) (fold_of (after_lines r b ts) us)
  fold-append b ts us = rw (
    after-lines b ts us,
    answers-append b ts us,
    taken-append b ts us,
    first-append (line_answers r b ts) (line_answers r (after_lines r b ts) us),
  )

  pub folds-join : (c : Case) (w : List ℤ) (p : Replay) (xs ys : List ℕ) → has_part r.amount_width xs ≡ false
      → fold_replay r c w p (xs ++ ys) ≡ then_block (fold_replay r c w p xs)
      (fold_replay r c (fold_replay r c w p xs).table (fold_replay r c w p xs).block.replay ys)
  unfolding fold_replay
  folds-join c w p xs ys whole =
      let b : Between = record { case = c; table = w; replay = p } in
      let ts = lines_in r.amount_width xs in
      let us = lines_in r.amount_width ys in
      ap (fold_of b) (lines-append r.amount_width xs ys whole) ∙ fold-append b ts us
      ∙ ap (λ (d : Case). then_block (fold_of b ts) (fold_of (record { case = d; table = (after_lines r b ts).table; replay = (after_lines r b ts).replay }) us))
      (case-kept b ts)

  -- ---- what a block of no line is asked

  -- no number applies
  abbrev pub Lent : Case → List ℤ → Replay → Type 0
  Lent c w p = lent_standing r c w p p.standing ≡ None

  -- it stands already
  abbrev pub Known : Case → List ℤ → Replay → Type 0
  Known c w p = outcome_of (lent_standing r c w p p.standing) ≡ p.standing

  module _ (c : Case) (w : List ℤ) (p : Replay) where
    pub lent-good : Lent c w p → p.standing ≡ Ok tt
    lent-good e = go p.standing e
      where
        go : (s : Result ⊤ Refusal) → lent_standing r c w p s ≡ None → s ≡ Ok tt
        go (Ok tt) e = refl
        go (Err x) e = absurd (none-some (sym e))

    pub lent-handed : p.standing ≡ Ok tt → Handed r (working_weight r) c w → T (not (record_out r c p)) → Lent c w p
    lent-handed g h o =
        ap (lent_standing r c w p) g
        ∙ (none-iff (first_refusal (handed_over r (working_weight r) c w false (record_out r c p)))).0
        ((handed r (working_weight r) c w false (record_out r c p)).1 (h, tt, o))

    known-lent : Lent c w p → Known c w p
    known-lent e = ap outcome_of e ∙ sym (lent-good e)

    lent-known : p.standing ≡ Ok tt → Known c w p → Lent c w p
    lent-known g k = go (lent_standing r c w p p.standing) (k ∙ g)
      where
        go : (o : Option Refusal) → outcome_of o ≡ Ok tt → o ≡ None
        go None e = refl
        go (Some x) e = absurd (good-refused (sym e))

    known-refused : {x : Refusal} → p.standing ≡ Err x → Known c w p
    known-refused e = rw e

module _ {r : Rules} (coherent : Coherent r) where
  -- a line leaves what is known; where it is done, no number applies
  module _ (b : Between) (t : List ℕ) where
    step-lent : (step_replay r b.case b.table b.replay t).stepped.answer ≡ Ok tt
        → Lent r b.case (step_between r b t).table (step_between r b t).replay
    step-lent e =
        let l = step-leaves coherent b.case b.table b.replay t e in
        lent-handed r b.case (step_between r b t).table (step_between r b t).replay l.good l.handed-over l.record-in

    step-known : Known r b.case (step_between r b t).table (step_between r b t).replay
    step-known = go (step_replay r b.case b.table b.replay t).stepped.answer refl
      where
        go : (o : Result ⊤ Refusal) → (step_replay r b.case b.table b.replay t).stepped.answer ≡ o
            → Known r b.case (step_between r b t).table (step_between r b t).replay
        go (Ok tt) e = known-lent r b.case (step_between r b t).table (step_between r b t).replay (step-lent e)
        go (Err x) e =
            known-refused r b.case (step_between r b t).table (step_between r b t).replay (refused-stands r b.case b.table b.replay t e)

  lines-known : (b : Between) (ts : List (List ℕ)) → Known r b.case b.table b.replay
      → Known r b.case (after_lines r b ts).table (after_lines r b ts).replay
  lines-known b [] k = k
  lines-known b (t ∷ ts) k = lines-known (step_between r b t) ts (step-known b t)

  lines-lent : (b : Between) (ts : List (List ℕ)) → Lent r b.case b.table b.replay → first_refused (line_answers r b ts) ≡ Ok tt
      → Lent r b.case (after_lines r b ts).table (after_lines r b ts).replay
  lines-lent b [] l e = l
  lines-lent b (t ∷ ts) l e = go (step_replay r b.case b.table b.replay t).stepped.answer refl e (λ k f. lines-lent (step_between r b t) ts k f)
    where
      Left : Type 0
      Left = Lent r b.case (after_lines r (step_between r b t) ts).table (after_lines r (step_between r b t) ts).replay

      go : (o : Result ⊤ Refusal) → (step_replay r b.case b.table b.replay t).stepped.answer ≡ o
          → first_refused (o ∷ line_answers r (step_between r b t) ts) ≡ Ok tt
          → (Lent r b.case (step_between r b t).table (step_between r b t).replay → first_refused (line_answers r (step_between r b t) ts) ≡ Ok tt
          → Left) → Left
      go (Ok tt) d e on = on (step-lent b t d) e
      go (Err x) d e on = absurd (never e)

  module _ (c : Case) (w : List ℤ) (p : Replay) (bytes : List ℕ) where
    abbrev between : Between
    between = record { case = c; table = w; replay = p }

    -- by how many whole lines it has
    abbrev block_at : ℕ → BlockCall
    block_at n = if eqb n 0 then no_line w p (lent_standing r c w p p.standing) else fold_of r between (cut_lines (line_length r.amount_width) n bytes)

    some-line : (n : ℕ) → block_at (suc n) ≡ fold_of r between (cut_lines (line_length r.amount_width) (suc n) bytes)
    some-line n = rw (ne_eqb (suc n) 0 (λ e. omega arith))

    -- where no number applies to what is lent, a block is the fold, and where it is done, no number applies to what it leaves
    pub block-lent : Lent r c w p → block_replay r c w p bytes ≡ fold_replay r c w p bytes
    unfolding fold_replay block_replay
    block-lent e = go (whole_lines r.amount_width bytes)
      where
        go : (n : ℕ) → block_at n ≡ fold_of r between (cut_lines (line_length r.amount_width) n bytes)
        go zero = ap (no_line w p) e
        go (suc n) = some-line n

    pub lent-after : Lent r c w p → (fold_replay r c w p bytes).block.answer ≡ Ok tt
        → Lent r c (fold_replay r c w p bytes).table (fold_replay r c w p bytes).block.replay
    unfolding fold_replay
    lent-after l e = lines-lent between (lines_in r.amount_width bytes) l e

    known-after : Known r c w p → Known r c (fold_replay r c w p bytes).table (fold_replay r c w p bytes).block.replay
    unfolding fold_replay
    known-after k = lines-known between (lines_in r.amount_width bytes) k

    -- a record that stands refused stays, and is answered by the same refusal
    module _ {x : Refusal} (e : p.standing ≡ Err x) where
      abbrev refused_block : BlockCall
      refused_block = record { block = record { replay = p; lines = 0; answer = Err x }; table = w }

      block-stands : block_replay r c w p bytes ≡ refused_block
      unfolding fold_replay block_replay
      block-stands = go (whole_lines r.amount_width bytes)
        where
          go : (n : ℕ) → block_at n ≡ refused_block
          go zero = ap (λ (s : Result ⊤ Refusal). no_line w p (lent_standing r c w p s)) e
              ∙ ap (λ (q : Replay). record { block = record { replay = q; lines = 0; answer = Err x }; table = w }) (stands p e)
          go (suc n) =
              let t = take (line_length r.amount_width) bytes in
              let ts = cut_lines (line_length r.amount_width) n (drop (line_length r.amount_width) bytes) in
              some-line n ∙ rw (all_stay r between e (t ∷ ts), (step-stands r between e t).0)

      fold-stands : fold_replay r c w p bytes ≡ record { block = record { replay = p; lines = 0; answer = (fold_replay r c w p bytes).block.answer }; table = w }
      unfolding fold_replay
      fold-stands = let ts = lines_in r.amount_width bytes in rw (all_stay r between e ts, none-taken r between e [] ts)

  -- ---- blocks joined

  module _ (c : Case) (w : List ℤ) (p : Replay) (xs ys : List ℕ) (whole : has_part r.amount_width xs ≡ false) where
    abbrev first : BlockCall
    first = fold_replay r c w p xs

    abbrev second : BlockCall
    second = fold_replay r c first.table first.block.replay ys

    -- the second block after the first fold
    second_is : Lent r c w p → then_block r first second ≡ then_block r first (block_replay r c first.table first.block.replay ys)
    second_is l = go first.block.replay.standing refl first.block.answer refl
      where
        known : Known r c first.table first.block.replay
        known = known-after c w p xs (known-lent r c w p l)

        then_at : Result ⊤ Refusal → BlockCall
        then_at o = record { block = record { replay = first.block.replay; lines = first.block.lines + 0; answer = o }; table = first.table }

        go : (s : Result ⊤ Refusal) → first.block.replay.standing ≡ s → (o : Result ⊤ Refusal) → first.block.answer ≡ o
            → then_block r first second ≡ then_block r first (block_replay r c first.table first.block.replay ys)
        go (Ok tt) d o a = ap (then_block r first) (sym (block-lent c first.table first.block.replay ys
            (lent-known r c first.table first.block.replay d known)))
        go (Err y) d (Ok tt) a =
            absurd (good-refused (sym (lent-good r c first.table first.block.replay (lent-after c w p xs l a)) ∙ d))
        go (Err y) d (Err z) a =
            ap (then_block r first) (fold-stands c first.table first.block.replay ys d)
            ∙ ap (λ (o : Result ⊤ Refusal). then_at (or_else o second.block.answer)) a ∙ ap (λ (o : Result ⊤ Refusal). then_at (or_else o (Err y))) (sym a)
            ∙ ap (then_block r first) (sym (block-stands c first.table first.block.replay ys d))

    pub blocks-join : Known r c w p
        → block_replay r c w p (xs ++ ys) ≡ then_block r (block_replay r c w p xs)
        (block_replay r c (block_replay r c w p xs).table (block_replay r c w p xs).block.replay ys)
    blocks-join k = go p.standing refl
      where
        go : (s : Result ⊤ Refusal) → p.standing ≡ s
            → block_replay r c w p (xs ++ ys) ≡ then_block r (block_replay r c w p xs)
            (block_replay r c (block_replay r c w p xs).table (block_replay r c w p xs).block.replay ys)
        go (Err x) e = rw (block-stands c w p (xs ++ ys) e, block-stands c w p xs e) (rw (block-stands c w p ys e))
        go (Ok tt) e =
            let l = lent-known r c w p e k in
            rw (block-lent c w p (xs ++ ys) l, block-lent c w p xs l) (folds-join r c w p xs ys whole ∙ second_is l)

    pub block-known : Known r c w p → Known r c (block_replay r c w p xs).table (block_replay r c w p xs).block.replay
    block-known k = go p.standing refl
      where
        go : (s : Result ⊤ Refusal) → p.standing ≡ s → Known r c (block_replay r c w p xs).table (block_replay r c w p xs).block.replay
        go (Err x) e = rw (block-stands c w p xs e) k
        go (Ok tt) e = rw (block-lent c w p xs (lent-known r c w p e k)) (known-after c w p xs k)

  -- a log cut into blocks of whole lines, the last of which may end in a part line, is one block
  pub blocks-fold : (c : Case) (w : List ℤ) (p : Replay) (xs : List (List ℕ)) (y : List ℕ) → ((x : List ℕ) → x ∈ xs → has_part r.amount_width x ≡ false)
      → Known r c w p
      → blocks_replay r c w p xs y ≡ block_replay r c w p (joined xs ++ y)
  blocks-fold c w p [] y whole k = refl
  blocks-fold c w p (x ∷ xs) y whole k =
      let call = block_replay r c w p x in
      let all_whole = whole x (Memᴰ.head refl) in
      ap (then_block r call) (blocks-fold c call.table call.block.replay xs y (λ k m. whole k (Memᴰ.tail m)) (block-known c w p x y all_whole k))
      ∙ sym (blocks-join c w p x (joined xs ++ y) all_whole k)
      ∙ ap (block_replay r c w p) (sym (append_assoc x (joined xs) y))
