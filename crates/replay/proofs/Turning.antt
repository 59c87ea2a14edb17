-- Turn after turn: the bytes read are blocks of whole lines and a part line. Assumes nothing.
use mathlib.Core.Path.{◌≡◌, refl, sym, ap, subst, ◌∙◌}
use mathlib.Core.Bool.{false, not}
use mathlib.Core.Logic.{◌⊎◌, inl, inr, ⊎_elim}
use mathlib.Core.List.Memᴰ
use mathlib.Core.List.{List, [], ◌∷◌, ◌++◌, append_assoc, append-nil}
use Prim.Native.Nat.{ℕ, ◌+◌, ◌*◌, ◌-◌, ◌/◌, ◌%◌, ◌≤◌, ◌<◌}
use native.Mathlib.Nat.{div-add-mod', mul-mod_left}
use native.Mathlib.Omega.{arith}
use lib.IntN.{ℤ}
use lib.Dec.{T, eqb}
use lib.ListN.{length, take, drop, take-append-drop, length-append, length-drop}
use lib.Seq.{length-take-le, take-take, take-add, drop_at}
use Rattle.integers.specs.Words.{joined}
use Rattle.integers.specs.Lists.{◌∈◌, joined-append}
use Rattle.definitions.specs.declared.Rulebook.TheVariants.{Desk}
use Rattle.definitions.specs.Rules.{rules_in}
use Rattle.definitions.specs.Lines.{has_part}
use Rattle.streams.specs.declared.Filled.{Filled}
use Rattle.streams.specs.Streams.{is_over, Fills}
use Rattle.judging.specs.declared.Judging.{Judging}
use Rattle.judging.specs.Judging.{JudgingState, state_of, start_judging, block_judging}
use Rattle.judging.specs.Cuts.{after_blocks}
use Rattle.replay.specs.declared.Turned.{Turned}
use Rattle.replay.specs.Turns.{desk_line, whole_bytes, case_end, most_turns, Turns, Goes, Judges}

after-append : (g : JudgingState) (xs ys : List (List ℕ)) → after_blocks g (xs ++ ys) ≡ after_blocks (after_blocks g xs) ys
after-append g [] ys = refl
after-append g (x ∷ xs) ys = after-append (block_judging g x) xs ys

-- the whole lines of some bytes
module _ (bytes : List ℕ) where
  abbrev front : List ℕ
  front = take (whole_bytes bytes) bytes

  abbrev rest : List ℕ
  rest = drop (whole_bytes bytes) bytes

  front_rest : front ++ rest ≡ bytes
  front_rest = take-append-drop (whole_bytes bytes) bytes

  front-whole : has_part (rules_in Desk).amount_width front ≡ false
  front-whole =
      let n : ℕ = length bytes in
      let e : length front ≡ n / desk_line * desk_line = length-take-le (whole_bytes bytes) bytes (omega arith) ∙ omega (arith, div-add-mod' n desk_line) in
      ap (λ (k : ℕ). not (eqb (k % desk_line) 0)) e ∙ ap (λ (k : ℕ). not (eqb k 0)) (mul-mod_left (n / desk_line) desk_line)

-- no turn
pub goes_none : (room : ℕ) (r : Turned) (v : List ℤ) (buf : List ℕ) → r.held ≤ length buf → r.held < desk_line
    → Goes 0 room (state_of r.judging v) (take r.held buf) r.filled r v buf
goes_none room r v buf h s = record {
  more = [];
  blocks = [];
  lines-whole = λ x i. absurd (Memᴰ.not-nil i);
  all = append-nil (take r.held buf);
  state = refl;
  fits = h;
  short = s;
  ends = λ e. (refl, refl);
  over = inr (omega arith);
}

-- one turn more
module _ {turns room : ℕ} {g : JudgingState} {held : List ℕ} {first : Filled} {r : Turned} {v : List ℤ} {buf : List ℕ}
    (o : Goes turns room g held first r v buf)
    (on : is_over r.filled ≡ false) (bytes : List ℕ) (kept : take r.held bytes ≡ take r.held buf) {filled : Filled}
    (full : (room ≤ length (drop r.held bytes)) ⊎ T (is_over filled)) {q : Turned} {u : List ℤ} {next : List ℕ}
    (t : Turns r.judging v bytes filled q u next) where
  new : List ℕ
  new = drop r.held bytes

  all-next : held ++ (o.more ++ new) ≡ joined (o.blocks ++ (front bytes ∷ [])) ++ take q.held next
  unfolding new
  all-next =
      sym (append_assoc held o.more new) ∙ ap (λ (l : List ℕ). l ++ new) o.all ∙ append_assoc (joined o.blocks) (take r.held buf) new
      ∙ ap (λ (l : List ℕ). joined o.blocks ++ l)
      (ap (λ (l : List ℕ). l ++ new) (sym kept) ∙ take-append-drop r.held bytes ∙ sym (front_rest bytes)
      ∙ ap (λ (l : List ℕ). front bytes ++ l) (sym t.part))
      ∙ sym (append_assoc (joined o.blocks) (front bytes) (take q.held next))
      ∙ ap (λ (l : List ℕ). l ++ take q.held next) (sym (joined-append o.blocks (front bytes ∷ [])
      ∙ ap (λ (l : List ℕ). joined o.blocks ++ l) (append-nil (front bytes))))

  whole-next : (x : List ℕ) → x ∈ (o.blocks ++ (front bytes ∷ [])) → has_part (rules_in Desk).amount_width x ≡ false
  whole-next x i = ⊎_elim (o.lines-whole x) (λ k. subst (λ (y : List ℕ). has_part (rules_in Desk).amount_width y ≡ false) (sym (Memᴰ.eq_of_singleton k))
      (front-whole bytes)) (Memᴰ.append_cases o.blocks i)

  same : block_judging (state_of r.judging v) (front bytes) ≡ after_blocks g (o.blocks ++ (front bytes ∷ []))
  same = ap (λ (k : JudgingState). block_judging k (front bytes)) o.state ∙ sym (after-append g o.blocks (front bytes ∷ []))

  never : T (is_over r.filled) → ⊥
  never e = subst T on e

  over-next : (room ≤ length (drop r.held bytes)) ⊎ T (is_over filled) → T (is_over r.filled) ⊎ (turns * room ≤ length o.more)
      → T (is_over q.filled) ⊎ ((turns + 1) * room ≤ length (o.more ++ new))
  unfolding new
  over-next (inr e) k = inl (subst (λ (f : Filled). T (is_over f)) (sym t.filled-last) e)
  over-next (inl h) (inl e) = absurd (never e)
  over-next (inl h) (inr k) = inr (rw length-append (omega arith))

  pub goes-next : Goes (turns + 1) room g held first q u next
  goes-next = record {
    more = o.more ++ new;
    blocks = o.blocks ++ (front bytes ∷ []);
    lines-whole = whole-next;
    all = all-next;
    state = t.state ∙ same;
    fits = t.fits;
    short = t.short;
    ends = λ e. absurd (never (subst (λ (f : Filled). T (is_over f)) (sym (o.ends e).1) e));
    over = over-next full o.over;
  }

-- the bytes of a fill after those that are held
module _ {held : ℕ} {buf : List ℕ} {filled : Filled} {read : List ℕ} (f : Fills held buf filled read) (fits : held ≤ length read) where
  bytes-long : length (take filled.to read) ≡ filled.to
  bytes-long = length-take-le filled.to read (f.within fits)

  pub fill-kept : take held (take filled.to read) ≡ take held buf
  fill-kept = take-take held filled.to read f.onward ∙ f.kept

  pub fill-full : held < desk_line → (length read - desk_line ≤ length (drop held (take filled.to read))) ⊎ T (is_over filled)
  fill-full s = go f.ends
    where
      go : (length read ≤ filled.to) ⊎ T (is_over filled) → (length read - desk_line ≤ length (drop held (take filled.to read))) ⊎ T (is_over filled)
      go (inl h) = inl (rw (length-drop, bytes-long) (omega arith))
      go (inr e) = inr e

-- where the last fill is over, the number of turns is no matter
pub goes_over : {turns most room : ℕ} {g : JudgingState} {held : List ℕ} {first : Filled} {r : Turned} {v : List ℤ} {buf : List ℕ}
    → Goes turns room g held first r v buf → T (is_over r.filled) → Goes most room g held first r v buf
goes_over o e = record {
  more = o.more;
  blocks = o.blocks;
  lines-whole = o.lines-whole;
  all = o.all;
  state = o.state;
  fits = o.fits;
  short = o.short;
  ends = o.ends;
  over = inl e;
}

in-cons : (bytes : List ℕ) (xs : List (List ℕ)) → ((x : List ℕ) → x ∈ xs → has_part (rules_in Desk).amount_width x ≡ false)
    → (x : List ℕ) → x ∈ (front bytes ∷ xs) → has_part (rules_in Desk).amount_width x ≡ false
in-cons bytes xs h x (Memᴰ.head e) = subst (λ (y : List ℕ). has_part (rules_in Desk).amount_width y ≡ false) (sym e) (front-whole bytes)
in-cons bytes xs h x (Memᴰ.tail i) = h x i

-- the bytes from `from` to `to`
pub part-from : (l : List ℕ) (from to : ℕ) → from ≤ to → to ≤ length l → take (to - from) (drop from l) ≡ drop from (take to l)
part-from l from to h g =
    let e : from + (to - from) ≡ to = omega arith in
    sym (ap (λ (n : ℕ). drop from (take n l)) (sym e) ∙ ap (drop from) (take-add from (to - from) l)
    ∙ drop_at (take from l) (take (to - from) (drop from l)) from (length-take-le from l (omega arith)))

-- the first turn, and then the others
pub judges-all : {room : ℕ} (input : List ℕ) (w : List ℤ) {filled : Filled} {r : Turned} {v : List ℤ} {buf : List ℕ} {q : Turned} {u : List ℤ} {next : List ℕ}
    (j : Judging) (x : List ℤ) (bytes : List ℕ)
    → state_of j x ≡ start_judging Desk input w
    → bytes ≡ drop (case_end (start_judging Desk input w).answer (length input)) input
    → Turns j x bytes filled r v buf
    → Goes most_turns room (state_of r.judging v) (take r.held buf) r.filled q u next → Judges room input w filled q u
judges-all input w {filled} {r} {v} {buf} {q} {u} {next} j x bytes begun eb t o =
    let first : state_of r.judging v ≡ block_judging (start_judging Desk input w) (front bytes) =
    t.state ∙ ap (λ (k : JudgingState). block_judging k (front bytes)) begun in
    record {
      more = o.more;
      blocks = front bytes ∷ o.blocks;
      tail = take q.held next;
      lines-whole = λ x i. in-cons bytes o.blocks o.lines-whole x i;
      all =
          ap (λ (l : List ℕ). l ++ o.more) (sym eb ∙ sym (front_rest bytes) ∙ ap (λ (l : List ℕ). front bytes ++ l) (sym t.part))
          ∙ append_assoc (front bytes) (take r.held buf) o.more ∙ ap (λ (l : List ℕ). front bytes ++ l) o.all
          ∙ sym (append_assoc (front bytes) (joined o.blocks) (take q.held next));
      state = o.state ∙ ap (λ (k : JudgingState). after_blocks k o.blocks) first;
      held = sym (length-take-le q.held next o.fits);
      short = omega (arith, length-take-le q.held next o.fits, o.short);
      ends = subst (λ (f : Filled). T (is_over f) → (o.more ≡ []) × (q.filled ≡ f)) t.filled-last o.ends;
      over = o.over;
    }
