use mathlib.Core.Path.{◌≡◌, refl, sym, ap, ◌∙◌}
use mathlib.Core.List.{List}
use Prim.Native.Nat.{ℕ, ◌+◌, ◌-◌, ◌≤◌, ◌%◌}
use native.Mathlib.Nat.{mod-le, mod-lt}
use native.Mathlib.Omega.{arith}
use lib.Dec.{lit<}
use lib.ListN.{length, take, drop, length-drop}
use lib.Seq.{length-take-le, take-take, take-add, drop_at, drop-drop}
use Rattle.judging.specs.Judging.{state_of, block_judging}
use Rattle.replay.specs.Turns.{desk_line, whole_bytes}
use Rattle.replay.proofs.turn.Goals as goal

-- The whole lines go to the block, and the part line to the buffer's front. Assumes nothing.
-- the bytes from `from` to `to` of the buffer
module _ (old : List ℕ) (from to : ℕ) (h : from ≤ to) (g : to ≤ length old) where
  abbrev bytes : List ℕ
  bytes = take (to - from) (drop from old)

  abbrev end : ℕ
  end = to - (to - from) % desk_line

  pub long : length bytes ≡ to - from
  long = length-take-le (to - from) (drop from old) (rw length-drop (omega arith))

  whole-count : whole_bytes bytes ≡ end - from
  whole-count = rw long (omega (arith, mod-le (to - from) desk_line))

  pub whole_is : take (end - from) (drop from old) ≡ take (whole_bytes bytes) bytes
  whole_is = rw whole-count (sym (take-take (end - from) (to - from) (drop from old) (omega arith)))

  pub rest-is : take (to - end) (drop end old) ≡ drop (whole_bytes bytes) bytes
  rest-is =
      let l : List ℕ = drop from old in
      let m = mod-le (to - from) desk_line in
      let split : end - from + (to - end) ≡ to - from = omega arith in
      let at : from + (end - from) ≡ end = omega arith in
      let front : length (take (end - from) l) ≡ end - from = length-take-le (end - from) l (rw length-drop (omega arith)) in
      sym (rw whole-count
      (ap (λ (k : ℕ). drop (end - from) (take k l)) (sym split) ∙ ap (drop (end - from)) (take-add (end - from) (to - end) l)
      ∙ drop_at (take (end - from) l) (take (to - end) (drop (end - from) l)) (end - from) front
      ∙ ap (take (to - end)) (drop-drop (end - from) from old ∙ ap (λ (k : ℕ). drop k old) at)))

pub returns : goal.returns
returns c =
    let n = c.part_bytes.ensures.0 in
    let old = c.args.buf.now in
    let from = c.args.from in
    let to = c.args.filled.to in
    let (h, g) = c.requires in
    let after = rw n at c.block-next.ensures in
    let (count, part) = rw n at c.to_front-held.ensures in
    let m = mod-le (to - from) desk_line in
    record {
      state = after ∙ ap (block_judging (state_of c.args.judging c.args.table.now)) (whole_is old from to h g);
      part = part ∙ rw count (rest-is old from to h g);
      fits = omega (arith, c.to_front-held.auto.buf);
      short = omega (arith, mod-lt (to - from) {m = desk_line} (lit< tt));
      filled-last = refl;
    }
