-- A part of a list moved down in place. Assumes nothing.
use mathlib.Core.Path.{◌≡◌, refl, sym, ap, ◌∙◌}
use mathlib.Core.Bool.{true, false}
use mathlib.Core.List.{List, append-nil}
use Prim.Native.Nat.{ℕ, ◌+◌, ◌-◌, ◌≤◌, ◌<◌}
use native.Mathlib.Omega.{arith}
use lib.IntN.{ℤ, pos}
use lib.ListN.{length, get_or, take, drop, length-drop}
use lib.Seq.{paste, drop-paste, drop-drop, get_or-drop, length-paste, take-paste}
use Rattle.leaving.specs.Scopes.{KeptPart}

module _ (d : List ℤ) (from to : ℕ) (down : to ≤ from) where
  -- what is still to be moved is as it was
  pub unmoved : (j : ℕ) → from + j < length d → get_or (paste d to (drop from d) j) (from + j) (pos 0) ≡ get_or (drop from d) j (pos 0)
  unmoved j h =
      let p : List ℤ = paste d to (drop from d) j in
      let e : to + j + (from - to) ≡ from + j = omega arith in
      sym (get_or-drop (to + j) p (from - to) (pos 0) ∙ ap (λ (i : ℕ). get_or p i (pos 0)) e)
      ∙ ap (λ (l : List ℤ). get_or l (from - to) (pos 0)) (drop-paste d to (drop from d) j (omega arith) (omega (arith, length-drop from d)))
      ∙ get_or-drop (to + j) d (from - to) (pos 0) ∙ ap (λ (i : ℕ). get_or d i (pos 0)) e ∙ sym (get_or-drop from d j (pos 0))

  pub left_out : (size : ℕ) → KeptPart d d from to size false to
  left_out size = record { long = refl; room = omega arith; front = sym (append-nil (take to d)); rest = refl }

  pub moved-part : (size : ℕ) → from + size ≤ length d → KeptPart d (paste d to (drop from d) size) from to size true (to + size)
  moved-part size h =
      let p : List ℤ = paste d to (drop from d) size in
      let s : size ≤ length (drop from d) = omega (arith, length-drop from d) in
      let e : to + size + (from - to) ≡ from + size = omega arith in
      record {
        long = length-paste d to (drop from d) size (omega arith) s;
        room = omega arith;
        front = take-paste d to (drop from d) size (omega arith) s;
        rest =
            sym (drop-drop (from - to) (to + size) p ∙ ap (λ (n : ℕ). drop n p) e)
            ∙ ap (drop (from - to)) (drop-paste d to (drop from d) size (omega arith) s)
            ∙ drop-drop (from - to) (to + size) d ∙ ap (λ (n : ℕ). drop n d) e;
      }
