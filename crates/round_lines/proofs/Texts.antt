-- Lines put one after the other. Assumes nothing.
use mathlib.Core.Path.{◌≡◌, sym, ap, ◌∙◌}
use mathlib.Core.Bool.{Bool, true, false, not}
use mathlib.Core.List.{List, [], ◌∷◌, ◌++◌, map, append-nil, append_assoc}
use Prim.Native.Nat.{ℕ, zero, suc, ◌+◌, ◌*◌, ◌-◌, ◌^◌, ◌≤◌, ◌<◌}
use native.Mathlib.Nat.{mul-add, mul-le-mul_left}
use native.Mathlib.Numerals.{add-one}
use native.Mathlib.Omega.{arith}
use borrow.Author.Tests.{le-ltb}
use lib.IntN.{pos}
use lib.Dec.{T, eqb, lit<}
use lib.ListN.{length, take, drop, length-append, drop_of_length-le}
use lib.Seq.{length-take-le, get_or-take}
use Rattle.std.specs.Prelude.{if◌then◌else◌}
use Rattle.integers.specs.Words.{from, below, those, joined}
use Rattle.integers.specs.Tests.{is_false, if-cases, not-or-iff}
use Rattle.integers.specs.Lists.{joined-append, map-append, those-append, those-same, from_suc, from-split}
use Rattle.definitions.specs.declared.Line.{Line}
use Rattle.definitions.specs.Lines.{line, line_length, line_text, line_too_wide, overwritten}
use Rattle.definitions.proofs.ColumnLaws.{fits_iff, fits-digits}
use Rattle.definitions.proofs.LineLaws.{line-length, each_fits}
use Rattle.definitions.specs.RoundLines.{raise_line}
use Rattle.calls.specs.Calls.{is_raised}
use Rattle.lines.specs.AtWidth.{width_out, line_out, write_line_at}
use Rattle.lines.proofs.Answers.{width-within, line-within, write_done}
use Rattle.lines.proofs.Stores.{column-next}
use Rattle.round_lines.specs.Press.{raised_from, raised_below, raise_texts, line_texts, Put}

-- those of the first numbers, one more, and split
module _ (R : ℕ → Bool) where
  pub those-next : (x : ℕ) → those R (below (x + 1)) ≡ those R (below x) ++ (if R x then x ∷ [] else [])
  those-next x =
      let z : 0 + x ≡ x = omega arith in
      rw add-one (ap (those R) (from_suc 0 x) ∙ those-append R (below x) ((0 + x) ∷ [])
      ∙ ap (λ (y : ℕ). those R (below x) ++ (if R y then y ∷ [] else [])) z)

  pub those-split : (x n : ℕ) → x ≤ n → those R (below n) ≡ those R (below x) ++ those R (from x (n - x))
  those-split x n h =
      let e : n ≡ x + (n - x) = omega arith in
      let z : 0 + x ≡ x = omega arith in
      ap (λ (m : ℕ). those R (below m)) e ∙ ap (those R) (from-split 0 x (n - x)) ∙ those-append R (below x) (from (0 + x) (n - x))
      ∙ ap (λ (y : ℕ). those R (below x) ++ those R (from y (n - x))) z

-- a part as long as a line holds the line alone
pub line-alone : (width : ℕ) (part : List ℕ) (l : Line) → length part ≡ line_length width → line_out width l ≡ false
    → (write_line_at width part l).out ≡ line_text width l
line-alone width part l n f =
    ap (λ c. c.out) (write_done width part l (le-ltb (length part) (line_length width) (omega arith)) f)
    ∙ ap (λ t. line_text width l ++ t) (drop_of_length-le part {i = length (line_text width l)} (omega (arith, line-length width l (line-within width l f))))
    ∙ append-nil (line_text width l)

-- a line put after what was put
pub line-put : (width : ℕ) (out next p o : List ℕ) (at : ℕ) (l : Line) → T (not (line_out width l))
    → next ≡ take at out ++ (line_text width l ++ drop (at + line_length width) out)
    → out ≡ overwritten p o → length p ≡ at → (next ≡ overwritten (p ++ line_text width l) o) × (length (p ++ line_text width l) ≡ at + line_length width)
line-put width out next p o at l t e f n =
    let m : length (line_text width l) ≡ line_length width = line-length width l (line-within width l (is_false (line_out width l) t)) in
    (e ∙ column-next p o out at n f (line_text width l) (line_length width) m, length-append p (line_text width l) ∙ omega arith)

-- where a line is not out its width is not
pub line-width : (width : ℕ) (l : Line) → T (not (line_out width l)) → T (not (width_out width))
line-width width l t = ((not-or-iff (width_out width) (line_too_wide width l)).0 t).0

-- a line of small numbers and no amount is not too wide, and so a raise line is not out
pub small-narrow : (width kind x y : ℕ) → T (not (width_out width)) → kind < 10 ^ 2 → x < 10 ^ 4 → y < 10 ^ 4
    → line_too_wide width (line kind (pos x) (pos y) (pos 0) (pos 0)) ≡ false
small-narrow width kind x y t k h g =
    each_fits width (line kind (pos x) (pos y) (pos 0) (pos 0)) (record {
      kind = fits-digits 2 kind (omega arith) k;
      a = fits-digits 4 x (omega arith) h;
      b = fits-digits 4 y (omega arith) g;
      c = fits-digits 4 0 (omega arith) (lit< tt);
      amount = (fits_iff width (pos 0)).1 (width-within width (is_false (width_out width) t)).0;
    })

pub raise-in : (width x : ℕ) → T (not (width_out width)) → x < 10 ^ 4 → T (not (line_out width (raise_line x)))
raise-in width x t h = rw (is_false (width_out width) t, small-narrow width 3 x 0 t (lit< tt) h (lit< tt)) tt

-- no line for a scope that is not raised, and one for a scope that is
module _ (raised : List ℕ) (x : ℕ) where
  pub none-raised : is_raised raised x ≡ false → raised_from raised x 1 ≡ []
  none-raised e = rw e

  pub one-raised : is_raised raised x ≡ true → raised_from raised x 1 ≡ x ∷ []
  one-raised e = rw e

  pub raised-next : raised_below raised (x + 1) ≡ raised_below raised x ++ raised_from raised x 1
  raised-next = those-next (is_raised raised) x

-- the scopes of a slice's first n bytes
pub raised-taken : (raised : List ℕ) (n : ℕ) → n ≤ length raised → raised_below (take n raised) (length (take n raised)) ≡ raised_below raised n
raised-taken raised n h =
    ap (raised_below (take n raised)) (length-take-le n raised h)
    ∙ those-same n (λ x l. ap (λ (b : ℕ). not (eqb b 0)) (get_or-take n raised x 0 l))

pub texts-append : (width : ℕ) (xs ys : List ℕ) → raise_texts width (xs ++ ys) ≡ raise_texts width xs ++ raise_texts width ys
texts-append width xs ys =
    ap joined (map-append (λ x. line_text width (raise_line x)) xs ys)
    ∙ joined-append (map (λ x. line_text width (raise_line x)) xs) (map (λ x. line_text width (raise_line x)) ys)

those-few : (f : ℕ → Bool) (a n : ℕ) → length (those f (from a n)) ≤ n
those-few f a zero = omega arith
those-few f a (suc n) =
    let h = those-few f (suc a) n in
    if-cases (λ (l : List ℕ). length l ≤ suc n) (f a) (a ∷ those f (from (suc a) n)) (those f (from (suc a) n)) (λ t. omega arith) (λ t. omega arith)

pub raised-few : (raised : List ℕ) (n : ℕ) → length (raised_below raised n) ≤ n
raised-few raised n = those-few (is_raised raised) 0 n

-- there is room for the line of scope x
raised-room : (raised : List ℕ) (x n : ℕ) → x < n → length (raised_below raised x) + length (raised_from raised x 1) ≤ length (raised_below raised n)
raised-room raised x n h =
    omega (
      arith,
      ap length (those-split (is_raised raised) (x + 1) n (omega arith)),
      length-append (raised_below raised (x + 1)) (those (is_raised raised) (from (x + 1) (n - (x + 1)))),
      ap length (raised-next raised x),
      length-append (raised_below raised x) (raised_from raised x 1),
    )

-- ---- what one raise line, or none, does

module _ (width : ℕ) where
  abbrev pub PutRaises : ℕ → List ℕ → ℕ → List ℕ → List ℕ → Type 0
  PutRaises at xs end out next = Put at (raise_texts width xs) end out next

  -- so many bytes for the line of scope x after those below it
  pub raise-room : (raised : List ℕ) (x n : ℕ) → x < n
      → line_length width * length (raised_below raised x) + line_length width * length (raised_from raised x 1) ≤ line_length width * length (raised_below raised n)
  raise-room raised x n h =
      omega (
        arith,
        mul-le-mul_left {m = length (raised_below raised x) + length (raised_from raised x 1)} {n = length (raised_below raised n)} (line_length width)
            (raised-room raised x n h),
        mul-add (line_length width) (length (raised_below raised x)) (length (raised_from raised x 1)),
      )

  pub put-nothing : (at : ℕ) (out : List ℕ) → Put at [] at out out
  put-nothing at out p o q n = (rw (append-nil p) q, rw (append-nil p) n)

  pub put_alone : (l : Line) {at r : ℕ} {out next : List ℕ} → r ≡ at + line_length width
      → Put at (line_text width l) (at + line_length width) out next → Put at (line_texts width (l ∷ [])) r out next
  put_alone l h f p o q n = let (a, b) = f p o q n in (rw (append-nil (line_text width l)) a, rw (append-nil (line_text width l)) (b ∙ sym h))

  pub puts_none : (from : ℕ) (out : List ℕ) → (from ≡ from + line_length width * 0) × PutRaises from [] from out out
  puts_none from out = (omega arith, put-nothing from out)

  module _ (raised : List ℕ) (x : ℕ) where
    pub put-none : is_raised raised x ≡ false → (at : ℕ) (out : List ℕ)
        → (at ≡ at + line_length width * length (raised_from raised x 1)) × PutRaises at (raised_from raised x 1) at out out
    put-none e at out = rw e (puts_none at out)

    pub put_one : is_raised raised x ≡ true → {at r : ℕ} {out next : List ℕ} → r ≡ at + line_length width
        → Put at (line_text width (raise_line x)) (at + line_length width) out next
        → (r ≡ at + line_length width * length (raised_from raised x 1)) × PutRaises at (raised_from raised x 1) r out next
    put_one e h f = rw e (omega arith, put_alone (raise_line x) h f)

    texts-next : (p : List ℕ)
        → (p ++ raise_texts width (raised_below raised x)) ++ raise_texts width (raised_from raised x 1) ≡ p ++ raise_texts width (raised_below raised (x + 1))
    texts-next p =
        append_assoc p (raise_texts width (raised_below raised x)) (raise_texts width (raised_from raised x 1))
        ∙ ap (λ (t : List ℕ). p ++ t) (sym (ap (raise_texts width) (raised-next raised x) ∙ texts-append width (raised_below raised x) (raised_from raised x 1)))

    lines_next : line_length width * length (raised_below raised (x + 1))
        ≡ line_length width * length (raised_below raised x) + line_length width * length (raised_from raised x 1)
    lines_next =
        ap (λ (n : ℕ). line_length width * n) (ap length (raised-next raised x) ∙ length-append (raised_below raised x) (raised_from raised x 1))
        ∙ mul-add (line_length width) (length (raised_below raised x)) (length (raised_from raised x 1))

    pub puts-next : {from at r : ℕ} {first out next : List ℕ} → at ≡ from + line_length width * length (raised_below raised x)
        → PutRaises from (raised_below raised x) at first out
        → (r ≡ at + line_length width * length (raised_from raised x 1)) × PutRaises at (raised_from raised x 1) r out next
        → (r ≡ from + line_length width * length (raised_below raised (x + 1))) × PutRaises from (raised_below raised (x + 1)) r first next
    puts-next e f (g, h) = (
      omega (arith, lines_next),
      λ p o q n.
          let (a, b) = f p o q n in
          let (c, d) = h (p ++ raise_texts width (raised_below raised x)) o a b in
          (c ∙ ap (λ (t : List ℕ). overwritten t o) (texts-next p), ap length (sym (texts-next p)) ∙ d),
    )
