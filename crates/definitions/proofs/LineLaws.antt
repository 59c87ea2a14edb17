-- Lines, at every width of the amount column: a line that fits is read back as it was written, a text that is read is the text of what
-- was read, and bytes are cut into the lines that they were made of. Assumes nothing.
use Rattle.std.specs.Prelude.{Option, Some, None}
use mathlib.Core.Path.{◌≡◌, refl, sym, ap, ◌∙◌}
use mathlib.Core.Bool.{false, ◌&&◌}
use mathlib.Core.List.Memᴰ
use mathlib.Core.List.{List, [], ◌∷◌, ◌++◌, append_assoc, append-nil}
use Prim.Native.Nat.{ℕ, zero, suc, ◌+◌, ◌*◌, ◌%◌, ◌≤◌}
use native.Mathlib.Nat.{add-zero, zero-mul, mul-div_cancel, mul-mod_left, div-add-mod', div-mul-le_self}
use native.Mathlib.Omega.{arith}
use lib.IntN.{ℤ}
use lib.Dec.{eqb}
use lib.ListN.{length, get_or, take, drop, length-append, length-drop, take-append-drop, drop_of_length-le}
use lib.Seq.{take_at, drop_at, drop-drop, drop-cons, length-take-le, get_or-drop}
use borrow.Author.Tests.{eq-eqb}
use Rattle.integers.specs.Words.{joined, ◌>>=◌}
use Rattle.integers.specs.Tests.{tests, is_false, false-iff, not-or-iff}
use Rattle.integers.specs.Tables.{Parts, length-joined}
use Rattle.definitions.specs.declared.Line.{Line}
use Rattle.definitions.specs.Lines.{too_wide, column_text, read_column, feed_at, line_length, line_text, line_too_wide}
use Rattle.definitions.specs.Lines.{column_at, read_line, cut_lines, whole_lines, lines_in, has_part}
use Rattle.integers.specs.Options.{none-some, found-then}
use Rattle.definitions.proofs.ColumnLaws.{column-read, column-written, column-length}

-- each column has room for its number
pub record EachFits (w : ℕ) (l : Line) : Type 0 where
  pub kind : too_wide 2 l.kind ≡ false
  pub a : too_wide 4 l.a ≡ false
  pub b : too_wide 4 l.b ≡ false
  pub c : too_wide 4 l.c ≡ false
  pub amount : too_wide w l.amount ≡ false

pub fits_each : (w : ℕ) (l : Line) → line_too_wide w l ≡ false → EachFits w l
fits_each w l h =
    let p = simp (false-iff, not-or-iff) at h in
    record {
      kind = is_false _ p.0.0.0.0;
      a = is_false _ p.0.0.0.1;
      b = is_false _ p.0.0.1;
      c = is_false _ p.0.1;
      amount =
          is_false _ p.1;
    }

pub each_fits : (w : ℕ) (l : Line) → EachFits w l → line_too_wide w l ≡ false
each_fits w l f = rw (f.kind, f.a, f.b, f.c, f.amount)

-- five columns and a line feed
abbrev Five : List ℕ → ℕ → Line → Type 0
Five t w l = t ≡ column_text 2 l.kind ++ (column_text 4 l.a ++ (column_text 4 l.b ++ (column_text 4 l.c ++ (column_text w l.amount ++ (10 ∷ [])))))

line-five : (w : ℕ) (l : Line) → Five (line_text w l) w l
line-five w l = simp append_assoc

-- ---- what was written is read

five-length : (p q r s t : List ℕ) → length (p ++ q ++ r ++ s ++ t ++ (10 ∷ [])) ≡ length p + length q + length r + length s + length t + 1
five-length p q r s t = simp length-append

pub line-length : (w : ℕ) (l : Line) → line_too_wide w l ≡ false → length (line_text w l) ≡ line_length w
line-length w l h =
    let f = fits_each w l h in
    five-length (column_text 2 l.kind) (column_text 4 l.a) (column_text 4 l.b) (column_text 4 l.c) (column_text w l.amount)
    ∙ omega (
      arith,
      column-length 2 l.kind f.kind,
      column-length 4 l.a f.a,
      column-length 4 l.b f.b,
      column-length 4 l.c f.c,
      column-length w l.amount f.amount,
    )

-- a column in front of the rest
column-front : (w : ℕ) (z : ℤ) (s r : List ℕ) (p : ℕ) → too_wide w z ≡ false → drop p s ≡ column_text w z ++ r
    → (column_at p w s ≡ Some z) × (drop (p + w) s ≡ r)
column-front w z s r p h e =
    let n = column-length w z h in (
      ap (λ x. read_column (take w x)) e ∙ ap read_column (take_at (column_text w z) r w n) ∙ column-read w z,
      sym (drop-drop w p s) ∙ ap (drop w) e ∙ drop_at (column_text w z) r w n,
    )

pub line_read : (w : ℕ) (l : Line) → line_too_wide w l ≡ false → read_line w (line_text w l) ≡ Some l
line_read w l h = go (line_text w l) (line-length w l h) (line-five w l)
  where
    go : (s : List ℕ) → length s ≡ line_length w → Five s w l → read_line w s ≡ Some l
    go s n e =
        let f = fits_each w l h in
        let kind = column-front 2 l.kind s _ 0 f.kind e in
        let a = column-front 4 l.a s _ 2 f.a kind.1 in
        let b = column-front 4 l.b s _ 6 f.b a.1 in
        let c = column-front 4 l.c s _ 10 f.c b.1 in
        let amount = column-front w l.amount s (10 ∷ []) 14 f.amount c.1 in
        let feed : get_or s (feed_at w) 0 ≡ 10 = (rw add-zero at (sym (get_or-drop (feed_at w) s 0 0))) ∙ ap (λ x. get_or x 0 0) amount.1 in
        simp (eq-eqb _ _ n, eq-eqb _ _ feed, kind.0, a.0, b.0, c.0, amount.0)

-- ---- what was read is what is written

column-back : (w : ℕ) (z : ℤ) (s : List ℕ) (p : ℕ) → p + w ≤ length s → column_at p w s ≡ Some z
    → (too_wide w z ≡ false) × (drop p s ≡ column_text w z ++ drop (p + w) s)
column-back w z s p h e =
    let n : length (take w (drop p s)) ≡ w = length-take-le w (drop p s) (simp length-drop (omega arith)) in
    let r = rw n at (column-written (take w (drop p s)) z e) in (
      r.0,
      sym (take-append-drop w (drop p s)) ∙ cc (r.1, drop-drop w p s),
    )

columns-read : (k a b c m : Option ℤ) (l : Line)
    → (k >>= λ k. a >>= λ a. b >>= λ b. c >>= λ c. m >>= λ m. Some (record { kind = k; a = a; b = b; c = c; amount = m })) ≡ Some l
    → (k ≡ Some l.kind) × (a ≡ Some l.a) × (b ≡ Some l.b) × (c ≡ Some l.c) × (m ≡ Some l.amount)
columns-read None a b c m l e = absurd (none-some e)
columns-read (Some k) None b c m l e = absurd (none-some e)
columns-read (Some k) (Some a) None c m l e = absurd (none-some e)
columns-read (Some k) (Some a) (Some b) None m l e = absurd (none-some e)
columns-read (Some k) (Some a) (Some b) (Some c) None l e = absurd (none-some e)
columns-read (Some k) (Some a) (Some b) (Some c) (Some m) l e = ((cc), (cc), (cc), (cc), (cc))

pub line-written : (w : ℕ) (t : List ℕ) (l : Line) → read_line w t ≡ Some l → (line_too_wide w l ≡ false) × (line_text w l ≡ t)
line-written w t l e =
    let (x, e) = found-then (eqb (length t) (line_length w) && eqb (get_or t (feed_at w) 0) 10) _ e in
    let (n, f) : (length t ≡ line_length w) × (get_or t (feed_at w) 0 ≡ 10) = simp tests at x in
    let (k, a, b, c, m) = columns-read (column_at 0 2 t) (column_at 2 4 t) (column_at 6 4 t) (column_at 10 4 t) (column_at 14 w t) l e in
    let k = column-back 2 l.kind t 0 (omega arith) k in
    let a = column-back 4 l.a t 2 (omega arith) a in
    let b = column-back 4 l.b t 6 (omega arith) b in
    let c = column-back 4 l.c t 10 (omega arith) c in
    let m = column-back w l.amount t 14 (omega arith) m in
    let end : drop (feed_at w) t ≡ 10 ∷ [] = drop-cons t (feed_at w) 0 (omega arith) ∙ cc (drop_of_length-le t {i = suc (feed_at w)} (omega arith)) in
    (each_fits w l (record { kind = k.0; a = a.0; b = b.0; c = c.0; amount = m.0 }), line-five w l ∙ cc)

-- ---- bytes cut into lines

cut-joined : (d : ℕ) (ls : List (List ℕ)) → Parts d ls → cut_lines d (length ls) (joined ls) ≡ ls
cut-joined d [] h = refl
cut-joined d (l ∷ ls) h =
    let n = h l (Memᴰ.head refl) in
    rw (take_at l (joined ls) d n, drop_at l (joined ls) d n) (ap (λ k. l ∷ k) (cut-joined d ls (λ k m. h k (Memᴰ.tail m))))

module _ (w : ℕ) (ls : List (List ℕ)) (h : Parts (line_length w) ls) where
  pub lines-joined : lines_in w (joined ls) ≡ ls
  lines-joined = rw (length-joined (line_length w) ls h, mul-div_cancel (length ls) {n = line_length w} (omega arith)) (cut-joined (line_length w) ls h)

  pub no_part : has_part w (joined ls) ≡ false
  no_part = rw (length-joined (line_length w) ls h, mul-mod_left)

joined-cut : (d n : ℕ) (t : List ℕ) → joined (cut_lines d n t) ++ drop (n * d) t ≡ t
joined-cut d zero t = rw zero-mul
joined-cut d (suc n) t =
    let e : suc n * d ≡ d + n * d = omega arith in
    rw (e, ← (drop-drop (n * d) d t), append_assoc, joined-cut d n (drop d t)) (take-append-drop d t)

cut_parts : (d n : ℕ) (t : List ℕ) → n * d ≤ length t → Parts d (cut_lines d n t)
cut_parts d zero t h l m = absurd (Memᴰ.not-nil m)
cut_parts d (suc n) t h l (Memᴰ.head e) = rw e (length-take-le d t (omega arith))
cut_parts d (suc n) t h l (Memᴰ.tail m) = cut_parts d n (drop d t) (rw length-drop (omega arith)) l m

-- the lines in t are whole, and with what is left over, which is shorter than a line, they are t
module _ (w : ℕ) (t : List ℕ) where
  pub lines-whole : Parts (line_length w) (lines_in w t)
  lines-whole = cut_parts (line_length w) (whole_lines w t) t (div-mul-le_self (length t) (line_length w))

  pub joined-lines : joined (lines_in w t) ++ drop (whole_lines w t * line_length w) t ≡ t
  joined-lines = joined-cut (line_length w) (whole_lines w t) t

  -- with no part of a line, the lines alone are t
  pub joined-whole : has_part w t ≡ false → joined (lines_in w t) ≡ t
  joined-whole h =
      let z : length t % line_length w ≡ 0 = simp tests at h in
      let n : length t ≤ whole_lines w t * line_length w = omega (arith, div-add-mod' (length t) (line_length w)) in
      rw (drop_of_length-le t {i = whole_lines w t * line_length w} n, append-nil) at joined-lines
