-- Marks that are found value by value, and bytes that are written place by place. Assumes nothing.
use mathlib.Core.Path.{◌≡◌, refl, sym, ap, subst, ◌∙◌}
use mathlib.Core.Bool.{Bool, true, false, not, ◌&&◌, ◌||◌, and-false}
use mathlib.Core.Logic.{◌⊎◌, inl, inr}
use mathlib.Core.List.{List, map}
use Prim.Native.Nat.{ℕ, zero, suc, ◌+◌, ◌*◌, ◌-◌, ◌≤◌, ◌<◌}
use lib.IntN.{ℤ}
use native.Mathlib.Omega.{arith}
use borrow.Author.Tests.{lt-ltb, le-ltb, ne_eqb}
use lib.Dec.{T, ltb, eqb, eqb→eq, ltb→lt, nltb→le}
use lib.ListN.{length, get_or, set, take, drop, length-append, length-drop, length-set, get_or-append}
use lib.Seq.{ext_get_or, get_or-append-add, get_or-drop, take_at}
use Rattle.std.specs.Prelude.{if◌then◌else◌}
use Rattle.integers.specs.Words.{below, joined}
use Rattle.integers.specs.Tests.{either, is_true, is_false, not-eqb-iff}
use Rattle.integers.specs.Tables.{length-tab, get_d-tab, length-rows, get_d_rows}
use Rattle.definitions.specs.declared.Case.{Case}
use Rattle.definitions.specs.Lines.{overwritten}
use Rattle.marks.specs.Marks.{mark, byte_of, added, pushed}
use Rattle.marks.proofs.Laws.{mark-byte_of, mark-zero, byte_of-cong, byte-is}
use Rattle.arcs.specs.Active.{set_where, row_where, has_best, marked_sets, marked_rows, Written}
use Rattle.arcs.proofs.Search.{less-next}
use Rattle.arcs.proofs.Steps.{after-set}

-- ---- the values from j on, below d, at which f passes, each less by j
unfoldable pub values_from : (ℕ → Bool) → ℕ → ℕ → ℕ
values_from f d j = byte_of (λ v. ltb (j + v) d && f (j + v))

module _ (f : ℕ → Bool) (d : ℕ) where
  pub values-none : 0 ≡ values_from f d d
  unfolding values_from
  values-none = byte-is 0 _ (omega arith) (λ v h. mark-zero v ∙ sym (ap (λ (b : Bool). b && f (d + v)) (le-ltb (d + v) d (omega arith))))

  pub values-all : values_from f d 0 ≡ byte_of (λ v. ltb v d && f v)
  unfolding values_from
  values-all = byte_of-cong (λ v h. let e : 0 + v ≡ v = omega arith in ap (λ (x : ℕ). ltb x d && f x) e)

  pub values-next : (i j : ℕ) → i ≡ j + 1 → j < d → (s r : ℕ) (low : Bool) → s ≡ values_from f d i → low ≡ f j → r ≡ pushed s low → r ≡ values_from f d j
  unfolding values_from
  values-next i j ei h s r low es el er = er ∙ byte_of-cong at
    where
      at : (v : ℕ) → v < 8 → (if eqb v 0 then low else mark s (v - 1)) ≡ (ltb (j + v) d && f (j + v))
      at zero g = let e : j + 0 ≡ j = omega arith in el ∙ sym (ap (λ (x : ℕ). ltb x d && f x) e ∙ ap (λ (b : Bool). b && f j) (lt-ltb j d h))
      at (suc u) g =
          let e : i + u ≡ j + suc u = omega arith in
          let z : suc u - 1 ≡ u = omega arith in
          ap (λ (b : Bool). if b then low else mark s (suc u - 1)) (ne_eqb (suc u) 0 (λ e. omega arith)) ∙ ap (mark s) z ∙ ap (λ (x : ℕ). mark x u) es
          ∙ mark-byte_of (λ v. ltb (i + v) d && f (i + v)) u (omega arith) ∙ ap (λ (x : ℕ). ltb x d && f x) e

-- ---- one value more is values_from
module _ (f : ℕ → Bool) (k : ℕ) where
  more-at : f k ≡ true → (v : ℕ) → T (eqb v k) ⊎ T (not (eqb v k)) → ((ltb v k && f v) || eqb v k) ≡ (ltb v (k + 1) && f v)
  more-at y v (inl t) =
      let e = eqb→eq v k t in
      let yes : f v ≡ true = ap f e ∙ y in
      simp (is_true (eqb v k) t, lt-ltb v (k + 1) (omega arith), yes, or-all)
    where
      or-all : (a : Bool) → (a || true) ≡ true
      or-all true = refl
      or-all false = refl
  more-at y v (inr t) = simp (less-next v k ((not-eqb-iff v k).0 t), is_false (eqb v k) t, or-none)
    where
      or-none : (a : Bool) → (a || false) ≡ a
      or-none true = refl
      or-none false = refl

  same_at : f k ≡ false → (v : ℕ) → T (eqb v k) ⊎ T (not (eqb v k)) → (ltb v k && f v) ≡ (ltb v (k + 1) && f v)
  same_at n v (inl t) =
      let e = eqb→eq v k t in
      let no : f v ≡ false = ap f e ∙ n in
      simp (no, and-false)
  same_at n v (inr t) = simp (less-next v k ((not-eqb-iff v k).0 t))

  pub found-next : (s : ℕ) → s ≡ byte_of (λ v. ltb v k && f v) → (if f k then added s k else s) ≡ byte_of (λ v. ltb v (k + 1) && f v)
  found-next s e = by (f k) refl
    where
      by : (b : Bool) → f k ≡ b → (if b then added s k else s) ≡ byte_of (λ v. ltb v (k + 1) && f v)
      by true y = byte_of-cong (λ v h. ap (λ (b : Bool). b || eqb v k) (ap (λ (x : ℕ). mark x v) e ∙ mark-byte_of (λ v. ltb v k && f v) v h)
          ∙ more-at y v (either (eqb v k)))
      by false n = e ∙ byte_of-cong (λ v h. same_at n v (either (eqb v k)))

-- ---- bytes that are written

pub written_none : (f : ℕ → ℕ) (at : ℕ) (S : List ℕ) → Written f at 0 S S
written_none f at S = record { same_length = refl; here = λ p h. absurd (omega arith); before = λ q h. refl; after = λ q h. refl }

pub written-more : (f : ℕ → ℕ) (at n : ℕ) (S S' : List ℕ) (s : ℕ) → Written f at n S S' → at + n < length S' → s ≡ f n
    → Written f at (n + 1) S (set S' (at + n) s)
written-more f at n S S' s w h e = record {
  same_length = length-set S' (at + n) s ∙ w.same_length;
  here = λ p l. after-set (λ (x : ℕ). x ≡ f p) S' (at + n) s (at + p) h (λ q. let same : p ≡ n = omega arith in e ∙ ap f (sym same))
      (λ ne. w.here p (omega arith));
  before = λ q l. after-set (λ (x : ℕ). x ≡ get_or S q 0) S' (at + n) s q h (λ e. absurd (omega arith)) (λ ne. w.before q l);
  after = λ q l. after-set (λ (x : ℕ). x ≡ get_or S q 0) S' (at + n) s q h (λ e. absurd (omega arith)) (λ ne. w.after q (omega arith));
}

-- a part that is written after those before it
pub written_then : (f g : ℕ → ℕ) (at n : ℕ) (S S₁ S₂ : List ℕ) → Written f 0 at S S₁ → Written g at n S₁ S₂ → ((p : ℕ) → p < n → g p ≡ f (at + p))
    → Written f 0 (at + n) S S₂
written_then f g at n S S₁ S₂ a b same = record {
  same_length = b.same_length ∙ a.same_length;
  here = λ p h. by p h (either (ltb p at));
  before = λ q h. absurd (omega arith);
  after = λ q h. b.after q (omega arith) ∙ a.after q (omega arith);
}
  where
    by : (p : ℕ) → p < at + n → T (ltb p at) ⊎ T (not (ltb p at)) → get_or S₂ (0 + p) 0 ≡ f p
    by p h (inl t) = let l = ltb→lt p at t in let z : 0 + p ≡ p = omega arith in ap (λ (q : ℕ). get_or S₂ q 0) z ∙ b.before p l
        ∙ ap (λ (q : ℕ). get_or S₁ q 0) (sym z) ∙ a.here p l
    by p h (inr t) =
        let l = nltb→le p at t in
        let z : 0 + p ≡ at + (p - at) = omega arith in
        let y : at + (p - at) ≡ p = omega arith in
        ap (λ (q : ℕ). get_or S₂ q 0) z ∙ b.here (p - at) (omega arith) ∙ same (p - at) (omega arith) ∙ ap f y

-- all of them are written
pub bytes-written : (bytes S S' : List ℕ) (f : ℕ → ℕ) → ((p : ℕ) → p < length bytes → get_or bytes p 0 ≡ f p) → length bytes ≤ length S
    → Written f 0 (length bytes) S S' → S' ≡ overwritten bytes S
bytes-written bytes S S' f is room w =
    ext_get_or 0 S' (overwritten bytes S) (w.same_length ∙ sym (simp (length-append, length-drop) (omega arith))) (λ q h. by q (either (ltb q (length bytes))))
  where
    by : (q : ℕ) → T (ltb q (length bytes)) ⊎ T (not (ltb q (length bytes))) → get_or S' q 0 ≡ get_or (overwritten bytes S) q 0
    by q (inl t) =
        let l = ltb→lt q (length bytes) t in
        let z : q ≡ 0 + q = omega arith in
        ap (λ (p : ℕ). get_or S' p 0) z ∙ w.here q l ∙ sym (is q l) ∙ sym (get_or-append bytes (drop (length bytes) S) 0 q l)
    by q (inr t) =
        let l = nltb→le q (length bytes) t in
        let z : length bytes + (q - length bytes) ≡ q = omega arith in
        w.after q (omega arith)
        ∙ sym (ap (λ (p : ℕ). get_or (overwritten bytes S) p 0) (sym z) ∙ get_or-append-add bytes (drop (length bytes) S) (q - length bytes) 0
        ∙ get_or-drop (length bytes) S (q - length bytes) 0
        ∙ ap (λ (p : ℕ). get_or S p 0) z)

pub written_next : (f : ℕ → ℕ) (n : ℕ) (S S' : List ℕ) (s : ℕ) → Written f 0 n S S' → n < length S' → s ≡ f n → Written f 0 (n + 1) S (set S' n s)
written_next f n S S' s w h e =
    let z : 0 + n ≡ n = omega arith in
    subst (λ (p : ℕ). Written f 0 (n + 1) S (set S' p s)) z (written-more f 0 n S S' s w (omega arith) e)

-- bytes that are already there
pub written-kept : (f : ℕ → ℕ) (at n : ℕ) (S : List ℕ) → ((p : ℕ) → p < n → get_or S (at + p) 0 ≡ f p) → Written f at n S S
written-kept f at n S there = record { same_length = refl; here = there; before = λ q h. refl; after = λ q h. refl }

pub written_as : (f g : ℕ → ℕ) (at n : ℕ) (S S' : List ℕ) → ((p : ℕ) → p < n → f p ≡ g p) → Written f at n S S' → Written g at n S S'
written_as f g at n S S' same w = record { same_length = w.same_length; here = λ p h. w.here p h ∙ same p h; before = w.before; after = w.after }

-- the part that is written
pub written-part : (bytes S S' : List ℕ) (f : ℕ → ℕ) (n : ℕ) → length bytes ≡ n → ((p : ℕ) → p < n → get_or bytes p 0 ≡ f p) → n ≤ length S → Written f 0 n S S'
    → take n S' ≡ bytes
written-part bytes S S' f n len is room w =
    ap (take n) (bytes-written bytes S S' f (λ p h. is p (rw len at h)) (rw len room) (rw len w)) ∙ take_at bytes (drop (length bytes) S) n len

-- ---- sixteen bytes for each edge

module _ (f : ℕ → ℕ → ℕ) (m : ℕ) where
  abbrev pub rows_of : List ℕ
  rows_of = joined (map (λ e. map (f e) (below 16)) (below m))

  pub rows_of-length : length rows_of ≡ 16 * m
  rows_of-length = length-rows (λ e. map (f e) (below 16)) m 16 (λ e h. length-tab (f e) 0 16) ∙ omega arith

  pub rows_of-at : (e p : ℕ) → e < m → p < 16 → get_or rows_of (16 * e + p) 0 ≡ f e p
  rows_of-at e p h g =
      let z : 16 * e + p ≡ e * 16 + p = omega arith in
      ap (λ (q : ℕ). get_or rows_of q 0) z ∙ get_d_rows (λ e. map (f e) (below 16)) m 16 (λ e h. length-tab (f e) 0 16) e p 0 h g ∙ get_d-tab (f e) 16 p 0 g

  pub edge-written : (e : ℕ) → e < m → (S S₁ S₂ : List ℕ) → Written (λ q. get_or rows_of q 0) 0 (16 * e) S S₁ → Written (f e) (16 * e) 16 S₁ S₂
      → Written (λ q. get_or rows_of q 0) 0 (16 * (e + 1)) S S₂
  edge-written e h S S₁ S₂ a b =
      let z : 16 * e + 16 ≡ 16 * (e + 1) = omega arith in
      subst (λ (n : ℕ). Written (λ q. get_or rows_of q 0) 0 n S S₂) z
      (written_then (λ q. get_or rows_of q 0) (f e) (16 * e) 16 S S₁ S₂ a b (λ p g. sym (rows_of-at e p h g)))

-- ---- the marks of a table

module _ (c : Case) (w best : List ℤ) where
  pub sets-length : length (marked_sets c w best) ≡ c.n
  unfolding marked_sets
  sets-length = length-tab (set_where c (has_best c w best)) 0 c.n

  pub sets-at : (j : ℕ) → j < c.n → get_or (marked_sets c w best) j 0 ≡ set_where c (has_best c w best) j
  unfolding marked_sets
  sets-at j h = get_d-tab (set_where c (has_best c w best)) c.n j 0 h

  pub sets-written : (S S' : List ℕ) → c.n ≤ length S → Written (set_where c (has_best c w best)) 0 c.n S S' → S' ≡ overwritten (marked_sets c w best) S
  sets-written S S' room done =
      bytes-written (marked_sets c w best) S S' (set_where c (has_best c w best)) (λ p h. sets-at p (rw sets-length at h)) (rw sets-length room)
      (rw sets-length done)

  pub rows-length : length (marked_rows c w best) ≡ 16 * c.m
  unfolding marked_rows
  rows-length = rows_of-length (row_where c (has_best c w best)) c.m

  pub rows_at : (e p : ℕ) → e < c.m → p < 16 → get_or (marked_rows c w best) (16 * e + p) 0 ≡ row_where c (has_best c w best) e p
  unfolding marked_rows
  rows_at = rows_of-at (row_where c (has_best c w best)) c.m

  pub rows_written : (S S' : List ℕ) → 16 * c.m ≤ length S
      → Written (λ q. get_or (rows_of (row_where c (has_best c w best)) c.m) q 0) 0 (16 * c.m) S S' → S' ≡ overwritten (marked_rows c w best) S
  unfolding marked_rows
  rows_written S S' room done =
      let len = rows_of-length (row_where c (has_best c w best)) c.m in
      bytes-written (rows_of (row_where c (has_best c w best)) c.m) S S' (λ q. get_or (rows_of (row_where c (has_best c w best)) c.m) q 0) (λ p h. refl)
      (rw len room) (rw len done)
