-- The bytes of a family: its sets, and the partners of each edge, written part by part. Assumes nothing.
use mathlib.Core.Path.{◌≡◌, refl, sym, ap, subst, ◌∙◌}
use mathlib.Core.Bool.{Bool, true, not, ◌&&◌, and-true}
use mathlib.Core.Logic.{◌⊎◌, inl, inr}
use mathlib.Core.List.{List, ◌++◌}
use Prim.Native.Nat.{ℕ, suc, ◌+◌, ◌*◌, ◌-◌, ◌≤◌, ◌<◌}
use native.Mathlib.Nat.{mul-le-mul_right}
use native.Mathlib.Omega.{arith}
use borrow.Author.Tests.{lt-ltb}
use lib.Dec.{T, ltb, ltb→lt, nltb→le}
use lib.ListN.{length, get_or, take, drop, replicate, length-append, length-drop, length-replicate, get_or-replicate, get_or-append}
use lib.Seq.{ext_get_or, length-take-le, get_or-take, get_or-drop, get_or-append-add}
use Rattle.std.specs.Prelude.{if◌then◌else◌}
use Rattle.integers.specs.Tests.{either}
use Rattle.integers.specs.Tables.{length-tab, get_d-tab, length-rows, get_d_rows}
use Rattle.definitions.specs.declared.Case.{Case}
use Rattle.definitions.specs.Case.{lower_end, upper_end}
use Rattle.definitions.specs.Lines.{overwritten}
use Rattle.definitions.specs.Families.{outside}
use Rattle.marks.specs.Marks.{mark}
use Rattle.arcs.specs.Active.{Written}
use Rattle.arcs.specs.Partners.{lowest_in_both, byte_of_partner, partner_at, lowest_partners}
use Rattle.arcs.proofs.Marked.{written_then, bytes-written}
use Rattle.families.specs.Closing.{partner_in, end_bytes, edge_bytes, all_bytes}

-- ---- the sets

pub family-written : (n : ℕ) (sets S S' : List ℕ) → n ≤ length sets → n ≤ length S → Written (λ p. get_or sets p 0) 0 n S S'
    → S' ≡ overwritten (take n sets) S
family-written n sets S S' few room w =
    let len = length-take-le n sets few in
    bytes-written (take n sets) S S' (λ p. get_or sets p 0) (λ p h. get_or-take n sets p 0 (rw len at h)) (rw len room) (rw len w)

-- ---- the bytes outside a family

pub all-outside : (n : ℕ) (S : List ℕ) → length S ≡ n → ((k : ℕ) → k < n → get_or S k 0 ≡ outside) → S ≡ replicate n outside
all-outside n S len out =
    ext_get_or 0 S (replicate n outside) (len ∙ sym (length-replicate n outside))
    (λ k h. out k (rw len at h) ∙ sym (get_or-replicate n k outside 0 (rw len at h)))

-- ---- an end of an edge

-- a part of a slice is replaced
abbrev pub replaced : ℕ → ℕ → List ℕ → List ℕ → List ℕ
replaced at n S part = take at S ++ (part ++ drop n (drop at S))

part-written : (f : ℕ → ℕ) (at n : ℕ) (S part : List ℕ) → at + n ≤ length S → length part ≡ n → ((p : ℕ) → p < n → get_or part p 0 ≡ f p)
    → Written f at n S (replaced at n S part)
part-written f at n S part room len is = record {
  same_length = simp (length-append, length-drop, front, len) (omega arith);
  here = λ p h.
      let z : at + p ≡ length (take at S) + p = omega (arith, front) in
      ap (λ (q : ℕ). get_or (replaced at n S part) q 0) z ∙ get_or-append-add (take at S) (part ++ rest) p 0 ∙ get_or-append part rest 0 p (omega arith)
      ∙ is p h;
  before = λ q h. get_or-append (take at S) (part ++ rest) 0 q (omega (arith, front)) ∙ get_or-take at S q 0 h;
  after = λ q h.
      let k = q - (at + n) in
      let z : q ≡ length (take at S) + (length part + k) = omega (arith, front) in
      let y : at + (n + k) ≡ q = omega arith in
      ap (λ (x : ℕ). get_or (replaced at n S part) x 0) z ∙ get_or-append-add (take at S) (part ++ rest) (length part + k) 0 ∙ get_or-append-add part rest k 0
      ∙ get_or-drop n (drop at S) k 0
      ∙ get_or-drop at S (n + k) 0
      ∙ ap (λ (x : ℕ). get_or S x 0) y;
}
  where
    front : length (take at S) ≡ at
    front = length-take-le at S (omega arith)

    rest : List ℕ
    rest = drop n (drop at S)

-- a part that is written again
written-again : (f g : ℕ → ℕ) (at n : ℕ) (S S₁ S₂ : List ℕ) → Written f at n S S₁ → Written g at n S₁ S₂ → Written g at n S S₂
written-again f g at n S S₁ S₂ a b = record {
  same_length = b.same_length ∙ a.same_length;
  here = b.here;
  before = λ q h. b.before q h ∙ a.before q h;
  after = λ q h. b.after q h ∙ a.after q h;
}

-- the lowest partners over bytes that are all `outside`
module _ (rows : List ℕ) (row own other : ℕ) (room : row + 8 ≤ length rows) where
  partners-at : (P : List ℕ) (d : ℕ) → d ≤ 8 → length P ≡ d → ((p : ℕ) → p < d → get_or P p 0 ≡ outside)
      → (p : ℕ) → p < d → get_or (lowest_partners (drop row rows) own other P) p 0 ≡ partner_in rows row own other p
  unfolding lowest_partners
  partners-at P d few len out p h =
      get_d-tab (partner_at (drop row rows) own other P) (length P) p 0 (omega arith)
      ∙ ap (λ (b : Bool). if mark own p && b then byte_of_partner (lowest_in_both (get_or (drop row rows) p 0) other) else get_or P p 0) reached
      ∙ ap (λ (b : Bool). if b then byte_of_partner (lowest_in_both (get_or (drop row rows) p 0) other) else get_or P p 0) (and-true (mark own p))
      ∙ ap (λ (r : ℕ). if mark own p then byte_of_partner (lowest_in_both r other) else get_or P p 0) (get_or-drop row rows p 0)
      ∙ ap (λ (s : ℕ). if mark own p then byte_of_partner (lowest_in_both (get_or rows (row + p) 0) other) else s) (out p h)
    where
      reached : ltb p (length (drop row rows)) ≡ true
      reached = lt-ltb p (length (drop row rows)) (simp length-drop (omega arith))

  partners-length : (P : List ℕ) → length (lowest_partners (drop row rows) own other P) ≡ length P
  unfolding lowest_partners
  partners-length P = length-tab (partner_at (drop row rows) own other P) 0 (length P)

  module _ (at : ℕ) (S : List ℕ) where
    -- the bytes of n values: first all `outside`, then the partners
    abbrev cleared : ℕ → List ℕ
    cleared n = replaced at n S (replicate (length (take n (drop at S))) outside)

    abbrev filled : ℕ → List ℕ
    filled n = replaced at n (cleared n) (lowest_partners (drop row rows) own other (take n (drop at (cleared n))))

    part_length : (n : ℕ) (P : List ℕ) → at + n ≤ length P → length (take n (drop at P)) ≡ n
    part_length n P h = length-take-le n (drop at P) (simp length-drop (omega arith))

    cleared-written : (n : ℕ) → at + n ≤ length S → Written (λ p. outside) at n S (cleared n)
    cleared-written n fits =
        let k = length (take n (drop at S)) in
        let len : k ≡ n = part_length n S fits in
        part-written (λ p. outside) at n S (replicate k outside) fits (length-replicate k outside ∙ len)
        (λ p h. get_or-replicate k p outside 0 (omega arith))

    filled-written : (n : ℕ) → n ≤ 8 → at + n ≤ length S → Written (partner_in rows row own other) at n S (filled n)
    filled-written n few fits =
        let a = cleared-written n fits in
        let P = take n (drop at (cleared n)) in
        let fits₁ : at + n ≤ length (cleared n) = omega (arith, a.same_length) in
        let len = part_length n (cleared n) fits₁ in
        written-again (λ p. outside) (partner_in rows row own other) at n S (cleared n) (filled n) a
        (part-written (partner_in rows row own other) at n (cleared n) (lowest_partners (drop row rows) own other P) fits₁ (partners-length P ∙ len)
        (partners-at P n few len (λ p h. get_or-take n (drop at (cleared n)) p 0 h ∙ get_or-drop at (cleared n) p 0 ∙ a.here p h)))

    -- at other words for the number of values and for what is written
    pub end-written : (d n : ℕ) → n ≡ d → d ≤ 8 → at + d ≤ length S → (out rest found : List ℕ) → out ≡ replicate (length (take n (drop at S))) outside
        → rest ≡ drop row rows → found ≡ lowest_partners rest own other (take n (drop at (replaced at n S out)))
        → Written (partner_in rows row own other) at d S (replaced at n (replaced at n S out) found)
    end-written d n e few fits out rest found eo er ef =
        rw (ef, er, eo) (subst (λ (k : ℕ). Written (partner_in rows row own other) at k S (filled n)) e (filled-written n (omega arith) (omega arith)))

-- ---- both ends of an edge

-- a part that is written after another
written_both : (f g k : ℕ → ℕ) (at n m : ℕ) (S S₁ S₂ : List ℕ) → Written f at n S S₁ → Written g (at + n) m S₁ S₂
    → ((p : ℕ) → p < n → f p ≡ k p) → ((p : ℕ) → p < m → g p ≡ k (n + p)) → Written k at (n + m) S S₂
written_both f g k at n m S S₁ S₂ a b first second = record {
  same_length = b.same_length ∙ a.same_length;
  here = λ p h. by p h (either (ltb p n));
  before = λ q h. b.before q (omega arith) ∙ a.before q h;
  after = λ q h. b.after q (omega arith) ∙ a.after q (omega arith);
}
  where
    by : (p : ℕ) → p < n + m → T (ltb p n) ⊎ T (not (ltb p n)) → get_or S₂ (at + p) 0 ≡ k p
    by p h (inl t) = let l = ltb→lt p n t in b.before (at + p) (omega arith) ∙ a.here p l ∙ first p l
    by p h (inr t) =
        let l = nltb→le p n t in
        let z : at + p ≡ at + n + (p - n) = omega arith in
        let y : n + (p - n) ≡ p = omega arith in
        ap (λ (q : ℕ). get_or S₂ q 0) z ∙ b.here (p - n) (omega arith) ∙ second (p - n) (omega arith) ∙ ap k y

-- edge e has its bytes within those of all edges
pub edge-room : (c : Case) (e : ℕ) → e < c.m → e * (2 * c.d) + 2 * c.d ≤ c.m * (2 * c.d)
edge-room c e h = omega (arith, mul-le-mul_right {m = suc e} {n = c.m} (2 * c.d) h)

module _ (c : Case) (rows sets : List ℕ) where
  ends-length : (e end : ℕ) → end < 2 → length (end_bytes c rows sets e end) ≡ c.d
  ends-length e end h = length-tab _ 0 c.d

  pub edge-length : (e : ℕ) → length (edge_bytes c rows sets e) ≡ 2 * c.d
  unfolding edge_bytes
  edge-length e = length-rows (end_bytes c rows sets e) 2 c.d (ends-length e)

  end-at : (e end p : ℕ) → end < 2 → p < c.d → get_or (edge_bytes c rows sets e) (end * c.d + p) 0 ≡ get_or (end_bytes c rows sets e end) p 0
  unfolding edge_bytes
  end-at e end p h g = get_d_rows (end_bytes c rows sets e) 2 c.d (ends-length e) end p 0 h g

  abbrev lower : ℕ → ℕ
  lower e = get_or sets (lower_end c e) 0

  abbrev upper : ℕ → ℕ
  upper e = get_or sets (upper_end c e) 0

  lower-at : (e p : ℕ) → p < c.d → partner_in rows (16 * e) (lower e) (upper e) p ≡ get_or (edge_bytes c rows sets e) p 0
  lower-at e p h =
      let y : 0 * c.d + p ≡ p = omega arith in
      let z : 16 * e + 8 * 0 ≡ 16 * e = omega arith in
      sym (ap (λ (q : ℕ). get_or (edge_bytes c rows sets e) q 0) (sym y) ∙ end-at e 0 p (omega arith) h ∙ get_d-tab _ c.d p 0 h
      ∙ ap (λ (x : ℕ). partner_in rows x (lower e) (upper e) p) z)

  upper-at : (e p : ℕ) → p < c.d → partner_in rows (16 * e + 8) (upper e) (lower e) p ≡ get_or (edge_bytes c rows sets e) (c.d + p) 0
  upper-at e p h =
      let y : 1 * c.d + p ≡ c.d + p = omega arith in
      let z : 16 * e + 8 * 1 ≡ 16 * e + 8 = omega arith in
      sym (ap (λ (q : ℕ). get_or (edge_bytes c rows sets e) q 0) (sym y) ∙ end-at e 1 p (omega arith) h ∙ get_d-tab _ c.d p 0 h
      ∙ ap (λ (x : ℕ). partner_in rows x (upper e) (lower e) p) z)

  -- the bytes of both ends
  pub edge-written : (e : ℕ) (S S₁ S₂ : List ℕ)
      → Written (partner_in rows (16 * e) (lower e) (upper e)) (e * (2 * c.d)) c.d S S₁
      → Written (partner_in rows (16 * e + 8) (upper e) (lower e)) (e * (2 * c.d) + c.d) c.d S₁ S₂
      → Written (λ p. get_or (edge_bytes c rows sets e) p 0) (e * (2 * c.d)) (2 * c.d) S S₂
  edge-written e S S₁ S₂ a b =
      let z : c.d + c.d ≡ 2 * c.d = omega arith in
      subst (λ (n : ℕ). Written (λ p. get_or (edge_bytes c rows sets e) p 0) (e * (2 * c.d)) n S S₂) z
      (written_both _ _ (λ p. get_or (edge_bytes c rows sets e) p 0) (e * (2 * c.d)) c.d c.d S S₁ S₂ a b (lower-at e) (upper-at e))

  -- ---- all edges

  pub all-length : length (all_bytes c rows sets) ≡ c.m * (2 * c.d)
  unfolding all_bytes
  all-length = length-rows (edge_bytes c rows sets) c.m (2 * c.d) (λ e h. edge-length e)

  pub edge_at : (e p : ℕ) → e < c.m → p < 2 * c.d → get_or (all_bytes c rows sets) (e * (2 * c.d) + p) 0 ≡ get_or (edge_bytes c rows sets e) p 0
  unfolding all_bytes
  edge_at e p h g = get_d_rows (edge_bytes c rows sets) c.m (2 * c.d) (λ e h. edge-length e) e p 0 h g

  pub edge-next : (e : ℕ) → e < c.m → (S S₁ S₂ : List ℕ) → Written (λ q. get_or (all_bytes c rows sets) q 0) 0 (e * (2 * c.d)) S S₁
      → Written (λ p. get_or (edge_bytes c rows sets e) p 0) (e * (2 * c.d)) (2 * c.d) S₁ S₂
      → Written (λ q. get_or (all_bytes c rows sets) q 0) 0 ((e + 1) * (2 * c.d)) S S₂
  edge-next e h S S₁ S₂ a b =
      let z : e * (2 * c.d) + 2 * c.d ≡ (e + 1) * (2 * c.d) = omega arith in
      subst (λ (n : ℕ). Written (λ q. get_or (all_bytes c rows sets) q 0) 0 n S S₂) z
      (written_then (λ q. get_or (all_bytes c rows sets) q 0) (λ p. get_or (edge_bytes c rows sets e) p 0) (e * (2 * c.d)) (2 * c.d) S S₁ S₂ a b
      (λ p g. sym (edge_at e p h g)))

  pub all-written : (S S' : List ℕ) → c.m * (2 * c.d) ≤ length S → Written (λ q. get_or (all_bytes c rows sets) q 0) 0 (c.m * (2 * c.d)) S S'
      → S' ≡ overwritten (all_bytes c rows sets) S
  all-written S S' room w =
      bytes-written (all_bytes c rows sets) S S' (λ q. get_or (all_bytes c rows sets) q 0) (λ p h. refl) (rw all-length room) (rw all-length w)
