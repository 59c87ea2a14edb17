-- Counts, a checksum's next byte, and the lines of a case. Assumes nothing.
use mathlib.Core.Path.{◌≡◌, refl, sym, ap, ap₂, ◌∙◌}
use mathlib.Core.Bool.{Bool, true, false}
use mathlib.Core.List.{List, [], ◌∷◌}
use Prim.Native.Nat.{ℕ, zero, suc, ◌+◌, ◌*◌, ◌%◌, ◌<◌, ◌≤◌}
use native.Mathlib.Numerals.{add-one}
use native.Mathlib.Omega.{arith}
use borrow.Author.Tests.{lt-ltb, le-ltb}
use lib.IntN.{ℤ, pos}
use lib.ListN.{length, drop, get_or, set, drop_of_length-le}
use lib.Seq.{drop-cons}
use Rattle.std.proofs.lemmas.List.Sums.{sum_by-cons}
use Rattle.std.specs.Prelude.{cond, not, count_by, if◌then◌else◌}
use Rattle.integers.specs.Words.{eq_z}
use Rattle.definitions.specs.declared.Case.{Case}
use Rattle.definitions.specs.declared.Line.{Line}
use Rattle.definitions.specs.Lines.{is_kind}
use Rattle.definitions.specs.CaseFiles.{with_ends, zeroed_from}
use Rattle.drivers.specs.Drivers.{digest_from}
use Rattle.drivers.specs.declared.Held.{Held}
use Rattle.drivers.specs.Taken.{headed_by, joined_by, places_after, taken_call, not_zero}

pub digest-next : (sum i : ℕ) (bytes : List ℕ) → i < length bytes
    → digest_from sum (drop i bytes) ≡ digest_from ((sum * 31 + get_or bytes i 0) % 1_000_000_007) (drop (i + 1) bytes)
unfolding digest_from
digest-next sum i bytes h = rw (add-one, drop-cons bytes i 0)

pub digest-ends : (sum i : ℕ) (bytes : List ℕ) → length bytes ≤ i → digest_from sum (drop i bytes) ≡ sum
unfolding digest_from
digest-ends sum i bytes h = rw (drop_of_length-le bytes {i = i} h)

-- ---- the next weight, and an edge for which a case has no place

pub places-more : (places room : ℕ) → places < room → places_after places room ≡ places + 1
places-more places room h = simp (lt-ltb _ _ h)

pub places-full : (places room : ℕ) → room ≤ places → places_after places room ≡ places
places-full places room h = simp (le-ltb _ _ h)

-- a place past a list's end is not set
pub set_past : {A : Type 0} (l : List A) (i : ℕ) (a : A) → length l ≤ i → set l i a ≡ l
set_past [] i a h = refl
set_past (x ∷ xs) zero a h = absurd (omega arith)
set_past (x ∷ xs) (suc i) a h = ap (λ t. x ∷ t) (set_past xs i a (omega arith))

pub ends-past : (c : Case) (e i j : ℕ) → length c.lower ≤ e → length c.upper ≤ e → with_ends c e i j ≡ c
ends-past c e i j low high = rw (set_past c.lower e i low, set_past c.upper e j high) refl

-- ---- weights that are not 0

pub not-zero-count : (w : List ℤ) → count_by (λ z. not (eq_z z (pos 0))) w ≡ not_zero w
unfolding not_zero
not-zero-count [] = refl
not-zero-count (z ∷ w) =
    sum_by-cons (λ z. cond (not (eq_z z (pos 0))) 1 0) z w ∙ ap₂ (λ a b. a + b) (one (eq_z z (pos 0))) (not-zero-count w)
  where
    one : (b : Bool) → ◌≡◌ {A = ℕ} (cond (not b) 1 0) (if b then 0 else 1)
    one true = refl
    one false = refl

pub not-zero-ends : (w : List ℤ) (i : ℕ) → length w ≤ i → not_zero (drop i w) ≡ 0
unfolding not_zero
not-zero-ends w i h = rw (drop_of_length-le w {i = i} h)

-- ---- a line taken, by its kind

module _ (h : Held) (w : List ℤ) (l : Line) where
  abbrev Takes : Held → List ℤ → Type 0
  Takes held table = (held ≡ (taken_call h w l).held) × (table ≡ (taken_call h w l).table)

  pub takes-head : {c : Case} {table : List ℤ} → true ≡ is_kind 10 l → c ≡ headed_by l → table ≡ zeroed_from 0 w
      → Takes (record { case = c; places = 0 }) table
  unfolding taken_call
  takes-head k e t = rw (sym k, e, t) (refl, refl)

  pub takes-ends : {c : Case} → false ≡ is_kind 10 l → true ≡ is_kind 12 l → c ≡ joined_by h.case l → Takes (record { case = c; places = h.places }) w
  unfolding taken_call
  takes-ends n k e = rw (sym n, sym k, e) (refl, refl)

  pub takes-weight : {places : ℕ} {table : List ℤ} → false ≡ is_kind 10 l → false ≡ is_kind 12 l → places ≡ places_after h.places (length w)
      → table ≡ set w h.places l.amount → Takes (record { case = h.case; places = places }) table
  unfolding taken_call
  takes-weight n k p t = rw (sym n, sym k, p, t) (refl, refl)
