-- The edges that stay, one edge after the other. Assumes nothing.
use mathlib.Core.Path.{◌≡◌, refl, sym, ap, ◌∙◌}
use mathlib.Core.Bool.{Bool, true, false, not}
use mathlib.Core.List.{List, [], ◌∷◌, ◌++◌, map, append-nil}
use Prim.Native.Nat.{ℕ, ◌+◌, ◌-◌, ◌≤◌, ◌<◌}
use native.Mathlib.Numerals.{add-one}
use native.Mathlib.Omega.{arith}
use lib.ListN.{length, set, replicate, length-append, length-map}
use lib.Seq.{set_at, append_snoc}
use Rattle.std.specs.Prelude.{if◌then◌else◌}
use Rattle.integers.specs.Words.{below}
use Rattle.integers.specs.Lists.{map-append, those-few, length_from}
use Rattle.definitions.specs.declared.Case.{Case}
use Rattle.definitions.specs.Rules.{edge_places}
use Rattle.logs.specs.Leave.{has_end, moved_down, in_places}
use Rattle.leaving.specs.Scopes.{staying_to, ends_left}
use Rattle.leaving.proofs.Lists.{those-next}

-- one more end
places-next : (xs : List ℕ) (a : ℕ) → length xs < edge_places → set (in_places xs) (length xs) a ≡ in_places (xs ++ (a ∷ []))
places-next xs a h =
    let k : ℕ = edge_places - (length xs + 1) in
    let e : edge_places - length xs ≡ k + 1 = omega arith in
    let d : edge_places - length (xs ++ (a ∷ [])) ≡ k = omega (arith, length-append xs (a ∷ [])) in
    ap (λ (n : ℕ). set (xs ++ replicate n 0) (length xs) a) e ∙ room k
    ∙ sym (ap (λ (n : ℕ). (xs ++ (a ∷ [])) ++ replicate n 0) d)
  where
    room : (k : ℕ) → set (xs ++ replicate (k + 1) 0) (length xs) a ≡ (xs ++ (a ∷ [])) ++ replicate k 0
    room k = rw add-one (set_at xs 0 (replicate k 0) a (length xs) refl ∙ sym (append_snoc xs a (replicate k 0)))

module _ (c : Case) (i e : ℕ) where
  pub few-stay : length (staying_to c i e) ≤ e
  few-stay = omega (arith, those-few (λ e. not (has_end c i e)) (below e), length_from 0 e)

  pub count_next : (if has_end c i e then length (staying_to c i e) else length (staying_to c i e) + 1) ≡ length (staying_to c i (e + 1))
  count_next = go (has_end c i e) ∙ sym (ap length (those-next (λ e. not (has_end c i e)) e))
    where
      xs : List ℕ
      xs = staying_to c i e

      go : (b : Bool) → (if b then length xs else length xs + 1) ≡ length (xs ++ (if not b then e ∷ [] else []))
      go true = sym (ap length (append-nil xs))
      go false = sym (length-append xs (e ∷ []))

  pub ends_next : (end : ℕ → ℕ) → length (staying_to c i e) < edge_places
      → (if has_end c i e then ends_left c end i e else set (ends_left c end i e) (length (staying_to c i e)) (moved_down i (end e))) ≡ ends_left c end i (e + 1)
  ends_next end h =
      go (has_end c i e) ∙ sym (ap (λ (l : List ℕ). in_places (map f l)) (those-next (λ e. not (has_end c i e)) e))
    where
      xs : List ℕ
      xs = staying_to c i e

      f : ℕ → ℕ
      f e = moved_down i (end e)

      go : (b : Bool) → (if b then in_places (map f xs) else set (in_places (map f xs)) (length xs) (f e))
          ≡ in_places (map f (xs ++ (if not b then e ∷ [] else [])))
      go true = sym (ap (λ (l : List ℕ). in_places (map f l)) (append-nil xs))
      go false =
          ap (λ (n : ℕ). set (in_places (map f xs)) n (f e)) (sym (length-map xs f))
          ∙ places-next (map f xs) (f e) (simp length-map h) ∙ sym (ap in_places (map-append f xs (e ∷ [])))
