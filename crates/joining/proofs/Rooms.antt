-- The room for a join and its places: what a test that passed says, and products. Assumes nothing.
use mathlib.Core.Path.{◌≡◌, refl, sym, ap, ◌∙◌}
use mathlib.Core.Bool.{Bool, true, false, not, ◌&&◌, true≢false}
use Prim.Native.Nat.{ℕ, ◌+◌, ◌*◌, ◌≤◌, ◌<◌}
use native.Mathlib.Nat.{mul-le-mul}
use native.Mathlib.Omega.{arith}
use lib.IntN.{ℤ}
use lib.ListN.{length, take, drop, length-drop}
use lib.Seq.{drop-drop}
use mathlib.Core.List.{List}
use Rattle.integers.specs.Words.{all}
use Rattle.integers.specs.Tests.{tests}
use Rattle.definitions.specs.declared.Case.{Case}
use Rattle.definitions.specs.Rules.{rules_of, coherent, edge_places}
use Rattle.definitions.specs.Case.{place, own_length, is_barred, wholly_barred}
use Rattle.definitions.specs.Valid.{within_limits}
use Rattle.definitions.specs.CaseFiles.{CaseDue}
use Rattle.logs.specs.Join.{grown_case}
use Rattle.logs.specs.Waiting.{small_case, weights_read, waiting_weights, not_in_join}
use Rattle.definitions.proofs.CaseLaws.{place-own}
use Rattle.theory.proofs.Validity.{own-lent}
use Rattle.theory.proofs.Places.{place-variable, place-edge}
use Rattle.case_theory.proofs.CaseDues.{IsDue}
use Rattle.log_theory.proofs.WaitingDues.{weights-few}
use Rattle.case_lines.specs.declared.Awaited.{Awaited}
use Rattle.case_lines.specs.declared.Awaited.TheVariants.{VariableWeight, EdgeEnds, EdgeWeight}
use Rattle.case_lines.specs.Dues.{due_awaited, InCase}
use Rattle.tables.specs.Scopes.{Limited, is_sized, size_of}
use Rattle.tables.proofs.Order.{sized, limited}
use Rattle.tables.proofs.Parts.{part-own, part-barred}
use Rattle.joining.specs.Joining.{has_place}
use Rattle.joining.specs.Steps.{small_sizes, Placed}

-- ---- what is due

module _ (c : Case) (p : ℕ) where
  pub in-case : (due : Awaited) → not_in_join c p (due_awaited due) ≡ false → InCase (small_sizes c p) due
  in-case (VariableWeight i k) e = let (a, b) = simp tests at e in (omega arith, b)
  in-case (EdgeEnds f) e = simp tests at e
  in-case (EdgeWeight f k l) e = let ((a, b), d) = simp tests at e in (a, b, d)

  pub is-due : (due : Awaited) → InCase (small_sizes c p) due → IsDue 1 c.d p (due_awaited due)
  is-due (VariableWeight i k) h = h
  is-due (EdgeEnds f) h = h
  is-due (EdgeWeight f k l) h = h

-- ---- room

module _ (c : Case) (p : ℕ) where
  abbrev grown : Bool
  grown = within_limits (rules_of c) (c.n + 1) c.d (c.m + p)

  pub grown-known : (within_limits (rules_of c) c.n c.d c.m && grown) ≡ true → Limited c × (c.n < (rules_of c).variables) × (c.m + p ≤ (rules_of c).edges)
  grown-known e =
      let (((a, b), d), ((f, g), h)) = simp tests at e in
      (limited c (simp tests (((a.0, a.1), b), d)), omega (arith, f.1), h.1)

  module _ (long : ℕ) (x : CaseDue) where
    parts-known : (a b d : Bool) → is_sized (rules_of c) c long ≡ a → grown ≡ b → not_in_join c p x ≡ d → (a && b && not d) ≡ true
        → Placed c long p × (not_in_join c p x ≡ false)
    parts-known true true false u v z h =
        let (l, s) = sized c long u in
        let ((f, g), k) = simp tests at v in
        (record { limited = l; sized = s; grows = omega (arith, f.1); room = k.1 }, z)
    parts-known true true true u v z h = absurd (true≢false (sym h))
    parts-known true false d u v z h = absurd (true≢false (sym h))
    parts-known false b d u v z h = absurd (true≢false (sym h))

    pub placed-known : has_place c long p x ≡ true → Placed c long p × (not_in_join c p x ≡ false)
    placed-known e = parts-known (is_sized (rules_of c) c long) grown (not_in_join c p x) refl refl refl e

  pub has-known : (long : ℕ) (due : Awaited) → has_place c long p (due_awaited due) ≡ true → Placed c long p × InCase (small_sizes c p) due
  has-known long due e = let (h, z) = placed-known long (due_awaited due) e in (h, in-case c p due z)

-- ---- places

module _ {c : Case} {long p : ℕ} (h : Placed c long p) where
  -- what waits fits
  pub waits-fit : own_length c + own_length (small_case c p) ≤ long
  waits-fit = omega (arith, h.sized, own-lent (rules_of c) (grown_case c p) (omega (arith, h.grows)) h.room)

  pub edges_fit : c.m + p ≤ edge_places
  edges_fit = omega (arith, h.room, (coherent c.rulebook).edges_placed)

  pub variables-fit : c.n < 256
  variables-fit = omega (arith, h.grows, (coherent c.rulebook).variables-few)

  pub read_fits : (due : Awaited) → InCase (small_sizes c p) due → own_length c + weights_read c p (due_awaited due) ≤ long
  read_fits due d = omega (arith, waits-fit, weights-few c p (due_awaited due) (is-due c p due d))

  -- and the place of the weight that is due
  pub place-fits : (due : Awaited) → InCase (small_sizes c p) due → own_length c + weights_read c p (due_awaited due) < long
  place-fits (VariableWeight i k) (u, v) =
      omega (arith, waits-fit, place-own (small_case c p) i k 0 (omega arith) v (omega (arith, h.limited.some-value)))
  place-fits (EdgeEnds e) u =
      let s = h.limited.some-value in omega (arith, waits-fit, place-own (small_case c p) (1 + e) 0 0 (omega arith) s s)
  place-fits (EdgeWeight e k l) (u, v, q) = omega (arith, waits-fit, place-own (small_case c p) (1 + e) k l (omega arith) v q)

  -- a whole scope of those that wait
  pub scope-fits : (y : ℕ) → y ≤ p → own_length c + (place (small_case c p) y 0 0 + size_of (small_case c p) y) ≤ long
  scope-fits y g = omega (arith, waits-fit, part-own (small_case c p) y (omega arith))

pub scope-waits : {c : Case} {p : ℕ} (w₀ : List ℤ) → Placed c (length w₀) p → (y : ℕ) → y ≤ p
    → all is_barred (take (size_of (small_case c p) y) (drop (own_length c + place (small_case c p) y 0 0) w₀))
    ≡ wholly_barred (small_case c p) (waiting_weights c w₀) y
scope-waits {c} {p} w₀ h y g =
    ap (λ (u : List ℤ). all is_barred (take (size_of (small_case c p) y) u)) (sym (drop-drop (place (small_case c p) y 0 0) (own_length c) w₀))
    ∙ part-barred (small_case c p) (waiting_weights c w₀) (simp length-drop (omega (arith, waits-fit h))) y (omega arith)

-- products within plain bounds
module _ (d p : ℕ) (few : d ≤ 8) (some : p ≤ edge_places) where
  pub square-small : d * d ≤ 64
  square-small = mul-le-mul few few

  pub squares-small : p * (d * d) ≤ edge_places * 64
  squares-small = mul-le-mul some square-small

module _ (c : Case) (p : ℕ) where
  pub read-value : (due : Awaited) (i k : ℕ) → due ≡ VariableWeight i k → i < 1 → i * c.d + k ≡ weights_read c p (due_awaited due)
  read-value due i k e h = sym (ap (λ (due : Awaited). weights_read c p (due_awaited due)) e ∙ place-variable (small_case c p) i k 0 h)

  pub read-tuple : (due : Awaited) (f k l : ℕ) → due ≡ EdgeWeight f k l
      → c.d + (f * (c.d * c.d) + (k * c.d + l)) ≡ weights_read c p (due_awaited due)
  read-tuple due f k l e = sym (ap (λ (due : Awaited). weights_read c p (due_awaited due)) e ∙ omega (arith, place-edge (small_case c p) f k l))
