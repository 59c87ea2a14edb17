-- What comes next in the engine's run: the round of the lowest pair, and where there is none a press or a void line, and where there is none
-- nothing; and in a run of pair rounds only. Assumes nothing.
use Rattle.std.specs.Prelude.{Option, Some, None}
use mathlib.Core.Path.{◌≡◌, refl, sym, ap, ◌∙◌}
use mathlib.Core.Logic.{◌↔◌, ◌⊎◌, inl, inr}
use mathlib.Core.List.{List, [], ◌∷◌}
use Prim.Native.Nat.{ℕ}
use native.Mathlib.Omega.{arith}
use lib.IntN.{ℤ}
use Rattle.definitions.specs.declared.Case.{Case}
use Rattle.definitions.specs.Rules.{Rules}
use Rattle.definitions.specs.Moves.{Move, active_press}
use Rattle.definitions.specs.PairRounds.{pair_round, lowest_pair}
use Rattle.definitions.specs.Engine.{chosen, kept_scopes, least_gap, Next, nothing, round, void, pair_next, engine_next, pairs_next, presses_next}
use Rattle.press_theory.proofs.Gaps.{next-round, next-nothing, next-voided}

round-something : {a : List Move} → round a ≡ nothing → ⊥
round-something e = let z : ◌≡◌ {A = ℕ} 0 1 = cc in absurd (omega arith)

module _ (r : Rules) (c : Case) (w : List ℤ) where
  -- the moves are those of the lowest pair's round
  abbrev pub IsPairRound : List Move → Type 0
  IsPairRound moves = (e : ℕ) × (lowest_pair r c w ≡ Some e) × (moves ≡ pair_round c w e)

  -- there is no such pair, and the moves are the engine's press
  abbrev pub IsPressRound : List Move → Type 0
  IsPressRound moves = (lowest_pair r c w ≡ None)
      × (i : ℕ) × (a : ℤ) × (chosen c w ≡ Some i) × (least_gap c w i ≡ Some a) × (moves ≡ active_press c w i (kept_scopes c w i) a ∷ [])

  -- with or without a pair
  cases : {moves : List Move} (other : Next) → pair_next c w (lowest_pair r c w) other ≡ round moves
      → IsPairRound moves ⊎ ((lowest_pair r c w ≡ None) × (other ≡ round moves))
  cases {moves} other d = go (lowest_pair r c w) refl d
    where
      go : (o : Option ℕ) → lowest_pair r c w ≡ o → pair_next c w o other ≡ round moves → IsPairRound moves ⊎ ((lowest_pair r c w ≡ None) × (other ≡ round moves))
      go None e d = inr (e, d)
      go (Some x) e d = inl (x, e, cc)

  without : (other : Next) → pair_next c w (lowest_pair r c w) other ≡ nothing ↔ ((lowest_pair r c w ≡ None) × (other ≡ nothing))
  without other = (go (lowest_pair r c w), λ (e, d). ap (λ (o : Option ℕ). pair_next c w o other) e ∙ d)
    where
      go : (o : Option ℕ) → pair_next c w o other ≡ nothing → (o ≡ None) × (other ≡ nothing)
      go None d = (refl, d)
      go (Some x) d = absurd (round-something d)

  pub engine-next-is : {moves : List Move} → engine_next r c w ≡ round moves → IsPairRound moves ⊎ IsPressRound moves
  engine-next-is d = go (cases (presses_next r c w) d)
    where
      go : {moves : List Move} → IsPairRound moves ⊎ ((lowest_pair r c w ≡ None) × (presses_next r c w ≡ round moves)) → IsPairRound moves ⊎ IsPressRound moves
      go (inl p) = inl p
      go (inr (e, d)) = let (i, a, f, g, q) = next-round r c w d in inr (e, i, a, f, g, q)

  pub engine-next-nothing : engine_next r c w ≡ nothing ↔ ((lowest_pair r c w ≡ None) × (chosen c w ≡ None))
  engine-next-nothing = (
    λ d. let (e, f) = (without (presses_next r c w)).0 d in (e, (next-nothing r c w).0 f),
    λ (e, f). (without (presses_next r c w)).1 (e, (next-nothing r c w).1 f),
  )

  -- a void line comes of no pair
  void-other : {i : ℕ} {raised : List ℕ} (other : Next) → pair_next c w (lowest_pair r c w) other ≡ void i raised → other ≡ void i raised
  void-other {i} {raised} other = go (lowest_pair r c w)
    where
      go : (o : Option ℕ) → pair_next c w o other ≡ void i raised → other ≡ void i raised
      go None d = d
      go (Some x) d = let z : ◌≡◌ {A = ℕ} 0 1 = cc in absurd (omega arith)

  pub engine-next-void : {i : ℕ} {raised : List ℕ} → engine_next r c w ≡ void i raised
      → (chosen c w ≡ Some i) × (least_gap c w i ≡ None) × (raised ≡ kept_scopes c w i)
  engine-next-void d = next-voided r c w (void-other (presses_next r c w) d)

  pub pairs-no-void : {i : ℕ} {raised : List ℕ} → pairs_next r c w ≡ void i raised → ⊥
  pairs-no-void d = let e = void-other nothing d in let z : ◌≡◌ {A = ℕ} 0 1 = cc in absurd (omega arith)

  pub pairs-next-is : {moves : List Move} → pairs_next r c w ≡ round moves → IsPairRound moves
  pairs-next-is d = go (cases nothing d)
    where
      go : {moves : List Move} → IsPairRound moves ⊎ ((lowest_pair r c w ≡ None) × (nothing ≡ round moves)) → IsPairRound moves
      go (inl p) = p
      go (inr (e, d)) = let z : ◌≡◌ {A = ℕ} 0 1 = cc in absurd (omega arith)

  -- it is one of the engine's run too
  pub pairs-are-next : {moves : List Move} → pairs_next r c w ≡ round moves → engine_next r c w ≡ round moves
  pairs-are-next d = let (e, o, q) = pairs-next-is d in ap (λ (o : Option ℕ). pair_next c w o (presses_next r c w)) o ∙ ap round (sym q)

  pub pairs-nothing : pairs_next r c w ≡ nothing ↔ lowest_pair r c w ≡ None
  pairs-nothing = (λ d. ((without nothing).0 d).0, λ e. (without nothing).1 (e, refl))
