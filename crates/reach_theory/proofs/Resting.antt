-- Where no press and no void line is left no pair is left either: a supported family with all other scopes raised holds, for the two ends of an
-- edge, values that are active together with the tuple that they make. So such a state is settled. Assumes nothing.
use mathlib.Core.Path.{subst}
use mathlib.Core.Bool.{not}
use mathlib.Core.Logic.{◌↔◌, ⊎_elim}
use mathlib.Core.List.{List}
use Prim.Native.Nat.{ℕ, ◌+◌, ◌<◌}
use native.Mathlib.Omega.{arith}
use lib.IntN.{ℤ}
use lib.Dec.{T, T_not}
use Rattle.integers.specs.Tests.{either}
use Rattle.definitions.specs.declared.Case.{Case}
use Rattle.definitions.specs.Rules.{Rules, Coherent}
use Rattle.definitions.specs.Case.{lower_end, upper_end}
use Rattle.definitions.specs.Valid.{working_weight}
use Rattle.definitions.specs.PairRounds.{gains, passed_over}
use Rattle.definitions.specs.Engine.{NoPress, Settled}
use Rattle.definitions.proofs.Refutation.{others-active}
use Rattle.theory.proofs.Validity.{Handed}
use Rattle.pair_theory.proofs.Gains.{taken-choice, gains-iff, active-no-gain}

module _ {r : Rules} {c : Case} {w : List ℤ} (coherent : Coherent r) (h : Handed r (working_weight r) c w) (rest : NoPress c w) where
  pub no-press-no-gain : (e : ℕ) → e < c.m → T (not (gains c w e))
  no-press-no-gain e o =
      let i = lower_end c e in
      let j = upper_end c e in
      let up : i < j = h.shape.ascending e o in
      let in-n : j < c.n = h.shape.below-n e o in
      let (k, p, a, S, family) = rest i (omega arith) in
      let (v, q, s) = family.non-empty i (omega arith) in
      let (u, g, t, m) = family.partner-above e k o p (subst (λ (v : ℕ). T (S i v)) (family.fixed v q s) s) in
      active-no-gain coherent h o k u p g a (others-active c w i j u 0 (omega arith) (omega arith) (family.allowed-only j u in-n g t))
      (others-active c w i (c.n + e) k u (omega arith) (omega arith) m)

pub settled-iff : {r : Rules} {c : Case} {w : List ℤ} → Coherent r → Handed r (working_weight r) c w → Settled r c w ↔ NoPress c w
settled-iff {r} {c} {w} coherent h = (
  λ s. s.presses,
  λ rest. record {
    pairs = λ e o g. ⊎_elim (λ t. t) (λ t. absurd (T_not (gains c w e) (no-press-no-gain coherent h rest e o)
        ((gains-iff c w e h.shape o (taken-choice c w e r t)).1 g))) (either (passed_over r c w e));
    presses = rest;
  },
)
