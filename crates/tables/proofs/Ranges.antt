-- The ranges of weights are above the barred number, and where all weights are in such a range nothing is asked of them further. Assumes nothing.
use Rattle.std.specs.Prelude.{None}
use mathlib.Core.Path.{◌≡◌, refl}
use mathlib.Core.Bool.{true, false, not}
use mathlib.Core.List.{List}
use native.Mathlib.Omega.{arith}
use lib.IntN.{ℤ}
use lib.Dec.{T, T_not, not_T}
use lib.Signed.{◌<ℤ◌}
use lib.ListN.{length, take}
use Rattle.integers.specs.Words.{any, within_z, minus}
use Rattle.integers.specs.Tests.{is_true, true-is, is_false, or_right}
use Rattle.integers.specs.Linear.{flat, zs, ◌▸◌, T-eq}
use Rattle.integers.specs.Lists.{all_in}
use Rattle.definitions.specs.declared.Case.{Case}
use Rattle.definitions.specs.Rules.{Rules, Coherent, rules_of}
use Rattle.definitions.specs.Refusals.{first_refusal}
use Rattle.definitions.specs.Case.{scope_count, scopes, own_length, lent_length, weight, barred_weight, is_barred, barred, wholly_barred}
use Rattle.definitions.proofs.RulesLaws.{rules-fit}
use Rattle.theory.proofs.Places.{IsTuple, all-weights}
use Rattle.theory.proofs.Barred.{each_all}
use Rattle.theory.proofs.Words.{none_below}
use Rattle.definitions.specs.Valid.{all_weights}
use Rattle.tables.specs.Scopes.{Limited, holdable, own_tests}

-- the ranges of weights are above the barred number
module _ {r : Rules} (coherent : Coherent r) where
  pub working-above : barred_weight <ℤ minus r.working
  working-above = coherent.barred-below ▸ simp flat (omega zs)

  pub starting-above : barred_weight <ℤ minus r.starting
  starting-above = coherent.barred-below ▸ (rules-fit coherent).starting ▸ simp flat (omega zs)

module _ (low high : ℤ) (w : List ℤ) (above : barred_weight <ℤ low) where
  not-barred : (z : ℤ) → T (within_z low high z) → T (not (is_barred z))
  not-barred z h = not_T (is_barred z) (λ t. let d : z ≡ barred_weight = (T-eq z barred_weight).0 t in h ▸ d ▸ above ▸ simp flat (omega zs))

  module _ (c : Case) (limited : Limited c) (long : length w ≡ lent_length (rules_of c) c) (e : all_weights (within_z low high) c w ≡ true) where
    within : T (all_weights (within_z low high) c w)
    within = true-is (all_weights (within_z low high) c w) e

    all_held : all_weights (holdable low high) c w ≡ true
    all_held = is_true (all_weights (holdable low high) c w) ((all_in (holdable low high) (take (own_length c) w)).1 (λ z m.
        or_right (is_barred z) (within_z low high z) ((all_in (within_z low high) (take (own_length c) w)).0 within z m)))

    some-free : any (wholly_barred c w) (scopes c) ≡ false
    some-free = is_false (any (wholly_barred c w) (scopes c)) ((none_below (wholly_barred c w) (scope_count c)).1 (λ x h.
        not_T (wholly_barred c w x) (λ t.
        let u : IsTuple c x 0 0 = record { scope = h; one = limited.some-value; two = limited.some-value; alone = λ k. refl } in
        let inside = (all-weights c (within_z low high) w (omega (arith, limited.own-lent))).0 within x 0 0 u in
        T_not (is_barred (weight c w x 0 0)) (not-barred (weight c w x 0 0) inside) ((each_all c (barred c w x) x h).0 t 0 0 u))))

    pub nothing_left : first_refusal (own_tests c w low high) ≡ None
    nothing_left = rw (all_held, some-free)
