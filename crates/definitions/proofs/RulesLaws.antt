-- What coherent rules say in machine words: weights, amounts and sums of weights fit 64 bits with room. Assumes nothing.
use Prim.Native.Nat.{◌+◌, ◌*◌, ◌-◌, ◌^◌, ◌≤◌, ◌<◌}
use native.Mathlib.Nat.{pow-le-pow_right, mul-le-mul_right}
use native.Mathlib.Omega.{arith}
use Rattle.definitions.specs.Rules.{Rules, Coherent, scopes_at_most}

pub record Fits (r : Rules) : Type 0 where
  pub starting : r.starting ≤ r.working
  pub working : r.working < 10 ^ 17
  pub moving : r.moving < 10 ^ 17
  pub sums : scopes_at_most r * r.working + r.carried < 10 ^ 17

pub rules-fit : {r : Rules} → Coherent r → Fits r
rules-fit {r} coherent =
    let column : 10 ^ (r.amount_width - 1) ≤ 10 ^ 17 =
    pow-le-pow_right {n = 10} (omega arith) {i = r.amount_width - 1} {j = 17} (omega (arith, coherent.amount-fits)) in
    record {
      starting = omega (arith, coherent.room, mul-le-mul_right {m = 1} {n = 2 * scopes_at_most r + 1} r.starting (omega arith));
      working = omega (arith, column, coherent.difference, coherent.moving-fits);
      moving = omega (arith, column, coherent.moving-fits);
      sums = omega (arith, column, coherent.bound-fits);
    }
