-- When the carry is kept, and what is left in either case. Assumes nothing.
use mathlib.Core.Path.{◌≡◌, sym, ap, ◌∙◌}
use mathlib.Core.Bool.{Bool, true, false, not, ◌||◌}
use mathlib.Core.List.{List}
use Prim.Native.Nat.{ℕ, ◌<◌}
use lib.IntN.{ℤ, pos}
use lib.Signed.{le_z, lt_z}
use lib.ListN.{length}
use Rattle.std.specs.Prelude.{if◌then◌else◌}
use Rattle.integers.specs.Words.{any, within_z, minus}
use Rattle.integers.specs.Tests.{same_test, false-is, not-not-iff}
use Rattle.integers.specs.Linear.{flat, zs, ◌▸◌}
use Rattle.definitions.specs.declared.Case.{Case}
use Rattle.definitions.specs.Rules.{coherent, rules_of}
use Rattle.definitions.specs.Case.{upper_bound}
use Rattle.definitions.specs.Valid.{starting_weight, working_weight, carry_out}
use Rattle.logs.specs.Leave.{leaving_scopes, table_without, carry_after, some_barred, carried_case, fresh_case, restarts, WeightedCase, left_by}
use Rattle.theory.proofs.Validity.{Handed, working-handed, BothHanded}
use Rattle.theory.proofs.Leave.{handed-left}

pub not-higher : (a b : ℤ) → le_z b a ≡ not (lt_z a b)
not-higher a b = same_test (le_z b a) (not (lt_z a b)) (λ t. t ▸ simp flat (omega zs)) (λ t. t ▸ simp flat (omega zs))

module _ (c : Case) (i : ℕ) (w₀ w : List ℤ) where
  abbrev fresh : WeightedCase
  fresh = record { case = fresh_case c i; starting = table_without c i w₀; weights = table_without c i w₀ }

  abbrev carried : WeightedCase
  carried = record { case = carried_case c i w₀ w; starting = table_without c i w₀; weights = table_without c i w }

  pub left-fresh : restarts (rules_of c) c i w₀ w ≡ true → left_by (rules_of c) c i w₀ w ≡ fresh
  left-fresh e = ap (λ (b : Bool). if b then fresh else carried) e

  pub left-carried : restarts (rules_of c) c i w₀ w ≡ false → left_by (rules_of c) c i w₀ w ≡ carried
  left-carried e = ap (λ (b : Bool). if b then fresh else carried) e

  -- what is left, by other names
  module _ (u v : Case) (k l : List ℤ) (d : u ≡ carried_case c i w₀ w) (e : v ≡ fresh_case c i) (f : k ≡ table_without c i w₀) (g : l ≡ table_without c i w) where
    pub restarts-by : (b : Bool) → b ≡ any (some_barred c w₀) (leaving_scopes c i)
        → (b || carry_out (rules_of u) u || not (lt_z (upper_bound u l) (upper_bound v k))) ≡ restarts (rules_of c) c i w₀ w
    restarts-by b h = rw (h, d, e, f, g)

    module _ (h : BothHanded (rules_of c) c w₀ w) (inside : i < c.n) (several : 1 < c.n) where
      first-left : Handed (rules_of c) (starting_weight (rules_of c)) (fresh_case c i) (table_without c i w₀)
      first-left = handed-left c i (pos 0) h.now.shape inside several (starting_weight (rules_of c)) h.first (simp flat (omega zs))

      pub fresh-handed : Handed (rules_of v) (working_weight (rules_of v)) v k
      fresh-handed = rw (e, f) (working-handed (coherent c.rulebook) first-left)

      pub carried-handed : carry_out (rules_of u) u ≡ false → Handed (rules_of u) (working_weight (rules_of u)) u l
      carried-handed = rw (d, g) (λ o.
          handed-left c i (carry_after c i w₀ w) h.now.shape inside several (working_weight (rules_of c)) h.now
          ((not-not-iff (within_z (minus (rules_of c).carried) (pos (rules_of c).carried) (carry_after c i w₀ w))).0
          (false-is (carry_out (rules_of c) (carried_case c i w₀ w)) o)))

      pub same-long : length k ≡ length l
      same-long =
          let now = handed-left c i (pos 0) h.now.shape inside several (working_weight (rules_of c)) h.now (simp flat (omega zs)) in
          rw (f, g) (first-left.long ∙ sym now.long)
