-- Bytes for raised scopes and allowed values: one scope raised or lowered, and raised scopes that are alike. Assumes nothing.
use mathlib.Core.Path.{◌≡◌, refl, sym, ap, subst, ◌∙◌}
use mathlib.Core.Bool.{Bool, not}
use mathlib.Core.Logic.{◌≢◌, ⊎_elim}
use mathlib.Core.List.{List}
use Prim.Native.Nat.{ℕ, ◌+◌, ◌≤◌, ◌<◌}
use native.Mathlib.Omega.{arith}
use lib.IntN.{ℤ}
use lib.Dec.{eqb, eqb→eq}
use lib.ListN.{length, get_or, set, replicate, get_or-replicate}
use lib.Seq.{get_or-set_same, get_or-set_other}
use Rattle.std.specs.Prelude.{if◌then◌else◌}
use Rattle.integers.specs.Words.{◌⇒◌}
use Rattle.integers.specs.Tests.{either, not-eqb-iff}
use Rattle.integers.specs.Lists.{all_same}
use Rattle.definitions.specs.declared.Case.{Case}
use Rattle.definitions.specs.Rules.{scope_places}
use Rattle.definitions.specs.Case.{scope_count}
use Rattle.definitions.specs.Consistency.{all_refuted}
use Rattle.definitions.specs.Moves.{active_values}
use Rattle.definitions.proofs.Refutation.{refuted-same}
use Rattle.calls.specs.Calls.{is_raised}
use Rattle.marks.specs.Marks.{full_of}
use Rattle.arcs.specs.Active.{active_set}
use Rattle.engine.specs.Search.{ActiveIn, Allowing, AllRaised}

module _ (raised : List ℕ) (x b : ℕ) where
  pub raised-here : x < length raised → is_raised (set raised x b) x ≡ not (eqb b 0)
  raised-here h = ap (λ (n : ℕ). not (eqb n 0)) (get_or-set_same raised x b 0 h)

  pub raised-elsewhere : (y : ℕ) → y ≢ x → is_raised (set raised x b) y ≡ is_raised raised y
  raised-elsewhere y ne = ap (λ (n : ℕ). not (eqb n 0)) (get_or-set_other raised x y b 0 ne)

-- raised scopes count only by what they are at the case's scopes
pub refutes-alike : (c : Case) (w : List ℤ) {R Q : ℕ → Bool} → ((x : ℕ) → x < scope_count c → R x ≡ Q x) → (i : ℕ)
    → all_refuted c w R i (active_values c w i) ≡ all_refuted c w Q i (active_values c w i)
refutes-alike c w {R} {Q} same i = all_same c.d (λ k h. ap (λ (b : Bool). active_values c w i k ⇒ b) (refuted-same c w w R Q i k (λ p g. refl) same))

-- ---- bytes written one by one

pub filled_more : (f : ℕ → ℕ) (S : List ℕ) (j : ℕ) → j < length S → ((k : ℕ) → k < j → get_or S k 0 ≡ f k)
    → (k : ℕ) → k < j + 1 → get_or (set S j (f j)) k 0 ≡ f k
filled_more f S j h e k g = ⊎_elim
    (λ t. subst (λ (i : ℕ). get_or (set S j (f j)) i 0 ≡ f i) (sym (eqb→eq k j t)) (get_or-set_same S j (f j) 0 h))
    (λ t. let ne = (not-eqb-iff k j).0 t in get_or-set_other S j k (f j) 0 ne ∙ e k (omega arith))
    (either (eqb k j))

-- with all scopes raised, the active values are the allowed ones
pub allowing-all : (c : Case) (w : List ℤ) (acts raised sets : List ℕ) → ActiveIn c w acts → ((j : ℕ) → j < c.n → get_or sets j 0 ≡ get_or acts j 0)
    → AllRaised c raised → Allowing c w (is_raised raised) sets
allowing-all c w acts raised sets a f all j h = f j h ∙ a j h ∙ sym (ap (λ (b : Bool). if b then active_set c w j else full_of c.d) (all j (omega arith)))

-- what is not raised is left out
pub lowered-more : (raised S : List ℕ) (j v : ℕ) → j < length S → ((y : ℕ) → y < j → get_or raised y 0 ≡ 0 → get_or S y 0 ≡ 0) → (get_or raised j 0 ≡ 0 → v ≡ 0)
    → (y : ℕ) → y < j + 1 → get_or raised y 0 ≡ 0 → get_or (set S j v) y 0 ≡ 0
lowered-more raised S j v h f e y g z = ⊎_elim
    (λ t.
    let q : y ≡ j = eqb→eq y j t in
    subst (λ (k : ℕ). get_or (set S j v) k 0 ≡ 0) (sym q) (get_or-set_same S j v 0 h ∙ e (subst (λ (k : ℕ). get_or raised k 0 ≡ 0) q z)))
    (λ t. let ne = (not-eqb-iff y j).0 t in get_or-set_other S j y v 0 ne ∙ f y (omega arith) z)
    (either (eqb y j))

pub ones-raised : (c : Case) → scope_count c ≤ scope_places → AllRaised c (replicate scope_places 1)
ones-raised c h y g = ap (λ (n : ℕ). not (eqb n 0)) (get_or-replicate scope_places y 1 0 (omega arith))
