-- The first number that passes, and the lowest variable by narrowed sets. Assumes nothing.
use mathlib.Core.Path.{◌≡◌, sym, ap, subst, ◌∙◌}
use mathlib.Core.Bool.{Bool, true, false}
use mathlib.Core.Logic.{⊎_elim}
use mathlib.Core.List.{List, ◌∷◌, ◌++◌}
use Prim.Native.Nat.{ℕ, suc, ◌+◌, ◌-◌, ◌<◌}
use native.Mathlib.Omega.{arith}
use lib.Dec.{T, not_T, eqb, eqb→eq}
use lib.ListN.{length, get_or}
use Rattle.std.specs.Prelude.{if◌then◌else◌, Some, None}
use Rattle.integers.specs.Words.{from, below, any, those, first}
use Rattle.integers.specs.Tests.{either, not-eqb-iff}
use Rattle.integers.specs.Lists.{from-split, those-append, those-none, those-same, any_at}
use Rattle.arcs.specs.Closure.{closure_sets}
use Rattle.choice.specs.Choice.{says_unsupported, unsupported_in, lowest_unsupported}
use Rattle.choice.proofs.Narrowed.{narrowed-length, tried-narrowed}

pub first-is : (f : ℕ → Bool) (n i : ℕ) → i < n → f i ≡ true → ((j : ℕ) → j < i → f j ≡ false) → first (those f (below n)) ≡ Some i
first-is f n i h e less =
    let k : n ≡ i + suc (n - suc i) = omega arith in
    let z : 0 + i ≡ i = omega arith in
    ap (λ (m : ℕ). first (those f (below m))) k
    ∙ ap (λ (l : List ℕ). first (those f l)) (from-split 0 i (suc (n - suc i)))
    ∙ ap first (those-append f (below i) (from (0 + i) (suc (n - suc i))))
    ∙ ap (λ (l : List ℕ). first (l ++ those f (from (0 + i) (suc (n - suc i)))))
    (those-none f (below i) (not_T (any f (below i)) (λ t. let (j, g, s) = any_at f i t in subst T (less j g) s)))
    ∙ ap (λ (m : ℕ). first (those f (from m (suc (n - suc i))))) z
    ∙ ap (λ (b : Bool). first (if b then i ∷ those f (from (suc i) (n - suc i)) else those f (from (suc i) (n - suc i)))) e

pub first-nothing : (f : ℕ → Bool) (n : ℕ) → ((j : ℕ) → j < n → f j ≡ false) → first (those f (below n)) ≡ None
first-nothing f n less = ap first (those-none f (below n) (not_T (any f (below n)) (λ t. let (j, g, s) = any_at f n t in subst T (less j g) s)))

pub passed-more : (f : ℕ → Bool) (i : ℕ) → ((j : ℕ) → j < i → f j ≡ false) → f i ≡ false → (j : ℕ) → j < i + 1 → f j ≡ false
passed-more f i less e j h = ⊎_elim
    (λ t. subst (λ (k : ℕ). f k ≡ false) (sym (eqb→eq j i t)) e)
    (λ t. less j (omega (arith, (not-eqb-iff j i).0 t)))
    (either (eqb j i))

-- narrowed sets
pub lowest-narrowed : (lower upper acts rows edges S : List ℕ)
    → lowest_unsupported lower upper acts rows edges (closure_sets lower upper rows edges S) ≡ lowest_unsupported lower upper acts rows edges S
lowest-narrowed lower upper acts rows edges S =
    ap (λ (n : ℕ). first (those (unsupported_in lower upper acts rows edges (closure_sets lower upper rows edges S)) (below n)))
    (narrowed-length lower upper rows edges S)
    ∙ ap first (those-same (length S) (λ i h. ap says_unsupported (tried-narrowed lower upper rows edges S i (get_or acts i 0) h)))
