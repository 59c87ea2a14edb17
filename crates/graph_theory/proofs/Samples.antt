-- Samples of change 4: a chain whose ceiling pair rounds lower to the best total; one that is pressed, and whose ceiling is the greatest working
-- total but above every starting total; and four links with loops, where no press and no void line is left and no plan uses active combinations
-- only. Assumes nothing.
use Rattle.definitions.specs.declared.Refusal.{Refusal}
use mathlib.Core.Path.{◌≡◌, refl}
use mathlib.Core.Bool.{false, not}
use mathlib.Core.List.{List, [], ◌∷◌, ◌++◌, map}
use Prim.Native.Nat.{ℕ, zero, suc, ◌<◌}
use native.Mathlib.Omega.{arith}
use lib.IntN.{ℤ, pos}
use lib.Dec.{T, eqb, lit≤}
use Rattle.std.specs.Prelude.{if◌then◌else◌, Result, Ok}
use Rattle.integers.specs.Words.{all, any, choices, is_in, minus, greatest_of}
use Rattle.definitions.specs.declared.Case.{Case}
use Rattle.definitions.specs.declared.RunAnswer.{RunAnswer}
use Rattle.definitions.specs.Rules.{Rules, standard}
use Rattle.definitions.specs.Case.{values, scopes, at_used, objective, upper_bound, active, barred_weight}
use Rattle.definitions.specs.Consistency.{Family, Supported, others, supported}
use Rattle.definitions.specs.Engine.{NoPress, Next, engine_next, pairs_next, run}
use Rattle.definitions.specs.Graph.{is_acyclic}
use Rattle.definitions.specs.Samples.{Input, given, couple, zeros}
use Rattle.definitions.specs.Borders.{◌is◌, Hold}
use Rattle.definitions.proofs.Refutation.{supported-holds}

-- ---- chains, two channels

-- the greatest objective of all assignments with these weights
abbrev best : Input → List ℤ → ℤ
best i w = greatest_of (map (objective i.case w) (choices i.case.n (values i.case)))

-- four links, which weigh 2, 0 and 4, 0 and 2, 0 and 4, 0
abbrev shifted : Input
shifted =
    given 4 2 3 (0 ∷ 1 ∷ 2 ∷ []) (1 ∷ 2 ∷ 3 ∷ [])
    (pos 2 ∷ pos 0 ∷ pos 4 ∷ pos 0 ∷ pos 2 ∷ pos 0 ∷ pos 4 ∷ pos 0
    ∷ minus 1 ∷ pos 0 ∷ pos 0 ∷ minus 1 ∷ minus 3 ∷ pos 0 ∷ pos 0 ∷ minus 2 ∷ minus 3 ∷ zeros 3)

-- three links, which weigh 0, 2 and 4, 4 and 4, 0
abbrev pressed : Input
pressed =
    given 3 2 2 (0 ∷ 1 ∷ []) (1 ∷ 2 ∷ [])
    (pos 0 ∷ pos 2 ∷ pos 4 ∷ pos 4 ∷ pos 4 ∷ pos 0 ∷ pos 0 ∷ minus 2 ∷ pos 0 ∷ minus 4 ∷ minus 3 ∷ zeros 3)

-- links weigh 3, 0 and 2, barred
abbrev licensed : Input
licensed = couple (pos 3 ∷ pos 0 ∷ pos 2 ∷ barred_weight ∷ minus 9 ∷ pos 0 ∷ pos 0 ∷ minus 4 ∷ [])

-- how a run ends: its answer, its rounds, its upper bound, the greatest objective in its weights, and that in the starting weights
abbrev ends : (Rules → Case → List ℤ → Next) → Input → Result RunAnswer Refusal × ℕ × ℤ × ℤ × ℤ
ends next i =
    let u = run standard next i.case 9 i.weights in
    (u.answer, u.rounds, upper_bound i.case u.weights, best i u.weights, best i i.weights)

pub chains-end : Hold (
    -- two pair rounds, by which no objective changes; no press is left
    ends pairs_next shifted is (Ok RunAnswer.Settled, 2, pos 9, pos 9, pos 9)
    ∷ ends engine_next shifted is (Ok RunAnswer.Settled, 2, pos 9, pos 9, pos 9)
    -- no pair gains; one press
    ∷ ends pairs_next pressed is (Ok RunAnswer.Settled, 0, pos 10, pos 7, pos 7)
    ∷ ends engine_next pressed is (Ok RunAnswer.Settled, 1, pos 8, pos 8, pos 7)
    -- a pair round and a press, with a barred channel
    ∷ ends engine_next licensed is (Ok RunAnswer.Settled, 2, pos 2, pos 2, pos 2)
    ∷ []
    )
chains-end = refl

-- ---- four links of which every two are a pair, three channels, weights 0 but −1 for equal channels

abbrev unequal : List ℤ
unequal = minus 1 ∷ pos 0 ∷ pos 0 ∷ pos 0 ∷ minus 1 ∷ pos 0 ∷ pos 0 ∷ pos 0 ∷ minus 1 ∷ []

abbrev full : Input
full =
    given 4 3 6 (0 ∷ 0 ∷ 0 ∷ 1 ∷ 1 ∷ 2 ∷ []) (1 ∷ 2 ∷ 3 ∷ 2 ∷ 3 ∷ 3 ∷ [])
    (zeros 12 ++ unequal ++ unequal ++ unequal ++ unequal ++ unequal ++ unequal)

abbrev c : Case
c = full.case

abbrev w : List ℤ
w = full.weights

pub four-loops : is_acyclic c ≡ false
four-loops = refl

-- channel 0 for one link, 1 and 2 for the others
abbrev left : ℕ → Family
left i j v = if eqb j i then eqb v 0 else not (eqb v 0)

left-supported : (i : ℕ) → T (active c w i 0 0) → T (supported c w (is_in (others c i)) i 0 (left i))
    → (k : ℕ) × (k < c.d) × T (active c w i k 0) × (S : Family) × Supported c w (is_in (others c i)) i k S
left-supported i a t = (0, lit≤ tt, a, left i, supported-holds c w (is_in (others c i)) i 0 (left i) t)

pub four-settled : NoPress c w
four-settled zero h = left-supported 0 tt tt
four-settled (suc zero) h = left-supported 1 tt tt
four-settled (suc (suc zero)) h = left-supported 2 tt tt
four-settled (suc (suc (suc zero))) h = left-supported 3 tt tt
four-settled (suc (suc (suc (suc i)))) h = absurd (omega arith)

pub four-apart : any (λ p. all (λ x. at_used c p x (active c w x)) (scopes c)) (choices 4 (values c)) ≡ false
four-apart = refl
