-- Samples of "the pairs form no loop" (document 02, change 4): what is connected, and which cases have no loop, as tables; a walk that shows a
-- loop, and none over no edge. Assumes nothing.
use Rattle.std.specs.Prelude.{refl, true, false, List, [], ◌∷◌, ℕ, zero, suc, T, eqb, length}
use Rattle.std.proofs.Common.{arith, lit≤}
use Rattle.std.proofs.Math.Dec.{eqb_refl}
use Rattle.integers.specs.Words.{below}
use Rattle.definitions.specs.declared.Case.{Case}
use Rattle.definitions.specs.Graph.{Connected, Acyclic, other_edges, connected, is_acyclic}
use Rattle.definitions.specs.Samples.{given, triangle}
use Rattle.definitions.specs.Borders.{◌is◌, Hold}

-- so many links, and pairs by their lower and upper ends
abbrev net : ℕ → List ℕ → List ℕ → Case
net n lower upper = (given n 1 (length lower) lower upper []).case

-- 0 - 1 - 2 - 3, the pair in the middle first
abbrev chain : Case
chain = net 4 (1 ∷ 0 ∷ 2 ∷ []) (2 ∷ 1 ∷ 3 ∷ [])

-- link 2 with links 0, 1, 3 and 4
abbrev star : Case
star = net 5 (0 ∷ 1 ∷ 2 ∷ 2 ∷ []) (2 ∷ 2 ∷ 3 ∷ 4 ∷ [])

-- 0 - 2 and 1 - 3 - 4, and link 5 alone
abbrev apart : Case
apart = net 6 (0 ∷ 1 ∷ 3 ∷ []) (2 ∷ 3 ∷ 4 ∷ [])

-- 0 - 1 - 3 - 2 - 0: two pairs apart first, then the two that join them
abbrev ring : Case
ring = net 4 (0 ∷ 2 ∷ 0 ∷ 1 ∷ []) (1 ∷ 3 ∷ 2 ∷ 3 ∷ [])

-- 0 - 1 - 2 - 0, and 3 - 4 beside it
abbrev beside : Case
beside = net 5 (3 ∷ 0 ∷ 0 ∷ 1 ∷ []) (4 ∷ 1 ∷ 2 ∷ 2 ∷ [])

-- a branch with a loop at its end: 0 - 1 - 2, 2 - 3 - 4 - 2
abbrev lasso : Case
lasso = net 5 (0 ∷ 1 ∷ 2 ∷ 3 ∷ 2 ∷ []) (1 ∷ 2 ∷ 3 ∷ 4 ∷ 4 ∷ [])

-- every two of four links
abbrev full : Case
full = net 4 (0 ∷ 0 ∷ 0 ∷ 1 ∷ 1 ∷ 2 ∷ []) (1 ∷ 2 ∷ 3 ∷ 2 ∷ 3 ∷ 3 ∷ [])

pub loops : Hold (
    is_acyclic chain is true
    ∷ is_acyclic star is true
    ∷ is_acyclic apart is true
    ∷ is_acyclic (net 1 [] []) is true
    ∷ is_acyclic (net 3 [] []) is true
    ∷ is_acyclic (net 2 (0 ∷ []) (1 ∷ [])) is true
    ∷ is_acyclic triangle.case is false
    ∷ is_acyclic ring is false
    ∷ is_acyclic beside is false
    ∷ is_acyclic lasso is false
    ∷ is_acyclic full is false
    ∷ []
    )
loops = refl

-- by some edges, in any order of them, either way; a link by itself
pub walks : Hold (
    connected chain (below 3) 0 3 is true
    ∷ connected chain (below 3) 3 0 is true
    ∷ connected chain (2 ∷ 0 ∷ 1 ∷ []) 0 3 is true
    ∷ connected chain (1 ∷ 2 ∷ []) 0 3 is false
    ∷ connected chain (1 ∷ 2 ∷ []) 0 1 is true
    ∷ connected chain (1 ∷ 2 ∷ []) 3 2 is true
    ∷ connected chain [] 2 2 is true
    ∷ connected chain [] 2 3 is false
    ∷ connected apart (below 3) 1 4 is true
    ∷ connected apart (below 3) 0 1 is false
    ∷ connected apart (below 3) 5 5 is true
    ∷ connected apart (below 3) 4 5 is false
    ∷ connected triangle.case (other_edges triangle.case 0) 0 1 is true
    ∷ connected triangle.case (other_edges triangle.case 1) 0 2 is true
    ∷ connected triangle.case (other_edges triangle.case 2) 1 2 is true
    ∷ connected chain (other_edges chain 0) 1 2 is false
    ∷ []
    )
walks = refl

-- a loop of three: from link 1 down pair 0 to link 0, up pair 1 to link 2
pub ring-found : Acyclic triangle.case → ⊥
ring-found none = none 2 (lit≤ tt) (Connected.down 0 tt (Connected.up 1 tt Connected.here))

-- a pair alone is no loop: there is no walk over no pair
nowhere : {c : Case} {i j : ℕ} → Connected c [] i j → T (eqb i j)
nowhere (Connected.here {i = i}) = eqb_refl i
nowhere (Connected.up e m w) = elim m [ ]
nowhere (Connected.down e m w) = elim m [ ]

pub pair-alone : Acyclic (net 2 (0 ∷ []) (1 ∷ []))
pair-alone zero h w = nowhere w
pair-alone (suc e) h w = absurd (omega arith)
