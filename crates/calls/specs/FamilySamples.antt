-- Samples of the call that shows why a value was kept (document 02, change 3), in tables as those of Borders. Assumes nothing.
use Rattle.std.specs.Prelude.{refl, List, [], ◌∷◌, ◌++◌, ℕ, ◌+◌, ℤ, pos, drop, replicate}
use Rattle.integers.specs.Words.{minus, bits_of}
use Rattle.definitions.specs.Rules.{standard}
use Rattle.definitions.specs.Answers.{Says, figure_says}
use Rattle.definitions.specs.Samples.{Input, given, with_table, triangle, couple, clash, example2, single, zeros}
use Rattle.definitions.specs.Borders.{◌is◌, Hold, no, value, W, triangle_from}
use Rattle.definitions.specs.BarredBorders.{B, locked}
use Rattle.calls.specs.Calls.{FamilyCall, supported_value_call}

-- what is said, and what the lent family and partners hold, of which every byte was 7
abbrev Told : Type 0
Told = Says × List ℕ × List ℕ

abbrev told : FamilyCall → Told
told q = (figure_says q.answer, q.family, q.partners)

abbrev sevens : ℕ → List ℕ
sevens n = replicate n 7

-- with so many bytes lent
abbrev lent : Input → ℕ → ℕ → ℕ → Told
lent i v family partners = told (supported_value_call standard i.case i.weights v (sevens family) (sevens partners))

-- refused: nothing is written
abbrev refused : ℕ → ℕ → ℕ → Told
refused x family partners = (no x, sevens family, sevens partners)

-- the value k with its family and partners, and bytes past them that stay
abbrev shown : ℕ → List ℕ → List ℕ → Told
shown k family partners = (value (pos k), family, partners)

-- a value outside the family
abbrev o : ℕ
o = 255

-- the triangle of P1 after its round, and the couple of P4 after its pair round
abbrev settled_triangle : Input
settled_triangle = given 3 2 3 (0 ∷ 0 ∷ 1 ∷ []) (1 ∷ 2 ∷ 2 ∷ []) (minus 1 ∷ minus 1 ∷ zeros 16)

abbrev settled_clash : Input
settled_clash = couple (zeros 4 ++ (pos 1 ∷ pos 2 ∷ pos 2 ∷ pos 0 ∷ []))

-- a chain of three whose upper pair has value 1 of the middle link only
abbrev chain : List ℤ → Input
chain w = given 3 2 2 (0 ∷ 1 ∷ []) (1 ∷ 2 ∷ []) w

abbrev narrow : Input
narrow = chain (zeros 10 ++ (minus 1 ∷ minus 1 ∷ pos 0 ∷ pos 0 ∷ []))

-- two links that differ, and a third without an edge
abbrev crossed : Input
crossed = given 3 2 1 (0 ∷ []) (1 ∷ []) (zeros 6 ++ (minus 1 ∷ pos 0 ∷ pos 0 ∷ minus 1 ∷ []))

-- a barred channel of link 0, and with the other one a barred channel of link 1
abbrev licensed : Input
licensed = couple (pos 0 ∷ B ∷ pos 0 ∷ pos 0 ∷ B ∷ zeros 3)

-- ---- values, families and partners

pub families :
    Hold
    ( -- every family together, not one of them: each value of links 1 and 2 is in some
    lent settled_triangle 0 3 12 is shown 0 (1 ∷ 3 ∷ 3 ∷ []) (0 ∷ o ∷ 0 ∷ 0 ∷ 0 ∷ o ∷ 0 ∷ 0 ∷ 0 ∷ 0 ∷ 0 ∷ 0 ∷ [])
    ∷ lent settled_triangle 1 3 12 is shown 0 (3 ∷ 1 ∷ 3 ∷ []) (0 ∷ 0 ∷ 0 ∷ o ∷ 0 ∷ 0 ∷ 0 ∷ 0 ∷ 0 ∷ o ∷ 0 ∷ 0 ∷ [])
    ∷ lent settled_triangle 2 3 12 is shown 0 (3 ∷ 3 ∷ 1 ∷ []) (0 ∷ 0 ∷ 0 ∷ 0 ∷ 0 ∷ 0 ∷ 0 ∷ o ∷ 0 ∷ 0 ∷ 0 ∷ o ∷ [])
    -- by edge, end, value
    ∷ lent settled_clash 0 2 4 is shown 0 (1 ∷ 2 ∷ []) (1 ∷ o ∷ o ∷ 0 ∷ []) ∷ lent settled_clash 1 2 4 is shown 0 (2 ∷ 1 ∷ []) (o ∷ 0 ∷ 1 ∷ o ∷ [])
    -- value 0 is not active
    ∷ lent example2 0 2 4 is shown 1 (2 ∷ 1 ∷ []) (o ∷ 0 ∷ 1 ∷ o ∷ []) ∷ lent example2 1 2 4 is shown 0 (2 ∷ 1 ∷ []) (o ∷ 0 ∷ 1 ∷ o ∷ [])
    -- the partner in the final family is 1: value 0 of link 1 is active, allowed with value 0 of link 0, and in no family
    ∷ lent narrow 0 3 8 is shown 0 (1 ∷ 2 ∷ 3 ∷ []) (1 ∷ o ∷ o ∷ 0 ∷ o ∷ 0 ∷ 1 ∷ 1 ∷ [])
    -- value 0 is active and refuted
    ∷ lent narrow 1 3 8 is shown 1 (3 ∷ 2 ∷ 3 ∷ []) (1 ∷ 1 ∷ o ∷ 0 ∷ o ∷ 0 ∷ 1 ∷ 1 ∷ [])
    ∷ lent narrow 2 3 8 is shown 0 (3 ∷ 2 ∷ 1 ∷ []) (1 ∷ 1 ∷ o ∷ 0 ∷ o ∷ 0 ∷ 1 ∷ o ∷ [])
    -- both values of link 1 are in the family, and each is allowed with the other value of link 0 only
    ∷ lent crossed 2 3 4 is shown 0 (3 ∷ 3 ∷ 1 ∷ []) (1 ∷ 0 ∷ 1 ∷ 0 ∷ [])
    -- barred
    ∷ lent licensed 0 2 4 is shown 0 (1 ∷ 2 ∷ []) (1 ∷ o ∷ o ∷ 0 ∷ []) ∷ lent licensed 1 2 4 is shown 1 (1 ∷ 2 ∷ []) (1 ∷ o ∷ o ∷ 0 ∷ [])
    -- no edges; one value
    ∷ lent single 0 1 0 is shown 0 (1 ∷ []) [] ∷ lent (given 2 2 0 [] [] (pos 0 ∷ pos 1 ∷ pos 1 ∷ pos 1 ∷ [])) 0 2 0 is shown 1 (2 ∷ 3 ∷ []) []
    ∷ lent (given 2 1 1 (0 ∷ []) (1 ∷ []) (zeros 3)) 1 2 2 is shown 0 (1 ∷ 1 ∷ []) (0 ∷ 0 ∷ [])
    -- lent longer: what lies past stays
    ∷ lent settled_clash 0 4 5 is shown 0 (1 ∷ 2 ∷ 7 ∷ 7 ∷ []) (1 ∷ o ∷ o ∷ 0 ∷ 7 ∷ []) ∷ lent single 0 1 2 is shown 0 (1 ∷ []) (7 ∷ 7 ∷ [])
    ∷ [])
unfolding supported_value_call bits_of
families = refl

-- ---- the numbers

pub numbers :
    let great : ℤ → Input = λ z. couple (zeros 2 ++ (z ∷ pos 0 ∷ minus 1 ∷ pos 0 ∷ pos 0 ∷ minus 1 ∷ [])) in
    let closed : Input = record { case = triangle.case; weights = B ∷ B ∷ drop 2 triangle.weights } in
    Hold
    ( -- no such value: every active value of the link is refuted
    lent triangle 0 3 12 is refused 5 3 12 ∷ lent triangle 1 3 12 is refused 5 3 12 ∷ lent triangle 2 3 12 is refused 5 3 12
    ∷ lent clash 0 2 4 is refused 5 2 4 ∷ lent locked 0 2 4 is refused 5 2 4
    -- 3, before 4
    ∷ lent (given 0 2 0 [] [] []) 0 1 0 is refused 3 1 0 ∷ lent (with_table (given 1 9 0 [] [] []) (zeros 8)) 0 0 0 is refused 3 0 0
    -- 4, before 5
    ∷ lent settled_clash 0 1 4 is refused 4 1 4 ∷ lent settled_clash 0 2 3 is refused 4 2 3 ∷ lent settled_clash 2 2 3 is refused 4 2 3
    ∷ lent (with_table clash (zeros 479)) 0 2 4 is refused 4 2 4 ∷ lent (with_table clash (zeros 481)) 0 2 4 is refused 4 2 4
    ∷ lent (with_table clash (zeros 8)) 0 2 4 is refused 4 2 4
    -- 5 of the link and of an edge's end, before 6 and before 8
    ∷ lent settled_clash 2 2 4 is refused 5 2 4 ∷ lent (given 2 2 1 (1 ∷ []) (0 ∷ []) (zeros 8)) 2 2 4 is refused 5 2 4
    ∷ lent (given 2 2 1 (0 ∷ []) (2 ∷ []) (zeros 8)) 0 2 4 is refused 5 2 4 ∷ lent (great (pos (W + 1))) 2 2 4 is refused 5 2 4
    -- 6, 7
    ∷ lent (given 2 2 1 (1 ∷ []) (0 ∷ []) (zeros 8)) 0 2 4 is refused 6 2 4
    ∷ lent (given 2 1 2 (0 ∷ 0 ∷ []) (1 ∷ 1 ∷ []) (zeros 4)) 0 2 4 is refused 7 2 4
    -- 8 by the working range, and 15: both before no such value
    ∷ lent (great (pos W)) 0 2 4 is shown 1 (2 ∷ 1 ∷ []) (o ∷ 0 ∷ 1 ∷ o ∷ []) ∷ lent (great (pos (W + 1))) 0 2 4 is refused 8 2 4
    ∷ lent (triangle_from (pos (W + 1))) 0 3 12 is refused 8 3 12 ∷ lent closed 0 3 12 is refused 15 3 12
    ∷ [])
unfolding supported_value_call bits_of
numbers = refl
