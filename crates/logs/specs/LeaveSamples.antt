-- Samples of a link that leaves, and of the two tables that are lent together (document 02, change 5), in tables as those of Borders. Assumes
-- nothing.
use Rattle.std.specs.Prelude.{refl, Bool, true, false, List, [], ◌∷◌, ◌++◌, map, ℕ, ◌-◌, ℤ, pos, length, take, replicate}
use Rattle.integers.specs.Words.{from, joined, minus}
use Rattle.definitions.specs.declared.Case.{Case}
use Rattle.definitions.specs.Rules.{standard}
use Rattle.definitions.specs.Refusals.{number_of, first_refusal}
use Rattle.definitions.specs.Valid.{both_handed_over}
use Rattle.definitions.specs.Lines.{line}
use Rattle.logs.specs.Leave.{case_without, table_without, carry_after, restarts, leave_tests, WeightedCase, left_by}
use Rattle.definitions.specs.Samples.{Input, full, given, with_table, own, own_weights, triangle, couple, clash, single, zeros}
use Rattle.definitions.specs.Borders.{◌is◌, Hold, W, edges}
use Rattle.definitions.specs.BarredBorders.{B}
use Rattle.definitions.specs.LengthBorders.{put_at, carrying, C, C1, small, crowd}

-- ---- what is told of a case and its tables

-- links, values, pairs, all places for the pairs' ends, and the carry
abbrev pub ToldCase : Type 0
ToldCase = ℕ × ℕ × ℕ × List ℕ × List ℕ × ℤ

abbrev pub told_case : Case → ToldCase
told_case c = (c.n, c.d, c.m, c.lower, c.upper, c.carry)

-- a case of these pairs, and 0 in the other places for ends
abbrev pub paired : ℕ → ℕ → List ℕ → List ℕ → ℤ → ToldCase
paired n d lower upper carry =
    let ends : List ℕ → List ℕ = λ xs. xs ++ replicate (96 - length xs) 0 in
    (n, d, length lower, ends lower, ends upper, carry)

-- the case, and the weights of both tables at its own places; none where a table is not as number 4 asks
abbrev pub Told : Type 0
Told = ToldCase × List ℤ × List ℤ

abbrev pub told : WeightedCase → Told
told q = (told_case q.case, own q.case q.starting, own q.case q.weights)

-- ---- what goes and what stays: "higher links and pairs move down"

-- four links, D 1, five pairs in no order; link j weighs 10 + j, pair e 20 + e
abbrev five : Input
five = given 4 1 5 (1 ∷ 0 ∷ 2 ∷ 0 ∷ 1 ∷ []) (3 ∷ 1 ∷ 3 ∷ 3 ∷ 2 ∷ []) (map pos (from 10 4 ++ from 20 5))

-- a case with the weights 0, 1, 2, .. in the order of the table
abbrev counted : ℕ → Input → Input
counted n i = with_table i (full i.case.d (map pos (from 0 n)))

pub stays :
    let without : Input → ℕ → ToldCase × List ℤ =
    λ i j. let c : Case = case_without i.case j (pos 9) in (told_case c, own c (table_without i.case j i.weights))
    in
    let stay : ℕ → ℕ → List ℕ → List ℕ → List ℕ → ToldCase × List ℤ = λ n d lower upper w. (paired n d lower upper (pos 9), map pos w) in
    Hold
    ( -- the first link, two that are the lower end of some pairs and the upper end of others, and the last
    without five 0 is stay 3 1 (0 ∷ 1 ∷ 0 ∷ []) (2 ∷ 2 ∷ 1 ∷ []) (11 ∷ 12 ∷ 13 ∷ 20 ∷ 22 ∷ 24 ∷ [])
    ∷ without five 1 is stay 3 1 (1 ∷ 0 ∷ []) (2 ∷ 2 ∷ []) (10 ∷ 12 ∷ 13 ∷ 22 ∷ 23 ∷ [])
    ∷ without five 2 is stay 3 1 (1 ∷ 0 ∷ 0 ∷ []) (2 ∷ 1 ∷ 2 ∷ []) (10 ∷ 11 ∷ 13 ∷ 20 ∷ 21 ∷ 23 ∷ [])
    ∷ without five 3 is stay 3 1 (0 ∷ 1 ∷ []) (1 ∷ 2 ∷ []) (10 ∷ 11 ∷ 12 ∷ 21 ∷ 24 ∷ [])
    -- the carry of the case is not looked at
    ∷ without (carrying (pos 5) five) 3 is stay 3 1 (0 ∷ 1 ∷ []) (1 ∷ 2 ∷ []) (10 ∷ 11 ∷ 12 ∷ 21 ∷ 24 ∷ [])
    -- D 2: two links become one, whichever leaves; three in a ring become a pair
    ∷ without (counted 8 clash) 0 is stay 1 2 [] [] (2 ∷ 3 ∷ []) ∷ without (counted 8 clash) 1 is stay 1 2 [] [] (0 ∷ 1 ∷ [])
    ∷ without (counted 18 triangle) 0 is stay 2 2 (0 ∷ []) (1 ∷ []) (from 2 4 ++ from 14 4)
    ∷ without (counted 18 triangle) 1 is stay 2 2 (0 ∷ []) (1 ∷ []) (from 0 2 ++ from 4 2 ++ from 10 4)
    ∷ without (counted 18 triangle) 2 is stay 2 2 (0 ∷ []) (1 ∷ []) (from 0 4 ++ from 6 4)
    -- no pairs; no pair of the leaving link; all pairs of the leaving link
    ∷ without (counted 3 (given 3 1 0 [] [] [])) 1 is stay 2 1 [] [] (0 ∷ 2 ∷ [])
    ∷ without (counted 4 (given 3 1 1 (0 ∷ []) (2 ∷ []) [])) 1 is stay 2 1 (0 ∷ []) (1 ∷ []) (0 ∷ 2 ∷ 3 ∷ [])
    ∷ without (counted 5 (given 3 1 2 (0 ∷ 0 ∷ []) (1 ∷ 2 ∷ []) [])) 0 is stay 2 1 [] [] (1 ∷ 2 ∷ [])
    ∷ without (counted 5 (given 3 1 2 (0 ∷ 1 ∷ []) (2 ∷ 2 ∷ []) [])) 2 is stay 2 1 [] [] (0 ∷ 1 ∷ [])
    -- D 8, pairs (0,1), (1,2)
    ∷ without (counted 152 (given 3 8 2 (0 ∷ 1 ∷ []) (1 ∷ 2 ∷ []) [])) 0 is stay 2 8 (0 ∷ []) (1 ∷ []) (from 8 16 ++ from 88 64)
    -- a full case: the last link has two pairs, the first three
    ∷ without (counted 144 (crowd 96)) 47 is
    stay 47 1 (from 0 46 ++ from 0 45 ++ from 0 3) (from 1 46 ++ from 2 45 ++ from 3 3) (from 0 47 ++ from 48 46 ++ from 95 45 ++ from 141 3)
    ∷ without (counted 144 (crowd 96)) 0 is
    stay 47 1 (from 0 46 ++ from 0 45 ++ from 0 2) (from 1 46 ++ from 2 45 ++ from 3 2) (from 1 47 ++ from 49 46 ++ from 96 45 ++ from 142 2)
    ∷ [])
stays = refl

-- ---- the carry

-- Three links, D 2, pairs (0,1), (1,2), with starting weights and with working weights. The greatest working weights of the scopes that leave with
-- link 0 are 2, 9 and their least starting weights 1, 1; with link 1 4, 9, 6 and −2, 1, −5; with link 2 1, 6 and 0, −5.
abbrev path : Input
path =
    given 3 2 2 (0 ∷ 1 ∷ []) (1 ∷ 2 ∷ [])
    (pos 3 ∷ pos 1 ∷ pos 5 ∷ minus 2 ∷ pos 0 ∷ pos 4
    ∷ pos 1 ∷ pos 2 ∷ pos 3 ∷ pos 4 ∷ minus 1 ∷ minus 5 ∷ pos 0 ∷ pos 7 ∷ [])

abbrev worked : Input
worked =
    with_table path (full 2
    (pos 2 ∷ pos 2 ∷ pos 4 ∷ pos 0 ∷ pos 1 ∷ pos 1
    ∷ pos 0 ∷ pos 9 ∷ minus 3 ∷ pos 2 ∷ pos 6 ∷ minus 8 ∷ pos 5 ∷ pos 5 ∷ []))

pub carries :
    let after : ℤ → ℕ → ℤ = λ z j. carry_after (carrying z path).case j path.weights worked.weights in
    let steep : ℤ → ℤ = λ z. let i : Input = carrying z small in carry_after i.case 1 i.weights (full 1 (pos 1 ∷ minus 4 ∷ minus 5 ∷ [])) in
    Hold
    (after (pos 0) 0 is pos 9 ∷ after (pos 0) 1 is pos 25 ∷ after (pos 0) 2 is pos 12
    ∷ after (pos 100) 0 is pos 109 ∷ after (minus 100) 0 is minus 91 ∷ after (minus 100) 1 is minus 75 ∷ after (minus 12) 2 is pos 0
    -- it may fall: by −4 − 2 and −5 − 3
    ∷ steep (pos 0) is minus 14 ∷ steep (pos 20) is pos 6
    -- with no work done it grows by how far each scope's weights lie apart
    ∷ carry_after path.case 1 path.weights path.weights is pos 22 ∷ carry_after small.case 0 small.weights small.weights is pos 0
    ∷ [])
carries = refl

-- ---- "Work restarts": each reason alone, and none

-- link j leaves: what is left, and whether work restarts, with the starting weights of i and the working weights of v
abbrev leaves : Input → Input → ℕ → Told
leaves i v j = told (left_by standard i.case j i.weights v.weights)

abbrev starts : Input → Input → ℕ → Bool
starts i v j = restarts standard i.case j i.weights v.weights

-- The fresh ceiling against the one with the carry: without link 0 16 against 20 plus the carry before, without link 1 7 against 28 plus it, without
-- link 2 12 against 27 plus it.
pub fresh-ceilings :
    let by : ℤ → ℕ → Told = λ z j. leaves (carrying z path) worked j in
    let s0 : List ℤ = pos 5 ∷ minus 2 ∷ pos 0 ∷ pos 4 ∷ minus 1 ∷ minus 5 ∷ pos 0 ∷ pos 7 ∷ [] in
    let w0 : List ℤ = pos 4 ∷ pos 0 ∷ pos 1 ∷ pos 1 ∷ pos 6 ∷ minus 8 ∷ pos 5 ∷ pos 5 ∷ [] in
    let s1 : List ℤ = pos 3 ∷ pos 1 ∷ pos 0 ∷ pos 4 ∷ [] in
    let w1 : List ℤ = pos 2 ∷ pos 2 ∷ pos 1 ∷ pos 1 ∷ [] in
    let s2 : List ℤ = pos 3 ∷ pos 1 ∷ pos 5 ∷ minus 2 ∷ pos 1 ∷ pos 2 ∷ pos 3 ∷ pos 4 ∷ [] in
    let w2 : List ℤ = pos 2 ∷ pos 2 ∷ pos 4 ∷ pos 0 ∷ pos 0 ∷ pos 9 ∷ minus 3 ∷ pos 2 ∷ [] in
    let coupled : ℤ → ToldCase = λ z. paired 2 2 (0 ∷ []) (1 ∷ []) z in
    Hold
    ( -- lower, equal, higher: the carry that is kept is positive, 0 and negative
    by (pos 0) 0 is (coupled (pos 0), s0, s0) ∷ by (pos 100) 0 is (coupled (pos 0), s0, s0) ∷ by (minus 4) 0 is (coupled (pos 0), s0, s0)
    ∷ by (minus 5) 0 is (coupled (pos 4), s0, w0) ∷ by (minus 9) 0 is (coupled (pos 0), s0, w0) ∷ by (minus 10) 0 is (coupled (minus 1), s0, w0)
    ∷ by (minus 21) 1 is (paired 2 2 [] [] (pos 0), s1, s1) ∷ by (minus 22) 1 is (paired 2 2 [] [] (pos 3), s1, w1)
    ∷ by (minus 15) 2 is (coupled (pos 0), s2, s2) ∷ by (minus 16) 2 is (coupled (minus 4), s2, w2)
    -- two links become one: link 0 of P5's case after the press grows the carry by 3; 2 against 5, and against 1 with a carry of −4 before
    ∷ leaves clash (couple (zeros 2 ++ (pos 2 ∷ pos 2 ∷ minus 1 ∷ zeros 3))) 0 is (paired 1 2 [] [] (pos 0), pos 2 ∷ pos 0 ∷ [], pos 2 ∷ pos 0 ∷ [])
    ∷ leaves (carrying (minus 4) clash) (couple (zeros 2 ++ (pos 2 ∷ pos 2 ∷ minus 1 ∷ zeros 3))) 0 is
    (paired 1 2 [] [] (minus 1), pos 2 ∷ pos 0 ∷ [], pos 2 ∷ pos 2 ∷ [])
    ∷ [])
fresh-ceilings = refl

-- P1's triangle with −a for −1, pressed by a, and two links beside it with the weights b, 0, which leave one after the other. With the carry the
-- ceiling stays 2b − a; the fresh one is b, and then 0.
abbrev hill : ℕ → ℕ → Input
hill a b =
    given 5 2 3 (0 ∷ 0 ∷ 1 ∷ []) (1 ∷ 2 ∷ 2 ∷ [])
    (zeros 6 ++ (pos b ∷ pos 0 ∷ pos b ∷ pos 0 ∷ []) ++ joined (replicate 3 (minus a ∷ pos 0 ∷ pos 0 ∷ minus a ∷ [])))

abbrev pressed : ℕ → ℕ → Input
pressed a b = with_table (hill a b) (full 2 (minus a ∷ minus a ∷ zeros 4 ++ (pos b ∷ pos 0 ∷ pos b ∷ zeros 13)))

pub carries-grow :
    let twice : ℕ → ℕ → Told × Told = λ a b.
    let q = left_by standard (hill a b).case 4 (hill a b).weights (pressed a b).weights in
    (told q, told (left_by standard q.case 3 q.starting q.weights))
    in
    let ring : ℕ → ℤ → ToldCase = λ n z. paired n 2 (0 ∷ 0 ∷ 1 ∷ []) (1 ∷ 2 ∷ 2 ∷ []) z in
    let pairs : ℕ → List ℤ = λ a. joined (replicate 3 (minus a ∷ pos 0 ∷ pos 0 ∷ minus a ∷ [])) in
    let s4 : ℕ → ℕ → List ℤ = λ a b. zeros 6 ++ (pos b ∷ pos 0 ∷ []) ++ pairs a in
    let w4 : ℕ → ℕ → List ℤ = λ a b. minus a ∷ minus a ∷ zeros 4 ++ (pos b ∷ zeros 13) in
    let s3 : ℕ → List ℤ = λ a. zeros 6 ++ pairs a in
    let w3 : ℕ → List ℤ = λ a. minus a ∷ minus a ∷ zeros 16 in
    Hold
    ( -- kept twice; restarted at equality by the second leave, by the first
    twice 5 2 is ((ring 4 (pos 2), s4 5 2, w4 5 2), (ring 3 (pos 4), s3 5, w3 5))
    ∷ twice 4 2 is ((ring 4 (pos 2), s4 4 2, w4 4 2), (ring 3 (pos 0), s3 4, s3 4))
    ∷ twice 2 2 is ((ring 4 (pos 0), s4 2 2, s4 2 2), (ring 3 (pos 0), s3 2, s3 2))
    -- flat links carry nothing
    ∷ twice 1 0 is ((ring 4 (pos 0), s4 1 0, w4 1 0), (ring 3 (pos 0), s3 1, w3 1))
    ∷ [])
carries-grow = refl

-- The carry at its limits and one past them, where the fresh ceiling is higher and nothing is barred: a link that goes from 5 to 4, and one that
-- goes from 0 to 1 beside 47 links at the lowest working weight
pub limits :
    let slope : ℤ → Input = λ z. carrying z (given 2 1 0 [] [] (pos 5 ∷ pos 0 ∷ [])) in
    let falls : ℤ → Told = λ z. leaves (slope z) (given 2 1 0 [] [] (pos 4 ∷ minus 1 ∷ [])) 0 in
    let plain : ℤ → Input = λ z. carrying z (given 48 1 0 [] [] []) in
    let deep : List ℤ = replicate 47 (minus W) in
    let rises : ℤ → Told = λ z. leaves (plain z) (given 48 1 0 [] [] (pos 1 ∷ deep)) 0 in
    Hold
    (falls (minus 19_999_999_999) is (paired 1 1 [] [] (minus C), pos 0 ∷ [], minus 1 ∷ []) ∷ falls (minus C) is (paired 1 1 [] [] (pos 0), zeros 1, zeros 1)
    ∷ rises (pos 19_999_999_999) is (paired 47 1 [] [] (pos C), zeros 47, deep) ∷ rises (pos C) is (paired 47 1 [] [] (pos 0), zeros 47, zeros 47)
    ∷ [])
limits = refl

-- A bar at a place of both tables, with so low a carry that neither other reason applies: it restarts work if it leaves. Other bars go along.
pub bars :
    let low : Input → Input = λ i. carrying (minus 10_000_000_000) i in
    let bar_at : ℕ → ℕ → Bool = λ p j. starts (put_at p B (low path)) (put_at p B worked) j in
    Hold
    (bar_at 0 0 is true ∷ bar_at 1 0 is true ∷ bar_at 6 0 is true ∷ bar_at 9 0 is true
    ∷ bar_at 2 0 is false ∷ bar_at 5 0 is false ∷ bar_at 10 0 is false ∷ bar_at 13 0 is false
    ∷ bar_at 2 1 is true ∷ bar_at 6 1 is true ∷ bar_at 13 1 is true ∷ bar_at 0 1 is false ∷ bar_at 5 1 is false
    ∷ bar_at 4 2 is true ∷ bar_at 10 2 is true ∷ bar_at 9 2 is false ∷ bar_at 3 2 is false
    ∷ [])
    × Hold
    (leaves (put_at 13 B (carrying (minus 12) path)) (put_at 13 B worked) 0 is (
      paired 2 2 (0 ∷ []) (1 ∷ []) (minus 3),
      pos 5 ∷ minus 2 ∷ pos 0 ∷ pos 4 ∷ minus 1 ∷ minus 5 ∷ pos 0 ∷ B ∷ [],
      pos 4 ∷ pos 0 ∷ pos 1 ∷ pos 1 ∷ pos 6 ∷ minus 8 ∷ pos 5 ∷ B ∷ [],
    )
    ∷ leaves (put_at 9 B (low path)) (put_at 9 B worked) 0 is (
      paired 2 2 (0 ∷ []) (1 ∷ []) (pos 0),
      pos 5 ∷ minus 2 ∷ pos 0 ∷ pos 4 ∷ minus 1 ∷ minus 5 ∷ pos 0 ∷ pos 7 ∷ [],
      pos 5 ∷ minus 2 ∷ pos 0 ∷ pos 4 ∷ minus 1 ∷ minus 5 ∷ pos 0 ∷ pos 7 ∷ [],
    )
    ∷ [])
bars = (refl, refl)

-- ---- numbers of kind 7: 3 before 5

pub leave-numbers :
    let number : Input → ℤ → ℕ = λ i a. number_of (first_refusal (leave_tests i.case (line 7 a (pos 0) (pos 0) (pos 0)))) in
    Hold
    (number single (pos 0) is 3 ∷ number single (pos 1) is 3 ∷ number single (minus 1) is 3
    ∷ number clash (pos 0) is 0 ∷ number clash (pos 1) is 0 ∷ number clash (pos 2) is 5 ∷ number clash (minus 1) is 5 ∷ number clash (pos 9_999) is 5
    ∷ number (crowd 96) (pos 47) is 0 ∷ number (crowd 96) (pos 48) is 5
    ∷ [])
leave-numbers = refl

-- ---- the starting and the working table, lent together

pub both-tables :
    let lent : Input → Input → Bool → ℕ = λ i v out. number_of (first_refusal (both_handed_over standard i.case i.weights v.weights out)) in
    let number : Input → Input → ℕ = λ i v. lent i v false in
    let first : ℤ → ℤ → Input = λ y z. couple (y ∷ z ∷ zeros 6) in
    Hold
    (number path worked is 0 ∷ number worked path is 0
    -- 4 of either
    ∷ number (with_table path (own_weights path)) worked is 4 ∷ number path (with_table worked (own_weights worked)) is 4
    ∷ number (with_table path (take 479 path.weights)) worked is 4 ∷ number path (with_table worked (worked.weights ++ zeros 1)) is 4
    -- 8 of either past the own places, and of either's range
    ∷ number (put_at 14 (pos 1) path) worked is 8 ∷ number path (put_at 14 (pos 1) worked) is 8 ∷ number (put_at 479 B path) (put_at 479 B worked) is 8
    ∷ number (put_at 0 (pos 1_000_001) path) worked is 8 ∷ number path (put_at 0 (pos 1_000_001) worked) is 0
    ∷ number path (put_at 13 (minus W) worked) is 0 ∷ number path (put_at 13 (minus 500_000_001) worked) is 8
    -- 8: barred in one table only; in both, and in both at other places
    ∷ number (put_at 0 B path) worked is 8 ∷ number path (put_at 0 B worked) is 8 ∷ number (put_at 13 B path) worked is 8 ∷ number path (put_at 13 B worked) is 8
    ∷ number (put_at 0 B path) (put_at 0 B worked) is 0 ∷ number (put_at 13 B path) (put_at 13 B worked) is 0 ∷ number (put_at 6 B path) (put_at 7 B worked) is 8
    -- 15 after it
    ∷ number (first B B) (first B B) is 15 ∷ number (first B B) (first B (pos 0)) is 8 ∷ number (first B (pos 0)) (first B B) is 8
    -- 3, 4, 5, 6, 7 before
    ∷ number (given 49 1 0 [] [] []) (with_table single []) is 3 ∷ lent path (with_table worked []) true is 4 ∷ lent (put_at 0 B path) worked true is 5
    ∷ number (carrying (pos C1) path) (put_at 0 B worked) is 5 ∷ lent (edges 1 1 0 []) (edges 1 1 0 []) true is 5
    ∷ number (put_at 0 B (edges 1 1 0 [])) (edges 1 1 0 []) is 6 ∷ number (put_at 0 B (edges 2 0 1 [])) (edges 2 0 1 []) is 7
    ∷ [])
both-tables = refl
