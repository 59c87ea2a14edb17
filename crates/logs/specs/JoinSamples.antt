-- Samples of a link that joins (document 02, change 5), in tables as those of Borders. Assumes nothing.
use Rattle.std.specs.Prelude.{refl, List, [], ◌∷◌, ◌++◌, map, ℕ, ◌+◌, ℤ, pos, take, replicate, Some, None}
use Rattle.integers.specs.Words.{from, minus}
use Rattle.definitions.specs.declared.Line.{Line}
use Rattle.definitions.specs.Rules.{standard}
use Rattle.definitions.specs.Refusals.{number, number_of, first_refusal}
use Rattle.definitions.specs.Case.{upper_bound}
use Rattle.definitions.specs.Lines.{line}
use Rattle.definitions.specs.CaseFiles.{CaseDue, variable-weight, edge-ends, edge-weight, Reading, took}
use Rattle.logs.specs.Leave.{WeightedCase, left_by}
use Rattle.logs.specs.Join.{join_dues, begun_join, join_tests, join_line_tests, grown_by}
use Rattle.definitions.specs.Samples.{Input, full, given, clash, single, zeros}
use Rattle.definitions.specs.Borders.{◌is◌, Hold}
use Rattle.definitions.specs.BarredBorders.{B}
use Rattle.definitions.specs.LengthBorders.{carrying, C, small, crowd}
use Rattle.logs.specs.LeaveSamples.{paired, Told, told}

-- ---- numbers of kind 8: 3 before 5

-- 47 links, D 1, and so many of 96 pairs: of neighbours, of every second link, and five more; weights 0, 1, 2, .. in the order of the table
abbrev pub nearly_full : ℕ → Input
nearly_full m =
    given 47 1 m (take m (from 0 46 ++ from 0 45 ++ from 0 5)) (take m (from 1 46 ++ from 2 45 ++ from 3 5)) (map pos (from 0 (47 + m)))

pub join-numbers :
    let asks : Input → ℤ → ℕ = λ i a. number_of (first_refusal (join_tests standard i.case (line 8 a (pos 0) (pos 0) (pos 0)))) in
    Hold
    (asks single (pos 0) is 0 ∷ asks single (pos 1) is 0 ∷ asks single (pos 2) is 5 ∷ asks single (pos 96) is 5 ∷ asks single (pos 97) is 3
    ∷ asks clash (pos 0) is 0 ∷ asks clash (pos 2) is 0 ∷ asks clash (pos 3) is 5 ∷ asks clash (minus 1) is 5 ∷ asks clash (minus 999) is 5
    ∷ asks clash (pos 95) is 5 ∷ asks clash (pos 96) is 3 ∷ asks clash (pos 9_999) is 3
    -- 47 links; 95 pairs and 96
    ∷ asks (nearly_full 95) (pos 0) is 0 ∷ asks (nearly_full 95) (pos 1) is 0 ∷ asks (nearly_full 95) (pos 2) is 3 ∷ asks (nearly_full 95) (pos 48) is 3
    ∷ asks (nearly_full 95) (minus 1) is 5 ∷ asks (nearly_full 96) (pos 0) is 0 ∷ asks (nearly_full 96) (pos 1) is 3 ∷ asks (nearly_full 49) (pos 47) is 0
    ∷ asks (nearly_full 48) (pos 48) is 5 ∷ asks (nearly_full 49) (pos 48) is 3
    -- 48 links
    ∷ asks (crowd 1) (pos 0) is 3 ∷ asks (crowd 1) (pos 1) is 3 ∷ asks (crowd 1) (minus 1) is 3 ∷ asks (crowd 1) (pos 49) is 3 ∷ asks (crowd 96) (pos 0) is 3
    ∷ [])
join-numbers = refl

-- ---- the case lines that are due: the new link's weights, then each pair's ends and weights

pub dues :
    let due : Input → ℕ → List CaseDue = λ i p. join_dues i.case p in
    let square : ℕ → List CaseDue = λ e. edge-weight e 0 0 ∷ edge-weight e 0 1 ∷ edge-weight e 1 0 ∷ edge-weight e 1 1 ∷ [] in
    Hold
    (due clash 0 is (variable-weight 2 0 ∷ variable-weight 2 1 ∷ [])
    ∷ due clash 1 is (variable-weight 2 0 ∷ variable-weight 2 1 ∷ edge-ends 1 ∷ square 1)
    ∷ due clash 2 is (variable-weight 2 0 ∷ variable-weight 2 1 ∷ edge-ends 1 ∷ square 1 ++ (edge-ends 2 ∷ square 2))
    ∷ due single 0 is (variable-weight 1 0 ∷ []) ∷ due single 1 is (variable-weight 1 0 ∷ edge-ends 0 ∷ edge-weight 0 0 0 ∷ [])
    ∷ due (nearly_full 95) 1 is (variable-weight 47 0 ∷ edge-ends 95 ∷ edge-weight 95 0 0 ∷ [])
    ∷ due (given 1 8 0 [] [] []) 0 is map (variable-weight 1) (from 0 8)
    ∷ [])
dues = refl

-- ---- numbers of these lines

-- a line with an amount, and one without
abbrev t : ℕ → ℕ → ℕ → ℕ → ℤ → Line
t kind a b c amount = line kind (pos a) (pos b) (pos c) amount

abbrev u : ℕ → ℕ → ℕ → ℕ → Line
u kind a b c = t kind a b c (pos 0)

-- each line's number, up to the first that is not 0
abbrev asked : Reading → List CaseDue → List Line → List ℕ
asked g [] xs = []
asked g (due ∷ _) [] = []
asked g (due ∷ dues) (x ∷ xs) =
    elim (first_refusal (join_line_tests standard g due x)) [
      | None ↦ 0 ∷ asked (took g due (Some x)) dues xs
      | Some y ↦ number y ∷ []
    ]

abbrev numbers : Input → ℕ → List Line → List ℕ
numbers i p xs = let j = begun_join i.case i.weights p in asked j.reading j.dues xs

abbrev fine : ℕ → List ℕ
fine n = replicate n 0

-- two links and their pair, D 1: link 2 joins with two more pairs
abbrev front : List Line
front = t 11 2 0 0 (pos 10) ∷ u 12 1 0 2 ∷ t 13 1 0 0 (pos 20) ∷ []

pub line-numbers :
    let link : Line → List ℕ = λ x. numbers small 2 (x ∷ []) in
    let ends : Line → List ℕ = λ x. numbers small 2 (take 1 front ++ (x ∷ [])) in
    let pair : Line → List ℕ = λ x. numbers small 2 (take 2 front ++ (x ∷ [])) in
    let second : Line → List ℕ = λ x. numbers small 2 (front ++ (x ∷ [])) in
    let last : Line → List ℕ = λ x. numbers small 2 (front ++ (u 12 2 1 2 ∷ x ∷ [])) in
    let no : ℕ → ℕ → List ℕ = λ good n. fine good ++ (n ∷ []) in
    let chain : ℕ → List Line =
    λ b. t 11 3 0 0 (pos 1) ∷ u 12 0 0 3 ∷ t 13 0 0 0 (pos 1) ∷ u 12 1 1 3 ∷ t 13 1 0 0 (pos 1) ∷ u 12 2 b 3 ∷ []
    in
    Hold
    ( -- 2: only kinds 11 and 14 are due, with nothing in an unused column; 14 has no amount
    link (t 11 2 0 0 (pos 10)) is no 0 0 ∷ link (u 12 1 0 2) is no 0 2 ∷ link (t 13 1 0 0 (pos 20)) is no 0 2 ∷ link (u 15 1 0 0) is no 0 2
    ∷ link (u 3 2 0 0) is no 0 2 ∷ link (u 7 0 0 0) is no 0 2 ∷ link (u 8 0 0 0) is no 0 2 ∷ link (u 10 2 1 1) is no 0 2 ∷ link (t 11 2 0 1 (pos 10)) is no 0 2
    ∷ link (t 14 2 0 0 (pos 1)) is no 0 2 ∷ link (t 14 2 0 0 B) is no 0 2
    -- 5 of the place, before 8 and 15; 8; 15
    ∷ link (t 11 1 0 0 (pos 10)) is no 0 5 ∷ link (t 11 3 0 0 (pos 10)) is no 0 5 ∷ link (t 11 2 1 0 (pos 10)) is no 0 5 ∷ link (u 14 1 0 0) is no 0 5
    ∷ link (t 11 0 0 0 (pos 1_000_001)) is no 0 5 ∷ link (line 11 (minus 2) (pos 0) (pos 0) (pos 0)) is no 0 5
    ∷ link (t 11 2 0 0 (pos 1_000_000)) is no 0 0 ∷ link (t 11 2 0 0 (minus 1_000_000)) is no 0 0 ∷ link (t 11 2 0 0 (pos 1_000_001)) is no 0 8
    ∷ link (t 11 2 0 0 (minus 1_000_001)) is no 0 8 ∷ link (t 11 2 0 0 B) is no 0 8 ∷ link (u 14 2 0 0) is no 0 15
    -- the ends: 2; 5 of the pair's number, of a higher link that is not the new one, of a lower link that is none; 6
    ∷ ends (u 12 1 0 2) is no 1 0 ∷ ends (u 12 1 1 2) is no 1 0 ∷ ends (t 11 2 0 0 (pos 0)) is no 1 2 ∷ ends (t 13 1 0 0 (pos 0)) is no 1 2
    ∷ ends (t 12 1 0 2 (pos 1)) is no 1 2 ∷ ends (u 12 0 0 2) is no 1 5 ∷ ends (u 12 2 0 2) is no 1 5 ∷ ends (u 12 1 0 1) is no 1 5
    ∷ ends (u 12 1 1 0) is no 1 5 ∷ ends (u 12 1 2 0) is no 1 5 ∷ ends (u 12 1 2 1) is no 1 5 ∷ ends (u 12 1 0 3) is no 1 5 ∷ ends (u 12 1 3 2) is no 1 5
    ∷ ends (u 12 1 3 3) is no 1 5 ∷ ends (u 12 1 0 0) is no 1 5 ∷ ends (u 12 0 2 2) is no 1 5
    ∷ ends (line 12 (pos 1) (minus 1) (pos 2) (pos 0)) is no 1 5 ∷ ends (line 12 (pos 1) (pos 0) (minus 2) (pos 0)) is no 1 5 ∷ ends (u 12 1 2 2) is no 1 6
    -- the pair's weight: 2, 5, 8, 15
    ∷ pair (t 13 1 0 0 (pos 20)) is no 2 0 ∷ pair (t 11 2 0 0 (pos 20)) is no 2 2 ∷ pair (u 14 2 0 0) is no 2 2 ∷ pair (u 12 2 1 2) is no 2 2
    ∷ pair (t 15 1 0 0 (pos 1)) is no 2 2 ∷ pair (t 13 0 0 0 (pos 20)) is no 2 5 ∷ pair (t 13 2 0 0 (pos 20)) is no 2 5 ∷ pair (t 13 1 1 0 (pos 20)) is no 2 5
    ∷ pair (t 13 1 0 1 (pos 1_000_001)) is no 2 5 ∷ pair (t 13 1 0 0 (minus 1_000_000)) is no 2 0 ∷ pair (t 13 1 0 0 (pos 1_000_001)) is no 2 8
    ∷ pair (t 13 1 0 0 B) is no 2 8 ∷ pair (u 15 1 0 0) is no 2 15
    -- the second pair: 5 of its number, 6, 7
    ∷ second (u 12 2 1 2) is no 3 0 ∷ second (u 12 1 1 2) is no 3 5 ∷ second (u 12 3 1 2) is no 3 5 ∷ second (u 12 2 2 2) is no 3 6
    ∷ second (u 12 2 0 2) is no 3 7 ∷ second (u 12 1 0 2) is no 3 5 ∷ second (t 13 1 0 0 (pos 20)) is no 3 2
    ∷ last (t 13 2 0 0 (pos 30)) is no 4 0 ∷ last (t 13 1 0 0 (pos 30)) is no 4 5 ∷ last (u 15 2 0 0) is no 4 15
    -- with no pair only its weight is due; of three pairs the third may not be the first again
    ∷ numbers small 0 front is fine 1
    ∷ numbers (given 3 1 0 [] [] []) 3 (chain 0) is (fine 5 ++ (7 ∷ [])) ∷ numbers (given 3 1 0 [] [] []) 3 (chain 2) is fine 6
    ∷ [])
line-numbers = refl

-- 15 at a scope's last line only, D 2: link 2, and its pair
pub barred-numbers :
    let bar : List ℕ → List Line = λ ks. map (λ k. u 14 2 k 0) ks in
    let free : List Line = t 11 2 0 0 (pos 7) ∷ t 11 2 1 0 (pos 8) ∷ u 12 1 0 2 ∷ [] in
    Hold
    (numbers clash 1 (bar (0 ∷ 1 ∷ [])) is (0 ∷ 15 ∷ []) ∷ numbers clash 0 (bar (0 ∷ 1 ∷ [])) is (0 ∷ 15 ∷ [])
    ∷ numbers clash 1 (bar (0 ∷ []) ++ (t 11 2 1 0 (pos 7) ∷ u 12 1 1 2 ∷ [])) is fine 3
    ∷ numbers clash 1 (t 11 2 0 0 (pos 7) ∷ bar (1 ∷ []) ++ (u 12 1 1 2 ∷ [])) is fine 3
    ∷ numbers clash 1 (bar (0 ∷ []) ++ (t 11 2 1 0 (pos 1_000_001) ∷ [])) is (0 ∷ 8 ∷ []) ∷ numbers clash 1 (bar (0 ∷ 0 ∷ [])) is (0 ∷ 5 ∷ [])
    ∷ numbers clash 1 (free ++ (u 15 1 0 0 ∷ u 15 1 0 1 ∷ u 15 1 1 0 ∷ u 15 1 1 1 ∷ [])) is (fine 6 ++ (15 ∷ []))
    ∷ numbers clash 1 (free ++ (u 15 1 0 0 ∷ u 15 1 0 1 ∷ u 15 1 1 0 ∷ t 13 1 1 1 (pos 0) ∷ [])) is fine 7
    ∷ numbers clash 1 (free ++ (t 13 1 0 0 (pos 0) ∷ u 15 1 0 1 ∷ u 15 1 1 0 ∷ u 15 1 1 1 ∷ [])) is fine 7
    ∷ [])
barred-numbers = refl

-- ---- what is there after the last line

-- what is read after these lines, and what is there where they are all
abbrev read_to : Reading → List CaseDue → List Line → Reading
read_to g [] xs = g
read_to g (due ∷ _) [] = g
read_to g (due ∷ dues) (x ∷ xs) = read_to (took g due (Some x)) dues xs

abbrev grown_after : Input → List ℤ → ℕ → List Line → WeightedCase
grown_after i w p xs = let j = begun_join i.case i.weights p in grown_by i.case w (read_to j.reading j.dues xs)

-- the lines' numbers, the case and both tables, and its upper bound
abbrev ToldJoin : Type 0
ToldJoin = List ℕ × Told × ℤ

-- a case, its working weights, and the lines of a join with p pairs
abbrev joins : Input → List ℤ → ℕ → List Line → ToldJoin
joins i w p xs = let q = grown_after i (full i.case.d w) p xs in (numbers i p xs, told q, upper_bound q.case q.weights)

-- link 2 joins P4's case with a pair to link 1, and half of its weights are bars
abbrev third : List Line
third =
    t 11 2 0 0 (pos 7) ∷ u 14 2 1 0 ∷ u 12 1 1 2 ∷ t 13 1 0 0 (pos 8) ∷ u 15 1 0 1 ∷ t 13 1 1 0 (minus 9) ∷ u 15 1 1 1 ∷ []

pub after-join :
    let small_by : ℤ → ℕ → List Line → ToldJoin = λ z p xs. joins (carrying z small) (pos 4 ∷ minus 5 ∷ pos 6 ∷ []) p xs in
    Hold
    ( -- no pair, one, and as many as there are links, in either order; the carry stays
    small_by (pos 0) 0 (take 1 front) is
    (fine 1, (paired 3 1 (0 ∷ []) (1 ∷ []) (pos 0), map pos (1 ∷ 2 ∷ 10 ∷ 3 ∷ []), pos 4 ∷ minus 5 ∷ pos 10 ∷ pos 6 ∷ []), pos 15)
    ∷ small_by (pos 5) 1 front is (
      fine 3,
      (paired 3 1 (0 ∷ 0 ∷ []) (1 ∷ 2 ∷ []) (pos 5), map pos (1 ∷ 2 ∷ 10 ∷ 3 ∷ 20 ∷ []), pos 4 ∷ minus 5 ∷ pos 10 ∷ pos 6 ∷ pos 20 ∷ []),
      pos 40,
    )
    ∷ small_by (minus C) 2 (front ++ (u 12 2 1 2 ∷ t 13 2 0 0 (minus 30) ∷ [])) is (
      fine 5,
      (
        paired 3 1 (0 ∷ 0 ∷ 1 ∷ []) (1 ∷ 2 ∷ 2 ∷ []) (minus C),
        map pos (1 ∷ 2 ∷ 10 ∷ 3 ∷ 20 ∷ []) ++ (minus 30 ∷ []),
        pos 4 ∷ minus 5 ∷ pos 10 ∷ pos 6 ∷ pos 20 ∷ minus 30 ∷ [],
      ),
      minus 19_999_999_995,
    )
    ∷ small_by (pos C) 2 (take 1 front ++ (u 12 1 1 2 ∷ t 13 1 0 0 (pos 20) ∷ u 12 2 0 2 ∷ t 13 2 0 0 (pos 30) ∷ [])) is (
      fine 5,
      (
        paired 3 1 (0 ∷ 1 ∷ 0 ∷ []) (1 ∷ 2 ∷ 2 ∷ []) (pos C),
        map pos (1 ∷ 2 ∷ 10 ∷ 3 ∷ 20 ∷ 30 ∷ []),
        pos 4 ∷ minus 5 ∷ pos 10 ∷ pos 6 ∷ pos 20 ∷ pos 30 ∷ [],
      ),
      pos 20_000_000_065,
    )
    -- one link and another, with and without a pair
    ∷ joins single (minus 8 ∷ []) 0 (t 11 1 0 0 (pos 4) ∷ []) is (fine 1, (paired 2 1 [] [] (pos 0), minus 7 ∷ pos 4 ∷ [], minus 8 ∷ pos 4 ∷ []), minus 4)
    ∷ joins single (minus 8 ∷ []) 1 (t 11 1 0 0 (pos 4) ∷ u 12 0 0 1 ∷ t 13 0 0 0 (pos 1) ∷ []) is
    (fine 3, (paired 2 1 (0 ∷ []) (1 ∷ []) (pos 0), minus 7 ∷ pos 4 ∷ pos 1 ∷ [], minus 8 ∷ pos 4 ∷ pos 1 ∷ []), minus 3)
    -- D 2 with bars, after P5's press; D 8
    ∷ joins clash (zeros 2 ++ (pos 2 ∷ pos 2 ∷ minus 1 ∷ zeros 3)) 1 third is (
      fine 7,
      (
        paired 3 2 (0 ∷ 1 ∷ []) (1 ∷ 2 ∷ []) (pos 0),
        pos 2 ∷ pos 0 ∷ pos 2 ∷ pos 0 ∷ pos 7 ∷ B ∷ minus 3 ∷ zeros 3 ++ (pos 8 ∷ B ∷ minus 9 ∷ B ∷ []),
        zeros 2 ++ (pos 2 ∷ pos 2 ∷ pos 7 ∷ B ∷ minus 1 ∷ zeros 3) ++ (pos 8 ∷ B ∷ minus 9 ∷ B ∷ []),
      ),
      pos 17,
    )
    ∷ joins (given 1 8 0 [] [] (map pos (from 0 8))) (map pos (from 1 8)) 0 (map (λ k. t 11 1 k 0 (pos k)) (from 0 8)) is
    (fine 8, (paired 2 8 [] [] (pos 0), map pos (from 0 8 ++ from 0 8), map pos (from 1 8 ++ from 0 8)), pos 15)
    -- the case is full after it
    ∷ joins (nearly_full 95) (replicate 142 (pos 1)) 1 (t 11 47 0 0 (pos 7) ∷ u 12 95 46 47 ∷ t 13 95 0 0 (pos 9) ∷ []) is (
      fine 3,
      (
        paired 48 1 (from 0 46 ++ from 0 45 ++ from 0 4 ++ (46 ∷ [])) (from 1 46 ++ from 2 45 ++ from 3 4 ++ (47 ∷ [])) (pos 0),
        map pos (from 0 47 ++ (7 ∷ from 47 95) ++ (9 ∷ [])),
        replicate 47 (pos 1) ++ (pos 7 ∷ replicate 95 (pos 1)) ++ (pos 9 ∷ []),
      ),
      pos 158,
    )
    ∷ [])
after-join = refl

-- ---- a link leaves after a join

-- a link that was there before; the new one, with bars; the new one without, where the fresh ceiling is 6 against 5, and 6 with a carry of 1
pub after_both :
    let then : WeightedCase → ℕ → Told = λ q j. told (left_by standard q.case j q.starting q.weights) in
    let w : List ℤ = full 2 (zeros 2 ++ (pos 2 ∷ pos 2 ∷ minus 1 ∷ zeros 3)) in
    let three : ℤ → WeightedCase = λ z. grown_after (carrying z clash) w 1 third in
    let smaller : ℤ → WeightedCase = λ z. grown_after (carrying z small) (full 1 (pos 4 ∷ minus 5 ∷ pos 6 ∷ [])) 1 front in
    Hold
    (then (three (minus 4)) 0 is (
      paired 2 2 (0 ∷ []) (1 ∷ []) (minus 1),
      pos 2 ∷ pos 0 ∷ pos 7 ∷ B ∷ pos 8 ∷ B ∷ minus 9 ∷ B ∷ [],
      pos 2 ∷ pos 2 ∷ pos 7 ∷ B ∷ pos 8 ∷ B ∷ minus 9 ∷ B ∷ [],
    )
    ∷ then (three (minus 10_000_000_000)) 2 is
    (paired 2 2 (0 ∷ []) (1 ∷ []) (pos 0), pos 2 ∷ pos 0 ∷ pos 2 ∷ pos 0 ∷ minus 3 ∷ zeros 3, pos 2 ∷ pos 0 ∷ pos 2 ∷ pos 0 ∷ minus 3 ∷ zeros 3)
    ∷ then (smaller (pos 0)) 2 is (paired 2 1 (0 ∷ []) (1 ∷ []) (pos 0), map pos (1 ∷ 2 ∷ 3 ∷ []), pos 4 ∷ minus 5 ∷ pos 6 ∷ [])
    ∷ then (smaller (pos 1)) 2 is (paired 2 1 (0 ∷ []) (1 ∷ []) (pos 0), map pos (1 ∷ 2 ∷ 3 ∷ []), map pos (1 ∷ 2 ∷ 3 ∷ []))
    ∷ [])
after_both = refl
