-- Samples of the length of lent tables, of what lies past a case's own places and of the carry (document 02, change 5), in tables as those of
-- Borders. Assumes nothing.
use Rattle.std.specs.Prelude.{◌≡◌, refl, Bool, true, false, List, [], ◌∷◌, ◌++◌, map, ℕ, ◌-◌, ℤ, pos, take, set, replicate, Ok}
use Prim.Native.String.{String}
use Rattle.integers.specs.Words.{from, joined, minus}
use Rattle.definitions.specs.declared.Rulebook.TheVariants.{Desk}
use Rattle.definitions.specs.declared.RunAnswer.TheVariants.{Settled, Limit, Void}
use Rattle.definitions.specs.Rules.{standard}
use Rattle.definitions.specs.Refusals.{number_of, first_refusal}
use Rattle.definitions.specs.Answers.{Says, size_says, file_says, choice_says, judgement_says}
use Rattle.definitions.specs.Case.{own_length, lent_length, objective, sum_of_greatest, upper_bound}
use Rattle.definitions.specs.Valid.{starting_weight, working_weight, handed_over, valid}
use Rattle.definitions.specs.CaseFiles.{CaseCall, case_of, case_taken, zeroed_past, case_text, case_size, read_case, read_case_alone}
use Rattle.definitions.specs.Engine.{engine_next, pairs_next}
use Rattle.definitions.specs.Scoring.{better_of}
use Rattle.definitions.specs.Programs.{bytes_of, judge_log}
use Rattle.definitions.specs.Samples.{Input, Question, bound_of, replay-of, Reply, bound, replayed, Sample, answer}
use Rattle.definitions.specs.Samples.{given, with_table, own_weights, triangle, couple, clash, texts, zeros, raising1and2}
use Rattle.definitions.specs.Borders.{◌is◌, Hold, says, no, value, edges, l, xs, two_steps, pressed, after_pair, after_press, ran_by}
use Rattle.definitions.specs.BarredBorders.{B, locked, patchy}
use Rattle.definitions.specs.BarredRuns.{void_of}

-- ---- cases

-- something else at a place of the table; another carry
abbrev pub put_at : ℕ → ℤ → Input → Input
put_at p z i = with_table i (set i.weights p z)

abbrev pub carrying : ℤ → Input → Input
carrying z i = record {
  case = record {
    n = i.case.n;
    d = i.case.d;
    m = i.case.m;
    lower = i.case.lower;
    upper = i.case.upper;
    carry = z;
    rulebook = i.case.rulebook;
  };
  weights = i.weights;
}

-- the greatest carry, and one more
abbrev pub C : ℕ
C = 20_000_000_000

abbrev pub C1 : ℕ
C1 = 20_000_000_001

-- two links and their pair, D 1: 3 own places of 144
abbrev pub small : Input
small = edges 1 0 1 (pos 1 ∷ pos 2 ∷ pos 3 ∷ [])

-- 48 links, D 1, and so many of 96 pairs: of neighbours, of every second link, and three more
abbrev pub crowd : ℕ → Input
crowd m = given 48 1 m (take m (from 0 47 ++ from 0 46 ++ from 0 3)) (take m (from 1 47 ++ from 2 46 ++ from 3 3)) []

-- ---- lengths: a full case with as many values, whatever links and pairs a case has

pub lengths :
    let long : ℕ → ℕ → ℕ → ℕ = λ n d m. lent_length standard (case_of Desk n d m) in
    Hold
    (long 1 1 0 is 144 ∷ long 1 2 0 is 480 ∷ long 1 3 0 is 1_008 ∷ long 1 4 0 is 1_728 ∷ long 1 5 0 is 2_640 ∷ long 1 6 0 is 3_744
    ∷ long 1 7 0 is 5_040 ∷ long 1 8 0 is 6_528 ∷ long 48 1 96 is 144 ∷ long 3 2 3 is 480 ∷ long 48 2 0 is 480 ∷ long 1 2 96 is 480
    ∷ long 48 8 96 is 6_528 ∷ own_length clash.case is 8 ∷ own_length triangle.case is 18 ∷ own_length small.case is 3
    ∷ [])
    -- what the head of a file asks
    × Hold
    (size_says (case_size Desk (l 10 1 1 0 0)) is says 0 (pos 1 ∷ pos 1 ∷ pos 0 ∷ pos 144 ∷ [])
    ∷ size_says (case_size Desk (l 10 48 1 96 0)) is says 0 (pos 48 ∷ pos 1 ∷ pos 96 ∷ pos 144 ∷ [])
    ∷ size_says (case_size Desk (l 10 2 3 1 0)) is says 0 (pos 2 ∷ pos 3 ∷ pos 1 ∷ pos 1_008 ∷ [])
    ∷ [])
lengths = (refl, refl)

-- ---- the numbers of what is handed over

-- with starting weights and with working weights
abbrev numbers : Input → List ℕ
numbers i =
    number_of (first_refusal (handed_over standard (starting_weight standard) i.case i.weights false false))
    ∷ number_of (first_refusal (handed_over standard (working_weight standard) i.case i.weights false false)) ∷ []

abbrev both : ℕ → List ℕ
both n = n ∷ n ∷ []

pub tables :
    Hold
    ( -- 4: the own places alone, one place short, one too long, none, as many as with another D
    numbers clash is both 0 ∷ numbers (with_table clash (own_weights clash)) is both 4 ∷ numbers (with_table clash (take 479 clash.weights)) is both 4
    ∷ numbers (with_table clash (clash.weights ++ zeros 1)) is both 4 ∷ numbers (with_table clash []) is both 4
    ∷ numbers (with_table clash (zeros 144)) is both 4 ∷ numbers (with_table clash (zeros 1_008)) is both 4
    ∷ numbers small is both 0 ∷ numbers (with_table small (own_weights small)) is both 4 ∷ numbers (with_table small (zeros 143)) is both 4
    ∷ numbers (with_table small (zeros 145)) is both 4 ∷ numbers (with_table small (zeros 480)) is both 4
    -- 8: the first place past the own ones, and the last of all; the last own place is a weight
    ∷ numbers (put_at 8 (pos 1) clash) is both 8 ∷ numbers (put_at 8 (minus 1) clash) is both 8 ∷ numbers (put_at 8 B clash) is both 8
    ∷ numbers (put_at 479 (pos 1) clash) is both 8 ∷ numbers (put_at 479 (minus 1) clash) is both 8 ∷ numbers (put_at 479 B clash) is both 8
    ∷ numbers (put_at 7 (pos 1) clash) is both 0 ∷ numbers (put_at 7 B clash) is both 0 ∷ numbers (put_at 240 (pos 1) clash) is both 8
    ∷ numbers (put_at 3 (pos 1) small) is both 8 ∷ numbers (put_at 3 B small) is both 8 ∷ numbers (put_at 143 (minus 1) small) is both 8
    -- 8 before 15: a link wholly barred, and one or a bar past the own places
    ∷ numbers (couple (B ∷ B ∷ zeros 6)) is both 15 ∷ numbers (put_at 8 (pos 1) (couple (B ∷ B ∷ zeros 6))) is both 8
    ∷ numbers (put_at 479 B (couple (B ∷ B ∷ zeros 6))) is both 8
    -- 8 after 7, 6, 5, 4 and 3
    ∷ numbers (put_at 4 (pos 1) (edges 2 0 1 [])) is both 7 ∷ numbers (put_at 3 (pos 1) (edges 1 1 0 [])) is both 6
    ∷ numbers (put_at 3 (pos 1) (edges 1 0 2 [])) is both 5 ∷ numbers (with_table small (zeros 144 ++ (pos 1 ∷ []))) is both 4
    ∷ numbers (put_at 143 (pos 1) (given 49 1 0 [] [] [])) is both 3
    -- a full case has no place past its own; with a pair less, one
    ∷ numbers (crowd 96) is both 0 ∷ numbers (put_at 143 (pos 1) (crowd 96)) is both 0 ∷ numbers (with_table (crowd 96) (zeros 145)) is both 4
    ∷ numbers (put_at 143 (pos 1) (crowd 95)) is both 8 ∷ numbers (put_at 142 (pos 1) (crowd 95)) is both 0
    ∷ [])
tables = refl

-- the carry: in its range on both sides, and one past it; 5 after 3 and 4, before 6, 7, 8 and 15
pub carries :
    Hold
    (numbers (carrying (pos C) clash) is both 0 ∷ numbers (carrying (minus C) clash) is both 0 ∷ numbers (carrying (pos 1) clash) is both 0
    ∷ numbers (carrying (pos C1) clash) is both 5 ∷ numbers (carrying (minus C1) clash) is both 5
    ∷ numbers (carrying (pos C1) (given 49 1 0 [] [] [])) is both 3 ∷ numbers (carrying (minus C1) (given 1 9 0 [] [] [])) is both 3
    ∷ numbers (carrying (pos C1) (with_table clash (own_weights clash))) is both 4
    ∷ numbers (carrying (minus C1) (with_table clash (take 479 clash.weights))) is both 4
    ∷ numbers (carrying (pos C1) (edges 1 1 0 [])) is both 5 ∷ numbers (carrying (pos C) (edges 1 1 0 [])) is both 6
    ∷ numbers (carrying (pos C1) (edges 2 0 1 [])) is both 5 ∷ numbers (carrying (minus C1) (put_at 8 (pos 1) clash)) is both 5
    ∷ numbers (carrying (minus C) (put_at 8 (pos 1) clash)) is both 8 ∷ numbers (carrying (pos C1) (couple (B ∷ B ∷ zeros 6))) is both 5
    ∷ [])
carries = refl

-- valid: a table of the length, with 0 past the own places, and carry 0
pub starts :
    let is_valid : Input → Bool = λ i. valid standard i.case i.weights in
    Hold
    (is_valid clash is true ∷ is_valid small is true ∷ is_valid (crowd 96) is true ∷ is_valid (with_table clash (own_weights clash)) is false
    ∷ is_valid (put_at 8 (pos 1) clash) is false ∷ is_valid (put_at 479 B clash) is false ∷ is_valid (put_at 7 (pos 1) clash) is true
    ∷ is_valid (carrying (pos 1) clash) is false ∷ is_valid (carrying (minus 1) clash) is false ∷ is_valid (carrying (pos C) clash) is false
    ∷ is_valid (carrying (pos C1) clash) is false
    ∷ [])
starts = refl

-- ---- the carry counts in the upper bound, and not in a plan's total

pub figures :
    let above : Input → ℤ = λ i. upper_bound i.case i.weights in
    let total : Input → ℤ = λ i. objective i.case i.weights (0 ∷ 0 ∷ []) in
    let scopes_only : Input → ℤ = λ i. sum_of_greatest i.case i.weights in
    Hold
    (above clash is pos 4 ∷ above (carrying (pos 5) clash) is pos 9 ∷ above (carrying (minus 5) clash) is minus 1 ∷ above (carrying (minus 4) clash) is pos 0
    ∷ above (carrying (pos C) clash) is pos 20_000_000_004 ∷ above (carrying (minus C) clash) is minus 19_999_999_996
    ∷ above (carrying (pos 5) patchy) is pos 14 ∷ above (carrying (minus 5) small) is pos 1
    ∷ scopes_only (carrying (pos 5) clash) is pos 4 ∷ scopes_only (carrying (minus 5) clash) is pos 4
    ∷ total clash is pos 1 ∷ total (carrying (pos 5) clash) is pos 1 ∷ total (carrying (minus C) clash) is pos 1
    -- nor do weights past the own places count in either
    ∷ above (put_at 8 (pos 9) clash) is pos 4 ∷ total (put_at 8 (pos 9) clash) is pos 1
    ∷ [])
figures = refl

-- the better plan is the same; refused by 5, 8 and 4
pub scores :
    let scored : Input → Says = λ i. choice_says (better_of standard i.case i.weights (1 ∷ 1 ∷ []) (0 ∷ 1 ∷ [])) in
    Hold
    (scored clash is value (pos 1) ∷ scored (carrying (pos 5) clash) is value (pos 1) ∷ scored (carrying (minus C) clash) is value (pos 1)
    ∷ scored (carrying (pos C1) clash) is no 5 ∷ scored (put_at 8 (pos 1) clash) is no 8 ∷ scored (put_at 479 B clash) is no 8
    ∷ scored (with_table clash (own_weights clash)) is no 4
    ∷ [])
scores = refl

-- ---- bound lines state the upper bound with the carry in it

infix 70 ◌gives◌
abbrev ◌gives◌ : Question → Reply → Sample
q gives a = record { ask = q; gives = a }

-- P6's press with a carry of 5, of −5 and the greatest on either side. A bound line that leaves the carry out is number 12; 13 compares bounds with
-- the carry in both.
abbrev carried : List Sample
carried =
    let press : String → List String = λ stated. raising1and2 " 2   0   2   0           1\n" stated in
    let made : ℕ → ℕ → ℤ → Reply = λ last rounds z. replayed (0 ∷ 0 ∷ 0 ∷ last ∷ []) last rounds z (pos 1 ∷ pos 0 ∷ pos 2 ∷ pos 1 ∷ minus 2 ∷ zeros 3) in
    bound_of (carrying (pos 5) triangle) gives bound (pos 5)
    ∷ replay-of (carrying (pos 5) clash) (press " 4   0   0   0           8\n") gives made 0 1 (pos 8)
    ∷ replay-of (carrying (minus 5) clash) (press " 4   0   0   0          -2\n") gives made 0 1 (minus 2)
    ∷ replay-of (carrying (pos C) clash) (press " 4   0   0   0 20000000003\n") gives made 0 1 (pos 20_000_000_003)
    ∷ replay-of (carrying (minus C) clash) (press " 4   0   0   0-19999999997\n") gives made 0 1 (minus 19_999_999_997)
    ∷ replay-of (carrying (pos 5) clash) (press " 4   0   0   0           3\n") gives made 12 0 (pos 8)
    ∷ replay-of (carrying (minus 5) clash) (press " 4   0   0   0           3\n") gives made 12 0 (minus 2)
    ∷ replay-of (carrying (minus 5) clash) (" 4   0   0   0          -1\n" ∷ []) gives replayed (13 ∷ []) 13 0 (minus 1) (own_weights clash)
    ∷ replay-of (carrying (pos 5) clash) (" 4   0   0   0           4\n" ∷ []) gives replayed (12 ∷ []) 12 0 (pos 9) (own_weights clash)
    ∷ []

pub carried-hold : map (λ s. answer s.ask) carried ≡ map (λ s. s.gives) carried
carried-hold = refl

-- a log judged after a case of ten lines: the rounds and the upper bound, or the number and the line
pub judged :
    let judge : Input → String → Says =
    λ i stated. judgement_says (judge_log i.case i.weights 10 (joined (texts (raising1and2 " 2   0   2   0           1\n" stated))))
    in
    Hold
    (judge clash " 4   0   0   0           3\n" is says 0 (pos 1 ∷ pos 3 ∷ [])
    ∷ judge (carrying (pos 5) clash) " 4   0   0   0           8\n" is says 0 (pos 1 ∷ pos 8 ∷ [])
    ∷ judge (carrying (minus 5) clash) " 4   0   0   0          -2\n" is says 0 (pos 1 ∷ minus 2 ∷ [])
    ∷ judge (carrying (pos 5) clash) " 4   0   0   0           3\n" is says 12 (pos 13 ∷ [])
    ∷ [])
judged = refl

-- runs: the same rounds and weights, and bounds higher by the carry; a void line states none
pub runs :
    let ran = ran_by engine_next in
    let paired = ran_by pairs_next in
    let pair_by : String → List ℕ = λ stated. bytes_of " 1   0   1   0          -1\n" ++ bytes_of stated in
    let press_by : String → List ℕ = λ stated. pressed (l 2 0 3 0 1) (2 ∷ 3 ∷ 4 ∷ []) stated in
    Hold
    (ran (carrying (pos 5) two_steps) 5 is
    (Ok Settled, 2, after_press, pair_by " 4   0   0   0           5\n" ++ press_by " 4   0   0   0           4\n")
    ∷ ran (carrying (minus 5) two_steps) 5 is
    (Ok Settled, 2, after_press, pair_by " 4   0   0   0          -5\n" ++ press_by " 4   0   0   0          -6\n")
    ∷ ran (carrying (minus C) two_steps) 1 is (Ok Limit, 1, after_pair, pair_by " 4   0   0   0-20000000000\n")
    ∷ paired (carrying (pos C) two_steps) 5 is (Ok Settled, 1, after_pair, pair_by " 4   0   0   0 20000000000\n")
    ∷ ran (carrying (pos 5) locked) 5 is (Ok Void, 0, own_weights locked, void_of 0 (1 ∷ 2 ∷ []))
    ∷ [])
runs = refl

-- ---- case files

-- a carry is in no file
pub written :
    let text : Input → List ℕ = λ i. case_text standard i.case i.weights in
    Hold (text (carrying (pos 5) small) is text small ∷ text (carrying (minus C) clash) is text clash ∷ [])
written = refl

-- The file of `small`, and another with a second pair, which is still to come. Read into a table of so many sevens, as the front of an input or
-- alone: the answer, the carry and the table. A case that is taken leaves 0 past its own places, and its carry is 0; a refusal after so many good
-- weights leaves the sevens of all other places.
abbrev small_lines : List (List ℕ)
small_lines = l 10 2 1 1 0 ∷ l 11 0 0 0 1 ∷ l 11 1 0 0 2 ∷ l 12 0 0 1 0 ∷ l 13 0 0 0 3 ∷ []

abbrev two_pairs : List (List ℕ)
two_pairs = l 10 3 1 2 0 ∷ l 11 0 0 0 1 ∷ l 11 1 0 0 2 ∷ l 11 2 0 0 4 ∷ l 12 0 0 1 0 ∷ l 13 0 0 0 3 ∷ []

abbrev sevens : ℕ → List ℤ
sevens n = replicate n (pos 7)

abbrev Told : Type 0
Told = Says × ℤ × List ℤ

abbrev told : CaseCall → Told
told q = (file_says q.read.answer, q.read.case.carry, q.table)

pub files :
    let front : ℕ → List (List ℕ) → Told = λ room ts. told (read_case Desk (joined ts) (sevens room)) in
    let alone : ℕ → List (List ℕ) → Told = λ room ts. told (read_case_alone Desk (joined ts) (sevens room)) in
    let put : ℕ → List ℕ → List (List ℕ) = λ at t. set small_lines at t in
    let good : List ℤ = pos 1 ∷ pos 2 ∷ pos 3 ∷ [] in
    let whole : Told = (value (pos 5), pos 0, good ++ zeros 141) in
    let refused_at : ℕ → ℕ → ℕ → Told = λ at n number. (says number (pos at ∷ []), pos 0, take n good ++ sevens (144 - n)) in
    let four : ℕ → Told = λ room. (says 4 (pos 0 ∷ []), pos 0, sevens room) in
    Hold
    ( -- taken; as the front of an input, whatever follows
    front 144 small_lines is whole ∷ alone 144 small_lines is whole ∷ front 144 (small_lines ++ (l 4 0 0 0 0 ∷ [])) is whole
    ∷ front 144 (small_lines ++ (xs 27 ∷ [])) is whole ∷ front 144 (small_lines ++ (xs 26 ∷ [])) is whole
    -- one link alone; the last weight is a bar
    ∷ alone 144 (l 10 1 1 0 0 ∷ l 11 0 0 0 9 ∷ []) is (value (pos 2), pos 0, pos 9 ∷ zeros 143)
    ∷ alone 480 (l 10 1 2 0 0 ∷ l 11 0 0 0 9 ∷ l 14 0 1 0 0 ∷ []) is (value (pos 3), pos 0, pos 9 ∷ B ∷ zeros 478)
    -- a line follows a case that is read alone: its weights are written, and nothing past them
    ∷ alone 144 (small_lines ++ (l 4 0 0 0 0 ∷ [])) is refused_at 5 3 2 ∷ alone 144 (small_lines ++ (xs 27 ∷ [])) is refused_at 5 3 1
    ∷ alone 144 (small_lines ++ (xs 26 ∷ [])) is refused_at 5 3 14 ∷ alone 144 (small_lines ++ (xs 1 ∷ [])) is refused_at 5 3 14
    -- refused at a line: 1, 2, 5, 8, 14 and 15 of weights; 1, 2, 5, 6, 14 of a pair
    ∷ front 144 (put 2 (xs 27)) is refused_at 2 1 1 ∷ front 144 (put 2 (l 12 0 0 1 0)) is refused_at 2 1 2 ∷ front 144 (put 2 (l 11 0 0 0 2)) is refused_at 2 1 5
    ∷ front 144 (put 2 (l 11 1 0 0 1_000_001)) is refused_at 2 1 8 ∷ front 144 (take 2 small_lines) is refused_at 2 1 14
    ∷ front 144 (put 2 (l 14 1 0 0 0)) is refused_at 2 1 15 ∷ front 144 (put 3 (xs 27)) is refused_at 3 2 1 ∷ front 144 (put 3 (l 13 0 0 0 3)) is refused_at 3 2 2
    ∷ front 144 (put 3 (l 12 0 0 2 0)) is refused_at 3 2 5 ∷ front 144 (put 3 (l 12 0 1 0 0)) is refused_at 3 2 6
    ∷ front 144 (take 3 small_lines) is refused_at 3 2 14 ∷ front 144 (put 4 (l 13 0 0 0 1_000_001)) is refused_at 4 2 8
    ∷ front 144 (put 4 (l 15 0 0 0 0)) is refused_at 4 2 15 ∷ alone 144 (take 4 small_lines) is refused_at 4 2 14
    -- 7 of a second pair, and a file cut in it
    ∷ front 144 (two_pairs ++ (l 12 1 0 1 0 ∷ [])) is (says 7 (pos 6 ∷ []), pos 0, pos 1 ∷ pos 2 ∷ pos 4 ∷ pos 3 ∷ sevens 140)
    ∷ alone 144 (two_pairs ++ (l 12 1 0 2 0 ∷ [])) is (says 14 (pos 7 ∷ []), pos 0, pos 1 ∷ pos 2 ∷ pos 4 ∷ pos 3 ∷ sevens 140)
    -- refused at the head: 14, 1, 2, 3
    ∷ front 144 [] is refused_at 0 0 14 ∷ front 144 (put 0 (xs 27)) is refused_at 0 0 1 ∷ front 144 (put 0 (l 11 2 1 1 0)) is refused_at 0 0 2
    ∷ front 144 (put 0 (l 10 49 1 1 0)) is refused_at 0 0 3 ∷ alone 144 (put 0 (l 10 2 1 97 0)) is refused_at 0 0 3
    -- 4 at the head's line: the own places alone, one short, one too long, none, as many as with D 2; before all that later lines have
    ∷ front 3 small_lines is four 3 ∷ alone 3 small_lines is four 3 ∷ front 143 small_lines is four 143 ∷ alone 143 small_lines is four 143
    ∷ front 145 small_lines is four 145 ∷ front 0 small_lines is four 0 ∷ front 480 small_lines is four 480 ∷ front 3 (put 1 (xs 27)) is four 3
    ∷ front 3 (take 1 small_lines) is four 3 ∷ front 144 (put 0 (l 10 2 2 1 0)) is four 144 ∷ front 3 (put 0 (l 10 49 1 1 0)) is (says 3 (pos 0 ∷ []), pos 0, sevens 3)
    -- the counts of links and pairs do not change the length
    ∷ front 144 (put 0 (l 10 1 1 0 0)) is (value (pos 2), pos 0, pos 1 ∷ zeros 143) ∷ front 144 (put 0 (l 10 2 1 0 0)) is (value (pos 3), pos 0, pos 1 ∷ pos 2 ∷ zeros 142)
    ∷ [])
files = refl

-- a full case has no place past its own, and a case with a pair less has one: what taking it leaves in a table of sevens
pub taken :
    let past : Input → List ℤ = λ i.
    let call : CaseCall = case_taken (record { case = i.case; table = sevens 144 }) 241 in
    (zeroed_past call call.read.answer).table
    in
    Hold (past (crowd 96) is sevens 144 ∷ past (crowd 95) is (sevens 143 ++ zeros 1) ∷ past small is (sevens 3 ++ zeros 141) ∷ [])
taken = refl
