-- Samples of barred tuples, lawful assignments and void lines (document 02, change 2), in tables as those of Borders. Assumes nothing.
use Rattle.std.specs.Prelude.{refl, Bool, true, false, List, [], ◌∷◌, ◌++◌, map, ℕ, ◌+◌, ◌-◌, ℤ, pos, length, take, drop, set, replicate, None}
use Rattle.integers.specs.Words.{joined, minus}
use Rattle.definitions.specs.declared.Rulebook.TheVariants.{Desk}
use Rattle.definitions.specs.declared.Case.{Case}
use Rattle.definitions.specs.Rules.{Rules, standard, edge_places, full_length}
use Rattle.definitions.specs.Refusals.{number_of, first_refusal}
use Rattle.definitions.specs.Answers.{Says, file_says, span_says, choice_says}
use Rattle.definitions.specs.Case.{active, is_lawful}
use Rattle.definitions.specs.Valid.{starting_weight, working_weight, handed_over, valid}
use Rattle.definitions.specs.Moves.{shift, moved, leaves_range}
use Rattle.definitions.specs.Lines.{line, line_text}
use Rattle.definitions.specs.CaseFiles.{CaseCall, case_taken, case_text, read_case, read_case_alone}
use Rattle.definitions.specs.Replay.{State, step, fresh, after, answers, at_end, keeps_rules}
use Rattle.definitions.specs.Views.{round_span, round_view}
use Rattle.definitions.specs.Scoring.{better_of, better}
use Rattle.definitions.specs.Programs.{bytes_of, press_prints, replay_prints}
use Rattle.definitions.specs.Samples.{Input, full, given, own, own_weights, triangle, couple, clash, zeros}
use Rattle.definitions.specs.Borders.{◌is◌, Hold, says, value, W, edges, l}

-- ---- cases

-- what a barred tuple holds
abbrev pub B : ℤ
B = minus 2_000_000_000

-- no lawful assignment: the pair bars (0,0), and all other values of both links are barred
abbrev pub locked : Input
locked = couple (pos 2 ∷ B ∷ pos 0 ∷ B ∷ B ∷ zeros 3)

-- one lawful assignment, (0,0)
abbrev pub patchy : Input
patchy = couple (pos 3 ∷ B ∷ pos 1 ∷ pos 0 ∷ pos 0 ∷ B ∷ pos 2 ∷ pos 5 ∷ [])

-- value 0 of link 0, its only one, has no partner
abbrev pub no_partner : ℤ → Input
no_partner other = couple (pos 2 ∷ B ∷ pos 0 ∷ other ∷ B ∷ B ∷ zeros 2)

-- ---- tables: exactly −2,000,000,000 is barred; 15 after 8 and after 7

pub tables :
    let starts : Input → ℕ =
    λ i. number_of (first_refusal (handed_over standard (starting_weight standard) i.case i.weights false false))
    in
    let works : Input → ℕ =
    λ i. number_of (first_refusal (handed_over standard (working_weight standard) i.case i.weights false false))
    in
    let first : ℤ → ℤ → Input = λ y z. couple (y ∷ z ∷ zeros 6) in
    let pair : ℤ → Input = λ z. couple (zeros 4 ++ (B ∷ B ∷ B ∷ z ∷ [])) in
    Hold
    (starts locked is 0 ∷ works locked is 0 ∷ starts (pair (pos 0)) is 0 ∷ starts (couple (pos 0 ∷ B ∷ zeros 2 ++ (pos 0 ∷ B ∷ B ∷ B ∷ []))) is 0
    ∷ starts (first (minus 1_999_999_999) (pos 0)) is 8 ∷ starts (first (minus 2_000_000_001) (pos 0)) is 8
    ∷ works (first (minus 1_999_999_999) (pos 0)) is 8 ∷ works (first (minus 2_000_000_001) (pos 0)) is 8
    ∷ starts (first B (minus 1_000_001)) is 8 ∷ works (first B (minus 1_000_001)) is 0 ∷ works (first B (minus (W + 1))) is 8
    -- a link, a pair, with D 1
    ∷ starts (first B B) is 15 ∷ works (first B B) is 15 ∷ starts (couple (zeros 2 ++ (B ∷ B ∷ zeros 4))) is 15
    ∷ starts (pair B) is 15 ∷ works (pair B) is 15 ∷ starts (given 1 1 0 [] [] (B ∷ [])) is 15 ∷ starts (edges 1 0 1 (zeros 2 ++ (B ∷ []))) is 15
    -- 8 before 15, 7 before 15
    ∷ starts (couple (B ∷ B ∷ pos 1_000_001 ∷ zeros 5)) is 8 ∷ starts (edges 2 0 1 (B ∷ zeros 3)) is 7
    ∷ [])
tables = refl

pub lawful :
    let starts : Input → Bool = λ i. valid standard i.case i.weights in
    let is_it : List ℕ → Bool = λ p. is_lawful patchy.case patchy.weights p in
    let is_active : Input → ℕ → ℕ → ℕ → Bool = λ i x k l. active i.case i.weights x k l in
    let keeps : List (List ℕ) → Bool = λ ts. keeps_rules standard locked.case locked.weights ts in
    Hold
    (starts patchy is true ∷ starts (couple (B ∷ B ∷ zeros 6)) is false ∷ starts (couple (minus 1_999_999_999 ∷ zeros 7)) is false
    -- a barred pair alone, a barred link alone, both
    ∷ is_it (0 ∷ 0 ∷ []) is true ∷ is_it (0 ∷ 1 ∷ []) is false ∷ is_it (1 ∷ 0 ∷ []) is false ∷ is_it (1 ∷ 1 ∷ []) is false
    ∷ is_it (0 ∷ []) is false ∷ is_it (0 ∷ 2 ∷ []) is false
    -- never active
    ∷ is_active patchy 0 1 0 is false ∷ is_active patchy 2 0 1 is false ∷ is_active patchy 2 1 1 is true ∷ is_active locked 0 0 0 is true
    -- a log is accepted that ends with a void line, whole
    ∷ keeps (l 5 0 2 0 0 ∷ l 3 1 0 0 0 ∷ l 3 2 0 0 0 ∷ []) is true ∷ keeps (l 5 0 2 0 0 ∷ l 3 1 0 0 0 ∷ []) is false
    ∷ [])
lawful = refl

-- ---- logs

-- a press or a void line with its raise lines; a bound line
abbrev raises : List ℕ → List (List ℕ)
raises scopes = map (λ x. l 3 x 0 0 0) scopes

abbrev pub press_lines : ℕ → List ℕ → ℕ → List (List ℕ)
press_lines i scopes a = l 2 i (length scopes) 0 a ∷ raises scopes

abbrev pub void_lines : ℕ → List ℕ → List (List ℕ)
void_lines i scopes = l 5 i (length scopes) 0 0 ∷ raises scopes

abbrev bound_line : ℤ → List (List ℕ)
bound_line z = line_text 12 (line 4 (pos 0) (pos 0) (pos 0) z) ∷ []

-- each line's number, the end's, rounds, whether a void line is whole, and the weights
abbrev Told : Type 0
Told = List ℕ × ℕ × ℕ × Bool × List ℤ

abbrev told : Input → List (List ℕ) → Told
told i ts =
    let s = after standard (fresh i.case i.weights) ts in
    (map number_of (answers standard (fresh i.case i.weights) ts), number_of (at_end s), s.rounds, s.void, own i.case s.weights)

abbrev fine : ℕ → List ℕ
fine n = replicate n 0

-- moves of barred tuples: the lines' numbers and the weights; no round is ended
pub moves :
    let by : Input → List (List ℕ) → List ℕ × List ℤ =
    λ i ts. let q = told i ts in (q.0, q.4)
    in
    let stay : Input → List ℕ → List ℕ × List ℤ = λ i numbers. (numbers, own_weights i) in
    let toRight : ℕ → ℕ → List (List ℕ) = λ v a. l 1 0 0 v a ∷ [] in
    let empty : Input = couple (pos 0 ∷ B ∷ zeros 4 ++ (B ∷ B ∷ [])) in
    Hold
    ( -- the place of a barred value stays, and those of the pair move; a barred place of the pair stays
    by patchy (toRight 1 4) is (fine 1, pos 3 ∷ B ∷ pos 1 ∷ pos 0 ∷ pos 0 ∷ B ∷ minus 2 ∷ pos 1 ∷ [])
    ∷ by patchy (toRight 0 4) is (fine 1, pos 7 ∷ B ∷ pos 1 ∷ pos 0 ∷ minus 4 ∷ B ∷ pos 2 ∷ pos 5 ∷ [])
    ∷ by patchy (bytes_of " 1   0   1   1          -4\n" ∷ []) is (fine 1, pos 3 ∷ B ∷ pos 1 ∷ minus 4 ∷ pos 0 ∷ B ∷ pos 2 ∷ pos 9 ∷ [])
    -- 11 is asked of places that are not barred
    ∷ by empty (toRight 1 1_000_000_000) is stay empty (fine 1)
    ∷ by patchy (toRight 1 500_000_002) is (fine 1, pos 3 ∷ B ∷ pos 1 ∷ pos 0 ∷ pos 0 ∷ B ∷ minus W ∷ minus 499_999_997 ∷ [])
    ∷ by patchy (toRight 1 500_000_003) is stay patchy (11 ∷ [])
    -- a press leaves barred tuples and raises the other forbidden ones
    ∷ by (couple (pos 2 ∷ pos 0 ∷ pos 2 ∷ pos 0 ∷ B ∷ minus 1 ∷ zeros 2)) (press_lines 0 (2 ∷ []) 1) is
    (fine 2, pos 1 ∷ pos 0 ∷ pos 2 ∷ pos 0 ∷ B ∷ zeros 3)
    ∷ by (couple (pos 2 ∷ pos 0 ∷ pos 2 ∷ B ∷ minus 3 ∷ pos 0 ∷ B ∷ pos 0 ∷ [])) (press_lines 0 (1 ∷ 2 ∷ []) 2) is
    (fine 3, pos 0 ∷ pos 0 ∷ pos 2 ∷ B ∷ minus 1 ∷ pos 0 ∷ B ∷ pos 0 ∷ [])
    -- barred tuples of scopes that are not raised are allowed
    ∷ by locked (press_lines 0 (2 ∷ []) 1) is stay locked (0 ∷ 10 ∷ []) ∷ by locked (press_lines 0 (1 ∷ []) 1) is stay locked (0 ∷ 10 ∷ [])
    -- a press that sets no gap is made, by any amount in range
    ∷ by locked (press_lines 0 (1 ∷ 2 ∷ []) 1) is (fine 3, pos 1 ∷ B ∷ pos 0 ∷ B ∷ B ∷ zeros 3)
    ∷ by locked (press_lines 0 (1 ∷ 2 ∷ []) 500_000_002) is (fine 3, minus W ∷ B ∷ pos 0 ∷ B ∷ B ∷ zeros 3)
    ∷ by locked (press_lines 0 (1 ∷ 2 ∷ []) 500_000_003) is stay locked (0 ∷ 0 ∷ 11 ∷ [])
    ∷ [])
moves = refl

-- A weight that would come to exactly −2,000,000,000 leaves the range, and does not become barred. The only place that the shift and the
-- press change is value 0 of link 0. Under these rules no amount of a move reaches so far, so that it is asked of the move itself, and of
-- lines under rules with greater amounts.
abbrev farther : Rules
farther = record {
  variables = 48;
  values = 8;
  edges = 96;
  starting = 1_000_000;
  working = W;
  moving = 3_000_000_000;
  carried = 20_000_000_000;
  rounds = 9;
  amount_width = 12;
  kinds = standard.kinds;
}

pub never-becomes-barred :
    let c : Case = (no_partner (pos 0)).case in
    let w : List ℤ = (no_partner (pos 0)).weights in
    let v : List ℤ = moved c (shift 0 0 0 (minus 2_000_000_002)) w in
    let last : Rules → List (List ℕ) → ℕ = λ r ts. number_of (after r (fresh c w) ts).refusal in
    let shifted : List (List ℕ) = bytes_of " 1   0   0   0 -2000000002\n" ∷ [] in
    Hold (v is (B ∷ drop 1 w) ∷ [])
    × Hold (leaves_range standard c w v is true ∷ leaves_range standard c v v is false ∷ [])
    × Hold (last standard shifted is 5 ∷ last farther shifted is 11 ∷ last farther (press_lines 0 (2 ∷ []) 2_000_000_002) is 11 ∷ [])
never-becomes-barred = (refl, refl, refl)

-- void lines: on fresh cases, after moves without a bound line, after rounds
pub voids :
    let stay : Input → List ℕ → ℕ → Bool → Told = λ i numbers end whole. (numbers, end, 0, whole, own_weights i) in
    let both : List (List ℕ) = void_lines 0 (1 ∷ 2 ∷ []) in
    let other : ℤ → ℤ → ℤ → Input = λ a b c. couple (pos 2 ∷ a ∷ pos 0 ∷ b ∷ B ∷ pos 0 ∷ pos 0 ∷ c ∷ []) in
    Hold
    (told locked both is stay locked (fine 3) 0 true ∷ told locked (void_lines 1 (0 ∷ 2 ∷ [])) is stay locked (fine 3) 0 true
    ∷ told (no_partner (pos 0)) (void_lines 0 (2 ∷ [])) is stay (no_partner (pos 0)) (fine 2) 0 true
    ∷ told (no_partner (pos 0)) both is stay (no_partner (pos 0)) (fine 3) 0 true
    -- weights and rounds stay, and no bound line is asked of its round
    ∷ told locked (press_lines 0 (1 ∷ 2 ∷ []) 7 ++ both) is (fine 6, 0, 0, true, minus 5 ∷ B ∷ pos 0 ∷ B ∷ B ∷ zeros 3)
    ∷ told locked (press_lines 0 (1 ∷ 2 ∷ []) 7 ++ bound_line (minus 5) ++ both) is (fine 7, 0, 1, true, minus 5 ∷ B ∷ pos 0 ∷ B ∷ B ∷ zeros 3)
    ∷ told locked (press_lines 0 (1 ∷ 2 ∷ []) 7 ++ bound_line (minus 5) ++ press_lines 1 (0 ∷ 2 ∷ []) 1 ++ both) is
    (fine 10, 0, 1, true, minus 5 ∷ B ∷ minus 1 ∷ B ∷ B ∷ zeros 3)
    -- 16: another value of the link; a forbidden tuple of a link and of a pair, also of a scope that is raised without need
    ∷ told (other (pos 1) B (pos 0)) both is stay (other (pos 1) B (pos 0)) (0 ∷ 0 ∷ 16 ∷ []) 16 false
    ∷ told (other B (minus 1) (pos 0)) both is stay (other B (minus 1) (pos 0)) (0 ∷ 0 ∷ 16 ∷ []) 16 false
    ∷ told (other B B (minus 1)) both is stay (other B B (minus 1)) (0 ∷ 0 ∷ 16 ∷ []) 16 false
    ∷ told (no_partner (minus 1)) both is stay (no_partner (minus 1)) (0 ∷ 0 ∷ 16 ∷ []) 16 false
    ∷ told (no_partner (minus 1)) (void_lines 0 (2 ∷ [])) is stay (no_partner (minus 1)) (fine 2) 0 true
    -- 10 before 16; barred tuples of scopes that are not raised are allowed; an active value that is not refuted
    ∷ told (other (pos 1) B (pos 0)) (void_lines 0 (2 ∷ [])) is stay (other (pos 1) B (pos 0)) (0 ∷ 10 ∷ []) 10 false
    ∷ told locked (void_lines 0 (2 ∷ [])) is stay locked (0 ∷ 10 ∷ []) 10 false ∷ told locked (void_lines 0 (1 ∷ [])) is stay locked (0 ∷ 10 ∷ []) 10 false
    ∷ told (other (pos 2) B (pos 0)) both is stay (other (pos 2) B (pos 0)) (0 ∷ 0 ∷ 10 ∷ []) 10 false
    -- never where nothing is barred
    ∷ told clash both is stay clash (0 ∷ 0 ∷ 16 ∷ []) 16 false ∷ told clash (void_lines 0 (1 ∷ [])) is stay clash (0 ∷ 10 ∷ []) 10 false
    ∷ told triangle (void_lines 0 (3 ∷ 4 ∷ 5 ∷ [])) is stay triangle (0 ∷ 0 ∷ 0 ∷ 16 ∷ []) 16 false
    -- cut off
    ∷ told locked (take 1 both) is stay locked (fine 1) 14 false ∷ told locked (take 2 both) is stay locked (fine 2) 14 false
    -- nothing is due any more, and a void line that is whole stays so
    ∷ told locked (both ++ bound_line (pos 2)) is stay locked (0 ∷ 0 ∷ 0 ∷ 2 ∷ []) 2 true
    ∷ told locked (both ++ (replicate 27 120 ∷ bound_line (pos 2))) is stay locked (0 ∷ 0 ∷ 0 ∷ 1 ∷ 1 ∷ []) 1 true
    ∷ [])
voids = refl

-- the number of a line: first, with a void line or a press of link 0 held, and after a void line that is whole
pub lines :
    let start : State = fresh locked.case locked.weights in
    let number_in : List (List ℕ) → List ℕ → ℕ = λ ts t. number_of (step standard (after standard start ts) t).refusal in
    let begin : List ℕ → ℕ = number_in [] in
    let holding : List ℕ → List ℕ → ℕ = λ xs. number_in (l 5 0 2 0 0 ∷ raises xs) in
    let pressing : List ℕ → ℕ = number_in (l 2 0 2 0 1 ∷ []) in
    let over : List ℕ → ℕ = number_in (void_lines 0 (1 ∷ 2 ∷ [])) in
    let w : List ℤ = locked.weights in
    let late : State = record {
      case = locked.case;
      starting = w;
      weights = w;
      rounds = 999_999_999_999_999_999;
      start = pos 9;
      held = None;
      moving = false;
      void = false;
      refusal = None;
    }
    in
    Hold
    ( -- 2: unused columns; 5: the link, and the count, which is 1 to s − 1; the count of rounds is not asked
    begin (l 5 0 2 1 0) is 2 ∷ begin (l 5 0 2 0 1) is 2 ∷ begin (l 5 2 2 0 1) is 2 ∷ begin (l 5 2 2 0 0) is 5
    ∷ begin (bytes_of " 5  -1   2   0           0\n") is 5 ∷ begin (l 5 0 0 0 0) is 5 ∷ begin (l 5 0 3 0 0) is 5
    ∷ begin (bytes_of " 5   0  -1   0           0\n") is 5 ∷ begin (l 5 1 1 0 0) is 0 ∷ begin (l 5 0 2 0 0) is 0
    ∷ number_of (step standard late (l 5 0 2 0 0)).refusal is 0 ∷ number_of (step standard late (l 4 0 0 0 2)).refusal is 5
    -- only raise lines are due with a void line held; no void line with a press held
    ∷ holding [] (l 1 0 0 0 1) is 2 ∷ holding [] (l 2 0 2 0 1) is 2 ∷ holding [] (l 4 0 0 0 2) is 2 ∷ holding [] (l 5 0 2 0 0) is 2
    ∷ holding [] (l 3 1 1 0 0) is 2 ∷ pressing (l 5 0 2 0 0) is 2 ∷ pressing (l 3 1 0 0 0) is 0
    -- raise lines: 5 before 9, at the last one too, where both come before 10 and 16
    ∷ holding [] (l 3 1 0 0 0) is 0 ∷ holding [] (l 3 0 0 0 0) is 9 ∷ holding [] (l 3 3 0 0 0) is 5
    ∷ holding (2 ∷ []) (bytes_of " 3  -1   0   0           0\n") is 5
    ∷ holding (1 ∷ []) (l 3 1 0 0 0) is 9 ∷ holding (2 ∷ []) (l 3 1 0 0 0) is 9 ∷ holding (1 ∷ []) (l 3 0 0 0 0) is 9
    ∷ holding (2 ∷ []) (l 3 3 0 0 0) is 5 ∷ holding (1 ∷ []) (l 3 2 0 0 0) is 0
    -- after it: 2 for every kind, 1 for what is no line
    ∷ over (l 1 0 0 0 1) is 2 ∷ over (l 2 0 2 0 1) is 2 ∷ over (l 3 1 0 0 0) is 2 ∷ over (l 4 0 0 0 2) is 2 ∷ over (l 5 0 2 0 0) is 2
    ∷ over (l 10 2 2 1 0) is 2 ∷ over (l 14 0 0 0 0) is 2 ∷ over (l 0 0 0 0 0) is 2 ∷ over (replicate 27 120) is 1 ∷ over (take 26 (l 4 0 0 0 2)) is 1
    ∷ [])
lines = refl

-- ---- case files

abbrev patchy_lines : List (List ℕ)
patchy_lines =
    l 10 2 2 1 0 ∷ l 11 0 0 0 3 ∷ l 14 0 1 0 0 ∷ l 11 1 0 0 1 ∷ l 11 1 1 0 0
    ∷ l 12 0 0 1 0 ∷ l 13 0 0 0 0 ∷ l 15 0 0 1 0 ∷ l 13 0 1 0 2 ∷ l 13 0 1 1 5 ∷ []

-- written, and read back into a table of bars
pub written-and-read :
    let rest : List ℕ = replicate (edge_places - 1) 0 in
    let back : Input → CaseCall = λ i. read_case Desk (case_text standard i.case i.weights) (replicate (full_length standard 2) B) in
    let whole : Input → CaseCall = λ i. case_taken (record { case = (given 2 2 1 (0 ∷ rest) (1 ∷ rest) []).case; table = i.weights }) 10 in
    Hold (case_text standard patchy.case patchy.weights is joined patchy_lines ∷ [])
    × Hold (back patchy is whole patchy ∷ back locked is whole locked ∷ back (no_partner B) is whole (no_partner B) ∷ [])
written-and-read = (refl, refl)

-- The number and the line, and the table, which held sevens. `put` has another line in the place of one; `link` a barred value 0 of link 0
-- before it, and `three` a pair of which three tuples are barred.
pub files :
    let told : CaseCall → Says × List ℤ = λ q. (file_says q.read.answer, q.table) in
    let sevens : ℕ → List ℤ = λ n. replicate n (pos 7) in
    let read : List (List ℕ) → Says × List ℤ = λ ts. told (read_case Desk (joined ts) (sevens (full_length standard 2))) in
    let put : ℕ → List ℕ → Says × List ℤ = λ at t. read (set patchy_lines at t) in
    let link : List ℕ → Says × List ℤ = λ t. read (set (set patchy_lines 1 (l 14 0 0 0 0)) 2 t) in
    let three : List ℕ → Says × List ℤ = λ t. read (set (set (set patchy_lines 6 (l 15 0 0 0 0)) 8 (l 15 0 1 0 0)) 9 t) in
    let refused_at : ℕ → List ℤ → ℕ → Says × List ℤ = λ at good n. (says n (pos at ∷ []), good ++ sevens (full_length standard 2 - length good)) in
    let good : ℕ → List ℤ = λ n. take n patchy.weights in
    let whole : List ℤ → Says × List ℤ = λ w. (value (pos 10), full 2 w) in
    let barred_by : ℕ → ℤ → List ℤ = λ at z. set patchy.weights at z in
    let one : List (List ℕ) → List ℤ → Says × List ℤ = λ ts w. told (read_case Desk (joined ts) w) in
    Hold
    ( -- kind 14: unused columns, the place due, kinds due; 8 of kind 11
    put 2 (l 14 0 1 0 1) is refused_at 2 (good 1) 2 ∷ put 2 (bytes_of "14   0   1   0 -2000000000\n") is refused_at 2 (good 1) 2
    ∷ put 2 (l 14 0 1 1 0) is refused_at 2 (good 1) 2 ∷ put 2 (l 15 0 1 0 0) is refused_at 2 (good 1) 2
    ∷ put 2 (l 14 0 0 0 0) is refused_at 2 (good 1) 5 ∷ put 2 (l 14 1 1 0 0) is refused_at 2 (good 1) 5
    ∷ put 2 (bytes_of "11   0   1   0 -2000000000\n") is refused_at 2 (good 1) 8
    ∷ put 0 (l 14 2 2 0 0) is refused_at 0 [] 2 ∷ put 5 (l 14 0 0 0 0) is refused_at 5 (good 4) 2 ∷ put 5 (l 15 0 0 1 0) is refused_at 5 (good 4) 2
    -- kind 15 likewise
    ∷ put 6 (l 14 0 0 0 0) is refused_at 6 (good 4) 2 ∷ put 7 (l 15 0 0 1 1) is refused_at 7 (good 5) 2 ∷ put 7 (l 15 1 0 1 0) is refused_at 7 (good 5) 5
    ∷ put 7 (l 15 0 1 1 0) is refused_at 7 (good 5) 5 ∷ put 7 (l 15 0 0 0 0) is refused_at 7 (good 5) 5
    ∷ put 7 (bytes_of "13   0   0   1 -2000000000\n") is refused_at 7 (good 5) 8 ∷ put 7 (bytes_of "13   0   0   1 -1999999999\n") is refused_at 7 (good 5) 8
    -- 15 at a scope's last line, not before it, and after 2, 5 and 8 of that line
    ∷ link (l 14 0 1 0 0) is refused_at 2 (B ∷ []) 15 ∷ link (l 14 0 1 0 1) is refused_at 2 (B ∷ []) 2 ∷ link (l 14 0 0 0 0) is refused_at 2 (B ∷ []) 5
    ∷ link (bytes_of "11   0   1   0 -2000000000\n") is refused_at 2 (B ∷ []) 8
    ∷ link (l 11 0 1 0 4) is whole (B ∷ pos 4 ∷ pos 1 ∷ pos 0 ∷ pos 0 ∷ B ∷ pos 2 ∷ pos 5 ∷ [])
    ∷ put 3 (l 14 1 0 0 0) is whole (barred_by 2 B) ∷ put 4 (l 14 1 1 0 0) is whole (barred_by 3 B)
    ∷ three (l 15 0 1 1 0) is refused_at 9 (good 4 ++ (B ∷ B ∷ B ∷ [])) 15 ∷ three (l 15 0 1 0 0) is refused_at 9 (good 4 ++ (B ∷ B ∷ B ∷ [])) 5
    ∷ three (bytes_of "13   0   1   1 -2000000000\n") is refused_at 9 (good 4 ++ (B ∷ B ∷ B ∷ [])) 8
    ∷ three (l 13 0 1 1 5) is whole (good 4 ++ (B ∷ B ∷ B ∷ pos 5 ∷ []))
    -- with D 1
    ∷ one (l 10 1 1 0 0 ∷ l 14 0 0 0 0 ∷ []) (sevens 144) is (says 15 (pos 1 ∷ []), sevens 144)
    ∷ one (l 10 2 1 1 0 ∷ l 11 0 0 0 3 ∷ l 11 1 0 0 4 ∷ l 12 0 0 1 0 ∷ l 15 0 0 0 0 ∷ []) (sevens 144) is
    (says 15 (pos 4 ∷ []), pos 3 ∷ pos 4 ∷ sevens 142)
    -- nothing is due after it
    ∷ told (read_case_alone Desk (joined (patchy_lines ++ (l 14 0 0 0 0 ∷ []))) (sevens (full_length standard 2))) is refused_at 10 (good 8) 2
    ∷ [])
files = refl

-- ---- scoring and programs

-- in `low` the lawful plans have totals −3,000,000 and 1,000,000
pub scores :
    let scored : Input → List ℕ → List ℕ → Says × List ℕ =
    λ i p q. (choice_says (better_of standard i.case i.weights p q), better standard i.case i.weights p q)
    in
    let U : ℕ = 1_000_000 in
    let low : Input = couple (minus U ∷ B ∷ minus U ∷ pos U ∷ minus U ∷ pos U ∷ pos U ∷ pos U ∷ []) in
    Hold
    ( -- lawful against unlawful, and the other way round
    scored low (0 ∷ 0 ∷ []) (1 ∷ 1 ∷ []) is (value (pos 0), 0 ∷ 0 ∷ []) ∷ scored low (1 ∷ 1 ∷ []) (0 ∷ 0 ∷ []) is (value (pos 1), 0 ∷ 0 ∷ [])
    ∷ scored patchy (0 ∷ 0 ∷ []) (0 ∷ 1 ∷ []) is (value (pos 0), 0 ∷ 0 ∷ []) ∷ scored patchy (0 ∷ 1 ∷ []) (0 ∷ 0 ∷ []) is (value (pos 1), 0 ∷ 0 ∷ [])
    -- two unlawful plans: the first
    ∷ scored low (1 ∷ 0 ∷ []) (1 ∷ 1 ∷ []) is (value (pos 0), 1 ∷ 0 ∷ []) ∷ scored low (1 ∷ 1 ∷ []) (1 ∷ 0 ∷ []) is (value (pos 0), 1 ∷ 1 ∷ [])
    ∷ scored patchy (0 ∷ 1 ∷ []) (1 ∷ 1 ∷ []) is (value (pos 0), 0 ∷ 1 ∷ [])
    -- two lawful plans
    ∷ scored low (0 ∷ 0 ∷ []) (0 ∷ 1 ∷ []) is (value (pos 1), 0 ∷ 1 ∷ []) ∷ scored low (0 ∷ 1 ∷ []) (0 ∷ 0 ∷ []) is (value (pos 0), 0 ∷ 1 ∷ [])
    -- refused
    ∷ scored patchy (1 ∷ 1 ∷ []) (0 ∷ []) is (says 4 [], []) ∷ scored patchy (1 ∷ 1 ∷ []) (0 ∷ 2 ∷ []) is (says 5 [], [])
    ∷ scored (couple (minus 1_999_999_999 ∷ B ∷ zeros 6)) (1 ∷ 1 ∷ []) (0 ∷ 0 ∷ []) is (says 8 [], [])
    ∷ scored (couple (B ∷ B ∷ zeros 6)) (1 ∷ 1 ∷ []) (0 ∷ 0 ∷ []) is (says 15 [], [])
    ∷ [])
scores = refl

-- a void line is no round, and is not checked by a view
pub views :
    let both : List ℕ = joined (void_lines 0 (1 ∷ 2 ∷ [])) in
    let view : List ℕ → ℕ → Says × List ℕ = λ log n. (span_says (round_span standard log n), round_view standard log n) in
    Hold
    (view (l 4 0 0 0 1 ++ both) 0 is (says 0 (pos 0 ∷ pos 27 ∷ []), l 4 0 0 0 1) ∷ view (l 4 0 0 0 1 ++ both) 1 is (says 5 (pos 4 ∷ []), [])
    ∷ view (both ++ l 4 0 0 0 1) 0 is (says 0 (pos 0 ∷ pos 108 ∷ []), both ++ l 4 0 0 0 1)
    ∷ [])
views = refl

-- on the file of `locked`, which has ten lines, and a log
pub prints :
    let file : Input → List ℕ = λ i. case_text standard i.case i.weights in
    let replay : List (List ℕ) → List ℕ = λ log. replay_prints Desk (file locked ++ joined log) in
    let both : List (List ℕ) = void_lines 0 (1 ∷ 2 ∷ []) in
    let by_press : List (List ℕ) = press_lines 0 (1 ∷ 2 ∷ []) 7 in
    let x : ℕ → List (List ℕ) = λ n. replicate n 120 ∷ [] in
    Hold
    (replay both is bytes_of "void\n" ∷ replay (by_press ++ both) is bytes_of "void\n"
    ∷ replay (by_press ++ bound_line (minus 5) ++ both) is bytes_of "void\n" ∷ replay (by_press ++ bound_line (minus 5)) is bytes_of "accepted 1 -5\n"
    ∷ replay [] is bytes_of "accepted 0 2\n"
    -- a line after it, a part line after it, cut off
    ∷ replay (both ++ bound_line (pos 2)) is bytes_of "refused 2 13\n" ∷ replay (both ++ both) is bytes_of "refused 2 13\n"
    ∷ replay (both ++ x 27) is bytes_of "refused 1 13\n" ∷ replay (both ++ x 26) is bytes_of "refused 14 13\n" ∷ replay (both ++ x 28) is bytes_of "refused 1 13\n"
    ∷ replay (take 1 both) is bytes_of "refused 14 11\n" ∷ replay (take 2 both) is bytes_of "refused 14 12\n"
    ∷ replay (take 2 both ++ x 1) is bytes_of "refused 14 12\n"
    -- 10, and 16 after a shift, by which tuples of the pair come to be forbidden that are not barred
    ∷ replay (void_lines 0 (2 ∷ [])) is bytes_of "refused 10 11\n"
    ∷ replay (bytes_of " 1   0   0   0          -2\n" ∷ both) is bytes_of "refused 16 13\n"
    -- the case
    ∷ replay_prints Desk (l 10 1 1 0 0 ++ l 14 0 0 0 0) is bytes_of "refused 15 1\n" ∷ press_prints Desk (l 10 1 1 0 0 ++ l 14 0 0 0 0) is bytes_of "refused 15 1\n"
    ∷ press_prints Desk (file locked ++ joined (x 1)) is bytes_of "refused 14 10\n"
    ∷ [])
prints = refl
