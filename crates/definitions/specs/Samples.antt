-- Document 01, "Sample cases": P1 to P12 as one table of questions with the answers that the document gives, and one theorem over it.
-- Assumes nothing.
use Rattle.definitions.specs.declared.Refusal.{Refusal}
use Rattle.std.specs.Prelude.{◌≡◌, refl, Bool, true, ◌&&◌, List, [], ◌∷◌, ◌++◌, map, ℕ, ◌-◌, ℤ, pos, T, eqb, length, take, replicate, if◌then◌else◌, Result, Ok}
use Prim.Native.String.{String}
use Rattle.integers.specs.Words.{all, joined, minus}
use Rattle.definitions.specs.declared.Rulebook.TheVariants.{Desk}
use Rattle.definitions.specs.declared.Case.{Case}
use Rattle.definitions.specs.declared.RunAnswer.{RunAnswer}
use Rattle.definitions.specs.Rules.{standard, edge_places, full_length}
use Rattle.definitions.specs.Refusals.{number_of}
use Rattle.definitions.specs.Case.{scopes, each_tuple, own_length, lent_length, active, upper_bound}
use Rattle.definitions.specs.Valid.{zeros_from, valid}
use Rattle.definitions.specs.CaseFiles.{case_text}
use Rattle.definitions.specs.Replay.{State, fresh, after, answers, at_end}
use Rattle.definitions.specs.Engine.{RunOf, engine_next, run}
use Rattle.definitions.specs.Programs.{bytes_of, press_prints, replay_prints}

-- ---- the cases

-- a case and its starting weights
pub record Input : Type 0 where
  pub case : Case
  pub weights : List ℤ

-- A case as a caller hands it over: its record has edge_places places for the ends of edges, and those from m on hold what is no variable of any case.
-- Its table is as long as number 4 asks, with 0 past the weights that are given. Every sample is over such a record.
abbrev padded : List ℕ → List ℕ
padded ends = take edge_places (ends ++ replicate edge_places 200)

abbrev pub full : ℕ → List ℤ → List ℤ
full d w = w ++ replicate (full_length standard d - length w) (pos 0)

abbrev pub given : ℕ → ℕ → ℕ → List ℕ → List ℕ → List ℤ → Input
given n d m lower upper w = record {
  case = record { n = n; d = d; m = m; lower = padded lower; upper = padded upper; carry = pos 0; rulebook = Desk };
  weights = full d w;
}

-- the same case with a table that is lent as it stands
abbrev pub with_table : Input → List ℤ → Input
with_table i w = record { case = i.case; weights = w }

-- the weights at a case's own places; none where a table has not the length that number 4 asks, or something else than 0 past them
abbrev pub own : Case → List ℤ → List ℤ
own c w = if eqb (length w) (lent_length standard c) && zeros_from (own_length c) w then take (own_length c) w else []

abbrev pub own_weights : Input → List ℤ
own_weights i = own i.case i.weights

abbrev unequal : List ℤ
unequal = minus 1 ∷ pos 0 ∷ pos 0 ∷ minus 1 ∷ []

-- three links, D 2, pairs (0,1), (0,2), (1,2), weights 0 but −1 for equal values
abbrev pub triangle : Input
triangle =
    given 3 2 3 (0 ∷ 0 ∷ 1 ∷ []) (1 ∷ 2 ∷ 2 ∷ [])
    (pos 0 ∷ pos 0 ∷ pos 0 ∷ pos 0 ∷ pos 0 ∷ pos 0 ∷ unequal ++ unequal ++ unequal)

-- two links and their pair, D 2
abbrev pub couple : List ℤ → Input
couple w = given 2 2 1 (0 ∷ []) (1 ∷ []) w

-- link weights 2, 0 and 2, 0, pair weights 0 but −3 at (0,0)
abbrev pub clash : Input
clash = couple (pos 2 ∷ pos 0 ∷ pos 2 ∷ pos 0 ∷ minus 3 ∷ pos 0 ∷ pos 0 ∷ pos 0 ∷ [])

-- Example 2 of the paper
abbrev pub example2 : Input
example2 = couple (pos 3 ∷ pos 4 ∷ pos 6 ∷ pos 2 ∷ minus 2 ∷ minus 4 ∷ pos 1 ∷ pos 1 ∷ [])

-- one link, one value, −7
abbrev pub single : Input
single = given 1 1 0 [] [] (minus 7 ∷ [])

-- ---- questions and answers

pub data Question : Type 0 where
  -- the upper bound; a run with a limit; a replay of lines; is all active after a run with a limit
  bound_of : Input → Question
  run-of : Input → ℕ → Question
  replay-of : Input → List String → Question
  all-active : Input → ℕ → Question
  -- what the programs print on this text
  press-on : List String → Question
  replay-on : List String → Question

pub data Reply : Type 0 where
  bound : ℤ → Reply
  -- a run's answer, rounds, upper bound, final weights and log
  ran : Result RunAnswer Refusal → ℕ → ℤ → List ℤ → List (List ℕ) → Reply
  -- each line's number, the end's, rounds, upper bound and final weights
  replayed : List ℕ → ℕ → ℕ → ℤ → List ℤ → Reply
  yes-no : Bool → Reply
  prints : List ℕ → Reply

abbrev pub texts : List String → List (List ℕ)
texts ts = map bytes_of ts

abbrev run_on : Input → ℕ → RunOf
run_on i limit = run standard engine_next i.case limit i.weights

abbrev ran_to : Input → RunOf → Reply
ran_to i q = ran q.answer q.rounds (upper_bound i.case q.weights) (own i.case q.weights) q.log

abbrev replayed_to : Input → List ℕ → State → Reply
replayed_to i numbers s = replayed numbers (number_of (at_end s)) s.rounds (upper_bound i.case s.weights) (own i.case s.weights)

abbrev all_active : Case → List ℤ → Bool
all_active c w = all (λ x. all (λ b. b) (each_tuple c x (active c w x))) (scopes c)

abbrev pub answer : Question → Reply
answer (bound_of i) = bound (upper_bound i.case i.weights)
answer (run-of i limit) = ran_to i (run_on i limit)
answer (replay-of i ts) =
    let s = fresh i.case i.weights in
    replayed_to i (map number_of (answers standard s (texts ts))) (after standard s (texts ts))
answer (all-active i limit) = yes-no (all_active i.case (run_on i limit).weights)
answer (press-on ts) = prints (press_prints Desk (joined (texts ts)))
answer (replay-on ts) = prints (replay_prints Desk (joined (texts ts)))

pub record Sample : Type 0 where
  pub ask : Question
  pub gives : Reply

infix 70 ◌gives◌
abbrev ◌gives◌ : Question → Reply → Sample
q gives a = record { ask = q; gives = a }

-- ---- texts

abbrev case_file : List String
case_file =
    "10   3   2   3           0\n"
    ∷ "11   0   0   0           0\n"
    ∷ "11   0   1   0           0\n"
    ∷ "11   1   0   0           0\n"
    ∷ "11   1   1   0           0\n"
    ∷ "11   2   0   0           0\n"
    ∷ "11   2   1   0           0\n"
    ∷ "12   0   0   1           0\n"
    ∷ "13   0   0   0          -1\n"
    ∷ "13   0   0   1           0\n"
    ∷ "13   0   1   0           0\n"
    ∷ "13   0   1   1          -1\n"
    ∷ "12   1   0   2           0\n"
    ∷ "13   1   0   0          -1\n"
    ∷ "13   1   0   1           0\n"
    ∷ "13   1   1   0           0\n"
    ∷ "13   1   1   1          -1\n"
    ∷ "12   2   1   2           0\n"
    ∷ "13   2   0   0          -1\n"
    ∷ "13   2   0   1           0\n"
    ∷ "13   2   1   0           0\n"
    ∷ "13   2   1   1          -1\n"
    ∷ []

abbrev pub log1 : List String
log1 =
    " 2   0   3   0           1\n"
    ∷ " 3   3   0   0           0\n"
    ∷ " 3   4   0   0           0\n"
    ∷ " 3   5   0   0           0\n"
    ∷ " 4   0   0   0          -1\n"
    ∷ []

abbrev pub log3 : List String
log3 =
    " 2   0   2   0           1\n"
    ∷ " 3   3   0   0           0\n"
    ∷ " 3   4   0   0           0\n"
    ∷ []

-- the press of P6 to P8: its first line, two raise lines, a bound line
abbrev pub raising1and2 : String → String → List String
raising1and2 begin stated =
    begin
    ∷ " 3   1   0   0           0\n"
    ∷ " 3   2   0   0           0\n"
    ∷ stated
    ∷ []

-- P5 as change 1 restates it: two shifts by −2
abbrev pub log5 : List String
log5 =
    " 1   0   0   0          -2\n"
    ∷ " 1   0   1   0          -2\n"
    ∷ " 4   0   0   0           2\n"
    ∷ []

-- the press that P5 was before: another engine's
abbrev pub by_two : List String
by_two = raising1and2 " 2   0   2   0           2\n" " 4   0   0   0           2\n"

abbrev pub log6 : List String
log6 = raising1and2 " 2   0   2   0           1\n" " 4   0   0   0           3\n"

abbrev pub log7 : List String
log7 = raising1and2 " 2   0   2   0           3\n" " 4   0   0   0           3\n"

abbrev pub log8 : List String
log8 = raising1and2 " 2   0   2   0           4\n" " 4   0   0   0           5\n"

abbrev pub log9 : List String
log9 =
    " 1   0   0   0          -2\n"
    ∷ " 4   0   0   0           4\n"
    ∷ []

-- ---- the table

abbrev none4 : List ℕ
none4 = 0 ∷ 0 ∷ 0 ∷ 0 ∷ []

abbrev pub zeros : ℕ → List ℤ
zeros n = replicate n (pos 0)

abbrev pub samples : List Sample
samples =
    -- P1: ceiling 0; `press` prints exactly these lines; it is the run's log, which ends settled, with all active
    bound_of triangle gives bound (pos 0)
    ∷ press-on case_file gives prints (joined (texts log1))
    ∷ run-of triangle 100_000 gives ran (Ok RunAnswer.Settled) 1 (minus 1) (minus 1 ∷ minus 1 ∷ zeros 16) (texts log1)
    ∷ all-active triangle 1 gives yes-no true
    -- P2: `replay` on the case and its log
    ∷ replay-of triangle log1 gives replayed (0 ∷ none4) 0 1 (minus 1) (minus 1 ∷ minus 1 ∷ zeros 16)
    ∷ replay-on (case_file ++ log1) gives prints (bytes_of "accepted 1 -1\n")
    -- P3: the same press without scope 5
    ∷ replay-of triangle log3 gives replayed (0 ∷ 0 ∷ 10 ∷ []) 10 0 (pos 0) (own_weights triangle)
    ∷ replay-on (case_file ++ log3) gives prints (bytes_of "refused 10 24\n")
    -- P4, P5: ceiling 4; "the engine now makes one pair round of two shifts by −2, again to ceiling 2", settled
    ∷ bound_of clash gives bound (pos 4)
    ∷ run-of clash 100_000 gives ran (Ok RunAnswer.Settled) 1 (pos 2) (zeros 4 ++ (pos 1 ∷ pos 2 ∷ pos 2 ∷ pos 0 ∷ [])) (texts log5)
    ∷ replay-of clash log5 gives replayed (0 ∷ 0 ∷ 0 ∷ []) 0 1 (pos 2) (zeros 4 ++ (pos 1 ∷ pos 2 ∷ pos 2 ∷ pos 0 ∷ []))
    ∷ replay-of clash by_two gives replayed none4 0 1 (pos 2) (pos 0 ∷ pos 0 ∷ pos 2 ∷ pos 2 ∷ minus 1 ∷ zeros 3)
    -- P6, P7, P8 "remain presses": by 1: ceiling 3; by 3: 3; by 4: 5, so number 13 at a bound line stating 5
    ∷ replay-of clash log6 gives replayed none4 0 1 (pos 3) (pos 1 ∷ pos 0 ∷ pos 2 ∷ pos 1 ∷ minus 2 ∷ zeros 3)
    ∷ replay-of clash log7 gives replayed none4 0 1 (pos 3) (minus 1 ∷ pos 0 ∷ pos 2 ∷ pos 3 ∷ zeros 4)
    ∷ replay-of clash log8 gives replayed (0 ∷ 0 ∷ 0 ∷ 13 ∷ []) 13 0 (pos 5) (minus 2 ∷ pos 0 ∷ pos 2 ∷ pos 4 ∷ pos 1 ∷ zeros 3)
    -- P9: shift of pair 0, end 0, value 0 by −2: ceiling 4, number 13
    ∷ replay-of clash log9 gives replayed (0 ∷ 13 ∷ []) 13 0 (pos 4) (pos 0 ∷ pos 0 ∷ pos 2 ∷ pos 0 ∷ minus 1 ∷ pos 2 ∷ zeros 2)
    -- P10: ceiling 11, settled
    ∷ bound_of example2 gives bound (pos 11)
    ∷ run-of example2 100_000 gives ran (Ok RunAnswer.Settled) 0 (pos 11) (own_weights example2) []
    -- P11, P12: ceiling −7, settled; limit 0 here answers settled; on P1, limit
    ∷ bound_of single gives bound (minus 7)
    ∷ run-of single 100_000 gives ran (Ok RunAnswer.Settled) 0 (minus 7) (own_weights single) []
    ∷ run-of single 0 gives ran (Ok RunAnswer.Settled) 0 (minus 7) (own_weights single) []
    ∷ run-of triangle 0 gives ran (Ok RunAnswer.Limit) 0 (pos 0) (own_weights triangle) []
    ∷ []

-- each question has the answer that the table gives
pub samples-hold : map (λ s. answer s.ask) samples ≡ map (λ s. s.gives) samples
samples-hold = refl

-- the cases are valid, and the triangle's file is the one that is written for it
pub samples-valid : T (all (λ i. valid standard i.case i.weights) (triangle ∷ clash ∷ example2 ∷ single ∷ []))
samples-valid = tt

pub triangle-written : case_text standard triangle.case triangle.weights ≡ joined (texts case_file)
triangle-written = refl

-- ---- samples of ours: readings that P1 to P12 leave alive

-- link weights 0, 2 and 0, 2, pair weights 0 but −3 at (1,1)
abbrev clash_above : Input
clash_above = couple (pos 0 ∷ pos 2 ∷ pos 0 ∷ pos 2 ∷ pos 0 ∷ pos 0 ∷ pos 0 ∷ minus 3 ∷ [])

-- two rounds; a second round whose bound is no lower than the first's
abbrev pub two_rounds : List String
two_rounds = log6 ++ raising1and2 " 2   0   2   0           1\n" " 4   0   0   0           2\n"

abbrev pub stale_start : List String
stale_start = log6 ++ (" 1   0   0   0          -1\n" ∷ " 4   0   0   0           3\n" ∷ [])

-- a round whose first move raises the upper bound, to 5
abbrev pub up_first : List String
up_first = " 1   0   0   0           1\n" ∷ " 1   0   0   0          -1\n" ∷ log6

-- the upper bound at a bound line is compared with that at the round's start, and with none on the way: here it goes 4, 5, 4; then 4, 3, 3;
-- then a round's 4, 3 and no move after its bound line
abbrev pub up_and_back : List String
up_and_back = " 1   0   0   0           1\n" ∷ " 1   0   0   0          -1\n" ∷ " 4   0   0   0           4\n" ∷ []

abbrev pub still_after_press : List String
still_after_press = take 3 log6 ++ (" 1   0   0   0          -1\n" ∷ " 4   0   0   0           3\n" ∷ [])

abbrev pub bound_again : List String
bound_again = log6 ++ (" 4   0   0   0           3\n" ∷ [])

abbrev pub our_samples : List Sample
our_samples =
    replay-of clash two_rounds gives
    replayed (none4 ++ none4) 0 2 (pos 2) (pos 0 ∷ pos 0 ∷ pos 2 ∷ pos 2 ∷ minus 1 ∷ zeros 3)
    ∷ replay-of clash stale_start gives
    replayed (none4 ++ (0 ∷ 13 ∷ [])) 13 1 (pos 3) (pos 0 ∷ pos 0 ∷ pos 2 ∷ pos 1 ∷ minus 1 ∷ pos 1 ∷ zeros 2)
    ∷ replay-of clash_above log7 gives
    replayed none4 0 1 (pos 3) (pos 0 ∷ minus 1 ∷ pos 3 ∷ pos 2 ∷ zeros 4)
    ∷ replay-of clash up_first gives
    replayed (0 ∷ 0 ∷ none4) 0 1 (pos 3) (pos 1 ∷ pos 0 ∷ pos 2 ∷ pos 1 ∷ minus 2 ∷ zeros 3)
    ∷ replay-of clash up_and_back gives replayed (0 ∷ 0 ∷ 13 ∷ []) 13 0 (pos 4) (own_weights clash)
    ∷ replay-of clash still_after_press gives
    replayed (0 ∷ none4) 0 1 (pos 3) (pos 0 ∷ pos 0 ∷ pos 2 ∷ pos 1 ∷ minus 1 ∷ pos 1 ∷ zeros 2)
    ∷ replay-of clash bound_again gives
    replayed (none4 ++ (13 ∷ [])) 13 1 (pos 3) (pos 1 ∷ pos 0 ∷ pos 2 ∷ pos 1 ∷ minus 2 ∷ zeros 3)
    -- the limits: weight 1,000,000 passes and 1,000,001 is number 8; 49 links are number 3
    ∷ replay-on ("10   1   1   0           0\n" ∷ "11   0   0   0     1000000\n" ∷ []) gives prints (bytes_of "accepted 0 1000000\n")
    ∷ replay-on ("10   1   1   0           0\n" ∷ "11   0   0   0     1000001\n" ∷ []) gives prints (bytes_of "refused 8 1\n")
    ∷ replay-on ("10  49   1   0           0\n" ∷ []) gives prints (bytes_of "refused 3 0\n")
    -- number 9: the scope just raised, and the own scope; number 11: a press of 1,000,000,000 and a shift out of the range
    ∷ replay-of clash (" 2   0   2   0           1\n" ∷ " 3   2   0   0           0\n" ∷ " 3   2   0   0           0\n" ∷ []) gives
    replayed (0 ∷ 0 ∷ 9 ∷ []) 9 0 (pos 4) (own_weights clash)
    ∷ replay-of clash (" 2   0   2   0           1\n" ∷ " 3   0   0   0           0\n" ∷ []) gives replayed (0 ∷ 9 ∷ []) 9 0 (pos 4) (own_weights clash)
    ∷ replay-of clash (raising1and2 " 2   0   2   0  1000000000\n" " 4   0   0   0           3\n") gives
    replayed (0 ∷ 0 ∷ 11 ∷ 11 ∷ []) 11 0 (pos 4) (own_weights clash)
    ∷ replay-of clash (" 1   0   1   1   500000001\n" ∷ []) gives replayed (11 ∷ []) 11 0 (pos 4) (own_weights clash)
    -- a log of no lines is accepted; a log cut inside a press, inside a round and inside a line is number 14
    ∷ replay-of clash [] gives replayed [] 0 0 (pos 4) (own_weights clash)
    ∷ replay-of clash (" 2   0   2   0           1\n" ∷ []) gives replayed (0 ∷ []) 14 0 (pos 4) (own_weights clash)
    ∷ replay-on (case_file ++ (" 1   0   0   0           1\n" ∷ [])) gives prints (bytes_of "refused 14 23\n")
    ∷ replay-on (case_file ++ (" 4" ∷ [])) gives prints (bytes_of "refused 14 22\n")
    -- nothing is due after a case that is read alone
    ∷ press-on (case_file ++ (" 4" ∷ [])) gives prints (bytes_of "refused 14 22\n")
    ∷ press-on (case_file ++ log1) gives prints (bytes_of "refused 2 22\n")
    ∷ []

pub our-samples-hold : map (λ s. answer s.ask) our_samples ≡ map (λ s. s.gives) our_samples
our-samples-hold = refl

pub our-samples-valid : T (all (λ i. valid standard i.case i.weights) (clash_above ∷ []))
our-samples-valid = tt

-- 48 links pass
abbrev wide : Input
wide = given 48 1 0 [] [] (zeros 48)

pub wide-accepted : replay_prints Desk (case_text standard wide.case wide.weights) ≡ bytes_of "accepted 0 0\n"
wide-accepted = refl
