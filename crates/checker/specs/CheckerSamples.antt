-- The replay's calls on the sample cases, on records that are handed over, and on blocks, by computation. Assumes nothing.
use Rattle.std.specs.Prelude.{◌≡◌, refl, true, false, List, [], ◌∷◌, ◌++◌, map, ℕ, ◌+◌, ◌-◌, ℤ, pos, length, set, replicate, Ok, Err, Option, Some, None}
use Prim.Native.String.{String}
use Rattle.integers.specs.Words.{joined, minus}
use Rattle.definitions.specs.declared.Case.{Case}
use Rattle.definitions.specs.declared.Rulebook.TheVariants.{Desk}
use Rattle.definitions.specs.declared.Refusal.TheVariants.{WrongLength, RaiseNotAscending}
use Rattle.definitions.specs.Rules.{rules_in}
use Rattle.definitions.specs.Answers.{outcome_says}
use Rattle.definitions.specs.Case.{upper_bound}
use Rattle.definitions.specs.Programs.{bytes_of}
use Rattle.definitions.specs.Samples.{Input, given, full, own, Question, bound_of, run-of, replay-of, all-active, press-on, replay-on, Reply}
use Rattle.definitions.specs.Samples.{replayed, samples, our_samples, answer, triangle, clash, texts, log1, log6, zeros}
use Rattle.checker.specs.declared.Target.{Target}
use Rattle.checker.specs.declared.Due.{Due}
use Rattle.checker.specs.declared.Replay.{Replay}
use Rattle.checker.specs.Checker.{Between, StepCall, BlockCall, fresh_replay, step_replay, end_replay, after_lines, line_answers, fold_replay, block_replay}

-- ---- the samples of document 01 and ours: a replay is answered by the fold of step

abbrev start : Input → Between
start i = record { case = i.case; table = i.weights; replay = fresh_replay (rules_in Desk) i.case i.weights }

abbrev checked : Between → List ℕ → Reply
checked b numbers =
    replayed numbers (outcome_says (end_replay (rules_in Desk) b.case b.replay)).number b.replay.rounds (upper_bound b.case b.table)
    (own b.case b.table)

abbrev answer_by_record : Question → Reply
answer_by_record (replay-of i ts) =
    checked (after_lines (rules_in Desk) (start i) (texts ts)) (map (λ o. (outcome_says o).number) (line_answers (rules_in Desk) (start i) (texts ts)))
answer_by_record (bound_of i) = answer (bound_of i)
answer_by_record (run-of i limit) = answer (run-of i limit)
answer_by_record (all-active i limit) = answer (all-active i limit)
answer_by_record (press-on ts) = answer (press-on ts)
answer_by_record (replay-on ts) = answer (replay-on ts)

pub samples-hold-of-records : map (λ s. answer_by_record s.ask) samples ≡ map (λ s. s.gives) samples
unfolding fresh_replay step_replay end_replay
samples-hold-of-records = refl

pub our-samples-hold-of-records : map (λ s. answer_by_record s.ask) our_samples ≡ map (λ s. s.gives) our_samples
unfolding fresh_replay step_replay end_replay
our-samples-hold-of-records = refl

-- ---- records that are handed over: a number for each line, and what the record holds after it

abbrev most : ℕ
most = 999_999_999_999_999_999

-- marks for all scopes, the first of them given
abbrev marks_of : List ℕ → List ℕ
marks_of marks = marks ++ replicate (144 - length marks) 0

abbrev between : ℕ → Replay
between rounds = record {
  rounds = rounds;
  start = pos 4;
  moved = false;
  raised = marks_of [];
  due = Due.MoveOrBound;
  standing = Ok tt;
}

abbrev inside : ℕ → ℤ → ℕ → Option ℕ → List ℕ → Replay
inside i a left last marks = record {
  rounds = 0;
  start = pos 4;
  moved = true;
  raised = marks_of marks;
  due = Due.Raise i (Target.Press a) left last;
  standing = Ok tt;
}

abbrev on_clash : Replay → String → StepCall
on_clash p line = step_replay (rules_in Desk) clash.case clash.weights p (bytes_of line)

abbrev number_of : StepCall → ℕ
number_of q = (outcome_says q.stepped.answer).number

abbrev shift_line : String
shift_line = " 1   0   0   0          -2\n"

abbrev raise2 : String
raise2 = " 3   2   0   0           0\n"

pub records-asked :
    map number_of
    -- the count of rounds: one at its end passes but for a bound line, one past it does not
    (on_clash (between most) shift_line
    ∷ on_clash (between most) " 4   0   0   0           4\n"
    ∷ on_clash (between (most + 1)) shift_line
    -- number 2 comes before the record's 5, and that before 10
    ∷ on_clash (between (most + 1)) raise2
    ∷ on_clash (inside 0 (pos 1) 1 None []) raise2
    ∷ on_clash (inside 2 (pos 1) 1 None []) raise2
    ∷ on_clash (inside 0 (pos 0) 1 None []) raise2
    ∷ on_clash (inside 0 (pos 1) 0 None []) raise2
    ∷ on_clash (inside 0 (pos 1) 3 None []) raise2
    ∷ on_clash (inside 0 (pos 1) 1 (Some 3) []) raise2
    ∷ on_clash (inside 0 (pos 1) 1 (Some 2) []) raise2
    ∷ on_clash (inside 0 (pos 1) 1 None (0 ∷ 0 ∷ 0 ∷ 1 ∷ [])) raise2
    -- any byte but 0 marks a scope: with 1 raised the press is made
    ∷ on_clash (inside 0 (pos 1) 1 None (0 ∷ 255 ∷ [])) raise2
    ∷ [])
    ≡ 0 ∷ 5 ∷ 5 ∷ 2 ∷ 10 ∷ 5 ∷ 5 ∷ 5 ∷ 5 ∷ 5 ∷ 9 ∷ 5 ∷ 0 ∷ []
unfolding step_replay
records-asked = refl

-- a refused step changes the standing alone; a press made leaves nothing raised
pub refused-keeps : (on_clash (inside 0 (pos 1) 2 (Some 2) (0 ∷ 0 ∷ 1 ∷ [])) raise2).stepped.replay
    ≡ record {
      rounds = 0;
      start = pos 4;
      moved = true;
      raised = marks_of (0 ∷ 0 ∷ 1 ∷ []);
      due = Due.Raise 0 (Target.Press (pos 1)) 2 (Some 2);
      standing = Err RaiseNotAscending;
    }
unfolding step_replay
refused-keeps = refl

pub press-made : on_clash (inside 0 (pos 1) 1 (Some 1) (0 ∷ 1 ∷ [])) raise2
    ≡ record {
      stepped = record {
        replay = record {
          rounds = 0;
          start = pos 4;
          moved = true;
          raised = marks_of [];
          due = Due.MoveOrBound;
          standing = Ok tt;
        };
        answer = Ok tt;
      };
      table = full 2 (pos 1 ∷ pos 0 ∷ pos 2 ∷ pos 1 ∷ minus 2 ∷ []);
    }
unfolding step_replay
press-made = refl

-- ---- fresh and end: number 8 stands, and is answered before anything else is looked at

abbrev too_high : Replay
too_high = fresh_replay (rules_in Desk) clash.case (full 2 (pos 1_000_001 ∷ []))

pub fresh-refused :
    ◌≡◌ {A = ℤ × ℕ × ℕ} (too_high.start, (outcome_says too_high.standing).number, number_of (on_clash too_high "x")) (pos 0, 8, 8)
unfolding fresh_replay step_replay
fresh-refused = refl

pub ends :
    map (λ p. (outcome_says (end_replay (rules_in Desk) clash.case p)).number)
    (too_high ∷ between 0 ∷ between (most + 1) ∷ inside 0 (pos 1) 1 None [] ∷ inside 2 (pos 1) 1 None [] ∷ [])
    ≡ 8 ∷ 0 ∷ 5 ∷ 14 ∷ 5 ∷ []
unfolding fresh_replay end_replay
ends = refl

-- so many links of two values, and one pair
abbrev paired : ℕ → ℕ → ℕ → Case
paired n i j = (given n 2 1 (i ∷ []) (j ∷ []) []).case

-- the end asks 3, 5, 6 before 14: 49 links; 48; a link past the last; a pair (1, 0); a press held; and the record's 5 before that
pub ends-ask :
    (outcome_says (end_replay (rules_in Desk) (paired 49 0 1) (between 0))).number
    ∷ (outcome_says (end_replay (rules_in Desk) (paired 48 0 1) (between 0))).number
    ∷ (outcome_says (end_replay (rules_in Desk) (paired 2 0 2) (between 0))).number
    ∷ (outcome_says (end_replay (rules_in Desk) (paired 2 1 0) (between 0))).number
    ∷ (outcome_says (end_replay (rules_in Desk) (paired 2 1 0) (inside 0 (pos 1) 1 None []))).number
    ∷ (outcome_says (end_replay (rules_in Desk) (paired 2 1 0) (between (most + 1)))).number
    ∷ []
    ≡ 3 ∷ 0 ∷ 5 ∷ 6 ∷ 6 ∷ 5 ∷ []
unfolding end_replay
ends-ask = refl

-- ---- blocks: five lines and a part of one; a shift and a bound line that is not lower; a record that stands refused

abbrev block_says : BlockCall → ℕ × ℕ
block_says q = (q.block.lines, (outcome_says q.block.answer).number)

pub blocks :
    block_says (block_replay (rules_in Desk) triangle.case triangle.weights (start triangle).replay (joined (texts log1) ++ (32 ∷ [])))
    ∷ block_says (block_replay (rules_in Desk) clash.case clash.weights (start clash).replay
    (joined (texts (shift_line ∷ " 4   0   0   0           4\n" ∷ "x" ∷ []))))
    ∷ block_says (block_replay (rules_in Desk) clash.case clash.weights too_high (joined (texts log6)))
    ∷ []
    ≡ (5, 0) ∷ (1, 13) ∷ (0, 8) ∷ []
unfolding fresh_replay step_replay fold_replay block_replay
blocks = refl

-- ---- blocks of no whole line: the number answered, and the one that stands after it

abbrev without : Case → List ℤ → Replay → String → ℕ × ℕ
without c w p part =
    let q = block_replay (rules_in Desk) c w p (bytes_of part) in
    ((outcome_says q.block.answer).number, (outcome_says q.block.replay.standing).number)

-- the clash with a carry
abbrev carrying : ℤ → Case
carrying z = let c = clash.case in record { n = c.n; d = c.d; m = c.m; lower = c.lower; upper = c.upper; carry = z; rulebook = c.rulebook }

pub no_lines :
    without clash.case clash.weights (between 0) ""
    ∷ without clash.case clash.weights (inside 0 (pos 1) 1 None []) "x"
    -- the number that stands comes before all else
    ∷ without clash.case clash.weights too_high ""
    ∷ without (paired 49 0 1) [] too_high "x"
    -- 3, 4, 5 of the record, 6, 8, each with later ones behind it
    ∷ without (paired 49 0 1) [] (between (most + 1)) ""
    ∷ without (paired 2 1 0) (zeros 8) (between (most + 1)) ""
    ∷ without (paired 2 1 0) (full 2 (pos 500_000_001 ∷ [])) (between (most + 1)) ""
    ∷ without (paired 2 1 0) (full 2 (pos 500_000_001 ∷ [])) (inside 2 (pos 1) 1 None []) "x"
    ∷ without (paired 2 1 0) (full 2 (pos 500_000_001 ∷ [])) (between 0) ""
    ∷ without clash.case (full 2 (pos 500_000_001 ∷ [])) (between 0) ""
    ∷ without clash.case (full 2 (pos 500_000_000 ∷ [])) (between most) ""
    -- 1 past the own places; the carry's range
    ∷ without clash.case (set clash.weights 8 (pos 1)) (between 0) ""
    ∷ without (carrying (pos 20_000_000_000)) clash.weights (between 0) ""
    ∷ without (carrying (minus 20_000_000_001)) (set clash.weights 8 (pos 1)) (between 0) ""
    ∷ []
    ≡ (0, 0) ∷ (0, 0) ∷ (8, 8) ∷ (8, 8) ∷ (3, 3) ∷ (4, 4) ∷ (5, 5) ∷ (5, 5) ∷ (6, 6) ∷ (8, 8) ∷ (0, 0) ∷ (8, 8) ∷ (0, 0) ∷ (5, 5) ∷ []
unfolding fresh_replay fold_replay block_replay
no_lines = refl

-- refused, the standing changes alone
pub no-line-keeps : block_replay (rules_in Desk) clash.case (zeros 8) (inside 0 (pos 1) 2 (Some 2) (0 ∷ 0 ∷ 1 ∷ [])) (bytes_of "x")
    ≡ record {
      block = record {
        replay = record {
          rounds = 0;
          start = pos 4;
          moved = true;
          raised = marks_of (0 ∷ 0 ∷ 1 ∷ []);
          due = Due.Raise 0 (Target.Press (pos 1)) 2 (Some 2);
          standing = Err WrongLength;
        };
        lines = 0;
        answer = Err WrongLength;
      };
      table = zeros 8;
    }
unfolding fold_replay block_replay
no-line-keeps = refl
