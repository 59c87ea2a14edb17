-- An input to `replay` cut into a front, blocks of whole lines and a part line, and what is printed of it. Assumes nothing.
use Rattle.std.specs.Prelude.{◌≡◌, ◌⊎◌, false, not, List, [], ◌∷◌, ◌++◌, ℕ, ◌*◌, ◌≤◌, ◌<◌, eqb, length, drop, Ok}
use Rattle.integers.specs.Words.{joined}
use Rattle.integers.specs.Lists.{◌∈◌}
use Rattle.definitions.specs.declared.Rulebook.{Rulebook}
use Rattle.definitions.specs.Rules.{rules_in}
use Rattle.calls.specs.Calls.{WriteCall}
use Rattle.definitions.specs.Lines.{line_length, has_part}
use Rattle.definitions.specs.Places.{longest_case}
use Rattle.definitions.specs.CaseFiles.{case_size, read_case}
use Rattle.definitions.specs.Programs.{table_for}
use Rattle.judging.specs.Judging.{JudgingState, start_judging, block_judging, finish_judging}

-- a cut of the input t
pub record Cut (b : Rulebook) (t : List ℕ) : Type 0 where
  -- the front holds the longest case, or all of the input
  pub front : List ℕ
  pub rest : List ℕ
  pub whole : t ≡ front ++ rest
  pub enough : (longest_case (rules_in b) ≤ length front) ⊎ (rest ≡ [])
  -- what follows the case: blocks of whole lines, and fewer bytes than a line
  pub blocks : List (List ℕ)
  pub tail : List ℕ
  pub lines-whole : (x : List ℕ) → x ∈ blocks → has_part (rules_in b).amount_width x ≡ false
  pub tail-short : length tail < line_length (rules_in b).amount_width
  pub log : (lines : ℕ) → (read_case b front (table_for (case_size b front))).read.answer ≡ Ok lines
      → drop (lines * line_length (rules_in b).amount_width) t ≡ joined blocks ++ tail

-- one block after another, each from what the last one left
abbrev pub after_blocks : JudgingState → List (List ℕ) → JudgingState
after_blocks s [] = s
after_blocks s (x ∷ xs) = after_blocks (block_judging s x) xs

-- what is printed: the start, the blocks, the finish
abbrev pub replay_printed : Rulebook → List ℕ → List (List ℕ) → List ℕ → List ℕ → WriteCall
replay_printed b front blocks tail out =
    finish_judging (after_blocks (start_judging b front (table_for (case_size b front))) blocks) (not (eqb (length tail) 0)) out
