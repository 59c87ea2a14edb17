-- What the loop of `replay` makes of its input: bytes are handed over as blocks of whole lines, and a part line is kept; and what is printed of it.
-- That what is read, and the answers of the reads, are the system's, no contract can say. Assumes nothing.
use Rattle.definitions.specs.declared.RefusedAt.{RefusedAt}
use Rattle.std.specs.Prelude.{◌≡◌, false, not, ◌⊎◌, List, [], ◌++◌, ℕ, ◌*◌, ◌-◌, ◌/◌, ◌≤◌, ◌<◌, ◌%◌, ℤ, T, eqb, leb, length, take, drop, if◌then◌else◌, Result, Ok, Err}
use Rattle.integers.specs.Words.{joined}
use Rattle.integers.specs.Lists.{◌∈◌}
use Rattle.definitions.specs.declared.Rulebook.TheVariants.{Desk}
use Rattle.definitions.specs.Rules.{rules_in}
use Rattle.definitions.specs.Lines.{line_length, whole_lines, has_part}
use Rattle.definitions.specs.CaseFiles.{case_size}
use Rattle.definitions.specs.Programs.{table_for, replay_prints}
use Rattle.texts.specs.Texts.{greatest_count}
use Rattle.streams.specs.declared.Filled.{Filled}
use Rattle.streams.specs.Streams.{is_over, is_failed, printed_part}
use Rattle.judging.specs.declared.Judging.{Judging}
use Rattle.judging.specs.Judging.{JudgingState, state_of, start_judging, block_judging, finish_judging}
use Rattle.judging.specs.Cuts.{after_blocks}
use Rattle.replay.specs.declared.Turned.{Turned}

-- the bytes of a line at the desk
abbrev pub desk_line : ℕ
desk_line = line_length (rules_in Desk).amount_width

-- the bytes of the whole lines
abbrev pub whole_bytes : List ℕ → ℕ
whole_bytes bytes = length bytes - length bytes % desk_line

-- the bytes of a case of so many lines, all where it was refused
abbrev pub case_end : Result ℕ RefusedAt → ℕ → ℕ
case_end (Err x) most = most
case_end (Ok lines) most = if leb lines (most / desk_line) then lines * desk_line else most

-- the most turns that are made after the first
abbrev pub most_turns : ℕ
most_turns = 18446744073709551615

-- one turn on the bytes of a fill: the whole lines are a block, and the part line stands at the buffer's front
pub record Turns (j : Judging) (w : List ℤ) (bytes : List ℕ) (filled : Filled) (r : Turned) (v : List ℤ) (buf : List ℕ) : Type 0 where
  pub state : state_of r.judging v ≡ block_judging (state_of j w) (take (whole_bytes bytes) bytes)
  pub part : take r.held buf ≡ drop (whole_bytes bytes) bytes
  pub fits : r.held ≤ length buf
  pub short : r.held < desk_line
  pub filled-last : r.filled ≡ filled

-- many turns after a first fill, each with room for so many new bytes: the bytes held, and those read then, are blocks of whole lines and the part
-- line. None are read where the first fill was over; the last fill is over, or so many turns were filled
pub record Goes (turns room : ℕ) (g : JudgingState) (held : List ℕ) (first : Filled) (r : Turned) (v : List ℤ) (buf : List ℕ) : Type 0 where
  pub more : List ℕ
  pub blocks : List (List ℕ)
  pub lines-whole : (x : List ℕ) → x ∈ blocks → has_part (rules_in Desk).amount_width x ≡ false
  pub all : held ++ more ≡ joined blocks ++ take r.held buf
  pub state : state_of r.judging v ≡ after_blocks g blocks
  pub fits : r.held ≤ length buf
  pub short : r.held < desk_line
  pub ends : T (is_over first) → (more ≡ []) × (r.filled ≡ first)
  pub over : T (is_over r.filled) ⊎ (turns * room ≤ length more)

-- the whole input: its front, and what is read then
pub record Judges (room : ℕ) (front : List ℕ) (w : List ℤ) (first : Filled) (r : Turned) (v : List ℤ) : Type 0 where
  pub more : List ℕ
  pub blocks : List (List ℕ)
  pub tail : List ℕ
  pub lines-whole : (x : List ℕ) → x ∈ blocks → has_part (rules_in Desk).amount_width x ≡ false
  pub all : drop (case_end (start_judging Desk front w).answer (length front)) front ++ more ≡ joined blocks ++ tail
  pub state : state_of r.judging v ≡ after_blocks (start_judging Desk front w) blocks
  pub held : r.held ≡ length tail
  pub short : length tail < desk_line
  pub ends : T (is_over first) → (more ≡ []) × (r.filled ≡ first)
  pub over : T (is_over r.filled) ⊎ (most_turns * room ≤ length more)

-- the part of a text that is to be printed where the input ends here
abbrev pub finish_text : Turned → List ℤ → List ℕ → List ℕ
finish_text r w text =
    let call = finish_judging (state_of r.judging w) (not (eqb r.held 0)) text in
    printed_part call.answer call.out

-- what is to be printed where the first fill read this front: nothing where a read failed; else the finish of what was judged, and so what `replay`
-- prints of the input, which was read to its end. That the bytes after the front are those that the system read, no contract can say
pub record Prints (room : ℕ) (front : List ℕ) (first : Filled) (text printed : List ℕ) : Type 0 where
  -- what stands after the last fill
  pub state : Turned
  pub table : List ℤ
  pub judged : Judges room front (table_for (case_size Desk front)) first state table
  pub failed : T (is_failed state.filled) → printed ≡ []
  pub finished : T (not (is_failed state.filled)) → printed ≡ finish_text state table text
  pub says : T (not (is_failed state.filled)) → whole_lines (rules_in Desk).amount_width (front ++ judged.more) ≤ greatest_count
      → T (is_over state.filled) × (printed ≡ replay_prints Desk (front ++ judged.more))
