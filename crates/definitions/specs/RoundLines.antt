-- The lines of a round of moves: those of each move, and the bound line; and those of a void line, which has none. Assumes nothing.
use Rattle.std.specs.Prelude.{List, [], ◌∷◌, ◌++◌, map, ℕ, ℤ, pos, length}
use Rattle.integers.specs.Words.{joined}
use Rattle.definitions.specs.declared.Case.{Case}
use Rattle.definitions.specs.declared.Line.{Line}
use Rattle.definitions.specs.Rules.{Rules}
use Rattle.definitions.specs.Case.{upper_bound}
use Rattle.definitions.specs.Moves.{Move, shift, press}
use Rattle.definitions.specs.Lines.{line, line_text}

abbrev pub raise_line : ℕ → Line
raise_line x = line 3 (pos x) (pos 0) (pos 0) (pos 0)

abbrev pub move_lines : Move → List Line
move_lines (shift e end v a) = line 1 (pos e) (pos end) (pos v) a ∷ []
move_lines (press i lowered raised a) = line 2 (pos i) (pos (length raised)) (pos 0) a ∷ map raise_line raised

abbrev pub bound_line : ℤ → Line
bound_line bound = line 4 (pos 0) (pos 0) (pos 0) bound

abbrev pub round_lines : Case → List Move → List ℤ → List Line
round_lines c moves after = joined (map move_lines moves) ++ (bound_line (upper_bound c after) ∷ [])

abbrev pub round_text : Rules → Case → List Move → List ℤ → List (List ℕ)
round_text r c moves after = map (line_text r.amount_width) (round_lines c moves after)

-- ---- document 02, change 2

abbrev pub lines_of_void : ℕ → List ℕ → List Line
lines_of_void i raised = line 5 (pos i) (pos (length raised)) (pos 0) (pos 0) ∷ map raise_line raised

abbrev pub void_text : Rules → ℕ → List ℕ → List (List ℕ)
void_text r i raised = map (line_text r.amount_width) (lines_of_void i raised)
