-- What the inner functions may take as known and what they leave: moves made on a table, and their lines put one after the other. Assumes
-- nothing.
use Rattle.definitions.specs.declared.Refusal.{Refusal}
use Rattle.std.specs.Prelude.{◌≡◌, Bool, ◌||◌, List, map, ℕ, ◌+◌, ◌*◌, ◌<◌, ℤ, pos, length, Result, Ok}
use Rattle.integers.specs.Words.{joined, eq_z}
use Rattle.definitions.specs.declared.Case.{Case}
use Rattle.definitions.specs.declared.Line.{Line}
use Rattle.definitions.specs.declared.Round.{Round}
use Rattle.definitions.specs.Rules.{rules_of}
use Rattle.definitions.specs.Case.{upper_bound, is_barred}
use Rattle.definitions.specs.Valid.{working_weight}
use Rattle.definitions.specs.Moves.{Move}
use Rattle.definitions.specs.Lines.{line, line_length, line_text}
use Rattle.definitions.specs.RoundLines.{move_lines, bound_line}
use Rattle.theory.proofs.Validity.{Handed}
use Rattle.theory.proofs.Rounds.{AllAllowed}
use Rattle.tables.specs.Scopes.{BestOf}
use Rattle.round_lines.specs.Press.{Put}
use Rattle.pair_rounds.specs.PairCall.{pair_call}

abbrev pub line_bytes : Case → ℕ
line_bytes c = line_length (rules_of c).amount_width

abbrev pub line_text_of : Case → Line → List ℕ
line_text_of c l = line_text (rules_of c).amount_width l

abbrev pub shift_line : ℕ → ℕ → ℕ → ℤ → Line
shift_line e end v a = line 1 (pos e) (pos end) (pos v) a

-- a value with this weight is not shifted
abbrev pub left_out : ℤ → Bool
left_out z = is_barred z || eq_z z (pos 0)

-- the lines of moves, without a bound line
abbrev pub moves_text : Case → List Move → List ℕ
moves_text c moves = joined (map (line_text_of c) (joined (map move_lines moves)))

abbrev pub moves_line_count : List Move → ℕ
moves_line_count moves = length (joined (map move_lines moves))

-- moves that are allowed one after another
abbrev pub Allows : Case → List ℤ → List Move → Type 0
Allows c w moves = (v : List ℤ) × AllAllowed (rules_of c) c w moves v

-- a table that every call takes, with each scope's greatest weight, and an edge
pub record Ready (c : Case) (w best : List ℤ) (e : ℕ) : Type 0 where
  pub handed : Handed (rules_of c) (working_weight (rules_of c)) c w
  pub greatest-held : BestOf c w best
  pub edge : e < c.m

-- moves were made from w to v, and their lines put from byte `at` to byte `end`
pub record Shifted (c : Case) (moves : List Move) (w v best : List ℤ) (at end : ℕ) (out next : List ℕ) : Type 0 where
  pub allowed : AllAllowed (rules_of c) c w moves v
  pub greatest-kept : BestOf c v best
  pub put : Put at (moves_text c moves) end out next
  pub bytes : end ≡ at + line_bytes c * moves_line_count moves

-- some table that was checked has these greatest weights
abbrev pub Held : Case → List ℤ → Type 0
Held c best = (v : List ℤ) × Handed (rules_of c) (working_weight (rules_of c)) c v × BestOf c v best

-- the bound line was put at byte `at`
pub record Bounded (c : Case) (v : List ℤ) (at : ℕ) (out next : List ℕ) (r : Result Round Refusal) : Type 0 where
  pub answer : r ≡ Ok (Round.Made (at + line_bytes c) (upper_bound c v))
  pub put : Put at (line_text_of c (bound_line (upper_bound c v))) (at + line_bytes c) out next

-- what a call of the pair's round answers and leaves
pub record MadePair (c : Case) (w : List ℤ) (out : List ℕ) (e : ℕ) (v : List ℤ) (next : List ℕ) (r : Result Round Refusal) : Type 0 where
  pub answer : r ≡ (pair_call (rules_of c) c w out e).answer
  pub table : v ≡ (pair_call (rules_of c) c w out e).table
  pub output : next ≡ (pair_call (rules_of c) c w out e).out
