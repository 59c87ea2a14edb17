-- A case that is taken line by line as it stands: none of its numbers is asked; its table, as it is lent and shown. Assumes nothing.
use Rattle.std.specs.Prelude.{◌&&◌, List, [], ◌∷◌, ℕ, ◌+◌, min, ℤ, pos, ltb, eqb, length, take, set, if◌then◌else◌}
use Rattle.integers.specs.Words.{eq_z}
use Rattle.definitions.specs.declared.Case.{Case}
use Rattle.definitions.specs.declared.Line.{Line}
use Rattle.definitions.specs.declared.Rulebook.TheVariants.{Desk}
use Rattle.definitions.specs.Lines.{is_kind}
use Rattle.definitions.specs.Rules.{rules_in, rules_of}
use Rattle.definitions.specs.Case.{own_length, lent_length}
use Rattle.definitions.specs.Valid.{within_limits}
use Rattle.definitions.specs.CaseFiles.{case_of, with_ends, zeroed_from}
use Rattle.calls.specs.Calls.{read_line_answer}
use Rattle.drivers.specs.declared.Held.{Held}
use Rattle.drivers.specs.Drivers.{line_told, count_or}

-- what is held, and the table that was lent for the weights
pub record TakenCall : Type 0 where
  pub held : Held
  pub table : List ℤ

abbrev pub nothing_held : Held
nothing_held = record { case = case_of Desk 0 0 0; places = 0 }

-- the amount is the carry
abbrev pub headed_by : Line → Case
headed_by l =
    let c = case_of Desk (count_or 0 l.a) (count_or 0 l.b) (count_or 0 l.c) in
    record { n = c.n; d = c.d; m = c.m; lower = c.lower; upper = c.upper; carry = l.amount; rulebook = c.rulebook }

-- an end is at most 255; an edge for which the case has no place is left out
abbrev pub joined_by : Case → Line → Case
joined_by c l = with_ends c (count_or 0 l.a) (min (count_or 0 l.b) 255) (min (count_or 0 l.c) 255)

-- how many weights there are after one more; a full table takes none
abbrev pub places_after : ℕ → ℕ → ℕ
places_after places room = if ltb places room then places + 1 else places

-- a head, with which the table begins again; the ends of an edge; a weight, at the next place
unfoldable pub taken_call : Held → List ℤ → Line → TakenCall
taken_call h w l =
    if is_kind 10 l then record { held = record { case = headed_by l; places = 0 }; table = zeroed_from 0 w }
    else if is_kind 12 l then record { held = record { case = joined_by h.case l; places = h.places }; table = w }
    else record { held = record { case = h.case; places = places_after h.places (length w) }; table = set w h.places l.amount }

-- ---- the table

-- how many places are lent: those of a full case where as many weights are told as the case has places, else as many as are told
unfoldable pub lent_places : Case → ℕ → ℕ
lent_places c told =
    if within_limits (rules_of c) c.n c.d c.m && eqb told (own_length c) then lent_length (rules_of c) c else told

-- of the case whose head is the first line of a text; as many as are told where the text has none
unfoldable pub lent_for : List ℕ → ℕ → ℕ
lent_for text told =
    if ltb (length text) 27 then told else lent_places (headed_by (line_told (read_line_answer (rules_in Desk) (take 27 text)))) told

-- how many weights are not 0
unfoldable pub not_zero : List ℤ → ℕ
not_zero [] = 0
not_zero (z ∷ zs) = (if eq_z z (pos 0) then 0 else 1) + not_zero zs
