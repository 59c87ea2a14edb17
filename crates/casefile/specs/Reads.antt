-- The line at the front of the bytes left, and what the head says. Assumes nothing.
use Rattle.definitions.specs.Answers.{size_with}
use Rattle.std.specs.Prelude.{◌≡◌, Bool, false, ◌&&◌, List, ℕ, ◌≤◌, ℤ, pos, nat_abs, take, if◌then◌else◌, Result, Ok, Err, Option, Some, None}
use Rattle.std.specs.Int.Signed.{lt_z}
use Rattle.integers.specs.Words.{eq_z, within_z}
use Rattle.definitions.specs.declared.Rulebook.{Rulebook}
use Rattle.definitions.specs.declared.Line.{Line}
use Rattle.definitions.specs.declared.CaseSize.{CaseSize}
use Rattle.definitions.specs.declared.Refusal.{Refusal}
use Rattle.definitions.specs.declared.Refusal.TheVariants.{CutShort}
use Rattle.definitions.specs.Rules.{rules_in, full_length}
use Rattle.definitions.specs.Lines.{zero_unless}
use Rattle.case_lines.specs.Dues.{bytes_of_line}
use Rattle.definitions.specs.CaseFiles.{is_cut}
use Rattle.calls.specs.Calls.{read_line_answer}

unfoldable pub line_from : Rulebook → List ℕ → Result Line Refusal
line_from b t = if is_cut (rules_in b) t then Err CutShort else read_line_answer (rules_in b) (take (bytes_of_line b) t)

-- a line of a kind that uses its first two places, and the third and the amount or not
abbrev pub is_of_kind : ℤ → Bool → Bool → Line → Bool
is_of_kind kind third amount l = eq_z l.kind kind && zero_unless third l.c && zero_unless amount l.amount

abbrev pub limits_z : Rulebook → ℤ → ℤ → ℤ → Bool
limits_z b n d m = within_z (pos 1) (pos (rules_in b).variables) n && within_z (pos 1) (pos (rules_in b).values) d && within_z (pos 0) (pos (rules_in b).edges) m

-- a number of a head from 0 to a plain bound
abbrev pub Few : ℕ → ℤ → Type 0
Few most z = (lt_z z (pos 0) ≡ false) × (nat_abs z ≤ most)

-- the sizes in a head that is not refused
abbrev pub head_answer : Rulebook → Option Refusal → Line → Result CaseSize Refusal
head_answer b None l = Ok (size_with (nat_abs l.a) (nat_abs l.b) (nat_abs l.c) (full_length (rules_in b) (nat_abs l.b)))
head_answer b (Some x) l = Err x
