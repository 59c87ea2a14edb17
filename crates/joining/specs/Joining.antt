-- The case lines of a join on all input: what one is asked, and what it leaves in the starting table and among the lower ends. Assumes nothing.
use Rattle.std.specs.Prelude.{Bool, not, ◌&&◌, List, ℕ, ◌+◌, ℤ, nat_abs, length, take, set, if◌then◌else◌, Option}
use Rattle.definitions.specs.declared.Case.{Case}
use Rattle.definitions.specs.declared.Line.{Line}
use Rattle.definitions.specs.declared.Refusal.{Refusal}
use Rattle.definitions.specs.Rules.{rules_of}
use Rattle.definitions.specs.Refusals.{Test, first_refusal}
use Rattle.definitions.specs.Case.{own_length}
use Rattle.definitions.specs.Valid.{within_limits}
use Rattle.definitions.specs.Lines.{outside}
use Rattle.definitions.specs.CaseFiles.{CaseDue, variable-weight, edge-ends, edge-weight, zeroed_from}
use Rattle.logs.specs.Join.{join_line_tests}
use Rattle.logs.specs.Waiting.{renumbered, read_so_far, weight_waits, not_in_join}
use Rattle.tables.specs.Scopes.{is_sized}

-- a table of this length can be lent, one variable more and p edges are within the limits, and x is due in the join
abbrev pub has_place : Case → ℕ → ℕ → CaseDue → Bool
has_place c long p x = is_sized (rules_of c) c long && within_limits (rules_of c) (c.n + 1) c.d (c.m + p) && not (not_in_join c p x)

-- what the line t is asked where x is due; without a place for it, only whether its kind is due
abbrev pub line_tests : Case → List ℤ → ℕ → CaseDue → List ℕ → Line → List Test
line_tests c w₀ p x lower t = join_line_tests (rules_of c) (read_so_far c w₀ p x lower) (renumbered c x) t

abbrev pub line_refusal : Case → List ℤ → ℕ → CaseDue → List ℕ → Line → Option Refusal
line_refusal c w₀ p x lower t =
    if has_place c (length w₀) p x then first_refusal (line_tests c w₀ p x lower t) else first_refusal (take 1 (line_tests c w₀ p x lower t))

-- the starting table and the lower ends with the line taken; without a place for it nothing changes
abbrev pub starting_with : Case → List ℤ → ℕ → CaseDue → Line → List ℤ
starting_with c w₀ p x t = if has_place c (length w₀) p x then weight_waits c w₀ p x t else w₀

-- a lower end that is no byte is not kept
abbrev pub lower_stored : CaseDue → Line → List ℕ → List ℕ
lower_stored (variable-weight i k) t lower = lower
lower_stored (edge-ends e) t lower = if outside 256 t.b then lower else set lower e (nat_abs t.b)
lower_stored (edge-weight e k l) t lower = lower

abbrev pub lower_with : Case → ℕ → ℕ → CaseDue → List ℕ → Line → List ℕ
lower_with c long p x lower t = if has_place c long p x then lower_stored x t lower else lower

-- the starting table with 0 where a join's weights wait; outside the limits as it was
abbrev pub without_waiting : Case → List ℤ → List ℤ
without_waiting c w₀ = if within_limits (rules_of c) c.n c.d c.m then zeroed_from (own_length c) w₀ else w₀
