-- The places of a case that was read, and the table past them. Assumes nothing.
use Rattle.std.specs.Prelude.{List, ◌≤◌, ℤ}
use Rattle.definitions.specs.declared.Case.{Case}
use Rattle.definitions.specs.declared.CaseRead.{CaseRead}
use Rattle.definitions.specs.Rules.{edge_places}
use Rattle.definitions.specs.CaseFiles.{CaseCall}

-- no number is above what the places of any rules hold
abbrev pub FewPlaces : Case → Type 0
FewPlaces c = (c.n ≤ 256) × (c.d ≤ 8) × (c.m ≤ edge_places)

abbrev pub call_of : CaseRead → List ℤ → CaseCall
call_of read w = record { read = read; table = w }
