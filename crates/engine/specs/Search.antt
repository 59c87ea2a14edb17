-- Raised scopes and sets of values as bytes, and what the search for a press may take as known. Assumes nothing.
use Rattle.std.specs.Prelude.{◌≡◌, Bool, true, not, ◌&&◌, ◌≢◌, List, ℕ, ◌+◌, ◌*◌, ◌≤◌, ◌<◌, ℤ, T, eqb, length, get_or, set, if◌then◌else◌, Option, Some, None}
use Rattle.integers.specs.Words.{those}
use Rattle.definitions.specs.declared.Case.{Case}
use Rattle.definitions.specs.Rules.{rules_of}
use Rattle.definitions.specs.Case.{scopes, scope_count}
use Rattle.definitions.specs.Valid.{working_weight}
use Rattle.definitions.specs.Consistency.{all_refuted}
use Rattle.definitions.specs.Moves.{active_values}
use Rattle.definitions.specs.Engine.{chosen, kept_scopes}
use Rattle.calls.specs.Calls.{is_raised}
use Rattle.theory.proofs.Validity.{Handed}
use Rattle.marks.specs.Marks.{full_of}
use Rattle.arcs.specs.Active.{active_set, active_row}

-- acts holds the active values of each variable
abbrev pub ActiveIn : Case → List ℤ → List ℕ → Type 0
ActiveIn c w acts = (j : ℕ) → j < c.n → get_or acts j 0 ≡ active_set c w j

-- what is prepared of a table: the active values of each variable, and the active partners on each edge
pub record Prepared (c : Case) (w : List ℤ) (acts rows : List ℕ) : Type 0 where
  pub handed : Handed (rules_of c) (working_weight (rules_of c)) c w
  pub acts-are : ActiveIn c w acts
  pub rows_long : 16 * c.m ≤ length rows
  pub rows_are : (e p : ℕ) → e < c.m → p < 16 → get_or rows (16 * e + p) 0 ≡ active_row c w e p

-- sets holds the allowed values of each variable: the active ones if its scope is raised, else all
abbrev pub Allowing : Case → List ℤ → (ℕ → Bool) → List ℕ → Type 0
Allowing c w R sets = (j : ℕ) → j < c.n → get_or sets j 0 ≡ (if R j then active_set c w j else full_of c.d)

-- the active values of variable i are all refuted with these scopes raised
abbrev pub refutes_in : Case → List ℤ → ℕ → List ℕ → Bool
refutes_in c w i raised = all_refuted c w (is_raised raised) i (active_values c w i)

-- all scopes are raised; all but x are
abbrev pub AllRaised : Case → List ℕ → Type 0
AllRaised c raised = (y : ℕ) → y < scope_count c → is_raised raised y ≡ true

abbrev pub OthersRaised : Case → ℕ → List ℕ → Type 0
OthersRaised c x raised = (y : ℕ) → y < scope_count c → is_raised raised y ≡ not (eqb y x)

-- a variable of the case, if one was chosen
abbrev pub ChosenIn : Case → Option ℕ → Type 0
ChosenIn c None = T true
ChosenIn c (Some i) = i < c.n

abbrev pub ChosenIs : Case → List ℤ → Option ℕ → Type 0
ChosenIs c w None = chosen c w ≡ None
ChosenIs c w (Some i) = chosen c w ≡ Some i

-- the variable that was chosen, with the scopes raised that are kept
abbrev pub FoundIs : Case → List ℤ → List ℕ → Option ℕ → Type 0
FoundIs c w raised None = chosen c w ≡ None
FoundIs c w raised (Some i) = (chosen c w ≡ Some i) × (those (is_raised raised) (scopes c) ≡ kept_scopes c w i)

-- `enough` are raised scopes with which the active values of variable i are refuted
pub record Enough (c : Case) (w : List ℤ) (i : ℕ) (raised enough : List ℕ) : Type 0 where
  pub inside : (y : ℕ) → y < scope_count c → T (is_raised enough y) → T (is_raised raised y)
  pub refutes : refutes_in c w i enough ≡ true

-- scope x was dropped, unless the values are not refuted without it
pub record Dropped (c : Case) (w : List ℤ) (i x : ℕ) (before after : List ℕ) : Type 0 where
  pub here : is_raised after x ≡ (is_raised before x && not (refutes_in c w i (set before x 0)))
  pub elsewhere : (y : ℕ) → y ≢ x → is_raised after y ≡ is_raised before y
