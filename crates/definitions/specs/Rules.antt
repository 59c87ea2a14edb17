-- The numbers of document 01 as one record, so that other rules can stand beside them, which rules a case is under, and what all rules
-- must have in common. Assumes nothing.
use Rattle.std.specs.Prelude.{Bool, true, false, List, [], ◌∷◌, ℕ, ◌+◌, ◌*◌, ◌-◌, ◌^◌, ◌≤◌, ◌<◌, ◌≡◌, refl}
use Rattle.std.proofs.Common.{lit<, lit≤}
use Rattle.definitions.specs.declared.Rulebook.{Rulebook}
use Rattle.definitions.specs.declared.Rulebook.TheVariants.{Desk}
use Rattle.definitions.specs.declared.Case.{Case}

-- a kind of line, and which of its columns it uses
pub record Kind : Type 0 where
  pub kind : ℕ
  pub a : Bool
  pub b : Bool
  pub c : Bool
  pub amount : Bool

abbrev pub uses : ℕ → Bool → Bool → Bool → Bool → Kind
uses k a b c amount = record { kind = k; a = a; b = b; c = c; amount = amount }

pub record Rules : Type 0 where
  -- a case has at most so many variables, values and edges
  pub variables : ℕ
  pub values : ℕ
  pub edges : ℕ
  -- the greatest starting weight, working weight and amount of a move, on either side of 0
  pub starting : ℕ
  pub working : ℕ
  pub moving : ℕ
  -- the greatest carry, on either side of 0 (document 02, change 5)
  pub carried : ℕ
  -- the greatest count of rounds in a record
  pub rounds : ℕ
  -- the width of the amount column, and the kinds of lines
  pub amount_width : ℕ
  pub kinds : List Kind

-- the kinds of document 01, and those of document 02, changes 2 and 5
abbrev pub line_kinds : List Kind
line_kinds =
    -- shift: edge, end, value, amount
    uses 1 true true true true
    -- press: variable, count of raise lines, amount
    ∷ uses 2 true true false true
    -- raise: scope
    ∷ uses 3 true false false false
    -- bound: the upper bound
    ∷ uses 4 false false false true
    -- void: variable, count of raise lines
    ∷ uses 5 true true false false
    -- leave: variable; join: count of edges
    ∷ uses 7 true false false false
    ∷ uses 8 true false false false
    -- head of a case: n, D, m
    ∷ uses 10 true true true false
    -- variable's weight: variable, value, weight
    ∷ uses 11 true true false true
    -- edge: edge, lower variable, upper variable
    ∷ uses 12 true true true false
    -- edge's weight: edge, value k, value l, weight
    ∷ uses 13 true true true true
    -- variable's barred value: variable, value
    ∷ uses 14 true true false false
    -- edge's barred tuple: edge, value k, value l
    ∷ uses 15 true true true false
    ∷ []

-- the number that a barred tuple holds in lent tables is minus this, under all rules (document 02, change 2)
abbrev pub barring : ℕ
barring = 2_000_000_000

abbrev pub standard : Rules
standard = record {
  variables = 48;
  values = 8;
  edges = 96;
  starting = 1_000_000;
  working = 500_000_000;
  moving = 1_000_000_000;
  carried = 20_000_000_000;
  rounds = 999_999_999_999_999_999;
  amount_width = 12;
  kinds = line_kinds;
}

-- the rules of each rulebook, and the rules that a case is under
abbrev pub rules_in : Rulebook → Rules
rules_in Desk = standard

abbrev pub rules_of : Case → Rules
rules_of c = rules_in c.rulebook

-- the places of arrays, which hold what the greatest rules ask
abbrev pub variable_places : ℕ
variable_places = 48

abbrev pub edge_places : ℕ
edge_places = 96

abbrev pub scope_places : ℕ
scope_places = variable_places + edge_places

abbrev pub scopes_at_most : Rules → ℕ
scopes_at_most r = r.variables + r.edges

-- the length of a full case's table with d values
abbrev pub full_length : Rules → ℕ → ℕ
full_length r d = r.variables * d + r.edges * (d * d)

-- what proofs use in place of the numbers
pub record Coherent (r : Rules) : Type 0 where
  -- a value set fits a byte, and so does the number of a variable; the number of a scope fits its column; the arrays have places for all
  pub values-few : r.values ≤ 8
  pub variables-few : r.variables ≤ 256
  pub scopes-few : scopes_at_most r < 10 ^ 4
  pub variables-placed : r.variables ≤ variable_places
  pub edges_placed : r.edges ≤ edge_places
  pub scopes-placed : scopes_at_most r ≤ scope_places
  -- starting weights are working weights, with room for every press of the engine
  pub room : (2 * scopes_at_most r + 1) * r.starting ≤ r.working
  -- the difference of two working weights is the amount of a move
  pub difference : 2 * r.working ≤ r.moving
  -- a barred tuple's number is below every weight
  pub barred-below : r.working < barring
  -- amounts of moves and upper bounds fit the amount column with a minus, and a number of that column fits 64 bits
  pub amount-some : 0 < r.amount_width
  pub moving-fits : r.moving < 10 ^ (r.amount_width - 1)
  pub bound-fits : scopes_at_most r * r.working + r.carried < 10 ^ (r.amount_width - 1)
  pub amount-fits : r.amount_width ≤ 18
  -- a count of rounds fits 64 bits, and is never used up by a run's rounds, which each lower the upper bound of working weights
  pub rounds-fit : r.rounds < 2 ^ 63
  pub rounds-enough : 2 * (scopes_at_most r * r.working + r.carried) ≤ r.rounds
  -- the kinds are these
  pub known-kinds : r.kinds ≡ line_kinds

pub standard-coherent : Coherent standard
standard-coherent = record {
  values-few = lit≤ tt;
  variables-few = lit≤ tt;
  scopes-few = lit< tt;
  variables-placed = lit≤ tt;
  edges_placed = lit≤ tt;
  scopes-placed = lit≤ tt;
  room = lit≤ tt;
  difference = lit≤ tt;
  barred-below = lit< tt;
  amount-some = lit< tt;
  moving-fits = lit< tt;
  bound-fits = lit< tt;
  amount-fits = lit≤ tt;
  rounds-fit = lit< tt;
  rounds-enough = lit≤ tt;
  known-kinds = refl;
}

pub coherent : (b : Rulebook) → Coherent (rules_in b)
coherent Desk = standard-coherent
