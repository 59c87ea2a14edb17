-- Document 01, "Links, scopes and totals": scopes, the table, totals and ceilings; document 02, change 2: barred tuples and lawful
-- assignments; change 5: the carry and the length of lent tables. Assumes nothing.
use Rattle.std.specs.Prelude.{Bool, not, ◌&&◌, List, map, ℕ, ◌+◌, ◌*◌, ◌-◌, ℤ, pos, ◌+ℤ◌, ltb, eqb, length, get_or, if◌then◌else◌}
use Rattle.integers.specs.Words.{below, all, any, joined, sum, minus, greatest_of, eq_z}
use Rattle.definitions.specs.declared.Case.{Case}
use Rattle.definitions.specs.Rules.{Rules, full_length, barring}

-- the values (channels) of a variable
abbrev pub values : Case → List ℕ
values c = below c.d

-- edge e (a pair) joins variables `lower_end` e and `upper_end` e
abbrev pub lower_end : Case → ℕ → ℕ
lower_end c e = get_or c.lower e 0

abbrev pub upper_end : Case → ℕ → ℕ
upper_end c e = get_or c.upper e 0

-- scopes 0 to n − 1 are the variables (links), n + e is edge e, s = n + m in all
abbrev pub scope_count : Case → ℕ
scope_count c = c.n + c.m

abbrev pub scopes : Case → List ℕ
scopes c = below (scope_count c)

abbrev pub is_variable : Case → ℕ → Bool
is_variable c x = ltb x c.n

-- the edge whose scope is x
abbrev pub edge_of : Case → ℕ → ℕ
edge_of c x = x - c.n

-- A tuple (a combination) is one value in a variable's scope, or two values (k, l) in an edge's scope. Here it is always k and l, with l = 0
-- in a variable's scope. What f gives at each tuple of scope x, in the table's order:
abbrev pub each_tuple : {A : Type 0} → Case → ℕ → (ℕ → ℕ → A) → List A
each_tuple c x f =
    if is_variable c x
    then map (λ k. f k 0) (values c)
    else joined (map (λ k. map (λ l. f k l) (values c)) (values c))

-- the table: variable i, value k at i · D + k; edge e, values k, l at n · D + e · D · D + k · D + l
abbrev pub place : Case → ℕ → ℕ → ℕ → ℕ
place c x k l =
    if is_variable c x
    then x * c.d + k
    else c.n * c.d + edge_of c x * (c.d * c.d) + (k * c.d + l)

-- the case's own places in a table, and the length that a lent table must have: that of a full case with as many values (document 02, change 5)
abbrev pub own_length : Case → ℕ
own_length c = c.n * c.d + c.m * (c.d * c.d)

abbrev pub lent_length : Rules → Case → ℕ
lent_length r c = full_length r c.d

abbrev pub weight : Case → List ℤ → ℕ → ℕ → ℕ → ℤ
weight c w x k l = get_or w (place c x k l) (pos 0)

-- an assignment (a plan) gives every variable one value
abbrev pub is_assignment : Case → List ℕ → Bool
is_assignment c p = eqb (length p) c.n && all (λ k. ltb k c.d) p

abbrev pub value_of : List ℕ → ℕ → ℕ
value_of p i = get_or p i 0

-- what f gives at the tuple that assignment p uses in scope x
abbrev pub at_used : {A : Type 0} → Case → List ℕ → ℕ → (ℕ → ℕ → A) → A
at_used c p x f =
    if is_variable c x
    then f (value_of p x) 0
    else f (value_of p (lower_end c (edge_of c x))) (value_of p (upper_end c (edge_of c x)))

-- equation 2, the objective (an assignment's total): the sum over all scopes of the weight that it uses
abbrev pub objective : Case → List ℤ → List ℕ → ℤ
objective c w p = sum (map (λ x. at_used c p x (weight c w x)) (scopes c))

-- a scope's greatest weight
abbrev pub greatest : Case → List ℤ → ℕ → ℤ
greatest c w x = greatest_of (each_tuple c x (weight c w x))

-- equation 7: the sum over scopes of the greatest weight
abbrev pub sum_of_greatest : Case → List ℤ → ℤ
sum_of_greatest c w = sum (map (greatest c w) (scopes c))

-- the upper bound (the ceiling), in which the carry counts (document 02, change 5)
abbrev pub upper_bound : Case → List ℤ → ℤ
upper_bound c w = sum_of_greatest c w +ℤ c.carry

-- equation 8: a tuple is active if it has its scope's greatest weight
abbrev pub active : Case → List ℤ → ℕ → ℕ → ℕ → Bool
active c w x k l = eq_z (weight c w x k l) (greatest c w x)

-- ---- document 02, change 2

-- A barred tuple (a combination that a licence bars outright) holds this number in tables. It is below every weight, so that in a scope with a
-- tuple that is not barred no barred one is active (theory, Barred.active-free), and greatest weight and upper bound are as above.
abbrev pub barred_weight : ℤ
barred_weight = minus barring

abbrev pub is_barred : ℤ → Bool
is_barred z = eq_z z barred_weight

abbrev pub barred : Case → List ℤ → ℕ → ℕ → ℕ → Bool
barred c w x k l = is_barred (weight c w x k l)

abbrev pub wholly_barred : Case → List ℤ → ℕ → Bool
wholly_barred c w x = all (λ b. b) (each_tuple c x (barred c w x))

-- an assignment is lawful if it uses no barred tuple
abbrev pub uses_barred : Case → List ℤ → List ℕ → Bool
uses_barred c w p = any (λ x. at_used c p x (barred c w x)) (scopes c)

abbrev pub is_lawful : Case → List ℤ → List ℕ → Bool
is_lawful c w p = is_assignment c p && not (uses_barred c w p)
