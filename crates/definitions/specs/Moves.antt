-- Document 01, "Moves": each is a difference that is added to the table. Assumes nothing.
use Rattle.std.specs.Prelude.{Bool, not, ◌&&◌, ◌||◌, List, [], ◌∷◌, ◌++◌, map, ℕ, ◌+◌, ℤ, pos, neg_ℤ, ◌+ℤ◌, eqb, get_or, drop, if◌then◌else◌, Option, Some, None}
use Rattle.integers.specs.Words.{below, all, is_in, joined, minus, eq_z, within_z}
use Rattle.definitions.specs.declared.Case.{Case}
use Rattle.definitions.specs.Rules.{Rules}
use Rattle.definitions.specs.Case.{scopes, each_tuple, own_length, lower_end, upper_end, weight, active, is_barred, barred}
use Rattle.definitions.specs.Valid.{in_working}
use Rattle.definitions.specs.Consistency.{forbidden, all_refuted}

-- a number for each tuple k, l of each scope
abbrev pub Difference : Type 0
Difference = ℕ → ℕ → ℕ → ℤ

-- the table with that number at each of the case's own places
abbrev pub table_of : Case → Difference → List ℤ
table_of c f = joined (map (λ x. each_tuple c x (f x)) (scopes c))

-- the difference added to w; what lies past the own places stays
abbrev pub plus : Case → Difference → List ℤ → List ℤ
plus c δ w = table_of c (λ x k l. weight c w x k l +ℤ δ x k l) ++ drop (own_length c) w

-- a where the test passes, 0 elsewhere
abbrev pub only_where : Bool → ℤ → ℤ
only_where b a = if b then a else pos 0

-- end 0 of edge e is its lower variable and the tuple's first value; end 1 its upper variable and the second value
abbrev pub end_variable : Case → ℕ → ℕ → ℕ
end_variable c e end = if eqb end 0 then lower_end c e else upper_end c e

abbrev pub end_value : ℕ → ℕ → ℕ → ℕ
end_value end k l = if eqb end 0 then k else l

-- Shift (edge e, end 0 or 1, value v, amount a): add a to value v of that end's variable;
-- subtract a from all D tuples of e that use v at that end
abbrev pub shift_by : Case → ℕ → ℕ → ℕ → ℤ → Difference
shift_by c e end v a x k l =
    only_where (eqb x (end_variable c e end) && eqb k v) a
    +ℤ only_where (eqb x (c.n + e) && eqb (end_value end k l) v) (neg_ℤ a)

-- Press (variable i, raised scopes R, amount a), over the set of values lowered:
-- subtract a from those values of i, add a to the forbidden tuples, which are read in the table w before the change
abbrev pub press_by : Case → List ℤ → ℕ → (ℕ → Bool) → (ℕ → Bool) → ℤ → Difference
press_by c w i lowered R a x k l = only_where (eqb x i && lowered k) (neg_ℤ a) +ℤ only_where (forbidden c w R x k l) a

-- the values that document 01's press lowers: the active ones
abbrev pub active_values : Case → List ℤ → ℕ → ℕ → Bool
active_values c w i k = active c w i k 0

-- the active values of variable i are all refuted with these scopes raised
abbrev pub active_refuted : Case → List ℤ → ℕ → List ℕ → Bool
active_refuted c w i raised = all_refuted c w (is_in raised) i (active_values c w i)

pub data Move : Type 0 where
  -- edge, end, value, amount
  shift : ℕ → ℕ → ℕ → ℤ → Move
  -- variable, values lowered, raised scopes, amount
  press : ℕ → (ℕ → Bool) → List ℕ → ℤ → Move

abbrev pub active_press : Case → List ℤ → ℕ → List ℕ → ℤ → Move
active_press c w i raised a = press i (active_values c w i) raised a

abbrev pub difference : Case → List ℤ → Move → Difference
difference c w (shift e end v a) = shift_by c e end v a
difference c w (press i lowered raised a) = press_by c w i lowered (is_in raised) a

-- a barred tuple stays barred under all moves (document 02, change 2)
abbrev pub spared : Case → List ℤ → Difference → Difference
spared c w δ x k l = if barred c w x k l then pos 0 else δ x k l

-- the table after a move
abbrev pub moved : Case → Move → List ℤ → List ℤ
moved c move w = plus c (spared c w (difference c w move)) w

-- the amount of a shift is not 0, that of a press is at least 1, and both are within the limit of moves
abbrev pub shift_amount : Rules → ℤ → Bool
shift_amount r a = within_z (minus r.moving) (pos r.moving) a && not (eq_z a (pos 0))

abbrev pub press_amount : Rules → ℤ → Bool
press_amount r a = within_z (pos 1) (pos r.moving) a

-- number 11: a move from w to v would take a working weight outside its range; a barred tuple has none
abbrev pub keeps_range : Rules → ℤ → ℤ → Bool
keeps_range r before after = is_barred before || in_working r after

abbrev pub leaves_range : Rules → Case → List ℤ → List ℤ → Bool
leaves_range r c w v = not (all (λ p. keeps_range r (get_or w p (pos 0)) (get_or v p (pos 0))) (below (own_length c)))

-- the moves one after another; none where one would take a working weight outside its range
abbrev pub after_moves : Rules → Case → List Move → List ℤ → Option (List ℤ)
after_moves r c [] w = Some w
after_moves r c (move ∷ moves) w = if leaves_range r c w (moved c move w) then None else after_moves r c moves (moved c move w)
