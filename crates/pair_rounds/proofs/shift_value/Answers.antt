use mathlib.Core.Path.{◌≡◌, sym, ap, subst, ◌∙◌}
use mathlib.Core.List.{List, [], ◌∷◌}
use native.Mathlib.Omega.{arith}
use lib.IntN.{ℤ, pos, neg_ℤ, ◌-ℤ◌, +ℤ_idl}
use mir.Syntax.{w64}
use mir.Val.{to_z, of_z}
use mir.Facts.{to_z-of_z}
use Rattle.integers.specs.Linear.{flat, zs, ◌▸◌, read_back}
use Rattle.definitions.specs.Rules.{rules_of}
use Rattle.definitions.specs.Case.{weight}
use Rattle.definitions.specs.Moves.{Move, shift, end_variable}
use Rattle.definitions.specs.PairRounds.{whole_shift}
use Rattle.theory.proofs.Rounds.{AllAllowed}
use Rattle.pair_rounds.specs.Shifts.{left_out}
use Rattle.pair_rounds.proofs.Moves.{allowed-one, whole-none, whole-one, weight-small}
use Rattle.pair_rounds.proofs.Texts.{shifted_none}
use Rattle.pair_rounds.proofs.shift_value.Goals as goal
use Rattle.pair_rounds.proofs.shift_value.Goals.{After-left_out, After-shift_by-arg-3-1}

-- the value's weight is looked at
told : (c : After-left_out) → let a = c.args in
    left_out (weight a.case a.table.now (end_variable a.case a.edge a.end) a.value 0) ≡ c.left_out.result
told c =
    sym (c.left_out.ensures ∙ ap left_out (read_back w64 c.weight_at-weight.result c.weight_at-weight.type_inv ∙ c.weight_at-weight.ensures))

pub returns-then-left_out : goal.returns-then-left_out
returns-then-left_out c =
    let a = c.args in
    rw (whole-none a.case a.table.now a.edge a.end a.value (told (goal.at.returns-then-left_out c).After-left_out ∙ c.if-left_out.true))
    (shifted_none a.at a.out.now c.requires.ready.0.greatest-held)

pub overflow_sub-weight : goal.overflow_sub-weight
overflow_sub-weight c =
    let (l, u) = weight-small c.args.end c.requires.ready.0.handed c.requires.ready.0.edge c.requires.ready.1 in
    rw (read_back w64 c.weight_at-weight.result c.weight_at-weight.type_inv, c.weight_at-weight.ensures) (l ▸ u ▸ simp flat (omega zs))

-- the shift of the value, by the amount as it is read back
one : (c : After-shift_by-arg-3-1) → let a = c.args in
    whole_shift a.case a.table.now a.edge a.end a.value
    ≡ shift a.edge a.end a.value (to_z w64 (of_z w64 (pos 0 -ℤ to_z w64 (of_z w64 c.weight_at-weight.result)))) ∷ []
one c =
    let a = c.args in
    let z = weight a.case a.table.now (end_variable a.case a.edge a.end) a.value 0 in
    whole-one a.case a.table.now a.edge a.end a.value (told (goal.at.After-shift_by-arg-3-1 c).After-left_out ∙ c.if-left_out.false)
    ∙ ap (λ (m : ℤ). shift a.edge a.end a.value m ∷ []) (sym (to_z-of_z (overflow_sub-weight c)
    ∙ ap (λ (y : ℤ). pos 0 -ℤ y) (read_back w64 c.weight_at-weight.result c.weight_at-weight.type_inv ∙ c.weight_at-weight.ensures) ∙ +ℤ_idl (neg_ℤ z)))

pub shift_by-requires : goal.shift_by-requires
shift_by-requires c =
    let a = c.args in
    let (v, m) = c.requires.allows in record { ready = (c.requires.ready.0, allowed-one (subst (λ (l : List Move). AllAllowed (rules_of a.case) a.case a.table.now l v) (one c) m)); case_in_bounds = (let room = rw (one c) at c.requires.value_in_bounds in omega arith) }

pub returns : goal.returns
returns c =
    rw (one (goal.at.returns c).After-shift_by-arg-3-1) c.shift_by.ensures
