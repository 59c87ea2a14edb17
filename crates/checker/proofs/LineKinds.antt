-- The kinds of lines that are due in a log. Assumes nothing.
use mathlib.Core.Path.{◌≡◌, refl}
use mathlib.Core.Bool.{Bool, true, false, not, ◌&&◌, ◌||◌}
use mathlib.Core.List.{List, [], ◌∷◌}
use Prim.Native.Nat.{ℕ}
use lib.IntN.{pos}
use Rattle.integers.specs.Words.{eq_z}
use Rattle.definitions.specs.declared.Line.{Line}
use Rattle.definitions.specs.Rules.{Rules, Coherent}
use Rattle.definitions.specs.Lines.{not_due, is_kind}

and-false : (b : Bool) → (b && false) ≡ false
and-false true = refl
and-false false = refl

and-true : (b : Bool) → (b && true) ≡ b
and-true true = refl
and-true false = refl

or-false : (b : Bool) → (b || false) ≡ b
or-false true = refl
or-false false = refl

pub twice-not : (b : Bool) → not (not b) ≡ b
twice-not true = refl
twice-not false = refl

regroup : (a b c d : Bool) → (((a && b) && c) && d) ≡ (a && ((b && c) && d))
regroup true b c d = refl
regroup false b c d = refl

-- where a move, a bound line or a void line is due
abbrev move_kinds : List ℕ
move_kinds = 1 ∷ 2 ∷ 4 ∷ 5 ∷ []

module _ {r : Rules} (known : Coherent r) (l : Line) where
  pub shift-due : l.kind ≡ pos 1 → true ≡ not (not_due r move_kinds l)
  shift-due e = rw (known.known-kinds, e)

  pub press-due : l.kind ≡ pos 2 → eq_z l.c (pos 0) ≡ not (not_due r move_kinds l)
  press-due e = rw (known.known-kinds, e) (simp (or-false, twice-not, and-true))

  pub bound-due : l.kind ≡ pos 4 → ((eq_z l.a (pos 0) && eq_z l.b (pos 0)) && eq_z l.c (pos 0)) ≡ not (not_due r move_kinds l)
  bound-due e = rw (known.known-kinds, e) (simp (or-false, twice-not, and-true))

  pub void-due : l.kind ≡ pos 5 → (eq_z l.c (pos 0) && eq_z l.amount (pos 0)) ≡ not (not_due r move_kinds l)
  void-due e = rw (known.known-kinds, e) (simp (or-false, twice-not))

  pub none-due : is_kind 1 l ≡ false → is_kind 2 l ≡ false → is_kind 4 l ≡ false → is_kind 5 l ≡ false → false ≡ not (not_due r move_kinds l)
  none-due d e f g = rw (known.known-kinds, d, e, f, g) (simp and-false)

  -- where nothing is due
  pub nothing-due : false ≡ not (not_due r [] l)
  nothing-due = rw known.known-kinds (simp and-false)

  pub raise-due : (((is_kind 3 l && eq_z l.b (pos 0)) && eq_z l.c (pos 0)) && eq_z l.amount (pos 0)) ≡ not (not_due r (3 ∷ []) l)
  raise-due = rw known.known-kinds
      (simp (or-false, and-false, twice-not, and-true) (regroup (is_kind 3 l) (eq_z l.b (pos 0)) (eq_z l.c (pos 0)) (eq_z l.amount (pos 0))))
