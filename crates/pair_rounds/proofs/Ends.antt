-- The shifts of one end, value by value, and of both ends: each is still allowed when its turn comes, and has room. Assumes nothing.
use mathlib.Core.Path.{◌≡◌, ap, subst, ◌∙◌}
use mathlib.Core.List.{List, ◌++◌, map}
use Prim.Native.Nat.{ℕ, ◌+◌, ◌*◌, ◌-◌, ◌≤◌, ◌<◌}
use native.Mathlib.Nat.{mul-add}
use native.Mathlib.Omega.{arith}
use lib.IntN.{ℤ}
use lib.ListN.{length}
use Rattle.integers.specs.Words.{from, joined}
use Rattle.definitions.specs.declared.Case.{Case}
use Rattle.definitions.specs.Rules.{coherent, rules_of}
use Rattle.definitions.specs.Moves.{Move}
use Rattle.definitions.specs.PairRounds.{whole_shift, end_shifts, pair_round}
use Rattle.theory.proofs.Rounds.{AllAllowed, all-handed}
use Rattle.pair_rounds.specs.Shifts.{line_bytes, moves_line_count, Allows, Ready, Shifted}
use Rattle.pair_rounds.proofs.Moves.{allowed-first, allowed-rest, shifts_below, shifts-next, shifts-split, whole-still, upper-still}
use Rattle.pair_rounds.proofs.Texts.{count-append, shifted-more}

-- room for a list of moves after another
room_after : (c : Case) (xs ys : List Move) (at : ℕ) {end n : ℕ} → end ≡ at + line_bytes c * moves_line_count xs → at + line_bytes c * moves_line_count (xs ++ ys) ≤ n
    → end + line_bytes c * moves_line_count ys ≤ n
room_after c xs ys at e h =
    omega (arith, ap (λ (k : ℕ). line_bytes c * k) (count-append xs ys), mul-add (line_bytes c) (moves_line_count xs) (moves_line_count ys))

room-first : (c : Case) (xs ys : List Move) (at : ℕ) {n : ℕ} → at + line_bytes c * moves_line_count (xs ++ ys) ≤ n → at + line_bytes c * moves_line_count xs ≤ n
room-first c xs ys at h =
    omega (arith, ap (λ (k : ℕ). line_bytes c * k) (count-append xs ys), mul-add (line_bytes c) (moves_line_count xs) (moves_line_count ys))

module _ {c : Case} {w best : List ℤ} {e : ℕ} (ready : Ready c w best e) {out : List ℕ} {at : ℕ} where
  -- still ready after moves
  still-ready : {moves : List Move} {u after : List ℤ} {next : List ℕ} {to : ℕ} → Shifted c moves w u after at to out next → Ready c u after e
  still-ready s = record {
    handed = all-handed (coherent c.rulebook) s.allowed ready.handed;
    greatest-held = s.greatest-kept;
    edge = ready.edge;
  }

  -- ---- one end
  module _ (end : ℕ) (allows : Allows c w (end_shifts c w e end)) (room : at + line_bytes c * moves_line_count (end_shifts c w e end) ≤ length out)
      {v : ℕ} (value : v < c.d) {u after : List ℤ} {next : List ℕ} {to : ℕ} (long : length next ≡ length out)
      (s : Shifted c (shifts_below c w e end v) w u after at to out next) where
    abbrev whole : List Move
    whole = whole_shift c w e end v

    abbrev rest : List Move
    rest = joined (map (whole_shift c w e end) (from (v + 1) (c.d - (v + 1))))

    still : whole_shift c u e end v ≡ whole
    still = whole-still c w e end ready.handed.shape ready.edge value s.allowed

    split : end_shifts c w e end ≡ (shifts_below c w e end v ++ whole) ++ rest
    split = shifts-split c w e end (v + 1) (omega arith) ∙ ap (λ (l : List Move). l ++ rest) (shifts-next c w e end v)

    pub value-ready : (Ready c u after e × (v < c.d))
        × (Allows c u (whole_shift c u e end v) × (to + line_bytes c * moves_line_count (whole_shift c u e end v) ≤ length next))
    value-ready =
        let (x, m) = allows in
        let (y, k) = allowed-first (shifts_below c w e end v ++ whole) rest (subst (λ (l : List Move). AllAllowed (rules_of c) c w l x) split m) in
        rw still (
          (still-ready s, value),
          (
            (y, allowed-rest whole s.allowed k),
            rw long (room_after c (shifts_below c w e end v) whole at s.bytes
                (room-first c (shifts_below c w e end v ++ whole) rest at (rw split at room))),
          ),
        )

    pub value-done : {x later : List ℤ} {last : List ℕ} {stop : ℕ} → Shifted c (whole_shift c u e end v) u x later to stop next last
        → Shifted c (shifts_below c w e end (v + 1)) w x later at stop out last
    value-done t = rw (shifts-next c w e end v) (shifted-more s (rw still at t))

-- ---- both ends
module _ {c : Case} {w best : List ℤ} {e : ℕ} (ready : Ready c w best e) (out : List ℕ) (allows : Allows c w (pair_round c w e))
    (room : line_bytes c * moves_line_count (pair_round c w e) ≤ length out) where
  pub lower-ready : Ready c w best e × (Allows c w (end_shifts c w e 0) × (0 + line_bytes c * moves_line_count (end_shifts c w e 0) ≤ length out))
  lower-ready =
      let (x, m) = allows in
      (ready, (allowed-first (end_shifts c w e 0) (end_shifts c w e 1) m, room-first c (end_shifts c w e 0) (end_shifts c w e 1) 0 (omega (arith, room))))

  module _ {u after : List ℤ} {next : List ℕ} {to : ℕ} (s : Shifted c (end_shifts c w e 0) w u after 0 to out next) where
    same : end_shifts c u e 1 ≡ end_shifts c w e 1
    same = upper-still c w e ready.handed.shape ready.edge s.allowed

    pub upper-ready : length next ≡ length out
        → Ready c u after e × (Allows c u (end_shifts c u e 1) × (to + line_bytes c * moves_line_count (end_shifts c u e 1) ≤ length next))
    upper-ready long =
        let (x, m) = allows in
        rw same (
          still-ready ready s,
          (
            (x, allowed-rest (end_shifts c w e 1) s.allowed m),
            rw long (room_after c (end_shifts c w e 0) (end_shifts c w e 1) 0 s.bytes (omega (arith, room))),
          ),
        )

    pub both-done : {x later : List ℤ} {last : List ℕ} {stop : ℕ} → Shifted c (end_shifts c u e 1) u x later to stop next last
        → Shifted c (pair_round c w e) w x later 0 stop out last
    both-done t = shifted-more s (rw same at t)
