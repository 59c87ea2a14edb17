-- What the call of a pair's round answers and leaves: refused before, out of the range, or made. Assumes nothing.
use Rattle.std.specs.Prelude.{Result, Ok, Err, Option, Some, None}
use mathlib.Core.Path.{◌≡◌, refl, sym, ap, ◌∙◌}
use mathlib.Core.Bool.{not}
use mathlib.Core.List.{List, [], ◌∷◌, ◌++◌, map, append-nil}
use Prim.Native.Nat.{ℕ, ◌+◌, ◌*◌, ◌≤◌, ◌<◌}
use native.Mathlib.Nat.{mul-add, mul-le-mul_left}
use native.Mathlib.Omega.{arith}
use lib.IntN.{ℤ}
use lib.Dec.{T, ltb, lt→ltb}
use lib.ListN.{length}
use Rattle.integers.specs.Words.{joined}
use Rattle.integers.specs.Tests.{tests, not-not-iff, if-true}
use Rattle.integers.specs.Lists.{joined-append, map-append}
use Rattle.definitions.specs.declared.Case.{Case}
use Rattle.definitions.specs.declared.Refusal.{Refusal}
use Rattle.definitions.specs.declared.Refusal.TheVariants.{LeavesRange}
use Rattle.definitions.specs.declared.Round.{Round}
use Rattle.definitions.specs.Rules.{rules_of, coherent}
use Rattle.definitions.specs.Answers.{outcome_of}
use Rattle.definitions.specs.Case.{scope_count, upper_bound}
use Rattle.definitions.specs.Valid.{working_weight}
use Rattle.definitions.specs.Moves.{Move, after_moves}
use Rattle.definitions.specs.Lines.{overwritten}
use Rattle.definitions.specs.RoundLines.{move_lines, bound_line, round_text}
use Rattle.definitions.specs.PairRounds.{pair_round}
use Rattle.definitions.specs.Engine.{made_of, round_bytes}
use Rattle.calls.specs.EngineCalls.{RoundCall, round_made}
use Rattle.theory.proofs.Validity.{Handed, handed}
use Rattle.theory.proofs.Replays.{none-iff}
use Rattle.theory.proofs.Rounds.{all-handed}
use Rattle.pair_theory.specs.Closed.{pair_leaves}
use Rattle.pair_theory.proofs.Rounded.{pair_rounded}
use Rattle.pair_theory.proofs.Passing.{after-pair, pair-allowed, pair-few}
use Rattle.tables.specs.Scopes.{BestOf, greatest_call}
use Rattle.tables.proofs.Best.{greatest-known}
use Rattle.tables.proofs.Order.{outcome-done, outcome-refused}
use Rattle.pair_rounds.specs.PairCall.{pair_refusal, pair_made, pair_call}
use Rattle.pair_rounds.specs.Shifts.{line_bytes, line_text_of, moves_text, moves_line_count, Allows, Shifted, Held, Bounded, MadePair}
use Rattle.pair_rounds.proofs.Moves.{allowed-after}
use Rattle.pair_rounds.proofs.Texts.{put-join}

-- ---- what is asked first

module _ (c : Case) (w : List ℤ) (out : List ℕ) (e : ℕ) where
  abbrev asked : Option Refusal
  asked = pair_refusal (rules_of c) c w (length out) e

  pub pair-refused : {x : Refusal} → Err x ≡ outcome_of asked → MadePair c w out e w out (Err x)
  unfolding pair_call
  pair-refused f = let d : asked ≡ Some _ = outcome-refused f in record { answer = rw (d, pair_call); table = rw (d, pair_call); output = rw (d, pair_call) }

  pub pair-asked : Ok tt ≡ outcome_of asked
      → (Handed (rules_of c) (working_weight (rules_of c)) c w × (e < c.m)) × (round_bytes (rules_of c) c ≤ length out)
  pair-asked f =
      let (h, s, t) = (handed (rules_of c) (working_weight (rules_of c)) c w (ltb (length out) (round_bytes (rules_of c) c)) (not (ltb e c.m))).0
      ((none-iff asked).1 (outcome-done f)) in
      ((h, simp tests at t), let l = simp tests at s in omega arith)

-- ---- the greatest weights, written

pub best-found : {c : Case} {w : List ℤ} (best after : List ℤ) → Handed (rules_of c) (working_weight (rules_of c)) c w → scope_count c ≤ length best
    → after ≡ (greatest_call (rules_of c) c w best).best → BestOf c w after
best-found best after h room e = rw e (greatest-known best h room).1

-- ---- the round

round-text : (c : Case) (moves : List Move) (v : List ℤ)
    → joined (round_text (rules_of c) c moves v) ≡ moves_text c moves ++ line_text_of c (bound_line (upper_bound c v))
round-text c moves v =
    ap joined (map-append (line_text_of c) (joined (map move_lines moves)) (bound_line (upper_bound c v) ∷ []))
    ∙ joined-append (map (line_text_of c) (joined (map move_lines moves))) (line_text_of c (bound_line (upper_bound c v)) ∷ [])
    ∙ ap (λ (t : List ℕ). moves_text c moves ++ t) (append-nil (line_text_of c (bound_line (upper_bound c v))))

module _ {c : Case} {w : List ℤ} {e : ℕ} (out : List ℕ) (h : Handed (rules_of c) (working_weight (rules_of c)) c w) (edge : e < c.m)
    (long : round_bytes (rules_of c) c ≤ length out) where
  taken : pair_refusal (rules_of c) c w (length out) e ≡ None
  taken = (none-iff (pair_refusal (rules_of c) c w (length out) e)).0
      ((handed (rules_of c) (working_weight (rules_of c)) c w (ltb (length out) (round_bytes (rules_of c) c)) (not (ltb e c.m))).1
      (h, simp tests (omega arith), (not-not-iff (ltb e c.m)).1 (lt→ltb e c.m edge)))

  -- the call is the round
  pub pair-call-taken : pair_call (rules_of c) c w out e ≡ round_made c w out (pair_made (rules_of c) c w e)
  unfolding pair_call
  pair-call-taken = rw (taken, pair_call)

  call-is : (o : Option (List ℤ)) → after_moves (rules_of c) c (pair_round c w e) w ≡ o
      → pair_call (rules_of c) c w out e ≡ round_made c w out (made_of (rules_of c) c (pair_round c w e) o)
  call-is o f =
      pair-call-taken ∙ ap (λ (u : Option (List ℤ)). round_made c w out (made_of (rules_of c) c (pair_round c w e) u)) f

  -- it leaves the range
  pub pair-round-refused : T (pair_leaves (rules_of c) c w e) → MadePair c w out e w out (Err LeavesRange)
  pair-round-refused t =
      let d = call-is None (after-pair (coherent c.rulebook) h edge ∙ if-true None (Some (pair_rounded c w e)) (pair_leaves (rules_of c) c w e) t) in
      record {
        answer = sym (ap (λ (u : RoundCall). u.answer) d);
        table = sym (ap (λ (u : RoundCall). u.table) d);
        output = sym (ap (λ (u : RoundCall). u.out) d);
      }

  -- the shifts and the bound line were made
  pub pair-round-made : {v best : List ℤ} {at : ℕ} {next last : List ℕ} {r : Result Round Refusal} → Shifted c (pair_round c w e) w v best 0 at out next
      → Bounded c v at next last r
      → MadePair c w out e v last r
  pair-round-made {v} s b =
      let d = call-is (Some v) (allowed-after s.allowed) in
      let (p, q) = put-join s.put b.put [] out refl refl in
      let t = round-text c (pair_round c w e) v in
      record {
        answer = b.answer ∙ ap (λ (n : ℕ). Ok (Round.Made n (upper_bound c v))) (sym q ∙ ap length (sym t)) ∙ sym (ap (λ (u : RoundCall). u.answer) d);
        table = sym (ap (λ (u : RoundCall). u.table) d);
        output = p ∙ ap (λ (l : List ℕ). overwritten l out) (sym t) ∙ sym (ap (λ (u : RoundCall). u.out) d);
      }

  module _ (n : T (not (pair_leaves (rules_of c) c w e))) where
    room : line_bytes c * (moves_line_count (pair_round c w e) + 1) ≤ length out
    room =
        omega (
          arith,
          long,
          mul-le-mul_left {m = moves_line_count (pair_round c w e) + 1} {n = scope_count c + 2 * c.d + 1} (line_bytes c) (omega (arith, pair-few c w e)),
        )

    pub round-ready : Allows c w (pair_round c w e) × (line_bytes c * moves_line_count (pair_round c w e) ≤ length out)
    round-ready = ((_, pair-allowed (coherent c.rulebook) h edge n), omega (arith, room))

    pub bound-ready : {v best : List ℤ} {at : ℕ} {next : List ℕ} → Shifted c (pair_round c w e) w v best 0 at out next → length next ≡ length out
        → (at + line_bytes c ≤ length next) × Held c best
    bound-ready {v} s same = (
      omega (arith, s.bytes, room, mul-add (line_bytes c) (moves_line_count (pair_round c w e)) 1),
      (v, all-handed (coherent c.rulebook) s.allowed h, s.greatest-kept),
    )
