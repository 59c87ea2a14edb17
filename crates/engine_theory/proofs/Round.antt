-- What one call of a round does, by what comes next, on a table and an output to which none of numbers 3 to 8 and 15 applies: settled where
-- nothing comes; a void line's lines from the output's first byte; the round's moves, with its lines there, where they stay in the working
-- range; else it is refused by 11 and keeps table and output. Assumes nothing.
use Rattle.std.specs.Prelude.{Result, Ok, Err, Option, Some, None}
use mathlib.Core.Path.{◌≡◌, refl, sym, ap, subst}
use mathlib.Core.List.{List}
use Prim.Native.Nat.{ℕ, ◌≤◌}
use lib.IntN.{ℤ}
use lib.ListN.{length}
use Rattle.integers.specs.Words.{joined}
use Rattle.definitions.specs.declared.Case.{Case}
use Rattle.definitions.specs.declared.Refusal.{Refusal}
use Rattle.definitions.specs.declared.Refusal.TheVariants.{LeavesRange}
use Rattle.definitions.specs.declared.Round.{Round}
use Rattle.definitions.specs.Rules.{Rules}
use Rattle.definitions.specs.Case.{upper_bound}
use Rattle.definitions.specs.Valid.{working_weight}
use Rattle.definitions.specs.Moves.{Move, after_moves}
use Rattle.definitions.specs.Lines.{overwritten}
use Rattle.definitions.specs.Engine.{Next, nothing, round, void, made_of, make_next, round_bytes}
use Rattle.definitions.specs.RoundLines.{round_text, void_text}
use Rattle.calls.specs.EngineCalls.{RoundCall, round_made, round_call}
use Rattle.theory.proofs.Validity.{Handed}
use Rattle.engine_theory.proofs.Runs.{RoundFrom, differ}
use Rattle.engine_theory.proofs.Calls.{taken-iff, call-taken}

pub data RoundIs (r : Rules) (next : Rules → Case → List ℤ → Next) (c : Case) (w : List ℤ) (out : List ℕ) : RoundCall → Type 0 where
  settles : next r c w ≡ nothing → RoundIs r next c w out (record { answer = Ok Round.Settled; table = w; out = out })
  makes : {moves : List Move} {v : List ℤ} → RoundFrom r next c w moves v
      → RoundIs r next c w out (record {
        answer = Ok (Round.Made (length (joined (round_text r c moves v))) (upper_bound c v));
        table = v;
        out = overwritten (joined (round_text r c moves v)) out;
      })
  voids : {i : ℕ} {raised : List ℕ} → next r c w ≡ void i raised
      → RoundIs r next c w out (record {
        answer = Ok (Round.Void (length (joined (void_text r i raised))));
        table = w;
        out = overwritten (joined (void_text r i raised)) out;
      })
  leaves : {moves : List Move} → next r c w ≡ round moves → after_moves r c moves w ≡ None
      → RoundIs r next c w out (record { answer = Err LeavesRange; table = w; out = out })

abbrev refusal_of : Result Round Refusal → Refusal
refusal_of (Ok Round.Settled) = LeavesRange
refusal_of (Ok (Round.Made bytes bound)) = LeavesRange
refusal_of (Ok (Round.Void bytes)) = LeavesRange
refusal_of (Err x) = x

module _ (r : Rules) (next : Rules → Case → List ℤ → Next) (c : Case) (w : List ℤ) (out : List ℕ) (h : Handed r (working_weight r) c w)
    (long : round_bytes r c ≤ length out) where
  pub round_is : RoundIs r next c w out (round_call r next c w out)
  round_is = subst (RoundIs r next c w out) (sym (call-taken r next c w out ((taken-iff r next c w out).1 (h, long)))) (go (next r c w) refl)
    where
      leads : (moves : List Move) (o : Option (List ℤ)) → next r c w ≡ round moves → after_moves r c moves w ≡ o
          → RoundIs r next c w out (round_made c w out (made_of r c moves o))
      leads moves None e f = leaves e f
      leads moves (Some v) e f = makes (record { handed = h; comes = e; leads = f })

      go : (n : Next) → next r c w ≡ n → RoundIs r next c w out (round_made c w out (make_next r c w n))
      go nothing e = settles e
      go (void i raised) e = voids e
      go (round moves) e = leads moves (after_moves r c moves w) e refl

  -- refused, by 11 alone
  pub round-leaves : {x : Refusal} → (round_call r next c w out).answer ≡ Err x → x ≡ LeavesRange
  round-leaves {x} = go round_is
    where
      go : {u : RoundCall} → RoundIs r next c w out u → u.answer ≡ Err x → x ≡ LeavesRange
      go (settles f) e = differ (cc)
      go (makes m) e = differ (cc)
      go (voids f) e = differ (cc)
      go (leaves f g) e = sym (ap refusal_of e)
