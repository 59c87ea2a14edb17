-- What comes next by the pair that was found, and the round of that pair as the engine's. Assumes nothing.
use Rattle.std.specs.Prelude.{Result, Option, Some, None}
use Rattle.definitions.specs.declared.Refusal.{Refusal}
use mathlib.Core.Path.{◌≡◌, sym, ap, ◌∙◌}
use mathlib.Core.Bool.{Bool, true, false}
use mathlib.Core.List.{List}
use Prim.Native.Nat.{ℕ, ◌≤◌}
use lib.IntN.{ℤ}
use lib.ListN.{length}
use Rattle.definitions.specs.declared.Case.{Case}
use Rattle.definitions.specs.declared.Round.{Round}
use Rattle.definitions.specs.Rules.{coherent, rules_of}
use Rattle.definitions.specs.Valid.{working_weight}
use Rattle.definitions.specs.PairRounds.{pair_round, lowest_pair}
use Rattle.definitions.specs.Engine.{Next, nothing, round, chosen, pair_next, presses_next, engine_next, make_next, made_of, round_bytes}
use Rattle.calls.specs.EngineCalls.{RoundCall, round_made, round_call}
use Rattle.theory.proofs.Validity.{Handed}
use Rattle.pair_theory.proofs.Rounded.{pair_rounded}
use Rattle.pair_theory.proofs.Passing.{rounded-handed}
use Rattle.reach_theory.proofs.Next.{engine-next-nothing}
use Rattle.reach_theory.proofs.Counts.{lowest-ready}
use Rattle.engine_theory.proofs.Engine.{pair-leads}
use Rattle.engine_theory.proofs.Calls.{taken-iff, call-taken}
use Rattle.pair_rounds.specs.PairCall.{pair_made, pair_call}
use Rattle.pair_rounds.proofs.Rounds.{pair-call-taken}
use Rattle.engine.specs.Rounds.{next_in, MadeRound}

-- ---- what comes next

module _ (c : Case) (w : List ℤ) where
  module _ {e : ℕ} (which : lowest_pair (rules_of c) c w ≡ Some e) where
    pub next-pair : (pairs : Bool) → next_in pairs (rules_of c) c w ≡ round (pair_round c w e)
    next-pair true = ap (λ (o : Option ℕ). pair_next c w o nothing) which
    next-pair false = ap (λ (o : Option ℕ). pair_next c w o (presses_next (rules_of c) c w)) which

  module _ (no-pair : lowest_pair (rules_of c) c w ≡ None) where
    pub next-pairs : next_in true (rules_of c) c w ≡ nothing
    next-pairs = ap (λ (o : Option ℕ). pair_next c w o nothing) no-pair

    pub next-settled : chosen c w ≡ None → engine_next (rules_of c) c w ≡ nothing
    next-settled e = (engine-next-nothing (rules_of c) c w).1 (no-pair, e)

-- ---- the round of a pair

module _ {c : Case} {w : List ℤ} {e : ℕ} (out : List ℕ) (h : Handed (rules_of c) (working_weight (rules_of c)) c w)
    (long : round_bytes (rules_of c) c ≤ length out) (which : lowest_pair (rules_of c) c w ≡ Some e) where
  call-is : pair_call (rules_of c) c w out e ≡ round_made c w out (pair_made (rules_of c) c w e)
  call-is = pair-call-taken out h (lowest-ready (coherent c.rulebook) h which).0 long

  pub pair-call : (pairs : Bool) → pair_call (rules_of c) c w out e ≡ round_call (rules_of c) (next_in pairs) c w out
  pair-call pairs =
      call-is
      ∙ sym (call-taken (rules_of c) (next_in pairs) c w out ((taken-iff (rules_of c) (next_in pairs) c w out).1 (h, long))
      ∙ ap (λ (n : Next). round_made c w out (make_next (rules_of c) c w n)) (next-pair c w which pairs))

  module _ {r : Result Round Refusal} {after : List ℤ} {written : List ℕ} (a : r ≡ (pair_call (rules_of c) c w out e).answer)
      (t : after ≡ (pair_call (rules_of c) c w out e).table) (o : written ≡ (pair_call (rules_of c) c w out e).out) where
    pub pair-made : (pairs : Bool) → MadeRound pairs c w out after written r
    pair-made pairs = let d = pair-call pairs in record {
      answer = a ∙ ap (λ (u : RoundCall). u.answer) d;
      table = t ∙ ap (λ (u : RoundCall). u.table) d;
      output = o ∙ ap (λ (u : RoundCall). u.out) d;
    }

  pub pair-handed : {after : List ℤ} → after ≡ (pair_call (rules_of c) c w out e).table → Handed (rules_of c) (working_weight (rules_of c)) c after
  pair-handed {after} t =
      let d : after ≡ pair_rounded c w e =
      t ∙ ap (λ (u : RoundCall). u.table) (call-is
      ∙ ap (λ (v : Option (List ℤ)). round_made c w out (made_of (rules_of c) c (pair_round c w e) v)) (pair-leads (coherent c.rulebook) h which)) in
      let (l, s, n, f) = lowest-ready (coherent c.rulebook) h which in
      rw d (rounded-handed (coherent c.rulebook) h l n)
