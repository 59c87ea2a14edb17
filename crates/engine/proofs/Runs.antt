-- A run, round by round, with pair rounds only or not. Assumes nothing.
use Rattle.std.specs.Prelude.{Result, Ok, Err}
use mathlib.Core.Path.{◌≡◌, refl, sym, ap, ap₂, ◌∙◌}
use mathlib.Core.Bool.{Bool, true, false}
use mathlib.Core.List.{List, [], ◌++◌}
use Prim.Native.Nat.{ℕ, suc, ◌+◌, ◌-◌, ◌≤◌, ◌<◌}
use native.Mathlib.Omega.{arith}
use lib.IntN.{ℤ, pos}
use lib.ListN.{length, take}
use Rattle.integers.specs.Tests.{if-false}
use Rattle.definitions.specs.declared.Case.{Case}
use Rattle.definitions.specs.declared.Refusal.{Refusal}
use Rattle.definitions.specs.declared.Refusal.TheVariants.{LeavesRange}
use Rattle.definitions.specs.declared.Round.{Round}
use Rattle.definitions.specs.declared.RunAnswer.{RunAnswer}
use Rattle.definitions.specs.declared.Run.{Run}
use Rattle.definitions.specs.Rules.{coherent, rules_of}
use Rattle.definitions.specs.Answers.{outcome_of}
use Rattle.definitions.specs.Case.{upper_bound}
use Rattle.definitions.specs.Valid.{working_weight}
use Rattle.definitions.specs.Moves.{Move}
use Rattle.definitions.specs.Engine.{nothing, round, void, round_bytes}
use Rattle.calls.specs.EngineCalls.{RoundCall, RunCall, is_leaving, round_call, bound_at, stop_run, go_on, end_at_limit, run_call_from, run_call}
use Rattle.theory.proofs.Validity.{Handed}
use Rattle.engine_theory.proofs.Runs.{Lawful, differ, handed-on}
use Rattle.engine_theory.proofs.Engine.{engine-lawful, pairs-lawful}
use Rattle.engine_theory.proofs.Calls.{taken-iff, round-refused, run-refused, not-eleven, unmade-table, unmade-output}
use Rattle.engine_theory.proofs.Round.{RoundIs, settles, makes, voids, leaves, round_is, round-leaves}
use Rattle.tables.proofs.Order.{outcome-done, outcome-refused}
use Rattle.round_lines.specs.Asked.{round_refusal}
use Rattle.engine.specs.Rounds.{next_in, MadeRound, limit_answer, limit_output, LimitIs, RunIs, stopped_run}

abbrev pub run_with : Result RunAnswer Refusal → ℕ → ℤ → Run
run_with answer rounds bound = record { answer = answer; rounds = rounds; bound = bound }

-- ---- what was asked before the first round

module _ (pairs : Bool) (c : Case) (w : List ℤ) (out : List ℕ) where
  pub asked-done : Ok tt ≡ outcome_of (round_refusal (rules_of c) c w (length out) false)
      → Handed (rules_of c) (working_weight (rules_of c)) c w × (round_bytes (rules_of c) c ≤ length out)
  asked-done e = (taken-iff (rules_of c) (next_in pairs) c w out).0 (outcome-done e)

  pub asked-refused : {x : Refusal} → Err x ≡ outcome_of (round_refusal (rules_of c) c w (length out) false)
      → MadeRound pairs c w out w out (Err x)
  asked-refused e = let d = round-refused (rules_of c) (next_in pairs) c w out (outcome-refused e) in record {
    answer = sym (ap (λ (u : RoundCall). u.answer) d);
    table = sym (ap (λ (u : RoundCall). u.table) d);
    output = sym (ap (λ (u : RoundCall). u.out) d);
  }

  pub run-is-refused : {x : Refusal} (limit : ℕ) → Err x ≡ outcome_of (round_refusal (rules_of c) c w (length out) false)
      → RunIs pairs c limit w out w out (run_with (Err x) 0 (pos 0))
  run-is-refused {x} limit e =
      let d = run-refused (rules_of c) (next_in pairs) c w out limit (outcome-refused e) in
      let n = not-eleven (rules_of c) (next_in pairs) c w out (outcome-refused e) in record {
        run = ap (run_with (Err x) 0) (sym (if-false (upper_bound c w) (pos 0) (is_leaving x) n)) ∙ sym (ap (λ (u : RunCall). u.run) d);
        table = sym (ap (λ (u : RunCall). u.table) d);
        output = sym (ap (λ (u : RunCall). u.out) d);
      }

-- ---- a round on a table that was checked

lawful-in : (pairs : Bool) (c : Case) → Lawful (rules_of c) (next_in pairs) c
lawful-in true c = pairs-lawful (coherent c.rulebook) c
lawful-in false c = engine-lawful (coherent c.rulebook) c

module _ {pairs : Bool} {c : Case} {w : List ℤ} {out : List ℕ} (h : Handed (rules_of c) (working_weight (rules_of c)) c w)
    (long : round_bytes (rules_of c) c ≤ length out) where
  pub nothing-made : next_in pairs (rules_of c) c w ≡ nothing → MadeRound pairs c w out w out (Ok Round.Settled)
  nothing-made e = let (a, t, o) = go (round_is (rules_of c) (next_in pairs) c w out h long) in
      record { answer = a; table = t; output = o }
    where
      go : {u : RoundCall} → RoundIs (rules_of c) (next_in pairs) c w out u → Ok Round.Settled ≡ u.answer × (w ≡ u.table) × (out ≡ u.out)
      go (settles f) = (refl, refl, refl)
      go (makes m) = let d = m.comes in differ (cc)
      go (voids f) = differ (cc)
      go (leaves f g) = differ (cc)

  module _ {after : List ℤ} {written : List ℕ} where
    settled-keeps : MadeRound pairs c w out after written (Ok Round.Settled) → (after ≡ w) × (written ≡ out)
    settled-keeps p =
        let a = p.answer in (
          p.table ∙ unmade-table (rules_of c) (next_in pairs) c w out (λ bytes bound d. differ (cc)),
          p.output ∙ unmade-output (rules_of c) (next_in pairs) c w out (λ bytes bound d. differ (cc)) (λ bytes d. differ (cc)),
        )

    void-keeps : {bytes : ℕ} → MadeRound pairs c w out after written (Ok (Round.Void bytes)) → after ≡ w
    void-keeps p = let a = p.answer in p.table ∙ unmade-table (rules_of c) (next_in pairs) c w out (λ bytes bound d. differ (cc))

    refused-keeps : {x : Refusal} → MadeRound pairs c w out after written (Err x) → (after ≡ w) × (written ≡ out) × (x ≡ LeavesRange)
    refused-keeps p =
        let a = p.answer in (
          p.table ∙ unmade-table (rules_of c) (next_in pairs) c w out (λ bytes bound d. differ (cc)),
          p.output ∙ unmade-output (rules_of c) (next_in pairs) c w out (λ bytes bound d. differ (cc)) (λ bytes d. differ (cc)),
          round-leaves (rules_of c) (next_in pairs) c w out h long (sym a),
        )

    pub still-settled : MadeRound pairs c w out after written (Ok Round.Settled) → Handed (rules_of c) (working_weight (rules_of c)) c after
    still-settled p = rw (settled-keeps p).0 h

    pub still-void : {bytes : ℕ} → MadeRound pairs c w out after written (Ok (Round.Void bytes)) → Handed (rules_of c) (working_weight (rules_of c)) c after
    still-void p = rw (void-keeps p) h

    pub still-refused : {x : Refusal} → MadeRound pairs c w out after written (Err x) → Handed (rules_of c) (working_weight (rules_of c)) c after
    still-refused p = rw (refused-keeps p).0 h

    pub still-made : {bytes : ℕ} {bound : ℤ} → MadeRound pairs c w out after written (Ok (Round.Made bytes bound))
        → Handed (rules_of c) (working_weight (rules_of c)) c after
    still-made {bytes} {bound} p = rw p.table (go (round_is (rules_of c) (next_in pairs) c w out h long) (sym p.answer))
      where
        go : {u : RoundCall} → RoundIs (rules_of c) (next_in pairs) c w out u → u.answer ≡ Ok (Round.Made bytes bound)
            → Handed (rules_of c) (working_weight (rules_of c)) c u.table
        go (settles f) e = differ (cc)
        go (voids f) e = differ (cc)
        go (leaves f g) e = differ (cc)
        go (makes m) e = handed-on (coherent c.rulebook) (lawful-in pairs c) m

-- ---- at its limit a run ends by what comes next

module _ {pairs : Bool} {c : Case} {w : List ℤ} {out : List ℕ} (h : Handed (rules_of c) (working_weight (rules_of c)) c w)
    (long : round_bytes (rules_of c) c ≤ length out) where
  pub limit-round : {moves : List Move} → next_in pairs (rules_of c) c w ≡ round moves → LimitIs pairs c w out out (Ok RunAnswer.Limit)
  limit-round {moves} e = let (a, o) = go (round_is (rules_of c) (next_in pairs) c w out h long) in record { answer = a; output = o }
    where
      go : {u : RoundCall} → RoundIs (rules_of c) (next_in pairs) c w out u → Ok RunAnswer.Limit ≡ limit_answer u.answer
          × (out ≡ limit_output u.answer u.out out)
      go (settles f) = differ (cc)
      go (makes m) = (refl, refl)
      go (voids f) = differ (cc)
      go (leaves f g) = (refl, refl)

  pub limit-settled : next_in pairs (rules_of c) c w ≡ nothing → LimitIs pairs c w out out (Ok RunAnswer.Settled)
  limit-settled e = let (a, o) = go (round_is (rules_of c) (next_in pairs) c w out h long) in record { answer = a; output = o }
    where
      go : {u : RoundCall} → RoundIs (rules_of c) (next_in pairs) c w out u → Ok RunAnswer.Settled ≡ limit_answer u.answer
          × (out ≡ limit_output u.answer u.out out)
      go (settles f) = (refl, refl)
      go (makes m) = let d = m.comes in differ (cc)
      go (voids f) = differ (cc)
      go (leaves f g) = differ (cc)

  pub limit-void : {i : ℕ} {raised written : List ℕ} → next_in pairs (rules_of c) c w ≡ void i raised
      → written ≡ (round_call (rules_of c) (next_in pairs) c w out).out
      → LimitIs pairs c w out written (Ok RunAnswer.Void)
  limit-void {i} {raised} e f = let (a, o) = go (round_is (rules_of c) (next_in pairs) c w out h long) in record { answer = a; output = f ∙ o }
    where
      go : {u : RoundCall} → RoundIs (rules_of c) (next_in pairs) c w out u → Ok RunAnswer.Void ≡ limit_answer u.answer
          × (u.out ≡ limit_output u.answer u.out out)
      go (settles f) = differ (cc)
      go (makes m) = let d = m.comes in differ (cc)
      go (voids f) = (refl, refl)
      go (leaves f g) = differ (cc)

-- so it answers, and so leaves table and output
limit-parts : (pairs : Bool) (c : Case) (w : List ℤ) (out : List ℕ) (done : ℕ) (log : List ℕ) {u : RoundCall}
    → RoundIs (rules_of c) (next_in pairs) c w out u
    → (stopped_run c w (limit_answer u.answer) done ≡ (end_at_limit (rules_of c) (next_in pairs) c u.answer u done w out log).run)
    × (w ≡ (end_at_limit (rules_of c) (next_in pairs) c u.answer u done w out log).table)
    × (limit_output u.answer u.out out ≡ (end_at_limit (rules_of c) (next_in pairs) c u.answer u done w out log).out)
limit-parts pairs c w out done log (settles f) = (refl, refl, refl)
limit-parts pairs c w out done log (makes m) = (refl, refl, refl)
limit-parts pairs c w out done log (voids f) = (refl, refl, refl)
limit-parts pairs c w out done log (leaves f g) = (refl, refl, refl)

-- ---- the rounds of a run

module _ (pairs : Bool) (c : Case) (limit : ℕ) (first : List ℤ) (lent : List ℕ) where
  -- after so many rounds the run goes on from this table and output
  abbrev pub Going : ℕ → List ℤ → List ℕ → Type 0
  Going done w out = (log : List ℕ)
      × (run_call_from (rules_of c) (next_in pairs) c (limit - done) done w out log ≡ run_call (rules_of c) (next_in pairs) c limit first lent)

  pub run-starts : Going 0 first lent
  unfolding run_call
  run-starts = let e : limit - 0 ≡ limit = omega arith in ([], ap (λ (n : ℕ). run_call_from (rules_of c) (next_in pairs) c n 0 first lent []) e)

  ended : {done : ℕ} {w : List ℤ} {out log : List ℕ} {answer : Result RunAnswer Refusal} → bound_at (rules_of c) (next_in pairs) c answer w ≡ upper_bound c w
      → stop_run (rules_of c) (next_in pairs) c answer done w out log ≡ run_call (rules_of c) (next_in pairs) c limit first lent
      → RunIs pairs c limit first lent w out (stopped_run c w answer done)
  ended {done} {w} {out} {log} {answer} b e = record {
    run = ap (run_with answer done) (sym b) ∙ ap (λ (u : RunCall). u.run) e;
    table = ap (λ (u : RunCall). u.table) e;
    output = ap (λ (u : RunCall). u.out) e;
  }

  module _ (done : ℕ) (w : List ℤ) (out : List ℕ) (h : Handed (rules_of c) (working_weight (rules_of c)) c w) (long : round_bytes (rules_of c) c ≤ length out)
      (going : Going done w out) where
    module _ (more : done < limit) where
      -- what this round's answer leads to
      leads : {a : Result Round Refusal} → a ≡ (round_call (rules_of c) (next_in pairs) c w out).answer
          → go_on (rules_of c) (next_in pairs) c a (round_call (rules_of c) (next_in pairs) c w out) done w out going.0
          (λ v b l. run_call_from (rules_of c) (next_in pairs) c (limit - (done + 1)) (suc done) v b l)
          ≡ run_call (rules_of c) (next_in pairs) c limit first lent
      leads e =
          let n : suc (limit - (done + 1)) ≡ limit - done = omega arith in
          ap (λ (a : Result Round Refusal). go_on (rules_of c) (next_in pairs) c a (round_call (rules_of c) (next_in pairs) c w out) done w out going.0
          (λ v b l. run_call_from (rules_of c) (next_in pairs) c (limit - (done + 1)) (suc done) v b l)) e
          ∙ ap (λ (k : ℕ). run_call_from (rules_of c) (next_in pairs) c k done w out going.0) n ∙ going.1

      pub run-goes-on : {after : List ℤ} {written : List ℕ} {bytes : ℕ} {bound : ℤ} → MadeRound pairs c w out after written (Ok (Round.Made bytes bound))
          → Going (done + 1) after written
      run-goes-on {bytes = bytes} p =
          let n : done + 1 ≡ suc done = omega arith in (
            going.0 ++ take bytes (round_call (rules_of c) (next_in pairs) c w out).out,
            ap₂ (λ (v : List ℤ) (b : List ℕ). run_call_from (rules_of c) (next_in pairs) c (limit - (done + 1)) (done + 1) v b
                (going.0 ++ take bytes (round_call (rules_of c) (next_in pairs) c w out).out)) p.table p.output
                ∙ ap (λ (k : ℕ). run_call_from (rules_of c) (next_in pairs) c (limit - (done + 1)) k (round_call (rules_of c) (next_in pairs) c w out).table
                (round_call (rules_of c) (next_in pairs) c w out).out (going.0 ++ take bytes (round_call (rules_of c) (next_in pairs) c w out).out)) n
                ∙ leads p.answer,
          )

      pub settled-run : {after : List ℤ} {written : List ℕ} → MadeRound pairs c w out after written (Ok Round.Settled)
          → RunIs pairs c limit first lent after written (stopped_run c after (Ok RunAnswer.Settled) done)
      settled-run p = let (a, o) = settled-keeps h long p in rw (a, o) (ended {answer = (Ok RunAnswer.Settled)} refl (leads p.answer))

      pub void-run : {after : List ℤ} {written : List ℕ} {bytes : ℕ} → MadeRound pairs c w out after written (Ok (Round.Void bytes))
          → RunIs pairs c limit first lent after written (stopped_run c after (Ok RunAnswer.Void) done)
      void-run p = rw (p.table, p.output) (ended {answer = (Ok RunAnswer.Void)} refl (leads p.answer))

      pub run-leaves : {after : List ℤ} {written : List ℕ} {x : Refusal} → MadeRound pairs c w out after written (Err x)
          → RunIs pairs c limit first lent after written (stopped_run c after (Err x) done)
      run-leaves {x = x} p =
          let (a, o, e) = refused-keeps h long p in
          rw (a, o) (ended {answer = Err x} (ap (λ (y : Refusal). bound_at (rules_of c) (next_in pairs) c (Err y) w) e)
          (leads p.answer))

    pub run-limits : limit ≤ done → {written : List ℕ} {answer : Result RunAnswer Refusal} → LimitIs pairs c w out written answer
        → RunIs pairs c limit first lent w written (stopped_run c w answer done)
    run-limits e p =
        let z : 0 ≡ limit - done = omega arith in
        let d = ap (λ (k : ℕ). run_call_from (rules_of c) (next_in pairs) c k done w out going.0) z ∙ going.1 in
        let (a, t, o) = limit-parts pairs c w out done going.0 (round_is (rules_of c) (next_in pairs) c w out h long) in
        record {
          run = ap (λ (a : Result RunAnswer Refusal). stopped_run c w a done) p.answer ∙ a ∙ ap (λ (u : RunCall). u.run) d;
          table = t ∙ ap (λ (u : RunCall). u.table) d;
          output = p.output ∙ o ∙ ap (λ (u : RunCall). u.out) d;
        }
