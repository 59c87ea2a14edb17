-- Demand 3 holds for every valid case: the replay's half from checker_promise, the run's from engine_theory, over what comes next: the engine's
-- round, or pair rounds only. Assumes nothing.
use Rattle.std.specs.Prelude.{Result, Ok, Err, None}
use Rattle.definitions.specs.declared.Refusal.{Refusal}
use mathlib.Core.Path.{◌≡◌, refl, sym, ap, ◌∙◌}
use mathlib.Core.Bool.{false, not}
use mathlib.Core.Logic.Iff
use mathlib.Core.Logic.{◌↔◌, ◌⊎◌, inl, inr, ⊎_elim}
use mathlib.Core.List.{List}
use Prim.Native.Nat.{ℕ, ◌≤◌}
use native.Mathlib.Omega.{arith}
use lib.IntN.{ℤ, pos}
use lib.Dec.{T}
use lib.ListN.{length}
use Rattle.integers.specs.Linear.{flat, zs, ◌▸◌}
use Rattle.definitions.specs.declared.Refusal.TheVariants.{LeavesRange}
use Rattle.definitions.specs.declared.Round.{Round}
use Rattle.definitions.specs.declared.RunAnswer.{RunAnswer}
use Rattle.definitions.specs.Answers.{run_says}
use Rattle.definitions.specs.declared.Case.{Case}
use Rattle.definitions.specs.Rules.{Rules, Coherent, coherent}
use Rattle.definitions.specs.Case.{upper_bound}
use Rattle.definitions.specs.Refusals.{first_refusal}
use Rattle.definitions.specs.Valid.{working_weight, handed_over, valid}
use Rattle.definitions.specs.Lines.{lines_in, has_part}
use Rattle.definitions.specs.Replay.{State, fresh, after, some_press}
use Rattle.definitions.specs.PairRounds.{PairsSettled}
use Rattle.definitions.specs.Graph.{Acyclic}
use Rattle.definitions.specs.Engine.{Settled, nothing, Made, settled, refused, made, voided, engine_next, pairs_next, round_bytes, run}
use Rattle.calls.specs.EngineCalls.{RoundCall, RunCall, round_made, engine_refusal, round_call, run_call}
use Rattle.definitions.proofs.LineLaws.{no_part}
use Rattle.theory.proofs.Shape.{Shape}
use Rattle.theory.proofs.Validity.{Handed, handed, valid-facts, working-handed}
use Rattle.theory.proofs.Replays.{none-iff, keeps-iff, handed-after}
use Rattle.theory.proofs.ShiftLogs.{lines-kept, lines-lawful}
use Rattle.theory.proofs.Rounds.{MoveKinds, move-kinds}
use Rattle.graph_theory.proofs.Plans.{hilltop, kept-best}
use Rattle.reach_theory.proofs.Counts.{left-most}
use Rattle.checker.specs.Checker.{after_lines}
use Rattle.checker_promise.specs.Lists.{begun, ReplayTrusted}
use Rattle.checker_promise.proofs.Accepts.{replay-trusted}
use Rattle.engine_theory.proofs.Runs.{differ, Ends, settles, limits, refuses, voids, Lawful, NeverLeaves, between, ended, run_settled, run-void, run-limit}
use Rattle.engine_theory.proofs.Runs.{run-log-taken, run-log-ends, run-void-none, run-never-refused, run-settles, run-tallied, run_ends, ends-within, run-remains, run-lawful}
use Rattle.reach_theory.proofs.Next.{pairs-no-void}
use Rattle.engine_theory.proofs.Engine.{engine-lawful, pairs-lawful, engine-settled, pairs-settled, engine-free, pairs-free, pairs-keep}
use Rattle.engine_theory.proofs.Engine.{Lessening, run-few, run-unlimited, engine-lessens, pairs-lessen}
use Rattle.engine_theory.proofs.Calls.{call-has, unmade-table, unmade-output, run-made, run-settled-first, run-refused-first, run-void-first, run-no-round}
use Rattle.engine_theory.proofs.Calls.{texts-joined, texts-count, taken-iff, same-run, call-lines, call-bound-lines}
use Rattle.demand3.specs.Demand3.{Follows, RunTrusted, RunIterates, RunEnds, PairsKept, ChainSettled, ChainShifted, Demand3, Guarantee}

-- what a round that was made hands back
abbrev stated_bound : Result Round Refusal → ℤ
stated_bound (Ok Round.Settled) = pos 0
stated_bound (Ok (Round.Made bytes bound)) = bound
stated_bound (Ok (Round.Void bytes)) = pos 0
stated_bound (Err x) = pos 0

-- a void line leaves rounds and weights, and is whole just where the run answers so
ended-keeps : (c : Case) (w₀ : List ℤ) (rounds : ℕ) (w : List ℤ) (a : Result RunAnswer Refusal)
    → ((ended a (between c w₀ rounds w)).rounds ≡ rounds) × ((ended a (between c w₀ rounds w)).weights ≡ w)
    × (T (ended a (between c w₀ rounds w)).void ↔ a ≡ Ok RunAnswer.Void)
ended-keeps c w₀ rounds w (Ok RunAnswer.Settled) = (refl, refl, (λ t. absurd t, λ e. differ (cc)))
ended-keeps c w₀ rounds w (Ok RunAnswer.Limit) = (refl, refl, (λ t. absurd t, λ e. differ (cc)))
ended-keeps c w₀ rounds w (Ok RunAnswer.Void) = (refl, refl, (λ t. refl, λ e. tt))
ended-keeps c w₀ rounds w (Err x) = (refl, refl, (λ t. absurd t, λ e. differ (cc)))

-- ---- over any lawful rounds

-- what is known of what comes next
record Known (r : Rules) (next : Follows) (Rest : List ℤ → Type 0) (c : Case) : Type 0 where
  pub lawful : Lawful r next c
  pub rest : Shape c → (w : List ℤ) → next r c w ≡ nothing ↔ Rest w
  pub lessening : Lessening r next c

module _ (r : Rules) (next : Follows) (c : Case) (w : List ℤ) (out : List ℕ) (bytes : ℕ) (bound : ℤ) where
  abbrev Stated : RoundCall → Type 0
  Stated u = u.answer ≡ Ok (Round.Made bytes bound) → bound ≡ upper_bound c u.table

  made-states : (m : Made) → Stated (round_made c w out m)
  made-states settled e = cc
  made-states (refused x) e = cc
  made-states (made v lines) e = sym (ap stated_bound e)
  made-states (voided lines) e = cc

  round-states : Stated (round_call r next c w out)
  round-states = call-has r next c w out Stated made-states

module _ {r : Rules} {next : Follows} {Rest : List ℤ → Type 0} {c : Case} (coherent : Coherent r) (known : Known r next Rest c) where
  iterates : RunIterates r next c
  iterates = record {
    made = run-made r next c;
    settled = run-settled-first r next c;
    refused = run-refused-first r next c;
    void = run-void-first r next c;
    no-round = run-no-round r next c;
    round-bound = λ w out {bytes} {bound}. round-states r next c w out bytes bound;
    unmade-table = unmade-table r next c;
    unmade-output = unmade-output r next c;
    bound-lines = call-bound-lines coherent known.lawful;
  }

  -- not by its limit, if that is not less than the rounds that can be
  ends-not-limit : {w : List ℤ} {rounds limit : ℕ} {lines log : List (List ℕ)} {answer : Result RunAnswer Refusal} → Ends r next c w rounds limit lines answer log
      → (answer ≡ Ok RunAnswer.Limit → ⊥)
      → (answer ≡ Ok RunAnswer.Settled) ⊎ ((answer ≡ Ok RunAnswer.Void) ⊎ (answer ≡ Err LeavesRange))
  ends-not-limit (settles h e) n = inl refl
  ends-not-limit (limits h e) n = absurd (n refl)
  ends-not-limit (refuses h e f) n = inr (inr refl)
  ends-not-limit (voids h e) n = inr (inl refl)

  ends : (limit : ℕ) (w : List ℤ) (out : List ℕ) → engine_refusal r next c w out ≡ None → RunEnds r next Rest c w limit (run_call r next c limit w out)
  ends limit w out taken =
      let (h, long) = (taken-iff r next c w out).0 taken in
      let same = same-run coherent known.lawful limit w out taken in
      let most = left-most c w in
      record {
        rests = rw (same.answer, same.table) (run_settled r next c (known.rest h.shape) limit w);
        voids = rw (same.answer, same.table) (run-void r next c limit w);
        limits = rw (same.answer, same.rounds, same.table) (run-limit r next c (known.rest h.shape) limit w);
        none-lawful = λ e. run-void-none coherent known.lawful limit w h (sym same.answer ∙ e);
        rounds-most = omega (arith, same.rounds, run-few coherent known.lawful known.lessening limit w h);
        reaches = λ enough. rw same.answer (ends-not-limit (run_ends r next c limit w)
            (run-unlimited coherent known.lawful known.lessening limit w h (omega arith)));
      }

  module _ (kinds : MoveKinds r) (w : List ℤ) (t : T (valid r c w)) {Reach : List ℤ → Type 0} (stays : NeverLeaves r next c w Reach) where
    run-trusted : (limit : ℕ) (out : List ℕ) → round_bytes r c ≤ length out
        → RunTrusted r next Rest c w limit out (run r next c limit w) (run_call r next c limit w out)
        (lines_in r.amount_width (run_call r next c limit w out).log)
    run-trusted limit out long =
        let lawful = known.lawful in
        let trusted : ReplayTrusted r c w = replay-trusted coherent c w t in
        let h : Handed r (working_weight r) c w = working-handed coherent (valid-facts r c w t) in
        let taken = (taken-iff r next c w out).1 (h, long) in
        let same = same-run coherent lawful limit w out taken in
        let lines = call-lines coherent lawful limit w out taken in
        let u : RunCall = run_call r next c limit w out in
        let log : List (List ℕ) = lines_in r.amount_width u.log in
        -- the plain replay of the log's lines
        let replayed = ap (after r (fresh c w)) lines ∙ run-log-taken coherent kinds lawful w t limit in
        let still = ended-keeps c w (run r next c limit w).rounds (run r next c limit w).weights (run r next c limit w).answer in
        let rounds : (after r (fresh c w) log).rounds ≡ u.run.rounds = ap (λ (s : State). s.rounds) replayed ∙ still.0 ∙ sym same.rounds in
        let weights : (after r (fresh c w) log).weights ≡ u.table = ap (λ (s : State). s.weights) replayed ∙ still.1 ∙ sym same.table in
        let bound : u.run.bound ≡ upper_bound c u.table = same.bound ∙ ap (upper_bound c) (sym same.table) in
        record {
          rounds = same.rounds;
          weights = same.table;
          bound = bound;
          lines = same.log;
          call-lines = sym (texts-joined r next c limit w);
          call-count = rw (same.rounds, same.answer) (texts-count r next c limit w);
          output = same.out;
          answer = ap run_says same.answer;
          settled = (ends limit w out taken).rests;
          void = (ends limit w out taken).voids;
          limited = (ends limit w out taken).limits;
          unrefused = rw same.answer (run-never-refused stays limit);
          within = rw same.rounds (ends-within r next c (run_ends r next c limit w));
          log-whole =
              ap (has_part r.amount_width) same.log ∙ no_part r.amount_width (run r next c limit w).log
              (run-tallied coherent lawful limit w h).whole;
          log-accepted = (trusted log).accepted.1 ((keeps-iff r c w log).1 (rw lines (run-log-ends coherent kinds lawful w t limit)));
          log-rounds = (trusted log).rounds ∙ rounds;
          log-bound = ap (upper_bound c) ((trusted log).weights ∙ weights) ∙ sym bound;
          log-weights = (trusted log).weights ∙ weights;
          log-void = Iff.trans (trusted log).void-due (rw (replayed, same.answer) still.2);
          none-lawful = (ends limit w out taken).none-lawful;
          bound-least = λ p a. rw (bound, ← weights, ← (trusted log).weights) ((trusted log).bound-least p a);
          settles = λ p a l. same.answer ∙ run-settles coherent kinds lawful w t stays limit p a (l ▸ simp flat (omega zs));
        }

-- ---- the engine's rounds, and those of pairs only

module _ {r : Rules} (coherent : Coherent r) (c : Case) where
  engine-known : Known r engine_next (Settled r c) c
  engine-known = record { lawful = engine-lawful coherent c; rest = engine-settled r c; lessening = engine-lessens coherent c }

  pairs-known : Known r pairs_next (PairsSettled r c) c
  pairs-known = record { lawful = pairs-lawful coherent c; rest = pairs-settled r c; lessening = pairs-lessen coherent c }

  pairs-kept : (limit : ℕ) (v : List ℤ) (out : List ℕ) → engine_refusal r pairs_next c v out ≡ None → PairsKept c v (run_call r pairs_next c limit v out)
  pairs-kept limit v out taken =
      let (h, long) = (taken-iff r pairs_next c v out).0 taken in
      let same = same-run coherent (pairs-lawful coherent c) limit v out taken in
      record {
        unrefused = rw same.answer (⊎_elim inl (⊎_elim inr
            (λ e. let (i, raised, d) = (run-void r pairs_next c limit v).0 e in absurd (pairs-no-void r c (run r pairs_next c limit v).weights d)))
            (run-never-refused (pairs-free coherent h) limit));
        totals = λ p a. rw same.table (pairs-keep coherent limit v h p a);
      }

  -- ---- where the edges form no cycle

  module _ (acyclic : Acyclic c) where
    module _ (limit : ℕ) (v : List ℤ) (out : List ℕ) where
      chain-settled : engine_refusal r engine_next c v out ≡ None → ChainSettled c (run_call r engine_next c limit v out)
      chain-settled taken e =
          let (h, long) = (taken-iff r engine_next c v out).0 taken in
          let same = same-run coherent (engine-lawful coherent c) limit v out taken in
          let rest = rw same.table at ((ends coherent engine-known limit v out taken).rests.0 e) in
          let (p, meets) = hilltop coherent (run-remains coherent (engine-lawful coherent c) limit v h).handed acyclic rest.presses in
          rw (same.bound, same.table) (p, meets, meets.total)

      chain-pairs : engine_refusal r pairs_next c v out ≡ None
          → ChainShifted c v (run_call r pairs_next c limit v out).table (run_call r pairs_next c limit v out).run.bound
      chain-pairs taken rest =
          let (h, long) = (taken-iff r pairs_next c v out).0 taken in
          let same = same-run coherent (pairs-lawful coherent c) limit v out taken in
          let met = hilltop coherent (run-remains coherent (pairs-lawful coherent c) limit v h).handed acyclic (rw same.table at rest) in
          rw (same.bound, same.table) (kept-best (run-lawful coherent (pairs-lawful coherent c) limit v h) (pairs-keep coherent limit v h) met)

    chain-lines : (w : List ℤ) → T (valid r c w) → (ts : List (List ℕ)) → T (not (some_press r ts))
        → ChainShifted c w (after_lines r (begun r c w) ts).table (upper_bound c (after_lines r (begun r c w) ts).table)
    chain-lines w t ts n rest =
        let same = (replay-trusted coherent c w t ts).weights in
        let met = hilltop coherent (handed-after coherent c w t ts) acyclic (rw same at rest) in
        rw same (kept-best (lines-lawful coherent c w t ts) (lines-kept coherent c w t ts n) met)

  pub demand3 : MoveKinds r → (w : List ℤ) → T (valid r c w) → Demand3 r c w
  demand3 kinds w t = record {
    any-lines = replay-trusted coherent c w t;
    any-run = run-trusted coherent engine-known kinds w t (engine-free coherent t);
    any-table = iterates coherent engine-known;
    any-end = ends coherent engine-known;
    any-pairs-run = run-trusted coherent pairs-known kinds w t (pairs-free coherent (working-handed coherent (valid-facts r c w t)));
    any-pairs-table = iterates coherent pairs-known;
    any-pairs-end = ends coherent pairs-known;
    pairs-kept = pairs-kept;
    chains = λ v e. hilltop coherent ((handed r (working_weight r) c v false false).0 ((none-iff (first_refusal (handed_over r (working_weight r) c v false false))).1 e)).0;
    chain-settled = chain-settled;
    chain-pairs = chain-pairs;
    chain-lines = λ acyclic. chain-lines acyclic w t;
  }

-- for every valid case, by the rules it is under
pub rules-demand3 : Guarantee
rules-demand3 c = demand3 (coherent c.rulebook) c (move-kinds (coherent c.rulebook))
