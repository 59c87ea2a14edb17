-- The engine's calls on a lent table and output are the plain round and run. A call that makes no round keeps the table, and the output too
-- where it writes no void line. A run to which none of numbers 3 to 8 and 15 applies has the plain run's answer, rounds, weights and log, the
-- upper bound of these weights, and the lent output with each call's lines written from its first byte; otherwise it is refused before its
-- first round. For every table, a run is the iteration of the round's call, and the bound lines in its log are as many as its rounds. Assumes
-- nothing.
use mathlib.Core.Path.{◌≡◌, refl, sym, ap, ap₂, subst, ◌∙◌}
use mathlib.Core.Bool.{Bool, true, false, not}
use mathlib.Core.Logic.{◌↔◌}
use mathlib.Core.List.Memᴰ
use mathlib.Core.List.{List, [], ◌∷◌, ◌++◌, append_assoc, append-nil}
use Prim.Native.Nat.{ℕ, zero, suc, ◌+◌, ◌-◌, ◌≤◌}
use native.Mathlib.Nat.{mul_comm}
use native.Mathlib.Omega.{arith}
use lib.IntN.{ℤ}
use lib.Dec.{T, ltb}
use lib.ListN.{length, take, drop, length-append, length-drop, length-map}
use lib.Seq.{take-append_seam, drop-append-add, drop-drop}
use Rattle.std.specs.Prelude.{if◌then◌else◌, Result, Ok, Err, Option, Some, None}
use Rattle.integers.specs.Words.{all, joined}
use Rattle.integers.specs.Tests.{tests, if-false, and_left, and_right}
use Rattle.integers.specs.Options.{none-some, some_inj}
use Rattle.integers.specs.Lists.{joined-append}
use Rattle.integers.specs.Tables.{length-joined}
use Rattle.definitions.specs.declared.Case.{Case}
use Rattle.definitions.specs.declared.Refusal.{Refusal}
use Rattle.definitions.specs.declared.Refusal.TheVariants.{LeavesRange}
use Rattle.definitions.specs.declared.Round.{Round}
use Rattle.definitions.specs.declared.RunAnswer.{RunAnswer}
use Rattle.definitions.specs.Rules.{Rules, Coherent}
use Rattle.definitions.specs.Refusals.{Test, first_refusal}
use Rattle.definitions.specs.Case.{upper_bound}
use Rattle.definitions.specs.Valid.{working_weight, handed_over}
use Rattle.definitions.specs.Moves.{Move, after_moves}
use Rattle.definitions.specs.Lines.{line_text, line_length, lines_in, overwritten}
use Rattle.definitions.specs.Engine.{Next, nothing, round, void, Made, settled, refused, made, voided, round_bytes}
use Rattle.definitions.specs.Engine.{made_of, make_next, RunOf, stopped, at_limit, onward, run_from, run}
use Rattle.calls.specs.EngineCalls.{RoundCall, RunCall, is_leaving, round_made, engine_refusal, round_call}
use Rattle.calls.specs.EngineCalls.{bound_at, stop_run, stop_void, go_on, end_at_limit, run_call_from, run_call}
use Rattle.definitions.proofs.LineLaws.{lines-joined}
use Rattle.definitions.specs.RoundLines.{round_lines, round_text, lines_of_void, void_text}
use Rattle.theory.proofs.Validity.{Handed, handed}
use Rattle.theory.proofs.Replays.{none-iff}
use Rattle.engine_theory.specs.Runs.{bound_lines, texts_of, texts_at_limit, call_texts, void_texts, written_in_turn, preceded}
use Rattle.engine_theory.proofs.Runs.{RoundFrom, Lawful, round_whole, handed-on, void-whole, void-short, run-tallied}

-- no number that is asked before a round is 11
not-leaving : (ts : List Test) → T (all (λ t. not (is_leaving t.refusal)) ts) → {x : Refusal} → first_refusal ts ≡ Some x → T (not (is_leaving x))
not-leaving [] h e = absurd (none-some e)
not-leaving (t ∷ ts) h {x} e = go t.applies (and_left (not (is_leaving t.refusal)) _ h) (not-leaving ts (and_right (not (is_leaving t.refusal)) _ h)) e
  where
    go : (b : Bool) → T (not (is_leaving t.refusal)) → (first_refusal ts ≡ Some x → T (not (is_leaving x)))
        → (if b then Some t.refusal else first_refusal ts) ≡ Some x → T (not (is_leaving x))
    go true h rest e = subst (λ (y : Refusal). T (not (is_leaving y))) (some_inj e) h
    go false h rest e = rest e

module _ (r : Rules) (next : Rules → Case → List ℤ → Next) (c : Case) (w : List ℤ) (out : List ℕ) where
  -- what a call asks before its first round
  pub taken-iff : engine_refusal r next c w out ≡ None ↔ Handed r (working_weight r) c w × (round_bytes r c ≤ length out)
  taken-iff =
      let h = handed r (working_weight r) c w (ltb (length out) (round_bytes r c)) false in
      let n = none-iff (engine_refusal r next c w out) in (
        λ e. let (p, q, _) = h.0 (n.1 e) in (p, let l = simp tests at q in omega arith),
        λ (p, q). n.0 (h.1 (p, simp tests (omega arith), tt)),
      )

  pub call-taken : engine_refusal r next c w out ≡ None → round_call r next c w out ≡ round_made c w out (make_next r c w (next r c w))
  unfolding round_call
  call-taken e = rw (e, round_call)

  pub round-refused : {x : Refusal} → engine_refusal r next c w out ≡ Some x → round_call r next c w out ≡ round_made c w out (refused x)
  unfolding round_call
  round-refused e = rw (e, round_call)

  pub not-eleven : {x : Refusal} → engine_refusal r next c w out ≡ Some x → T (not (is_leaving x))
  not-eleven = not-leaving (handed_over r (working_weight r) c w (ltb (length out) (round_bytes r c)) false) tt

  -- what holds of a call that is refused, and of one by what comes next, holds of the call
  pub call-has : (P : RoundCall → Type 0) → ((m : Made) → P (round_made c w out m)) → P (round_call r next c w out)
  call-has P f = asked (engine_refusal r next c w out) refl
    where
      asked : (o : Option Refusal) → engine_refusal r next c w out ≡ o → P (round_call r next c w out)
      asked None e = subst P (sym (call-taken e)) (f (make_next r c w (next r c w)))
      asked (Some x) e = subst P (sym (round-refused e)) (f (refused x))

  -- no round was made: the table keeps what it held, and without a void line so does the output
  pub unmade-table : ((bytes : ℕ) (bound : ℤ) → (round_call r next c w out).answer ≡ Ok (Round.Made bytes bound) → ⊥) → (round_call r next c w out).table ≡ w
  unmade-table = call-has (λ u. ((bytes : ℕ) (bound : ℤ) → u.answer ≡ Ok (Round.Made bytes bound) → ⊥) → u.table ≡ w) go
    where
      go : (m : Made) → ((bytes : ℕ) (bound : ℤ) → (round_made c w out m).answer ≡ Ok (Round.Made bytes bound) → ⊥) → (round_made c w out m).table ≡ w
      go settled n = refl
      go (refused x) n = refl
      go (made v lines) n = absurd (n _ _ refl)
      go (voided lines) n = refl

  pub unmade-output : ((bytes : ℕ) (bound : ℤ) → (round_call r next c w out).answer ≡ Ok (Round.Made bytes bound) → ⊥)
      → ((bytes : ℕ) → (round_call r next c w out).answer ≡ Ok (Round.Void bytes) → ⊥) → (round_call r next c w out).out ≡ out
  unmade-output =
      call-has (λ u. ((bytes : ℕ) (bound : ℤ) → u.answer ≡ Ok (Round.Made bytes bound) → ⊥) → ((bytes : ℕ) → u.answer ≡ Ok (Round.Void bytes) → ⊥) → u.out ≡ out) go
    where
      go : (m : Made) → ((bytes : ℕ) (bound : ℤ) → (round_made c w out m).answer ≡ Ok (Round.Made bytes bound) → ⊥)
          → ((bytes : ℕ) → (round_made c w out m).answer ≡ Ok (Round.Void bytes) → ⊥) → (round_made c w out m).out ≡ out
      go settled n o = refl
      go (refused x) n o = refl
      go (made v lines) n o = absurd (n _ _ refl)
      go (voided lines) n o = absurd (o _ refl)

  -- refused before its first round, a run is refused so, with no rounds
  pub run-refused : (limit : ℕ) {x : Refusal} → engine_refusal r next c w out ≡ Some x
      → run_call r next c limit w out ≡ stop_run r next c (Err x) 0 w out []
  unfolding run_call
  run-refused zero {x} e =
      ap (λ (u : RoundCall). end_at_limit r next c u.answer u 0 w out []) (round-refused e)
      ∙ ap (λ (a : Result RunAnswer Refusal). stop_run r next c a 0 w out []) (if-false (Ok RunAnswer.Limit) (Err x) (is_leaving x) (not-eleven e))
  run-refused (suc limit) e = ap (λ (u : RoundCall). go_on r next c u.answer u 0 w out [] (λ v bytes log. run_call_from r next c limit 1 v bytes log))
      (round-refused e)

-- ---- a run is the iteration of the round's call, for every table and every output

module _ (r : Rules) (next : Rules → Case → List ℤ → Next) (c : Case) where
  stop-preceded : (answer : Result RunAnswer Refusal) (done : ℕ) (w : List ℤ) (out log : List ℕ)
      → stop_run r next c answer done w out log ≡ preceded done log (stop_run r next c answer 0 w out [])
  stop-preceded answer done w out log = ap₂ (λ (n : ℕ) (l : List ℕ). stop_run r next c answer n w out l) (omega arith) (sym (append-nil log))

  void-preceded : (call : RoundCall) (bytes done : ℕ) (log : List ℕ)
      → stop_void r next c call bytes done log ≡ preceded done log (stop_void r next c call bytes 0 [])
  void-preceded call bytes done log =
      ap (λ (n : ℕ). stop_run r next c (Ok RunAnswer.Void) n call.table call.out (log ++ take bytes call.out)) (omega arith)

  from-preceded : (left done : ℕ) (w : List ℤ) (out log : List ℕ)
      → run_call_from r next c left done w out log ≡ preceded done log (run_call_from r next c left 0 w out [])
  from-preceded zero done w out log = go (round_call r next c w out).answer
    where
      go : (a : Result Round Refusal) → end_at_limit r next c a (round_call r next c w out) done w out log
          ≡ preceded done log (end_at_limit r next c a (round_call r next c w out) 0 w out [])
      go (Ok Round.Settled) = stop-preceded (Ok RunAnswer.Settled) done w out log
      go (Ok (Round.Made bytes bound)) = stop-preceded (Ok RunAnswer.Limit) done w out log
      go (Ok (Round.Void bytes)) = void-preceded (round_call r next c w out) bytes done log
      go (Err x) = stop-preceded (if is_leaving x then Ok RunAnswer.Limit else Err x) done w out log
  from-preceded (suc left) done w out log = go (λ d v o l. from-preceded left d v o l) (round_call r next c w out).answer (round_call r next c w out)
    where
      go : ((d : ℕ) (v : List ℤ) (o l : List ℕ) → run_call_from r next c left d v o l ≡ preceded d l (run_call_from r next c left 0 v o []))
          → (a : Result Round Refusal) (call : RoundCall) → go_on r next c a call done w out log (λ v bytes l. run_call_from r next c left (suc done) v bytes l)
          ≡ preceded done log (go_on r next c a call 0 w out [] (λ v bytes l. run_call_from r next c left 1 v bytes l))
      go on (Ok Round.Settled) call = stop-preceded (Ok RunAnswer.Settled) done w out log
      go on (Err x) call = stop-preceded (Err x) done w out log
      go on (Ok (Round.Void bytes)) call = void-preceded call bytes done log
      go on (Ok (Round.Made bytes bound)) call =
          on (suc done) call.table call.out (log ++ take bytes call.out)
          ∙ ap₂ (λ (n : ℕ) (l : List ℕ). record {
            run = record { answer = rest.run.answer; rounds = n; bound = rest.run.bound };
            table = rest.table;
            out = rest.out;
            log = l;
          })
          (omega arith) (append_assoc log (take bytes call.out) rest.log)
          ∙ sym (ap (preceded done log) (on 1 call.table call.out (take bytes call.out)))
        where
          rest : RunCall
          rest = run_call_from r next c left 0 call.table call.out []

  module _ (limit : ℕ) (w : List ℤ) (out : List ℕ) where
    -- a run whose first round is made is this round and then the run on the table and output that its call left, and begins its log with the
    -- bytes that the call wrote
    pub run-made : {bytes : ℕ} {bound : ℤ} → (round_call r next c w out).answer ≡ Ok (Round.Made bytes bound)
        → run_call r next c (suc limit) w out ≡ preceded 1 (take bytes (round_call r next c w out).out)
        (run_call r next c limit (round_call r next c w out).table (round_call r next c w out).out)
    unfolding run_call
    run-made {bytes} {bound} e =
        ap (λ (a : Result Round Refusal). go_on r next c a (round_call r next c w out) 0 w out [] (λ v b l. run_call_from r next c limit 1 v b l)) e
        ∙ from-preceded limit 1 (round_call r next c w out).table (round_call r next c w out).out (take bytes (round_call r next c w out).out)

    -- where it is settled or refused, so is the run, with no rounds and no log
    pub run-settled-first : (round_call r next c w out).answer ≡ Ok Round.Settled
        → run_call r next c (suc limit) w out ≡ stop_run r next c (Ok RunAnswer.Settled) 0 w out []
    unfolding run_call
    run-settled-first e = ap (λ (a : Result Round Refusal). go_on r next c a (round_call r next c w out) 0 w out [] (λ v b l. run_call_from r next c limit 1 v b l)) e

    pub run-refused-first : {x : Refusal} → (round_call r next c w out).answer ≡ Err x
        → run_call r next c (suc limit) w out ≡ stop_run r next c (Err x) 0 w out []
    unfolding run_call
    run-refused-first e = ap (λ (a : Result Round Refusal). go_on r next c a (round_call r next c w out) 0 w out [] (λ v b l. run_call_from r next c limit 1 v b l)) e

    -- a void line ends it, with no rounds and the bytes that the call wrote
    pub run-void-first : {bytes : ℕ} → (round_call r next c w out).answer ≡ Ok (Round.Void bytes)
        → run_call r next c (suc limit) w out ≡ stop_void r next c (round_call r next c w out) bytes 0 []
    unfolding run_call
    run-void-first e = ap (λ (a : Result Round Refusal). go_on r next c a (round_call r next c w out) 0 w out [] (λ v b l. run_call_from r next c limit 1 v b l)) e

  -- with no round allowed, it ends by what the first round's call would answer
  pub run-no-round : (w : List ℤ) (out : List ℕ)
      → run_call r next c 0 w out ≡ end_at_limit r next c (round_call r next c w out).answer (round_call r next c w out) 0 w out []
  unfolding run_call
  run-no-round w out = refl

-- ---- a run's call is the plain run

-- behind what is written it keeps what it held
drop-written : (n : ℕ) (bytes out : List ℕ) → length bytes ≤ n → drop n (overwritten bytes out) ≡ drop n out
drop-written n bytes out h = let k = n - length bytes in let e : length bytes + k ≡ n = omega arith in
    ap (λ (m : ℕ). drop m (overwritten bytes out)) (sym e) ∙ drop-append-add bytes (drop (length bytes) out) k ∙ drop-drop k (length bytes) out
    ∙ ap (λ (m : ℕ). drop m out) e

module _ (r : Rules) (next : Rules → Case → List ℤ → Next) (c : Case) where
  abbrev TextsOf : RunOf → ℕ → List (List ℕ) → List (List (List ℕ)) → Type 0
  TextsOf q done log texts = (q.log ≡ log ++ joined texts) × (q.rounds + void_texts q.answer ≡ done + length texts)

  -- nothing more is written, or a void line
  no_text : (log : List (List ℕ)) → log ≡ log ++ joined []
  no_text log = sym (append-nil log)

  one-text : (log lines : List (List ℕ)) → log ++ lines ≡ log ++ joined (lines ∷ [])
  one-text log lines = ap (λ (l : List (List ℕ)). log ++ l) (sym (append-nil lines))

  texts-from : (left done : ℕ) (w : List ℤ) (log : List (List ℕ)) → TextsOf (run_from r next c left done w log) done log (call_texts r next c left w)
  texts-from zero done w log = go (next r c w)
    where
      go : (n : Next) → TextsOf (at_limit r n done w log) done log (texts_at_limit r n)
      go nothing = (no_text log, refl)
      go (round moves) = (no_text log, refl)
      go (void i raised) = (one-text log (void_text r i raised), refl)
  texts-from (suc left) done w log = go (make_next r c w (next r c w)) (λ v l. texts-from left (suc done) v l)
    where
      go : (m : Made) → ((v : List ℤ) (l : List (List ℕ)) → TextsOf (run_from r next c left (suc done) v l) (suc done) l (call_texts r next c left v))
          → TextsOf (onward m done w log (λ v lines. run_from r next c left (suc done) v lines)) done log (texts_of m (λ v. call_texts r next c left v))
      go settled on = (no_text log, refl)
      go (refused x) on = (no_text log, refl)
      go (made v lines) on = let (e, n) = on v (log ++ lines) in (e ∙ append_assoc log lines (joined (call_texts r next c left v)), omega arith)
      go (voided lines) on = (one-text log lines, refl)

  -- together they are the plain run's log; there is one for each round, and one more for a void line
  pub texts-joined : (limit : ℕ) (w : List ℤ) → joined (call_texts r next c limit w) ≡ (run r next c limit w).log
  texts-joined limit w = sym (texts-from limit 0 w []).0

  pub texts-count : (limit : ℕ) (w : List ℤ)
      → length (call_texts r next c limit w) ≡ (run r next c limit w).rounds + void_texts (run r next c limit w).answer
  texts-count limit w = omega (arith, (texts-from limit 0 w []).1)

-- q is the plain run, texts are what its calls wrote, u is the call on a lent output
pub record SameRun (r : Rules) (c : Case) (q : RunOf) (texts : List (List (List ℕ))) (lent : List ℕ) (u : RunCall) : Type 0 where
  pub answer : u.run.answer ≡ q.answer
  pub rounds : u.run.rounds ≡ q.rounds
  pub bound : u.run.bound ≡ upper_bound c q.weights
  pub table : u.table ≡ q.weights
  pub log : u.log ≡ joined q.log
  pub out : u.out ≡ written_in_turn texts lent
  pub out-length : length u.out ≡ length lent
  -- behind what one round may need
  pub out-rest : drop (round_bytes r c) u.out ≡ drop (round_bytes r c) lent

module _ {r : Rules} {next : Rules → Case → List ℤ → Next} {c : Case} (coherent : Coherent r) (lawful : Lawful r next c) where
  module _ {w v : List ℤ} {moves : List Move} (m : RoundFrom r next c w moves v) where
    -- a round's lines fit an output that number 4 lets through
    pub round-short : length (joined (round_text r c moves v)) ≤ round_bytes r c
    round-short =
        rw (
          length-joined (line_length r.amount_width) (round_text r c moves v) (round_whole coherent lawful m),
          length-map (round_lines c moves v) (line_text r.amount_width),
          mul_comm (length (round_lines c moves v)) (line_length r.amount_width),
        )
        (lawful.short m)

  -- a void line's likewise
  void-in-room : {w : List ℤ} {i : ℕ} {raised : List ℕ} → Handed r (working_weight r) c w → next r c w ≡ void i raised
      → length (joined (void_text r i raised)) ≤ round_bytes r c
  void-in-room {w} {i} {raised} h e =
      rw (
        length-joined (line_length r.amount_width) (void_text r i raised) (void-whole coherent lawful h e),
        length-map (lines_of_void i raised) (line_text r.amount_width),
        mul_comm (length (lines_of_void i raised)) (line_length r.amount_width),
      )
      (void-short coherent lawful h e)

  kept-length : (text out : List ℕ) → length text ≤ round_bytes r c → round_bytes r c ≤ length out → length (overwritten text out) ≡ length out
  kept-length text out short h = simp (length-append, length-drop) (omega arith)

  -- what a call wrote from the output's first byte comes behind the log
  wrote : (log lines : List (List ℕ)) (out : List ℕ)
      → joined (log ++ lines) ≡ joined log ++ take (length (joined lines)) (overwritten (joined lines) out)
  wrote log lines out =
      joined-append log lines ∙ ap (λ (l : List ℕ). joined log ++ l) (sym (take-append_seam (joined lines) (drop (length (joined lines)) out)))

  stops : (a : Result RunAnswer Refusal) (done : ℕ) (w : List ℤ) (out : List ℕ) (log : List (List ℕ)) → bound_at r next c a w ≡ upper_bound c w
      → SameRun r c (stopped a done w log) [] out (stop_run r next c a done w out (joined log))
  stops a done w out log e = record { answer = refl; rounds = refl; bound = e; table = refl; log = refl; out = refl; out-length = refl; out-rest = refl }

  voids : (done : ℕ) (w : List ℤ) (out : List ℕ) (log : List (List ℕ)) {i : ℕ} {raised : List ℕ} → Handed r (working_weight r) c w → round_bytes r c ≤ length out
      → next r c w ≡ void i raised
      → SameRun r c (stopped (Ok RunAnswer.Void) done w (log ++ void_text r i raised)) (void_text r i raised ∷ []) out
      (stop_void r next c (round_made c w out (voided (void_text r i raised))) (length (joined (void_text r i raised))) done (joined log))
  voids done w out log {i} {raised} h long e =
      let lines : List (List ℕ) = void_text r i raised in
      record {
        answer = refl;
        rounds = refl;
        bound = refl;
        table = refl;
        log = sym (wrote log lines out);
        out = refl;
        out-length = kept-length (joined lines) out (void-in-room h e) long;
        out-rest = drop-written (round_bytes r c) (joined lines) out (void-in-room h e);
      }

  calls-from : (left done : ℕ) (w : List ℤ) (out : List ℕ) (log : List (List ℕ)) → Handed r (working_weight r) c w → round_bytes r c ≤ length out
      → SameRun r c (run_from r next c left done w log) (call_texts r next c left w) out (run_call_from r next c left done w out (joined log))
  calls-from zero done w out log h long =
      subst (λ (u : RoundCall). SameRun r c (at_limit r (next r c w) done w log) (texts_at_limit r (next r c w)) out
      (end_at_limit r next c u.answer u done w out (joined log)))
      (sym (call-taken r next c w out ((taken-iff r next c w out).1 (h, long)))) (go (next r c w) refl)
    where
      go : (n : Next) → next r c w ≡ n → SameRun r c (at_limit r n done w log) (texts_at_limit r n) out
          (end_at_limit r next c (round_made c w out (make_next r c w n)).answer (round_made c w out (make_next r c w n)) done w out (joined log))
      go nothing e = stops (Ok RunAnswer.Settled) done w out log refl
      go (void i raised) e = voids done w out log h long e
      go (round moves) e = leads (after_moves r c moves w)
        where
          leads : (o : Option (List ℤ)) → SameRun r c (stopped (Ok RunAnswer.Limit) done w log) [] out
              (end_at_limit r next c (round_made c w out (made_of r c moves o)).answer (round_made c w out (made_of r c moves o)) done w out (joined log))
          leads None = stops (Ok RunAnswer.Limit) done w out log refl
          leads (Some v) = stops (Ok RunAnswer.Limit) done w out log refl
  calls-from (suc left) done w out log h long =
      subst (λ (u : RoundCall). SameRun r c (run_from r next c (suc left) done w log) (call_texts r next c (suc left) w) out
      (go_on r next c u.answer u done w out (joined log) rest))
      (sym (call-taken r next c w out ((taken-iff r next c w out).1 (h, long))))
      (go (next r c w) refl (λ v out log. calls-from left (suc done) v out log))
    where
      rest : List ℤ → List ℕ → List ℕ → RunCall
      rest v bytes log = run_call_from r next c left (suc done) v bytes log

      Same : Made → RunCall → Type 0
      Same m u = SameRun r c (onward m done w log (λ v lines. run_from r next c left (suc done) v lines)) (texts_of m (λ v. call_texts r next c left v)) out u

      go : (n : Next) → next r c w ≡ n → ((v : List ℤ) (out : List ℕ) (log : List (List ℕ)) → Handed r (working_weight r) c v → round_bytes r c ≤ length out
          → SameRun r c (run_from r next c left (suc done) v log) (call_texts r next c left v) out (run_call_from r next c left (suc done) v out (joined log)))
          → Same (make_next r c w n) (go_on r next c (round_made c w out (make_next r c w n)).answer
          (round_made c w out (make_next r c w n)) done w out (joined log) rest)
      go nothing e on = stops (Ok RunAnswer.Settled) done w out log refl
      go (void i raised) e on = voids done w out log h long e
      go (round moves) e on = leads (after_moves r c moves w) refl
        where
          leads : (o : Option (List ℤ)) → after_moves r c moves w ≡ o
              → Same (made_of r c moves o) (go_on r next c (round_made c w out (made_of r c moves o)).answer
              (round_made c w out (made_of r c moves o)) done w out (joined log) rest)
          leads None f = stops (Err LeavesRange) done w out log refl
          leads (Some v) f =
              let m : RoundFrom r next c w moves v = record { handed = h; comes = e; leads = f } in
              let lines : List (List ℕ) = round_text r c moves v in
              let n : length (overwritten (joined lines) out) ≡ length out = kept-length (joined lines) out (round-short m) long in
              let q = on v (overwritten (joined lines) out) (log ++ lines) (handed-on coherent lawful m) (omega arith) in
              subst (λ (l : List ℕ). Same (made v lines) (rest v (overwritten (joined lines) out) l)) (wrote log lines out) (record {
                answer = q.answer;
                rounds = q.rounds;
                bound = q.bound;
                table = q.table;
                log = q.log;
                out = q.out;
                out-length = q.out-length ∙ n;
                out-rest = q.out-rest ∙ drop-written (round_bytes r c) (joined lines) out (round-short m);
              })

  module _ (limit : ℕ) (w : List ℤ) (out : List ℕ) where
    -- where none of numbers 3 to 8 and 15 applies
    module _ (taken : engine_refusal r next c w out ≡ None) where
      pub same-run : SameRun r c (run r next c limit w) (call_texts r next c limit w) out (run_call r next c limit w out)
      unfolding run_call
      same-run = let (h, long) = (taken-iff r next c w out).0 taken in calls-from limit 0 w out [] h long

      -- the bytes of its log are cut into the plain run's lines
      pub call-lines : lines_in r.amount_width (run_call r next c limit w out).log ≡ (run r next c limit w).log
      call-lines = ap (lines_in r.amount_width) same-run.log
          ∙ lines-joined r.amount_width (run r next c limit w).log
          (run-tallied coherent lawful limit w ((taken-iff r next c w out).0 taken).0).whole

    -- for every table and every output
    pub call-bound-lines : length (bound_lines r (lines_in r.amount_width (run_call r next c limit w out).log)) ≡ (run_call r next c limit w out).run.rounds
    call-bound-lines = go (engine_refusal r next c w out) refl
      where
        go : (o : Option Refusal) → engine_refusal r next c w out ≡ o
            → length (bound_lines r (lines_in r.amount_width (run_call r next c limit w out).log)) ≡ (run_call r next c limit w out).run.rounds
        go None e =
            ap (λ (ls : List (List ℕ)). length (bound_lines r ls)) (call-lines e)
            ∙ (run-tallied coherent lawful limit w ((taken-iff r next c w out).0 e).0).counted ∙ sym (same-run e).rounds
        go (Some x) e =
            let q = run-refused r next c w out limit e in
            ap (λ (u : RunCall). length (bound_lines r (lines_in r.amount_width u.log))) q
            ∙ ap (λ (ls : List (List ℕ)). length (bound_lines r ls)) (lines-joined r.amount_width [] (λ l m. absurd (Memᴰ.not-nil m)))
            ∙ sym (ap (λ (u : RunCall). u.run.rounds) q)
