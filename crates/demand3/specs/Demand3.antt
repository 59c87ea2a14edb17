-- Demand 3 of the tender as one statement, clause by clause, in the tender's order, each clause quoted above what says it, and amended as
-- document 02 asks. Its first half is the checker's promise (checker_promise, Lists.LinesTrusted), over which the engine's stands. The statement
-- is about the definitions that the contracts of the library's functions name: those of Replay::fresh, step and end; `round_call` and `run_call`
-- at `engine_next` of the engine's round and run, `run_call` at `pairs_next` of its run of pair rounds only. engine's proofs/Demand3 proves it for
-- every valid case. Assumes nothing.
use Rattle.std.specs.Prelude.{◌≡◌, false, not, ◌↔◌, ◌⊎◌, List, [], ℕ, suc, ◌+◌, ◌≤◌, ℤ, pos, ◌+ℤ◌, ◌-ℤ◌, T, ◌≤ℤ◌, length, take, Ok, Err, None}
use Rattle.integers.specs.Words.{joined}
use Rattle.definitions.specs.declared.Case.{Case}
use Rattle.definitions.specs.declared.Refusal.{Refusal}
use Rattle.definitions.specs.declared.Refusal.TheVariants.{LeavesRange}
use Rattle.definitions.specs.declared.Round.{Round}
use Rattle.definitions.specs.declared.RunAnswer.{RunAnswer}
use Rattle.definitions.specs.Rules.{Rules, rules_of}
use Rattle.definitions.specs.Refusals.{first_refusal}
use Rattle.definitions.specs.Valid.{working_weight, handed_over, valid}
use Rattle.definitions.specs.Answers.{run_says}
use Rattle.definitions.specs.Case.{objective, upper_bound, is_lawful}
use Rattle.definitions.specs.Lines.{lines_in, has_part}
use Rattle.definitions.specs.Replay.{some_press}
use Rattle.definitions.specs.PairRounds.{PairsSettled}
use Rattle.definitions.specs.Engine.{NoPress, Settled, Next, engine_next, pairs_next, round_bytes, RunOf, run}
use Rattle.definitions.specs.Graph.{Acyclic}
use Rattle.calls.specs.EngineCalls.{RunCall, engine_refusal, round_call, stop_run, stop_void, end_at_limit, run_call}
use Rattle.checker.specs.declared.Due.{Due}
use Rattle.checker.specs.Checker.{after_lines}
use Rattle.checker_promise.specs.Lists.{begun, Accepted, ReplayTrusted}
use Rattle.graph_theory.specs.Hilltop.{Meets, Hilltop, Best}
use Rattle.reach_theory.specs.Most.{most_rounds}
use Rattle.engine_theory.specs.Runs.{bound_lines, VoidNext, call_texts, void_texts, written_in_turn, preceded}

-- what comes next: the engine's round, or a pair round only
abbrev pub Follows : Type 0
Follows = Rules → Case → List ℤ → Next

-- "For every limit, a run from the starting weights": `next` says what comes next, and `Rest` is the settled states; q is the plain run, u
-- the library's on a lent output, `log` the lines of its log
pub record RunTrusted (r : Rules) (next : Follows) (Rest : List ℤ → Type 0) (c : Case) (w : List ℤ) (limit : ℕ) (out : List ℕ) (q : RunOf) (u : RunCall)
    (log : List (List ℕ)) : Type 0 where
  -- "makes the rounds" (L7): as many, with the same lines and the same weights, written from the output's first byte one after another; "a run
  -- writes" a void line (document 02, change 2), which "is no round"
  pub rounds : u.run.rounds ≡ q.rounds
  pub weights : u.table ≡ q.weights
  pub bound : u.run.bound ≡ upper_bound c u.table
  pub lines : u.log ≡ joined q.log
  pub call-lines : q.log ≡ joined (call_texts r next c limit w)
  pub call-count : length (call_texts r next c limit w) ≡ u.run.rounds + void_texts u.run.answer
  pub output : u.out ≡ written_in_turn (call_texts r next c limit w) out
  -- "and gives the answer of document 01's run," (L7)
  pub answer : run_says u.run.answer ≡ run_says q.answer
  -- which is settled exactly in a settled state, void, "even at its limit", exactly where a void line comes next, and limit exactly where as
  -- many rounds as the limit were made and neither is so (L9a, K2g); it is never refused (L10, K2l)
  pub settled : u.run.answer ≡ (Ok RunAnswer.Settled) ↔ Rest u.table
  pub void : u.run.answer ≡ (Ok RunAnswer.Void) ↔ VoidNext r next c u.table
  pub limited : u.run.answer ≡ (Ok RunAnswer.Limit) ↔ (u.run.rounds ≡ limit) × (Rest u.table → ⊥) × (VoidNext r next c u.table → ⊥)
  pub unrefused : (u.run.answer ≡ Ok RunAnswer.Settled) ⊎ ((u.run.answer ≡ Ok RunAnswer.Limit) ⊎ (u.run.answer ≡ Ok RunAnswer.Void))
  pub within : u.run.rounds ≤ limit
  -- "and its log, replayed from them, is accepted" (L8), with no part of a line left over
  pub log-whole : has_part r.amount_width u.log ≡ false
  pub log-accepted : Accepted r c w log
  -- "with the run's own rounds, ceiling and working weights;"
  pub log-rounds : (after_lines r (begun r c w) log).replay.rounds ≡ u.run.rounds
  pub log-bound : upper_bound c (after_lines r (begun r c w) log).table ≡ u.run.bound
  pub log-weights : (after_lines r (begun r c w) log).table ≡ u.table
  -- the replay has taken a void line exactly where the run answers void; "it means that no lawful plan exists" (document 02, change 2)
  pub log-void : (after_lines r (begun r c w) log).replay.due ≡ Due.Nothing ↔ u.run.answer ≡ Ok RunAnswer.Void
  pub none-lawful : u.run.answer ≡ Ok RunAnswer.Void → (p : List ℕ) → T (is_lawful c w p) → ⊥
  -- and so its upper bound is at least every lawful assignment's starting objective
  pub bound-least : (p : List ℕ) → T (is_lawful c w p) → objective c w p ≤ℤ u.run.bound
  -- "where the limit is at least that difference for the best plan (no other has a greater starting total), the run ends settled." (L9), said
  -- of any lawful plan, and so of the best
  pub settles : (p : List ℕ) → T (is_lawful c w p) → (upper_bound c w -ℤ objective c w p) ≤ℤ pos limit → u.run.answer ≡ Ok RunAnswer.Settled

-- "A run makes its rounds one after another on the tables it is lent, each writing its lines from the output's first byte; the run's log is
-- all these lines joined in order. It hands back its number of rounds and its ceiling. Where a round is refused, the earlier rounds stand."
-- (document 01; L9b): for every limit, every table, whatever it holds, and every output
pub record RunIterates (r : Rules) (next : Follows) (c : Case) : Type 0 where
  pub made : (limit : ℕ) (w : List ℤ) (out : List ℕ) {bytes : ℕ} {bound : ℤ} → (round_call r next c w out).answer ≡ Ok (Round.Made bytes bound)
      → run_call r next c (suc limit) w out
      ≡ preceded 1 (take bytes (round_call r next c w out).out)
      (run_call r next c limit (round_call r next c w out).table (round_call r next c w out).out)
  pub settled : (limit : ℕ) (w : List ℤ) (out : List ℕ) → (round_call r next c w out).answer ≡ Ok Round.Settled
      → run_call r next c (suc limit) w out ≡ stop_run r next c (Ok RunAnswer.Settled) 0 w out []
  pub refused : (limit : ℕ) (w : List ℤ) (out : List ℕ) {x : Refusal} → (round_call r next c w out).answer ≡ Err x
      → run_call r next c (suc limit) w out ≡ stop_run r next c (Err x) 0 w out []
  -- a void line ends the run (document 02, change 2); at its limit too, by `no-round`
  pub void : (limit : ℕ) (w : List ℤ) (out : List ℕ) {bytes : ℕ} → (round_call r next c w out).answer ≡ Ok (Round.Void bytes)
      → run_call r next c (suc limit) w out ≡ stop_void r next c (round_call r next c w out) bytes 0 []
  pub no-round : (w : List ℤ) (out : List ℕ) → run_call r next c 0 w out
      ≡ end_at_limit r next c (round_call r next c w out).answer (round_call r next c w out) 0 w out []
  -- a round that was made hands back the upper bound of the table that it left; where none was made, the table is left as it was, and without a
  -- void line so is the output
  pub round-bound : (w : List ℤ) (out : List ℕ) {bytes : ℕ} {bound : ℤ} → (round_call r next c w out).answer ≡ Ok (Round.Made bytes bound)
      → bound ≡ upper_bound c (round_call r next c w out).table
  pub unmade-table : (w : List ℤ) (out : List ℕ) → ((bytes : ℕ) (bound : ℤ) → (round_call r next c w out).answer ≡ Ok (Round.Made bytes bound) → ⊥)
      → (round_call r next c w out).table ≡ w
  pub unmade-output : (w : List ℤ) (out : List ℕ) → ((bytes : ℕ) (bound : ℤ) → (round_call r next c w out).answer ≡ Ok (Round.Made bytes bound) → ⊥)
      → ((bytes : ℕ) → (round_call r next c w out).answer ≡ Ok (Round.Void bytes) → ⊥)
      → (round_call r next c w out).out ≡ out
  -- its rounds are as many as the bound lines written
  pub bound-lines : (limit : ℕ) (w : List ℤ) (out : List ℕ)
      → length (bound_lines r (lines_in r.amount_width (run_call r next c limit w out).log)) ≡ (run_call r next c limit w out).run.rounds

-- How a run ends, for every limit, every table v that is handed over and not refused before the first round, and every output
pub record RunEnds (r : Rules) (next : Follows) (Rest : List ℤ → Type 0) (c : Case) (v : List ℤ) (limit : ℕ) (u : RunCall) : Type 0 where
  -- it answers settled exactly in a settled state, void exactly where a void line comes next, and limit exactly where as many rounds as the
  -- limit were made and neither is so
  pub rests : u.run.answer ≡ (Ok RunAnswer.Settled) ↔ Rest u.table
  pub voids : u.run.answer ≡ (Ok RunAnswer.Void) ↔ VoidNext r next c u.table
  pub limits : u.run.answer ≡ (Ok RunAnswer.Limit) ↔ (u.run.rounds ≡ limit) × (Rest u.table → ⊥) × (VoidNext r next c u.table → ⊥)
  -- void means that no assignment is lawful in that table
  pub none-lawful : u.run.answer ≡ Ok RunAnswer.Void → (p : List ℕ) → T (is_lawful c v p) → ⊥
  -- its rounds are few, whatever the table (ours, beyond the documents)
  pub rounds-most : u.run.rounds ≤ most_rounds c
  -- "The press may now meet number 11; reaching the settled state is promised where it doesn't." (document 02, change 1), or a void line
  pub reaches : most_rounds c ≤ limit
      → (u.run.answer ≡ Ok RunAnswer.Settled) ⊎ ((u.run.answer ≡ Ok RunAnswer.Void) ⊎ (u.run.answer ≡ Err LeavesRange))

-- "A run may be of pair rounds only, settled when all left are passed over; it keeps every plan's total." (document 02, change 1): from every
-- table v that is handed over and not refused before the first round. It is never refused after it either, and writes no void line
pub record PairsKept (c : Case) (v : List ℤ) (u : RunCall) : Type 0 where
  pub unrefused : (u.run.answer ≡ Ok RunAnswer.Settled) ⊎ (u.run.answer ≡ Ok RunAnswer.Limit)
  pub totals : (p : List ℕ) → T (is_lawful c v p) → objective c u.table p ≡ objective c v p

-- Document 02, change 4, "Hilltop chains", of a run u of the engine that answers settled, from every table that is handed over and not refused
-- before the first round: "the ceiling equals the greatest working total", to which the carry is added (change 5)
abbrev pub ChainSettled : Case → RunCall → Type 0
ChainSettled c u = u.run.answer ≡ Ok RunAnswer.Settled → (p : List ℕ) × Meets c u.table p × (u.run.bound ≡ objective c u.table p +ℤ c.carry)

-- where only shifts led from the weights w to v, and no press and no void line is left in v: the same plan has the greatest starting total too,
-- and the ceiling is that total and the carry (ours, beyond the documents)
abbrev pub ChainShifted : Case → List ℤ → List ℤ → ℤ → Type 0
ChainShifted c w v bound = NoPress c v → (p : List ℕ) × Meets c v p × Best c w p × (bound ≡ objective c w p +ℤ c.carry)

-- demand 3 whole (L11)
pub record Demand3 (r : Rules) (c : Case) (w : List ℤ) : Type 0 where
  pub any-lines : ReplayTrusted r c w
  -- "In demand 3 a run is lent what number 4 asks" (document 01)
  pub any-run : (limit : ℕ) (out : List ℕ) → round_bytes r c ≤ length out
      → RunTrusted r engine_next (Settled r c) c w limit out (run r engine_next c limit w) (run_call r engine_next c limit w out)
      (lines_in r.amount_width (run_call r engine_next c limit w out).log)
  pub any-table : RunIterates r engine_next c
  pub any-end : (limit : ℕ) (v : List ℤ) (out : List ℕ) → engine_refusal r engine_next c v out ≡ None
      → RunEnds r engine_next (Settled r c) c v limit (run_call r engine_next c limit v out)
  -- the same of pair rounds only (document 02, change 1); one such round is the run with limit 1
  pub any-pairs-run : (limit : ℕ) (out : List ℕ) → round_bytes r c ≤ length out
      → RunTrusted r pairs_next (PairsSettled r c) c w limit out (run r pairs_next c limit w) (run_call r pairs_next c limit w out)
      (lines_in r.amount_width (run_call r pairs_next c limit w out).log)
  pub any-pairs-table : RunIterates r pairs_next c
  pub any-pairs-end : (limit : ℕ) (v : List ℤ) (out : List ℕ) → engine_refusal r pairs_next c v out ≡ None
      → RunEnds r pairs_next (PairsSettled r c) c v limit (run_call r pairs_next c limit v out)
  pub pairs-kept : (limit : ℕ) (v : List ℤ) (out : List ℕ) → engine_refusal r pairs_next c v out ≡ None → PairsKept c v (run_call r pairs_next c limit v out)
  -- change 4 of document 02, of every state: a table v that is handed over and not refused, reached by whatever moves
  pub chains : (v : List ℤ) → first_refusal (handed_over r (working_weight r) c v false false) ≡ None → Hilltop c v
  -- of the engine's run, of a run of pair rounds only, and of any list of lines none of which is a press line, whoever wrote them
  pub chain-settled : Acyclic c → (limit : ℕ) (v : List ℤ) (out : List ℕ) → engine_refusal r engine_next c v out ≡ None
      → ChainSettled c (run_call r engine_next c limit v out)
  pub chain-pairs : Acyclic c → (limit : ℕ) (v : List ℤ) (out : List ℕ) → engine_refusal r pairs_next c v out ≡ None
      → ChainShifted c v (run_call r pairs_next c limit v out).table (run_call r pairs_next c limit v out).run.bound
  pub chain-lines : Acyclic c → (ts : List (List ℕ)) → T (not (some_press r ts))
      → ChainShifted c w (after_lines r (begun r c w) ts).table (upper_bound c (after_lines r (begun r c w) ts).table)

-- "For every valid case", by the rules it is under
abbrev pub Guarantee : Type 0
Guarantee = (c : Case) (w : List ℤ) → T (valid (rules_of c) c w) → Demand3 (rules_of c) c w
