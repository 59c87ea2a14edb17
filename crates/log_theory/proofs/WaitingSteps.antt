-- A join begun, its lines one by one and its last, and a leave, of a record and tables of which nothing is refused: nothing is refused after them.
-- Assumes nothing.
use Rattle.std.specs.Prelude.{Some, None}
use mathlib.Core.Path.{◌≡◌, refl, sym, subst, ◌∙◌}
use mathlib.Core.Bool.{true, false, true≢false}
use mathlib.Core.List.{List}
use Prim.Native.Nat.{ℕ, suc, ◌+◌, ◌≤◌, ◌<◌}
use native.Mathlib.Omega.{arith}
use lib.IntN.{ℤ, nat_abs}
use lib.Dec.{ltb, ltb→lt}
use lib.ListN.{length, drop, replicate, length-replicate}
use Rattle.integers.specs.Tests.{tests, if-cases, and-iff, not-or-iff, not-not-iff}
use Rattle.definitions.specs.declared.Case.{Case}
use Rattle.definitions.specs.declared.Line.{Line}
use Rattle.definitions.specs.Rules.{rules_of, coherent, edge_places}
use Rattle.definitions.specs.Refusals.{first_refusal}
use Rattle.definitions.specs.Case.{weight, own_length}
use Rattle.definitions.specs.CaseFiles.{CaseDue, variable-weight, edge-ends, edge-weight, Reading, took, zeroed_from}
use Rattle.logs.specs.Leave.{WeightedCase, leave_tests, restarts, left_by}
use Rattle.logs.specs.Join.{join_dues, Joining, begun_join, join_tests, join_line_tests, grown_table, grown_by}
use Rattle.logs.specs.Waiting.{renumbered, ends_read, weights_read, is_last_due, read_so_far, weight_waits, lower_kept, waiting_tests}
use Rattle.theory.proofs.Validity.{BothHanded}
use Rattle.theory.proofs.Replays.{inside}
use Rattle.theory.proofs.Leave.{left-handed}
use Rattle.theory.proofs.Join.{joined-handed}
use Rattle.case_lines.specs.declared.Awaited.{Awaited}
use Rattle.case_lines.specs.Dues.{due_awaited, first_due, next_due}
use Rattle.case_theory.proofs.CaseDues.{rank, rank_below, State as Lists, next}
use Rattle.case_theory.proofs.CaseTests.{case-kinds, passes}
use Rattle.case_theory.proofs.Zeroed.{zeroed-self, zeros-at, zeros_by}
use Rattle.case_theory.proofs.JoinReads.{join_lines, grown_reading, took-after, JoinRead}
use Rattle.case_theory.proofs.JoinReads.{begun, begun-reading, join-begun, join-next, join-valid, join-grown}
use Rattle.log_theory.proofs.LogSteps.{room}
use Rattle.log_theory.proofs.SoundLogs.{SoundJoin}
use Rattle.log_theory.proofs.Waiting.{ends_after, took-waits, begun-waits, waits-long, waits-own, lower_long, upper-joins}
use Rattle.log_theory.proofs.WaitingDues.{join_sizes, last-due, join-limited, due-next, first-rank, waits-zeros}
use Rattle.log_theory.proofs.WaitingTests.{waits-quiet}
use Rattle.log_theory.proofs.WaitingReads.{WaitingFacts, quiet-place, lists_read, waits-read}

-- ---- a link leaves

pub leave-both : (c : Case) (w₀ w : List ℤ) → BothHanded (rules_of c) c w₀ w → (t : Line) → first_refusal (leave_tests c t) ≡ None
    → let v = left_by (rules_of c) c (nat_abs t.a) w₀ w in BothHanded (rules_of c) v.case v.starting v.weights
leave-both c w₀ w both t quiet =
    let h = simp and-iff at ((passes (leave_tests c t)).0 quiet) in
    left-handed (rules_of c) c (nat_abs t.a) w₀ w both.first.shape (inside c.n t.a h.1.0)
    (ltb→lt 1 c.n ((not-not-iff (ltb 1 c.n)).0 h.0)) (coherent c.rulebook) both

-- the rules stay
pub leave-rules : (c : Case) (i : ℕ) (w₀ w : List ℤ) → rules_of (left_by (rules_of c) c i w₀ w).case ≡ rules_of c
leave-rules c i w₀ w = if-cases (λ (v : WeightedCase). rules_of v.case ≡ rules_of c) (restarts (rules_of c) c i w₀ w) _ _ (λ y. refl) (λ y. refl)

-- ---- a join is begun

pub begin-quiet : (c : Case) (w₀ w : List ℤ) → BothHanded (rules_of c) c w₀ w → (t : Line) → first_refusal (join_tests (rules_of c) c t) ≡ None → (lower : List ℕ)
    → let p = nat_abs t.a in first_refusal (waiting_tests (rules_of c) c w₀ w p (due_awaited (first_due (join_sizes c p))) lower false) ≡ None
begin-quiet c w₀ w both t quiet lower =
    let h = simp (and-iff, not-or-iff) at ((passes (join_tests (rules_of c) c t)).0 quiet) in
    go (nat_abs t.a) (ltb→lt c.n (rules_of c).variables ((not-not-iff (ltb c.n (rules_of c).variables)).0 h.0.0))
    (room c.m (c.n + 1) (rules_of c).edges t.a h.0.1 h.1.0) (omega (arith, inside (c.n + 1) t.a h.1.0))
  where
    go : (p : ℕ) → c.n < (rules_of c).variables → c.m + p ≤ (rules_of c).edges → p ≤ c.n
        → first_refusal (waiting_tests (rules_of c) c w₀ w p (variable-weight 0 0) lower false) ≡ None
    go p most held few =
        let v = both.first in
        let (u, s) = first-rank c p v.shape.some-value in
        let k : SoundJoin (rules_of c) c w₀ (begun_join c w₀ p) = record {
          added = p;
          taken = 0;
          state = begun c w₀ p v most held;
          reading = begun-reading c w₀ p v most held;
          due = refl;
          some-due = omega (arith, v.shape.some-value);
          read = join-begun c w₀ p v most held;
          variables = most;
          edges = held;
          few = few;
        } in
        waits-quiet refl both k (variable-weight 0 0) u s w₀ v.long (zeroed-self (own_length c) w₀ v.past)
        (zeros_by (own_length c + weights_read c p (variable-weight 0 0)) w₀ (λ i h. zeros-at (own_length c) w₀ v.past i (omega arith)))
        (replicate edge_places 0) (length-replicate {A = ℕ} edge_places 0) (begun-waits c w₀ p v.past (replicate edge_places 0))

-- ---- a line of the join

pub taken-rules : (g : Reading) (x : CaseDue) (t : Line) → rules_of (took g x (Some t)).case ≡ rules_of g.case
taken-rules g (variable-weight i k) t = refl
taken-rules g (edge-ends e) t = refl
taken-rules g (edge-weight e k l) t = refl

module _ (c : Case) (w₀ w : List ℤ) (p : ℕ) (due : Awaited) (lower : List ℕ) (many : length lower ≡ edge_places)
    (quiet : first_refusal (waiting_tests (rules_of c) c w₀ w p (due_awaited due) lower false) ≡ None) (t : Line)
    (pass : first_refusal (join_line_tests (rules_of c) (read_so_far c w₀ p (due_awaited due) lower) (renumbered c (due_awaited due)) t) ≡ None) where
  abbrev x : CaseDue
  x = due_awaited due

  abbrev taken : Reading
  taken = took (read_so_far c w₀ p x lower) (renumbered c x) (Some t)

  abbrev lists_then : Lists
  lists_then = next c.rulebook (c.n + 1) c.d (c.m + p) (lists_read c w₀ p x lower) (renumbered c x) t

  facts : WaitingFacts c w₀ w p x lower false
  facts = quiet-place c w₀ w p x lower false quiet

  -- it is read
  line_read : JoinRead c (zeroed_from (own_length c) w₀) p (suc (rank 1 c.d p x)) lists_then
  line_read = join-next c (zeroed_from (own_length c) w₀) p (case-kinds (coherent c.rulebook))
      (omega (arith, facts.room, (coherent c.rulebook).edges_placed)) (rank 1 c.d p x) (lists_read c w₀ p x lower) x t (waits-read facts many)
      facts.due refl pass

  reading-then : taken ≡ grown_reading c p lists_then
  reading-then = took-after c p (lists_read c w₀ p x lower) (renumbered c x) t

  -- and waits
  taken-waits : (y : CaseDue) → ends_read y ≡ ends_after x → taken ≡ read_so_far c (weight_waits c w₀ p x t) p y (lower_kept x t lower)
  taken-waits = took-waits c w₀ p facts.starting-long facts.most facts.room lower many x facts.due t
      (upper-joins c (read_so_far c w₀ p x lower) refl x t pass)

  -- another is due
  pub next-quiet : is_last_due c p (due_awaited due) ≡ false
      → first_refusal (waiting_tests (rules_of c) c (weight_waits c w₀ p (due_awaited due) t) w p (due_awaited (next_due (join_sizes c p) due))
      (lower_kept (due_awaited due) t lower) false) ≡ None
  next-quiet more =
      let y : CaseDue = due_awaited (next_due (join_sizes c p) due) in
      let v = facts.both.first in
      let (u, s, e) = due-next c p (join-limited c p facts.most v.shape.some-value v.values-most facts.room) due (rank 1 c.d p x)
      facts.due refl more in
      let j : Joining = record { reading = taken; dues = drop (suc (rank 1 c.d p x)) (join_dues c p) } in
      let k : SoundJoin (rules_of c) c (zeroed_from (own_length c) w₀) j = record {
        added = p;
        taken = suc (rank 1 c.d p x);
        state = lists_then;
        reading = reading-then;
        due = refl;
        some-due = omega (arith, rank_below 1 c.d p y u);
        read = line_read;
        variables = facts.most;
        edges = facts.room;
        few = facts.few;
      } in
      waits-quiet refl facts.both k y u s (weight_waits c w₀ p x t) (waits-long c w₀ p t x ∙ facts.starting-long) (waits-own c w₀ p t x)
      (waits-zeros c p w₀ t y u x facts.due s e facts.zeros) (lower_kept x t lower) (lower_long x t lower ∙ many) (taken-waits y e)

  -- it was the last
  module _ (last : is_last_due c p (due_awaited due) ≡ true) where
    pub last-both : let v = grown_by c w (took (read_so_far c w₀ p (due_awaited due) lower) (renumbered c (due_awaited due)) (Some t)) in
        BothHanded (rules_of c) v.case v.starting v.weights
    last-both =
        let v = facts.both.first in
        let q : suc (rank 1 c.d p x) ≡ join_lines c p = (last-due c p v.shape.some-value x facts.due).0 last in
        let d = subst (λ (q : ℕ). JoinRead c (zeroed_from (own_length c) w₀) p q lists_then) q line_read in
        let g = join-grown c (zeroed_from (own_length c) w₀) p v facts.most facts.room lists_then d in
        let o = join-valid c (zeroed_from (own_length c) w₀) p v facts.most facts.room lists_then d in
        subst (λ (g : Reading). BothHanded (rules_of c) g.case g.table (grown_table c g.case w (weight g.case g.table))) (sym reading-then)
        (joined-handed g w (coherent c.rulebook) facts.both o)

    pub last-read : took (read_so_far c w₀ p (due_awaited due) lower) (renumbered c (due_awaited due)) (Some t)
        ≡ read_so_far c (weight_waits c w₀ p (due_awaited due) t) p (edge-ends p) (lower_kept (due_awaited due) t lower)
    last-read = taken-waits (edge-ends p) (all-ends x last)
      where
        all-ends : (x : CaseDue) → is_last_due c p x ≡ true → p ≡ ends_after x
        all-ends (variable-weight i k) e = let (a, b) = simp tests at e in a
        all-ends (edge-ends f) e = absurd (true≢false (sym e))
        all-ends (edge-weight f k l) e = let ((a, b), h) = simp tests at e in omega arith
