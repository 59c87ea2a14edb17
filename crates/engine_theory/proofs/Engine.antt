-- The rounds of the engine, and of pair rounds only, on tables that every call takes: each is the lowest pair's round, or the engine's press
-- where there is no such pair. They are lawful, and so are the engine's void lines; nothing comes next just where the state is settled; from
-- starting weights none leaves the working range, and those of pairs only from no table; these keep every lawful objective; and from any table
-- there are few of them. Assumes nothing.
use Rattle.std.specs.Prelude.{Ok, Some, None}
use mathlib.Core.Path.{◌≡◌, refl, sym, ap, subst, ◌∙◌}
use mathlib.Core.Bool.{not}
use mathlib.Core.Logic.{◌↔◌, ◌⊎◌, inl, inr}
use mathlib.Core.List.{List, [], ◌∷◌}
use Prim.Native.Nat.{ℕ, ◌+◌, ◌*◌, ◌≤◌, ◌<◌}
use native.Mathlib.Nat.{mul-le-mul_left}
use native.Mathlib.Omega.{arith}
use lib.IntN.{ℤ}
use lib.Dec.{T}
use lib.Signed.{◌<ℤ◌}
use lib.ListN.{length, length-append, length-map}
use Rattle.integers.specs.Tests.{if-false}
use Rattle.integers.specs.Options.{some_inj, found-else}
use Rattle.integers.specs.Linear.{flat, zs, ◌▸◌}
use Rattle.definitions.specs.declared.Case.{Case}
use Rattle.definitions.specs.declared.RunAnswer.{RunAnswer}
use Rattle.definitions.specs.Rules.{Rules, Coherent}
use Rattle.definitions.specs.Case.{is_lawful, objective, upper_bound}
use Rattle.definitions.specs.Valid.{working_weight, valid}
use Rattle.definitions.specs.Moves.{Move, active_press, leaves_range, after_moves}
use Rattle.definitions.specs.Lines.{line_length}
use Rattle.definitions.specs.RoundLines.{raise_line, round_lines}
use Rattle.definitions.specs.PairRounds.{pair_round, lowest_pair, PairsSettled}
use Rattle.definitions.specs.Engine.{Settled, chosen, least_gap, Next, nothing, round, void, kept_scopes, presses_next, engine_next, pairs_next, round_bytes, run}
use Rattle.theory.proofs.Shape.{Shape}
use Rattle.theory.proofs.Barred.{Free, lawful-same}
use Rattle.theory.proofs.Validity.{Handed, valid-facts}
use Rattle.theory.proofs.Replays.{Refuting}
use Rattle.theory.proofs.Rounds.{AllAllowed, no_move, one_more}
use Rattle.press_theory.proofs.Trim.{chosen-some, no-press-iff, kept-refuted, kept-rising, kept-scopes, kept-fewer, kept-some}
use Rattle.press_theory.proofs.Gaps.{amount-some, amount-most, void-bars}
use Rattle.press_theory.proofs.Fall.{engine_pressed, made-below, after-press, fall}
use Rattle.press_theory.proofs.InRange.{Reached, start, next-made}
use Rattle.pair_theory.specs.Closed.{pair_leaves}
use Rattle.pair_theory.proofs.Gains.{pairs-settled-iff}
use Rattle.pair_theory.proofs.Rounded.{pair_rounded, pair_keeps}
use Rattle.pair_theory.proofs.Passing.{after-pair, rounded-bars, rounded-handed, lowers-is, pair-allowed, pair-few}
use Rattle.reach_theory.proofs.Next.{IsPairRound, IsPressRound, engine-next-is, engine-next-nothing, engine-next-void, pairs-next-is, pairs-no-void}
use Rattle.reach_theory.proofs.Next.{pairs-nothing}
use Rattle.reach_theory.proofs.Phases.{EngineReached, reached-first, reached-next}
use Rattle.reach_theory.proofs.Counts.{rounds_left, lowest-ready, left_less, pairs-left-less, left-some, pairs-left-some}
use Rattle.engine_theory.proofs.Runs.{RoundFrom, Lawful, NeverLeaves, run-has, run_ends, ends-limit, handed-on}

pub data EngineRound (r : Rules) (c : Case) (w : List ℤ) : List Move → List ℤ → Type 0 where
  pairs : {e : ℕ} → lowest_pair r c w ≡ Some e → EngineRound r c w (pair_round c w e) (pair_rounded c w e)
  presses : {i : ℕ} {a : ℤ} → lowest_pair r c w ≡ None → chosen c w ≡ Some i → least_gap c w i ≡ Some a → T (not (leaves_range r c w (engine_pressed c w i a)))
      → EngineRound r c w (active_press c w i (kept_scopes c w i) a ∷ []) (engine_pressed c w i a)

module _ {r : Rules} {c : Case} {w : List ℤ} (coherent : Coherent r) (h : Handed r (working_weight r) c w) where
  -- the lowest pair's round is not passed over
  pub pair-leads : {e : ℕ} → lowest_pair r c w ≡ Some e → after_moves r c (pair_round c w e) w ≡ Some (pair_rounded c w e)
  pair-leads {e} f =
      let (l, s, n, t) = lowest-ready coherent h f in
      after-pair coherent h l ∙ if-false None (Some (pair_rounded c w e)) (pair_leaves r c w e) n

  pair-round : {moves : List Move} {v : List ℤ} → IsPairRound r c w moves → after_moves r c moves w ≡ Some v → EngineRound r c w moves v
  pair-round {moves} (e, f, q) l =
      rw (q, ← (some_inj (sym (pair-leads f) ∙ ap (λ (m : List Move). after_moves r c m w) (sym q) ∙ l))) (pairs f)

  press-round : {moves : List Move} {v : List ℤ} → IsPressRound r c w moves → after_moves r c moves w ≡ Some v → EngineRound r c w moves v
  press-round {moves} {v} (n, i, a, e, g, q) l =
      let (t, z) = found-else (leaves_range r c w (engine_pressed c w i a)) (Some (engine_pressed c w i a))
      (sym (after-press c w i a r) ∙ ap (λ m. after_moves r c m w) (sym q) ∙ l) in
      rw (q, ← (some_inj z)) (presses n e g t)

  pub engine-round : {moves : List Move} {v : List ℤ} → engine_next r c w ≡ round moves → after_moves r c moves w ≡ Some v → EngineRound r c w moves v
  engine-round {moves} {v} d l = go (engine-next-is r c w d)
    where
      go : IsPairRound r c w moves ⊎ IsPressRound r c w moves → EngineRound r c w moves v
      go (inl p) = pair-round p l
      go (inr p) = press-round p l

  pub pairs-round : {moves : List Move} {v : List ℤ} → pairs_next r c w ≡ round moves → after_moves r c moves w ≡ Some v → EngineRound r c w moves v
  pairs-round d l = pair-round (pairs-next-is r c w d) l

  -- the scopes that the engine keeps refute
  kept-refuting : {i : ℕ} → chosen c w ≡ Some i → Refuting c w i (kept_scopes c w i)
  kept-refuting {i} e =
      let (own, refutes, _) = chosen-some c w e in
      record {
        variable = own;
        some-raised = kept-some c w i h.shape own refutes;
        rising = kept-rising c w i;
        scopes = λ x m. kept-scopes c w i m;
        refutes = kept-refuted c w i refutes;
      }

  pub engine-allowed : {moves : List Move} {v : List ℤ} → EngineRound r c w moves v → AllAllowed r c w moves v
  engine-allowed (pairs f) = let (l, s, n, t) = lowest-ready coherent h f in pair-allowed coherent h l n
  engine-allowed (presses {i} {a} n e g t) =
      let k = kept-refuting e in
      one_more {move = active_press c w i (kept_scopes c w i) a} (record {
        variable = k.variable;
        some-raised = k.some-raised;
        rising = k.rising;
        scopes = k.scopes;
        amount = coherent.difference ▸ amount-some c w h.shape e g ▸ amount-most c w h.shape e g r coherent h.in-range ▸ simp flat (omega zs);
        lowers = refl;
        refutes = k.refutes;
        in-range = t;
      }) no_move

  engine-lower : {moves : List Move} {v : List ℤ} → EngineRound r c w moves v → upper_bound c v <ℤ upper_bound c w
  engine-lower (pairs {e} f) = let (l, s, n, t) = lowest-ready coherent h f in record { lt = subst T (sym (lowers-is coherent h l n)) t }
  engine-lower (presses {i} {a} n e g t) = fall c w h.shape e g (made-below c w i a coherent h e t) ▸ amount-some c w h.shape e g ▸ simp flat (omega zs)

  engine-short : {moves : List Move} {v : List ℤ} → EngineRound r c w moves v → line_length r.amount_width * length (round_lines c moves v) ≤ round_bytes r c
  engine-short (pairs {e} f) = mul-le-mul_left (line_length r.amount_width) (simp length-append (omega (arith, pair-few c w e)))
  engine-short (presses {i} {a} n e g t) =
      mul-le-mul_left (line_length r.amount_width) (simp length-append
      (omega (arith, kept-fewer c w i (chosen-some c w e).0, length-map (kept_scopes c w i) raise_line)))

-- ---- what comes next

-- each round is one of the engine's, and each void line one of the variable that it chose
module _ {r : Rules} (coherent : Coherent r) (c : Case) where
  lawful-of : {next : Rules → Case → List ℤ → Next}
      → ((w v : List ℤ) (moves : List Move) → RoundFrom r next c w moves v → EngineRound r c w moves v)
      → ((w : List ℤ) (i : ℕ) (raised : List ℕ) → next r c w ≡ void i raised → (chosen c w ≡ Some i) × (least_gap c w i ≡ None) × (raised ≡ kept_scopes c w i))
      → Lawful r next c
  lawful-of is voids = record {
    allowed = λ {w} {v} {moves} m. engine-allowed coherent m.handed (is w v moves m);
    lower = λ {w} {v} {moves} m. engine-lower coherent m.handed (is w v moves m);
    short = λ {w} {v} {moves} m. engine-short coherent m.handed (is w v moves m);
    refuting = λ {w} {i} {raised} h d. let (e, g, q) = voids w i raised d in rw q (kept-refuting coherent h e);
    bars = λ {w} {i} {raised} h d. let (e, g, q) = voids w i raised d in rw q (void-bars c w g e);
  }

  pub engine-lawful : Lawful r engine_next c
  engine-lawful = lawful-of (λ w v moves m. engine-round coherent m.handed m.comes m.leads) (λ w i raised d. engine-next-void r c w d)

  pub pairs-lawful : Lawful r pairs_next c
  pairs-lawful = lawful-of (λ w v moves m. pairs-round coherent m.handed m.comes m.leads) (λ w i raised d. absurd (pairs-no-void r c w d))

module _ (r : Rules) (c : Case) (shape : Shape c) (w : List ℤ) where
  pub engine-settled : engine_next r c w ≡ nothing ↔ Settled r c w
  engine-settled =
      let p = pairs-settled-iff r c w shape in
      let q = no-press-iff c w shape in (
        λ d. let (e, f) = (engine-next-nothing r c w).0 d in record { pairs = p.0 e; presses = q.0 f },
        λ s. (engine-next-nothing r c w).1 (p.1 s.pairs, q.1 s.presses),
      )

  pub pairs-settled : pairs_next r c w ≡ nothing ↔ PairsSettled r c w
  pairs-settled =
      let p = pairs-settled-iff r c w shape in
      let q = pairs-nothing r c w in
      (λ d. p.0 (q.0 d), λ s. q.1 (p.1 s))

-- ---- never refused

pub engine-free : {r : Rules} {c : Case} {w₀ : List ℤ} → Coherent r → T (valid r c w₀) → NeverLeaves r engine_next c w₀ (EngineReached r c)
engine-free {r} {c} {w₀} coherent t = record {
  first = reached-first coherent (valid-facts r c w₀ t);
  goes = λ h e. reached-next coherent h e;
}

-- presses alone, from a table with no barred tuple, over the tables that presses reach
pub presses-free : {r : Rules} {c : Case} {w₀ : List ℤ} → Coherent r → T (valid r c w₀) → Free c w₀ → NeverLeaves r presses_next c w₀ (Reached c w₀)
presses-free {r} {c} {w₀} coherent t free = record {
  first = start;
  goes = λ h e. let (v, g, q, l) = next-made coherent (valid-facts r c w₀ t) free h e in (v, g, q);
}

pub pairs-free : {r : Rules} {c : Case} {w₀ : List ℤ} → Coherent r → Handed r (working_weight r) c w₀ → NeverLeaves r pairs_next c w₀ (Handed r (working_weight r) c)
pairs-free {r} {c} coherent h = record {
  first = h;
  goes = λ {w} {moves} k d.
      let (e, f, q) = pairs-next-is r c w d in
      let (l, s, n, t) = lowest-ready coherent k f in
      (pair_rounded c w e, ap (λ (m : List Move). after_moves r c m w) q ∙ pair-leads coherent k f, rounded-handed coherent k l n);
}

-- ---- pair rounds only keep every lawful objective, from any table

record Kept (r : Rules) (c : Case) (w₀ w : List ℤ) : Type 0 where
  pub handed : Handed r (working_weight r) c w
  pub lawful : (p : List ℕ) → T (is_lawful c w₀ p) → T (is_lawful c w p)
  pub same : (p : List ℕ) → T (is_lawful c w₀ p) → objective c w p ≡ objective c w₀ p

module _ {r : Rules} {c : Case} (coherent : Coherent r) where
  pub pairs-keep : (limit : ℕ) (w₀ : List ℤ) → Handed r (working_weight r) c w₀ → (p : List ℕ) → T (is_lawful c w₀ p)
      → objective c (run r pairs_next c limit w₀).weights p ≡ objective c w₀ p
  pairs-keep limit w₀ h =
      (run-has r pairs_next c (λ done w log. Kept r c w₀ w) (λ done w v log moves k d m.
      let (e, f, q) = pairs-next-is r c w d in
      let (l, s, n, t) = lowest-ready coherent k.handed f in
      let g = some_inj (sym (pair-leads coherent k.handed f) ∙ ap (λ (m : List Move). after_moves r c m w) (sym q) ∙ m) in
      subst (Kept r c w₀) g (record {
        handed = rounded-handed coherent k.handed l n;
        lawful = λ p a. lawful-same c w (pair_rounded c w e) (λ x a b u. rounded-bars coherent k.handed l n u) k.handed.shape p (k.lawful p a);
        same = λ p a. pair_keeps c w e k.handed.shape l p (k.lawful p a) ∙ k.same p a;
      })) limit w₀ (record { handed = h; lawful = λ p a. a; same = λ p a. refl })).kept.same

-- ---- few rounds, from any table

record Few (r : Rules) (c : Case) (w₀ : List ℤ) (done : ℕ) (w : List ℤ) : Type 0 where
  pub handed : Handed r (working_weight r) c w
  pub few : done + rounds_left c w ≤ rounds_left c w₀

-- each round leaves fewer, and where one comes next, some are left
pub record Lessening (r : Rules) (next : Rules → Case → List ℤ → Next) (c : Case) : Type 0 where
  pub less : {w v : List ℤ} {moves : List Move} → RoundFrom r next c w moves v → rounds_left c v < rounds_left c w
  pub some_left : {w : List ℤ} {moves : List Move} → Handed r (working_weight r) c w → next r c w ≡ round moves → 0 < rounds_left c w

module _ {r : Rules} {next : Rules → Case → List ℤ → Next} {c : Case} (coherent : Coherent r) (lawful : Lawful r next c) (lessening : Lessening r next c)
    (limit : ℕ) (w₀ : List ℤ) (h : Handed r (working_weight r) c w₀) where
  few-made : Few r c w₀ (run r next c limit w₀).rounds (run r next c limit w₀).weights
  few-made = (run-has r next c (λ done w log. Few r c w₀ done w) (λ done w v log moves k d l.
      let m : RoundFrom r next c w moves v = record { handed = k.handed; comes = d; leads = l } in
      record { handed = handed-on coherent lawful m; few = omega (arith, lessening.less m, k.few) }) limit w₀
      (record { handed = h; few = omega arith })).kept

  pub run-few : (run r next c limit w₀).rounds ≤ rounds_left c w₀
  run-few = omega (arith, few-made.few)

  -- so a limit that is not less is never met
  pub run-unlimited : rounds_left c w₀ ≤ limit → (run r next c limit w₀).answer ≡ Ok RunAnswer.Limit → ⊥
  run-unlimited enough e =
      let (n, moves, d) = (ends-limit r next c (run_ends r next c limit w₀)).0 e in
      let made = few-made in
      let left = lessening.some_left made.handed d in
      let few = made.few in
      absurd (omega arith)

pub engine-lessens : {r : Rules} → Coherent r → (c : Case) → Lessening r engine_next c
engine-lessens {r} coherent c = record {
  less = λ m. left_less coherent m.handed m.comes m.leads;
  some_left = λ h d. left-some coherent h d;
}

pub pairs-lessen : {r : Rules} → Coherent r → (c : Case) → Lessening r pairs_next c
pairs-lessen {r} coherent c = record {
  less = λ m. pairs-left-less coherent m.handed m.comes m.leads;
  some_left = λ h d. pairs-left-some coherent h d;
}
