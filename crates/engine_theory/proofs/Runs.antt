-- Runs, over any `next` whose rounds are lawful: each is a list of moves that are allowed one after another, lowers the upper bound, and is
-- short enough for an output; and whose void lines are: their scopes refute, and what they ask to be barred is. From starting weights the plain
-- replay takes a run's log and is left with the run's rounds and weights; the log has a bound line for each round; a run answers settled just
-- where nothing comes next, void just where a void line does, and limit just after so many rounds with another to come. Where no move leaves
-- the working range, a limit of the upper bound less any lawful objective is enough to settle. Assumes nothing.
use Rattle.std.specs.Prelude.{Result, Ok, Err, Option, Some, None}
use Rattle.definitions.specs.declared.Refusal.{Refusal}
use mathlib.Core.Path.{◌≡◌, refl, sym, ap, subst, ◌∙◌}
use mathlib.Core.Bool.{true, false}
use mathlib.Core.Logic.Iff
use mathlib.Core.Logic.{◌↔◌, ◌⊎◌, inl, inr, ⊎_elim}
use mathlib.Core.List.Memᴰ
use mathlib.Core.List.{List, [], ◌∷◌, ◌++◌, map}
use Prim.Native.Nat.{ℕ, zero, suc, ◌+◌, ◌*◌, ◌≤◌, ◌<◌}
use native.Mathlib.Nat.{mul-le-mul_left}
use native.Mathlib.Omega.{arith}
use lib.IntN.{ℤ, pos, ◌+ℤ◌}
use lib.Dec.{T}
use lib.Signed.{◌≤ℤ◌, ◌<ℤ◌}
use lib.ListN.{length, length-append, length-map}
use Rattle.integers.specs.Words.{any, joined, is_in, minus}
use Rattle.integers.specs.Tests.{false-is}
use Rattle.integers.specs.Options.{some_inj, none-some}
use Rattle.integers.specs.Linear.{flat, zs, ◌▸◌}
use Rattle.integers.specs.Lists.{◌∈◌, any_append, those-append, those-none, those-cong, those-map}
use Rattle.integers.specs.Tables.{Parts}
use Rattle.definitions.specs.declared.Case.{Case}
use Rattle.definitions.specs.declared.Line.{Line}
use Rattle.definitions.specs.declared.Refusal.TheVariants.{LeavesRange}
use Rattle.definitions.specs.declared.RunAnswer.{RunAnswer}
use Rattle.definitions.specs.Rules.{Rules, Coherent}
use Rattle.definitions.specs.Case.{barred, is_lawful, objective, upper_bound}
use Rattle.definitions.specs.Valid.{working_weight, valid}
use Rattle.definitions.specs.Moves.{Move, shift, press, active_values, after_moves}
use Rattle.definitions.specs.Lines.{line_text, line_length, line_too_wide, read_line, is_kind, has_kind}
use Rattle.definitions.specs.Replay.{State, all_barred, fresh, after_void, after, at_end}
use Rattle.definitions.specs.Engine.{Next, nothing, round, void, round_bytes, made_of, make_next, RunOf, at_limit, onward, run_from, run}
use Rattle.definitions.proofs.LineLaws.{line_read, line-length}
use Rattle.definitions.specs.RoundLines.{raise_line, move_lines, bound_line, round_lines, round_text, lines_of_void, void_text}
use Rattle.engine_theory.specs.Runs.{bound_lines, VoidNext}
use Rattle.theory.proofs.Places.{IsTuple}
use Rattle.theory.proofs.Barred.{lawful-same}
use Rattle.theory.proofs.Presses.{none-lawful}
use Rattle.theory.proofs.Validity.{Handed, valid-facts, working-handed}
use Rattle.theory.proofs.Replays.{Refuting, allowed-bars, rounds-few}
use Rattle.theory.proofs.Rounds.{AllAllowed, no_move, one_more, MoveKinds, all-handed, raised-few, round-fits, void-fits, bound-within, after-append, round-taken}
use Rattle.theory.proofs.Rounds.{void-line-taken}

pub differ : {A : Type 0} → ◌≡◌ {A = ℕ} 0 1 → A
differ e = absurd (omega arith)

-- ---- how a run ends, from any table

module _ (r : Rules) (next : Rules → Case → List ℤ → Next) (c : Case) where
  -- with weights w after so many rounds, of which it was allowed `limit`, and with their lines, behind which those of a void line come
  pub data Ends (w : List ℤ) (rounds limit : ℕ) (lines : List (List ℕ)) : Result RunAnswer Refusal → List (List ℕ) → Type 0 where
    settles : rounds ≤ limit → next r c w ≡ nothing → Ends w rounds limit lines (Ok RunAnswer.Settled) lines
    limits : {moves : List Move} → rounds ≡ limit → next r c w ≡ round moves → Ends w rounds limit lines (Ok RunAnswer.Limit) lines
    refuses : {moves : List Move} → rounds < limit → next r c w ≡ round moves → after_moves r c moves w ≡ None
        → Ends w rounds limit lines (Err LeavesRange) lines
    voids : {i : ℕ} {raised : List ℕ} → rounds ≤ limit → next r c w ≡ void i raised → Ends w rounds limit lines (Ok RunAnswer.Void) (lines ++ void_text r i raised)

  pub record Ran (P : ℕ → List ℤ → List (List ℕ) → Type 0) (limit : ℕ) (q : RunOf) : Type 0 where
    pub lines : List (List ℕ)
    pub kept : P q.rounds q.weights lines
    pub ends : Ends q.weights q.rounds limit lines q.answer q.log

  -- what every round keeps, the run keeps
  module _ (P : ℕ → List ℤ → List (List ℕ) → Type 0)
      (on : (done : ℕ) (w v : List ℤ) (log : List (List ℕ)) (moves : List Move) → P done w log → next r c w ≡ round moves → after_moves r c moves w ≡ Some v
      → P (suc done) v (log ++ round_text r c moves v)) where
    pub run-keeps : (left : ℕ) {done limit : ℕ} {w : List ℤ} {log : List (List ℕ)} → done + left ≡ limit → P done w log
        → Ran P limit (run_from r next c left done w log)
    run-keeps zero {done} {limit} {w} {log} h p = go (next r c w) refl
      where
        go : (n : Next) → next r c w ≡ n → Ran P limit (at_limit r n done w log)
        go nothing e = record { lines = log; kept = p; ends = settles (omega arith) e }
        go (round moves) e = record { lines = log; kept = p; ends = limits (omega arith) e }
        go (void i raised) e = record { lines = log; kept = p; ends = voids (omega arith) e }
    run-keeps (suc left) {done} {limit} {w} {log} h p =
        go (next r c w) refl (λ v lines q. run-keeps left {done = suc done} {limit = limit} {w = v} {log = lines} (omega arith) q)
      where
        go : (n : Next) → next r c w ≡ n → ((v : List ℤ) (lines : List (List ℕ)) → P (suc done) v lines
            → Ran P limit (run_from r next c left (suc done) v lines))
            → Ran P limit (onward (make_next r c w n) done w log (λ v lines. run_from r next c left (suc done) v lines))
        go nothing e rest = record { lines = log; kept = p; ends = settles (omega arith) e }
        go (void i raised) e rest = record { lines = log; kept = p; ends = voids (omega arith) e }
        go (round moves) e rest = leads (after_moves r c moves w) refl
          where
            leads : (o : Option (List ℤ)) → after_moves r c moves w ≡ o
                → Ran P limit (onward (made_of r c moves o) done w log (λ v lines. run_from r next c left (suc done) v lines))
            leads None f = record { lines = log; kept = p; ends = refuses (omega arith) e f }
            leads (Some v) f = rest v (log ++ round_text r c moves v) (on done w v log moves p e f)

    pub run-has : (limit : ℕ) (w : List ℤ) → P 0 w [] → Ran P limit (run r next c limit w)
    run-has limit w p = run-keeps limit {done = 0} {limit = limit} {w = w} {log = []} (omega arith) p

  module _ {w : List ℤ} {rounds limit : ℕ} {lines : List (List ℕ)} where
    -- settled just where nothing comes next
    pub ends-settled : {log : List (List ℕ)} {answer : Result RunAnswer Refusal} → Ends w rounds limit lines answer log → answer ≡ (Ok RunAnswer.Settled) ↔ next r c w ≡ nothing
    ends-settled (settles h e) = (λ a. e, λ a. refl)
    ends-settled (limits {moves} h e) = (λ a. differ (cc), λ a. differ (cc))
    ends-settled (refuses {moves} h e f) = (λ a. differ (cc), λ a. differ (cc))
    ends-settled (voids {i} {raised} h e) = (λ a. differ (cc), λ a. differ (cc))

    -- void just where a void line does
    pub ends-void : {log : List (List ℕ)} {answer : Result RunAnswer Refusal} → Ends w rounds limit lines answer log → answer ≡ (Ok RunAnswer.Void) ↔ VoidNext r next c w
    ends-void (settles h e) = (λ a. differ (cc), λ (i, raised, f). differ (cc))
    ends-void (limits {moves} h e) = (λ a. differ (cc), λ (i, raised, f). differ (cc))
    ends-void (refuses {moves} h e f) = (λ a. differ (cc), λ (i, raised, g). differ (cc))
    ends-void (voids {i} {raised} h e) = (λ a. (i, raised, e), λ a. refl)

    -- limit just after so many rounds with another to come
    pub ends-limit : {log : List (List ℕ)} {answer : Result RunAnswer Refusal} → Ends w rounds limit lines answer log → answer ≡ Ok RunAnswer.Limit
        ↔ (rounds ≡ limit) × (moves : List Move) × (next r c w ≡ round moves)
    ends-limit (settles h e) = (λ a. differ (cc), λ (g, moves, f). differ (cc))
    ends-limit (limits {moves} h e) = (λ a. (h, moves, e), λ a. refl)
    ends-limit (refuses {moves} h e f) = (λ a. differ (cc), λ (g, u, d). absurd (omega arith))
    ends-limit (voids {i} {raised} h e) = (λ a. differ (cc), λ (g, u, d). differ (cc))

    pub ends-within : {log : List (List ℕ)} {answer : Result RunAnswer Refusal} → Ends w rounds limit lines answer log → rounds ≤ limit
    ends-within (settles h e) = h
    ends-within (limits h e) = omega arith
    ends-within (refuses h e f) = omega arith
    ends-within (voids h e) = h

  -- the run's answer, for every table and every limit
  pub run_ran : (limit : ℕ) (w : List ℤ) → Ran (λ done w log. T true) limit (run r next c limit w)
  run_ran limit w = run-has (λ done w log. T true) (λ done w v log moves p e f. tt) limit w tt

  pub run_ends : (limit : ℕ) (w : List ℤ)
      → Ends (run r next c limit w).weights (run r next c limit w).rounds limit (run_ran limit w).lines (run r next c limit w).answer
      (run r next c limit w).log
  run_ends limit w = (run_ran limit w).ends

  pub run-void : (limit : ℕ) (w : List ℤ) → (run r next c limit w).answer ≡ (Ok RunAnswer.Void) ↔ VoidNext r next c (run r next c limit w).weights
  run-void limit w = ends-void (run_ends limit w)

  -- where nothing comes next just in the states P
  module _ {P : List ℤ → Type 0} (none_left : (w : List ℤ) → next r c w ≡ nothing ↔ P w) (limit : ℕ) (w : List ℤ) where
    pub run_settled : (run r next c limit w).answer ≡ (Ok RunAnswer.Settled) ↔ P (run r next c limit w).weights
    run_settled = Iff.trans (ends-settled (run_ends limit w)) (none_left (run r next c limit w).weights)

    pub run-limit : (run r next c limit w).answer ≡ Ok RunAnswer.Limit
        ↔ ((run r next c limit w).rounds ≡ limit) × (P (run r next c limit w).weights → ⊥) × (VoidNext r next c (run r next c limit w).weights → ⊥)
    run-limit =
        let e = ends-limit (run_ends limit w) in
        let v = (run r next c limit w).weights in (
          λ a. let (n, moves, d) = e.0 a in (n, λ f. (let g = (none_left v).1 f in differ (cc)), λ (i, raised, f). differ (cc)),
          λ (n, u, o). let (moves, d) = more v u o in e.1 (n, moves, d),
        )
      where
        more : (v : List ℤ) → (P v → ⊥) → (VoidNext r next c v → ⊥) → (moves : List Move) × (next r c v ≡ round moves)
        more v u o = go (next r c v) refl
          where
            go : (n : Next) → next r c v ≡ n → (moves : List Move) × (next r c v ≡ round moves)
            go nothing e = absurd (u ((none_left v).0 e))
            go (round moves) e = (moves, e)
            go (void i raised) e = absurd (o (i, raised, e))

-- ---- lawful rounds

-- from w, a table that every call takes, these moves come next and lead to v
pub record RoundFrom (r : Rules) (next : Rules → Case → List ℤ → Next) (c : Case) (w : List ℤ) (moves : List Move) (v : List ℤ) : Type 0 where
  pub handed : Handed r (working_weight r) c w
  pub comes : next r c w ≡ round moves
  pub leads : after_moves r c moves w ≡ Some v

pub record Lawful (r : Rules) (next : Rules → Case → List ℤ → Next) (c : Case) : Type 0 where
  pub allowed : {w v : List ℤ} {moves : List Move} → RoundFrom r next c w moves v → AllAllowed r c w moves v
  pub lower : {w v : List ℤ} {moves : List Move} → RoundFrom r next c w moves v → upper_bound c v <ℤ upper_bound c w
  pub short : {w v : List ℤ} {moves : List Move} → RoundFrom r next c w moves v → line_length r.amount_width * length (round_lines c moves v) ≤ round_bytes r c
  pub refuting : {w : List ℤ} {i : ℕ} {raised : List ℕ} → Handed r (working_weight r) c w → next r c w ≡ void i raised → Refuting c w i raised
  pub bars : {w : List ℤ} {i : ℕ} {raised : List ℕ} → Handed r (working_weight r) c w → next r c w ≡ void i raised
      → T (all_barred c w i (active_values c w i) (is_in raised))

-- ---- bound lines

no_raise : (xs : List ℕ) → any (is_kind 4) (map raise_line xs) ≡ false
no_raise [] = refl
no_raise (x ∷ xs) = no_raise xs

no_bound : (moves : List Move) → any (is_kind 4) (joined (map move_lines moves)) ≡ false
no_bound [] = refl
no_bound (shift e end v a ∷ moves) = no_bound moves
no_bound (press i lowered raised a ∷ moves) = any_append (is_kind 4) (map raise_line raised) (joined (map move_lines moves)) ∙ rw (no_raise raised, no_bound moves)

-- after so many rounds: a table that every call takes, and a log of whole lines with a bound line for each
pub record Tallied (r : Rules) (c : Case) (rounds : ℕ) (w : List ℤ) (log : List (List ℕ)) : Type 0 where
  pub handed : Handed r (working_weight r) c w
  pub whole : Parts (line_length r.amount_width) log
  pub counted : length (bound_lines r log) ≡ rounds

module _ {r : Rules} {next : Rules → Case → List ℤ → Next} {c : Case} (coherent : Coherent r) (lawful : Lawful r next c) where
  module _ {w v : List ℤ} {moves : List Move} (m : RoundFrom r next c w moves v) where
    round-width : {l : Line} → l ∈ round_lines c moves v → line_too_wide r.amount_width l ≡ false
    round-width = round-fits coherent m.handed (lawful.allowed m)

    -- a round's lines are whole, and its last is its one bound line
    pub round_whole : Parts (line_length r.amount_width) (round_text r c moves v)
    round_whole t n = let (l, o, e) = Memᴰ.of_map (line_text r.amount_width) (round_lines c moves v) n in
        rw (← e) (line-length r.amount_width l (round-width o))

    pub round-bound : bound_lines r (round_text r c moves v) ≡ line_text r.amount_width (bound_line (upper_bound c v)) ∷ []
    round-bound =
        those-map (λ t. has_kind 4 (read_line r.amount_width t)) (line_text r.amount_width) (round_lines c moves v)
        ∙ ap (map (line_text r.amount_width))
        (those-cong (round_lines c moves v) (λ l o. ap (has_kind 4) (line_read r.amount_width l (round-width o)))
        ∙ those-append (is_kind 4) (joined (map move_lines moves)) (bound_line (upper_bound c v) ∷ [])
        ∙ ap (λ ls. ls ++ (bound_line (upper_bound c v) ∷ [])) (those-none (is_kind 4) (joined (map move_lines moves)) (false-is _ (no_bound moves))))

    pub handed-on : Handed r (working_weight r) c v
    handed-on = all-handed coherent (lawful.allowed m) m.handed

  module _ {w : List ℤ} {i : ℕ} {raised : List ℕ} (h : Handed r (working_weight r) c w) (e : next r c w ≡ void i raised) where
    -- a void line's lines are whole, none is a bound line, and they are short enough for an output
    void-width : {l : Line} → l ∈ lines_of_void i raised → line_too_wide r.amount_width l ≡ false
    void-width = void-fits coherent h (lawful.refuting h e)

    pub void-whole : Parts (line_length r.amount_width) (void_text r i raised)
    void-whole t n = let (l, o, f) = Memᴰ.of_map (line_text r.amount_width) (lines_of_void i raised) n in
        rw (← f) (line-length r.amount_width l (void-width o))

    void-no-bound : bound_lines r (void_text r i raised) ≡ []
    void-no-bound =
        those-map (λ t. has_kind 4 (read_line r.amount_width t)) (line_text r.amount_width) (lines_of_void i raised)
        ∙ ap (map (line_text r.amount_width))
        (those-cong (lines_of_void i raised) (λ l o. ap (has_kind 4) (line_read r.amount_width l (void-width o)))
        ∙ those-none (is_kind 4) (lines_of_void i raised) (false-is _ (no_raise raised)))

    pub void-short : line_length r.amount_width * length (lines_of_void i raised) ≤ round_bytes r c
    void-short =
        mul-le-mul_left (line_length r.amount_width) (omega (arith, length-map raised raise_line, raised-few (lawful.refuting h e)))

  tallied-on : (done : ℕ) (w v : List ℤ) (log : List (List ℕ)) (moves : List Move) → Tallied r c done w log → next r c w ≡ round moves
      → after_moves r c moves w ≡ Some v
      → Tallied r c (suc done) v (log ++ round_text r c moves v)
  tallied-on done w v log moves p e f =
      let m : RoundFrom r next c w moves v = record { handed = p.handed; comes = e; leads = f } in
      record {
        handed = handed-on m;
        whole = λ l n. ⊎_elim (p.whole l) (round_whole m l) (Memᴰ.append_cases log n);
        counted =
            ap length (those-append _ log (round_text r c moves v) ∙ ap (λ ls. bound_lines r log ++ ls) (round-bound m))
            ∙ omega (arith, p.counted, length-append (bound_lines r log) (line_text r.amount_width (bound_line (upper_bound c v)) ∷ []));
      }

  ends-tallied : {limit rounds : ℕ} {w : List ℤ} {lines log : List (List ℕ)} {answer : Result RunAnswer Refusal} → Tallied r c rounds w lines
      → Ends r next c w rounds limit lines answer log → Tallied r c rounds w log
  ends-tallied p (settles h e) = p
  ends-tallied p (limits h e) = p
  ends-tallied p (refuses h e f) = p
  ends-tallied {lines} p (voids {i} {raised} h e) = record {
    handed = p.handed;
    whole = λ l n. ⊎_elim (p.whole l) (void-whole p.handed e l) (Memᴰ.append_cases lines n);
    counted =
        ap length (those-append _ lines (void_text r i raised) ∙ ap (λ ls. bound_lines r lines ++ ls) (void-no-bound p.handed e))
        ∙ omega (arith, p.counted, length-append (bound_lines r lines) []);
  }

  -- for every table that every call takes and every limit
  pub run-tallied : (limit : ℕ) (w : List ℤ) → Handed r (working_weight r) c w
      → Tallied r c (run r next c limit w).rounds (run r next c limit w).weights (run r next c limit w).log
  run-tallied limit w h =
      let q = run-has r next c (Tallied r c) tallied-on limit w (record { handed = h; whole = λ l m. absurd (Memᴰ.not-nil m); counted = refl }) in
      ends-tallied q.kept q.ends

-- ---- a void line means that no assignment is lawful, in any table

-- the same tuples are barred, so that the same assignments are lawful
pub record Remaining (r : Rules) (c : Case) (w₀ w : List ℤ) : Type 0 where
  pub handed : Handed r (working_weight r) c w
  pub bars : (x k l : ℕ) → IsTuple c x k l → barred c w x k l ≡ barred c w₀ x k l

all-bars : {r : Rules} → Coherent r → {c : Case} {w v : List ℤ} {moves : List Move} → AllAllowed r c w moves v → {x k l : ℕ} → IsTuple c x k l
    → barred c v x k l ≡ barred c w x k l
all-bars coherent no_move u = refl
all-bars coherent {c} {w} (one_more {move} k m) u = all-bars coherent m u ∙ allowed-bars coherent c w move k u

module _ {r : Rules} {next : Rules → Case → List ℤ → Next} {c : Case} (coherent : Coherent r) (lawful : Lawful r next c) (limit : ℕ) (w₀ : List ℤ)
    (h : Handed r (working_weight r) c w₀) where
  pub run-remains : Remaining r c w₀ (run r next c limit w₀).weights
  run-remains = (run-has r next c (λ done w log. Remaining r c w₀ w) (λ done w v log moves k e f.
      let m : RoundFrom r next c w moves v = record { handed = k.handed; comes = e; leads = f } in
      record {
        handed = handed-on coherent lawful m;
        bars = λ x a b u. all-bars coherent (lawful.allowed m) u ∙ k.bars x a b u;
      }) limit w₀ (record { handed = h; bars = λ x a b u. refl })).kept

  -- an assignment that is lawful after the run was so before it
  pub run-lawful : (p : List ℕ) → T (is_lawful c (run r next c limit w₀).weights p) → T (is_lawful c w₀ p)
  run-lawful = lawful-same c (run r next c limit w₀).weights w₀ (λ x a b u. sym (run-remains.bars x a b u)) h.shape

  pub run-void-none : (run r next c limit w₀).answer ≡ Ok RunAnswer.Void → (p : List ℕ) → T (is_lawful c w₀ p) → ⊥
  run-void-none e p t =
      let (i, raised, d) = (run-void r next c limit w₀).0 e in
      let k = run-remains in
      let f = lawful.refuting k.handed d in
      let w = (run r next c limit w₀).weights in
      none-lawful h.shape p w (lawful-same c w₀ w k.bars h.shape p t) i f.variable (active_values c w i) raised f.refutes (lawful.bars k.handed d)

-- ---- the log, replayed from starting weights

-- the replay's state between rounds
abbrev pub between : Case → List ℤ → ℕ → List ℤ → State
between c w₀ rounds w = record {
  case = c;
  starting = w₀;
  weights = w;
  rounds = rounds;
  start = upper_bound c w;
  held = None;
  moving = false;
  void = false;
  refusal = None;
}

-- there a void line may come last
abbrev pub ended : Result RunAnswer Refusal → State → State
ended (Ok RunAnswer.Settled) s = s
ended (Ok RunAnswer.Limit) s = s
ended (Ok RunAnswer.Void) s = after_void s
ended (Err x) s = s

-- the log leads there, to a table that every call takes, and each of its rounds has lowered the upper bound
pub record Replayed (r : Rules) (c : Case) (w₀ : List ℤ) (rounds : ℕ) (w : List ℤ) (log : List (List ℕ)) : Type 0 where
  pub handed : Handed r (working_weight r) c w
  pub leads : after r (fresh c w₀) log ≡ between c w₀ rounds w
  pub fallen : (pos rounds +ℤ upper_bound c w) ≤ℤ upper_bound c w₀

few-rounds : (done s most : ℕ) (b₀ b d : ℤ) → (pos done +ℤ b) ≤ℤ b₀ → d <ℤ b → b₀ ≤ℤ pos s → minus s ≤ℤ d → 2 * s ≤ most
    → (done < most) × ((pos (suc done) +ℤ d) ≤ℤ b₀)
few-rounds done s most b₀ b d h l k o m = (h ▸ l ▸ k ▸ o ▸ simp flat (omega zs), h ▸ l ▸ simp flat (omega zs))

too_many : (rounds limit : ℕ) (b z : ℤ) → rounds ≡ limit → b ≤ℤ (pos limit +ℤ z) → (pos (suc rounds) +ℤ z) ≤ℤ b → ⊥
too_many rounds limit b z e h k = e ▸ h ▸ k ▸ simp flat (omega zs)

-- tables from which no round leaves the working range, the first among them
pub record NeverLeaves (r : Rules) (next : Rules → Case → List ℤ → Next) (c : Case) (w₀ : List ℤ) (Reach : List ℤ → Type 0) : Type 0 where
  pub first : Reach w₀
  pub goes : {w : List ℤ} {moves : List Move} → Reach w → next r c w ≡ round moves → (v : List ℤ) × (after_moves r c moves w ≡ Some v) × Reach v

module _ {r : Rules} {next : Rules → Case → List ℤ → Next} {c : Case} {w₀ : List ℤ} {Reach : List ℤ → Type 0} (stays : NeverLeaves r next c w₀ Reach) where
  pub run-reaches : (limit : ℕ) → Ran r next c (λ done w log. Reach w) limit (run r next c limit w₀)
  run-reaches limit = run-has r next c (λ done w log. Reach w) (λ done w v log moves p e f.
      let (u, g, q) = stays.goes p e in subst Reach (some_inj (sym g ∙ f)) q) limit w₀ stays.first

  ends-unrefused : {w : List ℤ} {rounds limit : ℕ} {lines log : List (List ℕ)} {answer : Result RunAnswer Refusal} → Ends r next c w rounds limit lines answer log
      → Reach w → (answer ≡ Ok RunAnswer.Settled) ⊎ ((answer ≡ Ok RunAnswer.Limit) ⊎ (answer ≡ Ok RunAnswer.Void))
  ends-unrefused (settles h e) p = inl refl
  ends-unrefused (limits h e) p = inr (inl refl)
  ends-unrefused (refuses h e f) p = let (v, g, q) = stays.goes p e in absurd (none-some (sym f ∙ g))
  ends-unrefused (voids h e) p = inr (inr refl)

  pub run-never-refused : (limit : ℕ) → ((run r next c limit w₀).answer ≡ Ok RunAnswer.Settled)
      ⊎ (((run r next c limit w₀).answer ≡ Ok RunAnswer.Limit) ⊎ ((run r next c limit w₀).answer ≡ Ok RunAnswer.Void))
  run-never-refused limit = let q = run-reaches limit in ends-unrefused q.ends q.kept

module _ {r : Rules} {next : Rules → Case → List ℤ → Next} {c : Case} (coherent : Coherent r) (kinds : MoveKinds r)
    (lawful : Lawful r next c) (w₀ : List ℤ) (t : T (valid r c w₀)) where
  first-handed : Handed r (working_weight r) c w₀
  first-handed = working-handed coherent (valid-facts r c w₀ t)

  replayed-on : (done : ℕ) (w v : List ℤ) (log : List (List ℕ)) (moves : List Move) → Replayed r c w₀ done w log → next r c w ≡ round moves
      → after_moves r c moves w ≡ Some v
      → Replayed r c w₀ (suc done) v (log ++ round_text r c moves v)
  replayed-on done w v log moves p e f =
      let m : RoundFrom r next c w moves v = record { handed = p.handed; comes = e; leads = f } in
      let a = lawful.allowed m in
      let k = handed-on coherent lawful m in
      let (few, fallen) = few-rounds done _ r.rounds (upper_bound c w₀) (upper_bound c w) (upper_bound c v) p.fallen (lawful.lower m)
      (bound-within coherent first-handed).1 (bound-within coherent k).0 coherent.rounds-enough in
      record {
        handed = k;
        leads =
            after-append r (fresh c w₀) log (round_text r c moves v) ∙ ap (λ (u : State). after r u (round_text r c moves v)) p.leads
            ∙ round-taken coherent kinds (between c w₀ done w) refl refl refl p.handed a few (lawful.lower m)
            ∙ ap (λ (n : ℕ). between c w₀ n v) (omega arith);
        fallen = fallen;
      }

  pub run-replayed : (limit : ℕ) → Ran r next c (Replayed r c w₀) limit (run r next c limit w₀)
  run-replayed limit =
      run-has r next c (Replayed r c w₀) replayed-on limit w₀ (record { handed = first-handed; leads = refl; fallen = simp flat (omega zs) })

  ends-taken : {rounds limit : ℕ} {w : List ℤ} {lines log : List (List ℕ)} {answer : Result RunAnswer Refusal} → Replayed r c w₀ rounds w lines
      → Ends r next c w rounds limit lines answer log → after r (fresh c w₀) log ≡ ended answer (between c w₀ rounds w)
  ends-taken p (settles h e) = p.leads
  ends-taken p (limits h e) = p.leads
  ends-taken p (refuses h e f) = p.leads
  ends-taken {rounds} {w} {lines} p (voids {i} {raised} h e) =
      after-append r (fresh c w₀) lines (void_text r i raised) ∙ ap (λ (u : State). after r u (void_text r i raised)) p.leads
      ∙ void-line-taken coherent kinds (between c w₀ rounds w) refl refl refl p.handed (lawful.refuting p.handed e) (lawful.bars p.handed e)

  module _ (limit : ℕ) where
    -- rounds and weights are the run's, nothing is held, no move lacks its bound line, no line was refused, and a void line is whole just
    -- where the run answers so
    pub run-log-taken : after r (fresh c w₀) (run r next c limit w₀).log
        ≡ ended (run r next c limit w₀).answer (between c w₀ (run r next c limit w₀).rounds (run r next c limit w₀).weights)
    run-log-taken = let q = run-replayed limit in ends-taken q.kept q.ends

    pub run-log-ends : at_end (after r (fresh c w₀) (run r next c limit w₀).log) ≡ None
    run-log-ends = ap at_end run-log-taken ∙ go (run r next c limit w₀).answer
      where
        go : (a : Result RunAnswer Refusal) → at_end (ended a (between c w₀ (run r next c limit w₀).rounds (run r next c limit w₀).weights)) ≡ None
        go (Ok RunAnswer.Settled) = refl
        go (Ok RunAnswer.Limit) = refl
        go (Ok RunAnswer.Void) = refl
        go (Err x) = refl

  module _ {Reach : List ℤ → Type 0} (stays : NeverLeaves r next c w₀ Reach) where
    pub run-settles : (limit : ℕ) (p : List ℕ) → T (is_lawful c w₀ p) → upper_bound c w₀ ≤ℤ (pos limit +ℤ objective c w₀ p)
        → (run r next c limit w₀).answer ≡ Ok RunAnswer.Settled
    run-settles limit p a h = ⊎_elim (λ e. e) (⊎_elim at-limit (λ e. absurd (run-void-none coherent lawful limit w₀ first-handed e p a))) (run-never-refused stays limit)
      where
        q : RunOf
        q = run r next c limit w₀

        at-limit : q.answer ≡ Ok RunAnswer.Limit → q.answer ≡ Ok RunAnswer.Settled
        at-limit e =
            let (n, moves, d) = (ends-limit r next c (run_ends r next c limit w₀)).0 e in
            let (v, g, _) = stays.goes (run-reaches stays limit).kept d in
            let ran = run-replayed limit in
            let more = replayed-on q.rounds q.weights v ran.lines moves ran.kept d g in
            let few = subst (λ (u : State). (pos u.rounds +ℤ objective c w₀ p) ≤ℤ upper_bound c w₀) more.leads
            (rounds-few coherent c w₀ t (ran.lines ++ round_text r c moves v) p a) in
            absurd (too_many q.rounds limit (upper_bound c w₀) (objective c w₀ p) n h few)
