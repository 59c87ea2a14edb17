-- The case lines of a join: what is read so far stays good, and after the last line the case is grown and its starting weights are taken.
-- Assumes nothing.
use mathlib.Core.Path.{◌≡◌, refl, sym, ap, ap₂, subst, ◌∙◌}
use mathlib.Core.Bool.{Bool, not, ◌||◌}
use mathlib.Core.Logic.{◌≢◌, ⊎_elim}
use mathlib.Core.List.{List, map}
use Prim.Native.Nat.{ℕ, suc, ◌+◌, ◌*◌, ◌-◌, ◌≤◌, ◌<◌}
use native.Mathlib.Nat.{mul-le-mul_right}
use native.Mathlib.Omega.{arith}
use lib.IntN.{ℤ, pos, nat_abs}
use lib.Dec.{T, not_T, ltb, ltb→lt, nltb→le, lt→ltb, le→leb}
use lib.ListN.{length, get_or, set, replicate, length-append, length-replicate, get_or-append}
use lib.Seq.{get_or-set_other, get_or-append-add}
use Rattle.std.specs.Prelude.{if◌then◌else◌, Some, None}
use Rattle.integers.specs.Words.{below, all, joined}
use Rattle.integers.specs.Lists.{map_same}
use Rattle.integers.specs.Tables.{length-tab, get_d-tab}
use Rattle.integers.specs.Tests.{tests, either, if-true, if-false}
use Rattle.integers.specs.Linear.{T-eq}
use Rattle.theory.proofs.Words.{none_below}
use Rattle.definitions.specs.declared.Case.{Case}
use Rattle.definitions.specs.declared.Line.{Line}
use Rattle.definitions.specs.Rules.{coherent, rules_of, edge_places}
use Rattle.definitions.specs.Refusals.{first_refusal}
use Rattle.definitions.specs.Case.{lower_end, upper_end, place, own_length, weight, wholly_barred, is_barred, barred}
use Rattle.definitions.specs.Valid.{in_starting, zeros_from}
use Rattle.definitions.specs.CaseFiles.{CaseDue, variable-weight, edge-ends, edge-weight, Reading, took, weight_line, bars, weight_in, due_tests}
use Rattle.definitions.specs.Lines.{line}
use Rattle.definitions.specs.Moves.{Difference}
use Rattle.logs.specs.Leave.{in_places}
use Rattle.logs.specs.Waiting.{small_case, renumbered}
use Rattle.logs.specs.Join.{grown_case, is_new, scope_ungrown, join_line_tests, begun_join}
use Rattle.theory.proofs.Full.{full-weight, full-long, full-past}
use Rattle.theory.proofs.Places.{IsTuple, by-tuple, variable-tuple, edge-tuple, each-variable, each-edge, place-apart}
use Rattle.theory.proofs.Validity.{own-lent, Valid, not-and-iff}
use Rattle.theory.proofs.Join.{grown_scope, grown-variable, edge-up, old-scope, Grown}
use Rattle.case_theory.proofs.CaseDues.{line_of, IsDue, rank, rank-apart, rank_below, State, next, Sized, next-sized, next-there, next-other, line_at, same-variable, same-edge}
use Rattle.case_theory.proofs.CaseTests.{CaseKinds, Good, passes, passed, valid-good, good-valid}
use Rattle.case_theory.proofs.Zeroed.{all_same, zeros-at, zeros_by}
use Rattle.definitions.proofs.CaseLaws.{place-own}

module _ (c : Case) (p : ℕ) where
  -- there are so many
  abbrev pub join_lines : ℕ
  join_lines = c.d + p * suc (c.d * c.d)

  abbrev pub grown_at : State → Case
  grown_at s = record {
    n = c.n + 1;
    d = c.d;
    m = c.m + p;
    lower = s.lower;
    upper = s.upper;
    carry = c.carry;
    rulebook = c.rulebook;
  }

  abbrev pub grown_reading : State → Reading
  grown_reading s = record { case = grown_at s; table = s.table }

  abbrev after : State → CaseDue → Line → State
  after s due t = next c.rulebook (c.n + 1) c.d (c.m + p) s due t

  pub took-after : (s : State) (due : CaseDue) (t : Line) → took (grown_reading s) due (Some t) ≡ grown_reading (after s due t)
  took-after s (variable-weight i k) t = refl
  took-after s (edge-ends e) t = refl
  took-after s (edge-weight e k l) t = refl

  -- a due of the join is one of the grown case
  renumbered-due : (y : CaseDue) → IsDue 1 c.d p y → IsDue (c.n + 1) c.d (c.m + p) (renumbered c y)
  renumbered-due (variable-weight i k) (u, v) = (omega arith, v)
  renumbered-due (edge-ends e) u = omega arith
  renumbered-due (edge-weight e k l) (u, v, h) = (omega arith, v, h)

  -- ---- one line more leaves the lines of the other dues as they are

  abbrev line_in : State → CaseDue → Line
  line_in s due = line_of (grown_at s) s.table due

  abbrev IsGrown : CaseDue → Type 0
  IsGrown = IsDue (c.n + 1) c.d (c.m + p)

  -- no line says the carry
  any-carry : (s : State) (due : CaseDue) → line_in s due ≡ line_at c.rulebook (c.n + 1) c.d (c.m + p) s due
  any-carry s (variable-weight i k) = refl
  any-carry s (edge-ends e) = refl
  any-carry s (edge-weight e k l) = refl

  others-stay : (s : State) (due : CaseDue) → IsGrown due → (t : Line) (other : CaseDue) → IsGrown other → other ≢ due
      → line_in (after s due t) other ≡ line_in s other
  others-stay s due u t other v n =
      any-carry (after s due t) other ∙ next-other c.rulebook (c.n + 1) c.d (c.m + p) s due u t other v
      (λ e. n (rank-apart (grown_at s) other due v u e))
      ∙ sym (any-carry s other)

  -- what a line says: a weight, and the ends of an edge
  module _ (s f : State) where
    variable-same : (i k : ℕ) → line_in s (variable-weight i k) ≡ line_in f (variable-weight i k)
        → weight (grown_at s) s.table i k 0 ≡ weight (grown_at f) f.table i k 0
    variable-same = same-variable c.rulebook (c.n + 1) c.d (c.m + p) s f

    edge_same : (e k l : ℕ) → line_in s (edge-weight e k l) ≡ line_in f (edge-weight e k l)
        → weight (grown_at s) s.table (c.n + 1 + e) k l ≡ weight (grown_at f) f.table (c.n + 1 + e) k l
    edge_same = same-edge c.rulebook (c.n + 1) c.d (c.m + p) s f

    -- a scope whose lines stay is barred as it was
    variable-bars : (i : ℕ) → i < c.n + 1 → ((k : ℕ) → k < c.d → line_in s (variable-weight i k) ≡ line_in f (variable-weight i k))
        → wholly_barred (grown_at s) s.table i ≡ wholly_barred (grown_at f) f.table i
    variable-bars i h same = ap (all (λ b. b))
        (each-variable (grown_at s) (barred (grown_at s) s.table i) i h
        ∙ map_same c.d (λ k u. ap is_barred (variable-same i k (same k u))) ∙ sym (each-variable (grown_at f) (barred (grown_at f) f.table i) i h))

    edge-bars : (e : ℕ) → ((k l : ℕ) → k < c.d → l < c.d → line_in s (edge-weight e k l) ≡ line_in f (edge-weight e k l))
        → wholly_barred (grown_at s) s.table (c.n + 1 + e) ≡ wholly_barred (grown_at f) f.table (c.n + 1 + e)
    edge-bars e same = ap (all (λ b. b))
        (each-edge (grown_at s) (barred (grown_at s) s.table (c.n + 1 + e)) e
        ∙ ap joined (map_same c.d (λ k u. map_same c.d (λ l v. ap is_barred (edge_same e k l (same k l u v)))))
        ∙ sym (each-edge (grown_at f) (barred (grown_at f) f.table (c.n + 1 + e)) e))

  -- ---- the order of the join's lines

  abbrev place_of : CaseDue → ℕ
  place_of = rank 1 c.d p

  -- the lines of a weight's scope stand up to its last line, and those of lower edges before
  variable-before : (k : ℕ) → k < c.d → place_of (variable-weight 0 k) ≤ c.d - 1
  variable-before k h = omega arith

  edge-before : (e k l : ℕ) → k < c.d → l < c.d → place_of (edge-weight e k l) ≤ place_of (edge-weight e (c.d - 1) (c.d - 1))
  edge-before e k l h g = omega (arith, mul-le-mul_right {m = k} {n = c.d - 1} c.d (omega arith))

  ends-before : (e f : ℕ) → f < e → place_of (edge-ends f) < place_of (edge-ends e)
  ends-before e f h = omega (arith, mul-le-mul_right {m = suc f} {n = e} (suc (c.d * c.d)) h)

  -- the numbers can be taken back
  numbered_back : CaseDue → CaseDue
  numbered_back (variable-weight i k) = variable-weight (i - c.n) k
  numbered_back (edge-ends e) = edge-ends (e - c.m)
  numbered_back (edge-weight e k l) = edge-weight (e - c.m) k l

  back-again : (y : CaseDue) → numbered_back (renumbered c y) ≡ y
  unfolding numbered_back
  back-again (variable-weight i k) = ap (λ (j : ℕ). variable-weight j k) (omega arith)
  back-again (edge-ends e) = ap edge-ends (omega arith)
  back-again (edge-weight e k l) = ap (λ (j : ℕ). edge-weight j k l) (omega arith)

  renumbered-apart : (x y : CaseDue) → place_of y < place_of x → renumbered c y ≢ renumbered c x
  renumbered-apart x y h e =
      let d : y ≡ x = sym (back-again y) ∙ ap numbered_back e ∙ back-again x in
      let q : place_of y ≡ place_of x = ap place_of d in
      omega arith

-- ---- what is read so far

module _ (c : Case) (w₀ : List ℤ) (p : ℕ) where
  -- q lines are read
  pub record JoinRead (q : ℕ) (s : State) : Type 0 where
    pub sized : Sized c.rulebook (c.n + 1) c.d (c.m + p) s
    -- the case before is as it was
    pub lower : (e : ℕ) → e < c.m → get_or s.lower e 0 ≡ lower_end c e
    pub upper : (e : ℕ) → e < c.m → get_or s.upper e 0 ≡ upper_end c e
    pub weights : (x k l : ℕ) → IsTuple c x k l → weight (grown_at c p s) s.table (grown_scope c x) k l ≡ weight c w₀ x k l
    pub past : T (zeros_from (own_length (grown_at c p s)) s.table)
    -- and the lines read are good
    pub good : (y : CaseDue) → IsDue 1 c.d p y → rank 1 c.d p y < q
        → Good (rules_of c) (grown_reading c p s) (renumbered c y) (line_in c p s (renumbered c y))

  -- ---- a line of the join leaves the case before as it is

  module _ (s : State) (t : Line) where
    lower-stays : (x : CaseDue) (e : ℕ) → e < c.m → get_or (after c p s (renumbered c x) t).lower e 0 ≡ get_or s.lower e 0
    lower-stays (variable-weight i k) e h = refl
    lower-stays (edge-ends f) e h = get_or-set_other s.lower (c.m + f) e (nat_abs t.b) 0 (λ q. omega arith)
    lower-stays (edge-weight f k l) e h = refl

    upper-stays : (x : CaseDue) (e : ℕ) → e < c.m → get_or (after c p s (renumbered c x) t).upper e 0 ≡ get_or s.upper e 0
    upper-stays (variable-weight i k) e h = refl
    upper-stays (edge-ends f) e h = get_or-set_other s.upper (c.m + f) e (nat_abs t.c) 0 (λ q. omega arith)
    upper-stays (edge-weight f k l) e h = refl

    -- and the ends of the edges up to one that is read
    ends-kept : (x : CaseDue) (i e : ℕ) → i < c.m + e → rank 1 c.d p (edge-ends e) < rank 1 c.d p x
        → (lower_end (grown_at c p (after c p s (renumbered c x) t)) i ≡ lower_end (grown_at c p s) i)
        × (upper_end (grown_at c p (after c p s (renumbered c x) t)) i ≡ upper_end (grown_at c p s) i)
    ends-kept (variable-weight j k) i e h l = (refl, refl)
    ends-kept (edge-ends f) i e h l =
        let n : i ≢ c.m + f = λ q. omega (arith, ends-before c p e f (omega arith)) in
        (get_or-set_other s.lower (c.m + f) i (nat_abs t.b) 0 n, get_or-set_other s.upper (c.m + f) i (nat_abs t.c) 0 n)
    ends-kept (edge-weight f j k) i e h l = (refl, refl)

    -- a weight stored at a tuple y, a, b of the grown case
    module _ (z : ℤ) {y a b : ℕ} (new : IsTuple (grown_at c p s) y a b) where
      abbrev stored : List ℤ
      stored = set s.table (place (grown_at c p s) y a b) z

      stored-apart : {x k l : ℕ} → IsTuple (grown_at c p s) x k l → x ≢ y → weight (grown_at c p s) stored x k l ≡ weight (grown_at c p s) s.table x k l
      stored-apart {x} {k} {l} u n = get_or-set_other s.table (place (grown_at c p s) y a b) (place (grown_at c p s) x k l) z (pos 0)
          (λ e. n (place-apart (grown_at c p s) u new e).0)

      stored_past : T (zeros_from (own_length (grown_at c p s)) s.table) → T (zeros_from (own_length (grown_at c p s)) stored)
      stored_past zeros = zeros_by (own_length (grown_at c p s)) stored (λ i h.
          get_or-set_other s.table (place (grown_at c p s) y a b) i z (pos 0)
          (λ e. omega (arith, place-own (grown_at c p s) y a b new.scope new.one new.two))
          ∙ zeros-at (own_length (grown_at c p s)) s.table zeros i h)

    -- a scope of the case before is not new
    old-tuple : {x k l : ℕ} → IsTuple c x k l → IsTuple (grown_at c p s) (grown_scope c x) k l × (grown_scope c x ≢ c.n) × (grown_scope c x < c.n + 1 + c.m)
    old-tuple = by-tuple c (λ x k l. IsTuple (grown_at c p s) (grown_scope c x) k l × (grown_scope c x ≢ c.n) × (grown_scope c x < c.n + 1 + c.m))
        (λ i k u v. let g = if-true i (i + 1) (ltb i c.n) (lt→ltb i c.n u) in
        rw g (variable-tuple (grown_at c p s) i k (omega arith) v, λ e. omega arith, omega arith))
        (λ e k l u v q.
        let n = not_T (ltb (c.n + e) c.n) (λ b. let l = ltb→lt (c.n + e) c.n b in omega arith) in
        let g : grown_scope c (c.n + e) ≡ c.n + 1 + e = if-false (c.n + e) (c.n + e + 1) (ltb (c.n + e) c.n) n ∙ omega arith in
        rw g (edge-tuple (grown_at c p s) e k l (omega arith) v q, λ d. omega arith, omega arith))

    weights-stay : (x : CaseDue) → IsDue 1 c.d p x → {y k l : ℕ} → IsTuple c y k l
        → weight (grown_at c p (after c p s (renumbered c x) t)) (after c p s (renumbered c x) t).table (grown_scope c y) k l
        ≡ weight (grown_at c p s) s.table (grown_scope c y) k l
    weights-stay (variable-weight i k) (u, v) o = let (g, a, b) = old-tuple o in
        stored-apart (weight_in t) (variable-tuple (grown_at c p s) (c.n + i) k (omega arith) v) g (λ e. a (omega arith))
    weights-stay (edge-ends e) u o = refl
    weights-stay (edge-weight e k l) (u, v, q) o = let (g, a, b) = old-tuple o in
        stored-apart (weight_in t) (edge-tuple (grown_at c p s) (c.m + e) k l (omega arith) v q) g (λ e. omega arith)

    past-stays : (x : CaseDue) → IsDue 1 c.d p x → T (zeros_from (own_length (grown_at c p s)) s.table)
        → T (zeros_from (own_length (grown_at c p s)) (after c p s (renumbered c x) t).table)
    past-stays (variable-weight i k) (u, v) z = stored_past (weight_in t) (variable-tuple (grown_at c p s) (c.n + i) k (omega arith) v) z
    past-stays (edge-ends e) u z = z
    past-stays (edge-weight e k l) (u, v, q) z = stored_past (weight_in t) (edge-tuple (grown_at c p s) (c.m + e) k l (omega arith) v q) z

  module _ (kinds : CaseKinds (rules_of c)) (few : c.m + p ≤ edge_places) where
    -- what passes the tests of a join's line passes those of a case file's
    join-passes : (g : Reading) (due : CaseDue) (t : Line) → g.case.n ≡ c.n + 1
        → first_refusal (join_line_tests (rules_of c) g due t) ≡ None → first_refusal (due_tests (rules_of c) g due (Some t)) ≡ None
    join-passes g (variable-weight i k) t n e = e
    join-passes g (edge-ends x) t n e =
        let h = simp (kinds.ends-due, tests, T-eq, not-and-iff, none_below) at ((passes (join_line_tests (rules_of c) g (edge-ends x) t)).0 e) in
        let d = h.1.0.1 in
        (passes (due_tests (rules_of c) g (edge-ends x) (Some t))).1 (simp (kinds.ends-due, tests, T-eq, not-and-iff, none_below) (
          h.0,
          (
            (h.1.0.0, (rw d (le→leb 0 (g.case.n - 1) (omega arith)), rw d (lt→ltb (g.case.n - 1) g.case.n (omega arith)))),
            (h.1.1.0, (h.1.1.1.0, tt)),
          ),
        ))
    join-passes g (edge-weight x k l) t n e = e

    -- the lines read before stay good
    good-stays : (s : State) (x : CaseDue) (t : Line) → IsDue 1 c.d p x → (y : CaseDue) → IsDue 1 c.d p y → rank 1 c.d p y < rank 1 c.d p x
        → Good (rules_of c) (grown_reading c p s) (renumbered c y) (line_in c p s (renumbered c y))
        → Good (rules_of c) (grown_reading c p (after c p s (renumbered c x) t)) (renumbered c y) (line_in c p (after c p s (renumbered c x) t) (renumbered c y))
    good-stays s x t u y v l = go y v l
      where
        f : State
        f = after c p s (renumbered c x) t

        stays : (y : CaseDue) → IsDue 1 c.d p y → rank 1 c.d p y < rank 1 c.d p x → line_in c p f (renumbered c y) ≡ line_in c p s (renumbered c y)
        stays y v l = others-stay c p s (renumbered c x) (renumbered-due c p x u) t (renumbered c y) (renumbered-due c p y v) (renumbered-apart c p x y l)

        go : (y : CaseDue) → IsDue 1 c.d p y → rank 1 c.d p y < rank 1 c.d p x
            → Good (rules_of c) (grown_reading c p s) (renumbered c y) (line_in c p s (renumbered c y))
            → Good (rules_of c) (grown_reading c p f) (renumbered c y) (line_in c p f (renumbered c y))
        go (variable-weight i k) (a, b) l (o, w) = (
          subst (λ (l : Line). T (bars l || in_starting (rules_of c) l.amount)) (sym (stays (variable-weight i k) (a, b) l)) o,
          λ d. subst (λ (b : Bool). T (not b)) (sym (variable-bars c p f s (c.n + i) (omega arith)
              (λ j h. stays (variable-weight i j) (a, h) (omega arith)))) (w d),
        )
        go (edge-ends e) a l (m, n, w) =
            let q = stays (edge-ends e) a l in
            let b : lower_end (grown_at c p f) (c.m + e) ≡ lower_end (grown_at c p s) (c.m + e) = ap (λ (l : Line). nat_abs l.b) q in
            let d : upper_end (grown_at c p f) (c.m + e) ≡ upper_end (grown_at c p s) (c.m + e) = ap (λ (l : Line). nat_abs l.c) q in (
              omega (arith, b, d),
              omega (arith, d),
              λ i h y z. w i h (sym (ends-kept s t x i e h l).0 ∙ y ∙ b) (sym (ends-kept s t x i e h l).1 ∙ z ∙ d),
            )
        go (edge-weight e k q) (a, b, h) l (o, w) = (
          subst (λ (l : Line). T (bars l || in_starting (rules_of c) l.amount)) (sym (stays (edge-weight e k q) (a, b, h) l)) o,
          λ (d, g).
              let u : k * c.d ≡ (c.d - 1) * c.d = ap (λ (k : ℕ). k * c.d) (omega arith) in
              subst (λ (b : Bool). T (not b)) (sym (edge-bars c p f s (c.m + e)
              (λ i j y z. stays (edge-weight e i j) (a, y, z) (omega (arith, edge-before c p e i j y z))))) (w (d, g)),
        )

    -- the next line
    pub join-next : (q : ℕ) (s : State) (x : CaseDue) (t : Line) → JoinRead q s → IsDue 1 c.d p x → rank 1 c.d p x ≡ q
        → first_refusal (join_line_tests (rules_of c) (grown_reading c p s) (renumbered c x) t) ≡ None
        → JoinRead (suc q) (after c p s (renumbered c x) t)
    join-next q s x t h u at e =
        let v = renumbered-due c p x u in
        let (shape, fine) = passed kinds (grown_reading c p s) (renumbered c x) t (join-passes (grown_reading c p s) (renumbered c x) t refl e) in
        record {
          sized = next-sized c.rulebook (c.n + 1) c.d (c.m + p) h.sized (renumbered c x) v t;
          lower = λ e l. lower-stays s t x e l ∙ h.lower e l;
          upper = λ e l. upper-stays s t x e l ∙ h.upper e l;
          weights = λ y k l i. weights-stay s t x u i ∙ h.weights y k l i;
          past = past-stays s t x u h.past;
          good = λ y w l. ⊎_elim
              (λ b. good-stays s x t u y w (omega (arith, ltb→lt (rank 1 c.d p y) q b)) (h.good y w (ltb→lt (rank 1 c.d p y) q b)))
              (λ b.
              let d : x ≡ y = rank-apart (small_case c p) x y u w (omega (arith, nltb→le (rank 1 c.d p y) q b)) in
              let there = any-carry c p (after c p s (renumbered c x) t) (renumbered c x)
              ∙ next-there c.rulebook (c.n + 1) c.d (c.m + p) s few h.sized (renumbered c x) v t ∙ sym shape in
              subst (λ (y : CaseDue). Good (rules_of c) (grown_reading c p (after c p s (renumbered c x) t)) (renumbered c y)
              (line_in c p (after c p s (renumbered c x) t) (renumbered c y))) d
              (subst (Good (rules_of c) (grown_reading c p (after c p s (renumbered c x) t)) (renumbered c x)) (sym there)
              (subst (λ (g : Reading). Good (rules_of c) g (renumbered c x) t) (took-after c p s (renumbered c x) t) fine)))
              (either (ltb (rank 1 c.d p y) q));
        }

-- ---- before the first line

module _ (c : Case) (w₀ : List ℤ) (p : ℕ) (v : Valid (rules_of c) c w₀) (most : c.n < (rules_of c).variables) (room : c.m + p ≤ (rules_of c).edges) where
  few : c.m + p ≤ edge_places
  few = omega (arith, (coherent c.rulebook).edges_placed)

  pub begun : State
  begun = let g : Case = grown_case c p in
      record { lower = g.lower; upper = g.upper; table = (begun_join c w₀ p).reading.table }

  pub begun-reading : (begun_join c w₀ p).reading ≡ grown_reading c p begun
  unfolding begun
  begun-reading = refl

  -- m ends, and 0 past them
  ends-long : (f : ℕ → ℕ) → length (in_places (map f (below c.m))) ≡ edge_places
  ends-long f =
      length-append (map f (below c.m)) _ ∙ ap₂ ◌+◌ (length-tab f 0 c.m) (length-replicate (edge_places - length (map f (below c.m))) 0)
      ∙ omega (arith, length-tab f 0 c.m, few)

  ends_at : (f : ℕ → ℕ) (e : ℕ) → e < c.m → get_or (in_places (map f (below c.m))) e 0 ≡ f e
  ends_at f e h = get_or-append (map f (below c.m)) _ 0 e (omega (arith, length-tab f 0 c.m)) ∙ get_d-tab f c.m e 0 h

  ends-past : (f : ℕ → ℕ) (e : ℕ) → c.m ≤ e → get_or (in_places (map f (below c.m))) e 0 ≡ 0
  ends-past f e h =
      let l = length-tab f 0 c.m in
      let i : e ≡ length (map f (below c.m)) + (e - c.m) = omega (arith, l) in
      ap (λ (e : ℕ). get_or (in_places (map f (below c.m))) e 0) i
      ∙ get_or-append-add (map f (below c.m)) (replicate (edge_places - length (map f (below c.m))) 0) (e - c.m) 0
      ∙ all_same (edge_places - length (map f (below c.m))) (e - c.m) 0

  abbrev first_weights : Difference
  first_weights y k l = if is_new c y then pos 0 else weight c w₀ (scope_ungrown c y) k l

  pub join-begun : JoinRead c w₀ p 0 begun
  unfolding begun
  join-begun =
      let fits : own_length (grown_case c p) ≤ length w₀ =
      omega (arith, v.long, own-lent (rules_of c) (grown_case c p) (omega arith) room) in
      let long = full-long (grown_case c p) first_weights w₀ fits in
      record {
        sized = record {
          long = long ∙ v.long;
          own-fits = omega (arith, long, fits);
          lower_long = ends-long (lower_end c);
          upper_long = ends-long (upper_end c);
          lower-past = λ e h. ends-past (lower_end c) e (omega arith);
          upper-past = λ e h. ends-past (upper_end c) e (omega arith);
        };
        lower = ends_at (lower_end c);
        upper = ends_at (upper_end c);
        weights = λ x k l i.
            let (a, b) = old-scope c x i.scope in
            full-weight (grown_case c p) first_weights w₀ (old-tuple c w₀ p begun (line 0 (pos 0) (pos 0) (pos 0) (pos 0)) i).0 ∙ rw (a, b);
        past = full-past (grown_case c p) first_weights w₀;
        good = λ y u h. absurd (omega arith);
      }

  -- ---- after the last line

  module _ (s : State) (h : JoinRead c w₀ p (join_lines c p) s) where
    abbrev g : Case
    g = grown_at c p s

    read-good : (y : CaseDue) → IsDue 1 c.d p y → Good (rules_of c) (grown_reading c p s) (renumbered c y) (line_in c p s (renumbered c y))
    read-good y u = h.good y u (omega (arith, rank_below 1 c.d p y u))

    -- the dues of the case before
    old-variable : {i k : ℕ} → i < c.n → k < c.d → weight g s.table i k 0 ≡ weight c w₀ i k 0
    old-variable {i} {k} u a =
        ap (λ (x : ℕ). weight g s.table x k 0) (sym (grown-variable c u)) ∙ h.weights i k 0 (variable-tuple c i k u a)

    old-edge : {e k l : ℕ} → e < c.m → k < c.d → l < c.d → weight g s.table (c.n + 1 + e) k l ≡ weight c w₀ (c.n + e) k l
    old-edge {e} {k} {l} u a b =
        ap (λ (x : ℕ). weight g s.table x k l) (sym (edge-up c e)) ∙ h.weights (c.n + e) k l (edge-tuple c e k l u a b)

    all-good : (due : CaseDue) → IsDue (c.n + 1) c.d (c.m + p) due → Good (rules_of c) (grown_reading c p s) due (line_in c p s due)
    all-good (variable-weight i k) (u, a) = ⊎_elim
        (λ t.
        let o = ltb→lt i c.n t in
        let (m, w) = valid-good v (variable-weight i k) (o, a) in (
          subst (λ (z : ℤ). let l = weight_line 11 14 (pos i) (pos k) (pos 0) z in T (bars l || in_starting (rules_of c) l.amount))
              (sym (old-variable o a)) m,
          λ e. subst (λ (b : Bool). T (not b)) (ap (all (λ b. b))
              (each-variable c (barred c w₀ i) i o ∙ map_same c.d (λ k q. ap is_barred (sym (old-variable o q)))
              ∙ sym (each-variable g (barred g s.table i) i u))) (w e),
        ))
        (λ t. subst (λ (j : ℕ). Good (rules_of c) (grown_reading c p s) (variable-weight j k) (line_in c p s (variable-weight j k)))
        (omega (arith, nltb→le i c.n t)) (read-good (variable-weight 0 k) (omega arith, a)))
        (either (ltb i c.n))
    all-good (edge-ends e) u = ⊎_elim
        (λ t.
        let o = ltb→lt e c.m t in
        let (m, n, w) = valid-good v (edge-ends e) o in (
          omega (arith, h.lower e o, h.upper e o),
          omega (arith, h.upper e o),
          λ f q a b. w f q (sym (h.lower f (omega arith)) ∙ a ∙ h.lower e o) (sym (h.upper f (omega arith)) ∙ b ∙ h.upper e o),
        ))
        (λ t. let q = nltb→le e c.m t in
        subst (λ (j : ℕ). Good (rules_of c) (grown_reading c p s) (edge-ends j) (line_in c p s (edge-ends j)))
        (omega arith) (read-good (edge-ends (e - c.m)) (omega arith)))
        (either (ltb e c.m))
    all-good (edge-weight e k l) (u, a, b) = ⊎_elim
        (λ t.
        let o = ltb→lt e c.m t in
        let (m, w) = valid-good v (edge-weight e k l) (o, a, b) in (
          subst (λ (z : ℤ). let x = weight_line 13 15 (pos e) (pos k) (pos l) z in T (bars x || in_starting (rules_of c) x.amount))
              (sym (old-edge o a b)) m,
          λ q. subst (λ (b : Bool). T (not b)) (ap (all (λ b. b))
              (each-edge c (barred c w₀ (c.n + e)) e
              ∙ ap joined (map_same c.d (λ k x. map_same c.d (λ l y. ap is_barred (sym (old-edge o x y)))))
              ∙ sym (each-edge g (barred g s.table (c.n + 1 + e)) e))) (w q),
        ))
        (λ t. let q = nltb→le e c.m t in
        subst (λ (j : ℕ). Good (rules_of c) (grown_reading c p s) (edge-weight j k l) (line_in c p s (edge-weight j k l)))
        (omega arith) (read-good (edge-weight (e - c.m) k l) (omega arith, a, b)))
        (either (ltb e c.m))

    pub join-valid : Valid (rules_of c) g s.table
    join-valid = good-valid (record {
      some-variable = omega arith;
      variables-most = omega arith;
      some-value = v.shape.some-value;
      values-most = v.values-most;
      edges_most = room;
    }) h.sized.long v.carry-in h.past all-good

    pub join-grown : Grown c g w₀ s.table
    join-grown = record {
      shape = v.shape;
      grown-shape = join-valid.shape;
      variables = refl;
      values = refl;
      edges = omega arith;
      carry = refl;
      lower = h.lower;
      upper = h.upper;
      weights = h.weights;
    }
