-- What a line of a join is asked, step by step. Assumes nothing.
use mathlib.Core.Path.{◌≡◌, refl, sym, ap, ap₂, subst, ◌∙◌}
use mathlib.Core.Bool.{Bool, true, false, not, ◌&&◌, ◌||◌, true≢false, and-true, and-false}
use mathlib.Core.Logic.{⊎_elim}
use mathlib.Core.List.{List, [], ◌∷◌, ◌++◌, map}
use Prim.Native.Nat.{ℕ, ◌+◌, ◌*◌, ◌-◌, ◌≤◌, ◌<◌}
use native.Mathlib.Omega.{arith}
use lib.IntN.{ℤ, pos, negsuc, nat_abs}
use lib.Dec.{T, eqb, ltb, ltb→lt, nltb→le}
use lib.Signed.{lt_z}
use lib.ListN.{length, get_or, take, drop, set, replicate, length-append, length-drop, length-replicate, get_or-append}
use lib.Seq.{drop-set-add, drop-drop}
use Rattle.std.specs.Prelude.{if◌then◌else◌, Some, None}
use Rattle.integers.specs.Words.{all, any, below}
use Rattle.integers.specs.Tests.{tests, is_true, is_false, either, same_test, or_left, or_right, or_cases}
use Rattle.integers.specs.Linear.{T-eq}
use Rattle.integers.specs.Lists.{any_at, any_of}
use Rattle.integers.specs.Tables.{length-tab, get_d-tab}
use Rattle.definitions.specs.declared.Case.{Case}
use Rattle.definitions.specs.declared.Line.{Line}
use Rattle.definitions.specs.declared.Rulebook.{Rulebook}
use Rattle.definitions.specs.declared.Refusal.TheVariants.{NotDue, OutOfRange, EndsNotAscending, EdgeRepeated, WeightOutOfRange, ScopeBarred}
use Rattle.definitions.specs.Rules.{rules_in, rules_of, coherent, edge_places}
use Rattle.definitions.specs.Refusals.{Test, ◌when◌, first_refusal}
use Rattle.definitions.specs.Case.{lower_end, upper_end, place, own_length, is_barred, wholly_barred}
use Rattle.definitions.specs.Valid.{in_starting}
use Rattle.definitions.specs.Lines.{not_due, outside}
use Rattle.definitions.specs.CaseFiles.{CaseDue, variable-weight, edge-ends, edge-weight, Reading, names, bars, weight_in, took, already_joined}
use Rattle.logs.specs.Leave.{in_places}
use Rattle.logs.specs.Waiting.{small_case, renumbered, waiting_weights, read_so_far, weight_waits, lower_kept}
use Rattle.case_theory.proofs.CaseTests.{case-kinds}
use Rattle.log_theory.proofs.Waiting.{took-waits}
use Rattle.log_theory.proofs.WaitingTests.{lower-read, upper-read, variable-bars, edge-bars}
use Rattle.joining.proofs.Barring.{variable-stored, edge-stored}
use Rattle.joining.specs.Joining.{has_place, line_tests, line_refusal, lower_stored, lower_with}
use Rattle.joining.specs.Steps.{Placed, kinds_due, rest_tests, others_barred, placed_tests, joined_before, end_before}
use Rattle.joining.proofs.Rooms.{placed-known, waits-fit, variables-fit}

-- ---- number 2, and the rest

module _ (c : Case) (w₀ : List ℤ) (p : ℕ) (lower : List ℕ) (t : Line) where
  abbrev off : CaseDue → Bool
  off x = not_due (rules_of c) (kinds_due x) t

  tests-split : (x : CaseDue) → line_tests c w₀ p x lower t ≡ NotDue when (off x) ∷ rest_tests c w₀ p x lower t
  tests-split (variable-weight i k) = refl
  tests-split (edge-ends e) = refl
  tests-split (edge-weight e k l) = refl

  module _ (x : CaseDue) where
    refusal_is : line_refusal c w₀ p x lower t
        ≡ (if has_place c (length w₀) p x then first_refusal (NotDue when (off x) ∷ rest_tests c w₀ p x lower t) else first_refusal (NotDue when (off x) ∷ []))
    refusal_is = ap (λ (ts : List Test). if has_place c (length w₀) p x then first_refusal ts else first_refusal (take 1 ts)) (tests-split x)

    pub line_refused : off x ≡ true → Some NotDue ≡ line_refusal c w₀ p x lower t
    line_refused e = sym (refusal_is ∙ rw e (go (has_place c (length w₀) p x)))
      where
        go : (b : Bool) → (if b then Some NotDue else Some NotDue) ≡ Some NotDue
        go true = refl
        go false = refl

    pub line-placed : off x ≡ false → has_place c (length w₀) p x ≡ true → first_refusal (rest_tests c w₀ p x lower t) ≡ line_refusal c w₀ p x lower t
    line-placed e h = sym (refusal_is ∙ rw (h, e))

    pub line-free : off x ≡ false → has_place c (length w₀) p x ≡ false → None ≡ line_refusal c w₀ p x lower t
    line-free e h = sym (refusal_is ∙ rw (h, e))

-- ---- a weight's line

-- g by whether its amount is a starting weight, b by whether it bars, x by whether its scope is closed, y by whether the others are barred
closes-same : (out b g : Bool) {x y : Bool} → (b ≡ true → x ≡ y) → (b ≡ false → T g → x ≡ false)
    → first_refusal (OutOfRange when out ∷ WeightOutOfRange when (not b && not g) ∷ ScopeBarred when (b && y) ∷ [])
    ≡ first_refusal (OutOfRange when out ∷ WeightOutOfRange when (not b && not g) ∷ ScopeBarred when x ∷ [])
closes-same true b g f h = refl
closes-same false true g f h = rw (f refl)
closes-same false false true f h = rw (h refl tt)
closes-same false false false f h = refl

module _ (r : Rulebook) (t : Line) (y : Bool) {x : Bool} (e : x ≡ (y && is_barred (weight_in t))) where
  closes : bars t ≡ true → x ≡ y
  closes b = e ∙ rw b (and-true y)

  never-closes : bars t ≡ false → T (in_starting (rules_in r) t.amount) → x ≡ false
  never-closes b s = e ∙ rw b (ap (λ p. y && p) (is_false (is_barred t.amount) ((case-kinds (coherent r)).starting-free t.amount s)) ∙ and-false y)

module _ {c : Case} {p : ℕ} (w₀ : List ℤ) (h : Placed c (length w₀) p) where
  -- the places of those that wait
  small-fits : own_length (small_case c p) ≤ length (waiting_weights c w₀)
  small-fits = simp length-drop (omega (arith, waits-fit h))

  -- the part before a place that waits, in the starting table
  others-moved : (last_one : Bool) (others at : ℕ) → others ≤ at
      → others_barred last_one others at (waiting_weights c w₀) ≡ others_barred last_one others (own_length c + at) w₀
  others-moved last_one others at g =
      let e : own_length c + (at - others) ≡ own_length c + at - others = omega arith in
      ap (λ (u : List ℤ). last_one && all is_barred (take others u)) (drop-drop (at - others) (own_length c) w₀ ∙ ap (λ (n : ℕ). drop n w₀) e)

  module _ (lower : List ℕ) (t : Line) where
    -- what is read with a weight's line, as it waits
    abbrev no_ends : List ℕ
    no_ends = replicate edge_places 0

    variable-after : (i k : ℕ) → i < 1 → k < c.d
        → wholly_barred (took (read_so_far c w₀ p (variable-weight i k) lower) (renumbered c (variable-weight i k)) (Some t)).case
        (took (read_so_far c w₀ p (variable-weight i k) lower) (renumbered c (variable-weight i k)) (Some t)).table (c.n + i)
        ≡ wholly_barred (small_case c p) (set (waiting_weights c w₀) (place (small_case c p) i k 0) (weight_in t)) i
    variable-after i k u v =
        ap (λ (g : Reading). wholly_barred g.case g.table (c.n + i))
        (took-waits c w₀ p h.sized h.grows h.room no_ends (length-replicate {A = ℕ} edge_places 0) (variable-weight i k) (u, v) t
        (λ e q. absurd (other q)) (variable-weight i k) refl)
        ∙ variable-bars c p (weight_waits c w₀ p (variable-weight i k) t) i u
        ∙ ap (λ (w : List ℤ). wholly_barred (small_case c p) w i) (drop-set-add (own_length c) w₀ (place (small_case c p) i k 0) (weight_in t))
      where
        other : {e : ℕ} → variable-weight i k ≡ edge-ends e → ⊥
        other q = let z : ◌≡◌ {A = ℕ} 0 1 = cc in omega arith

    edge-after : (e k l : ℕ) → e < p → k < c.d → l < c.d
        → wholly_barred (took (read_so_far c w₀ p (edge-weight e k l) lower) (renumbered c (edge-weight e k l)) (Some t)).case
        (took (read_so_far c w₀ p (edge-weight e k l) lower) (renumbered c (edge-weight e k l)) (Some t)).table (c.n + 1 + (c.m + e))
        ≡ wholly_barred (small_case c p) (set (waiting_weights c w₀) (place (small_case c p) (1 + e) k l) (weight_in t)) (1 + e)
    edge-after e k l u v g =
        ap (λ (g : Reading). wholly_barred g.case g.table (c.n + 1 + (c.m + e)))
        (took-waits c w₀ p h.sized h.grows h.room no_ends (length-replicate {A = ℕ} edge_places 0) (edge-weight e k l) (u, v, g) t
        (λ e q. absurd (other q)) (edge-weight e k l) refl)
        ∙ edge-bars c p (weight_waits c w₀ p (edge-weight e k l) t) e u
        ∙ ap (λ (w : List ℤ). wholly_barred (small_case c p) w (1 + e)) (drop-set-add (own_length c) w₀ (place (small_case c p) (1 + e) k l) (weight_in t))
      where
        other : {f : ℕ} → edge-weight e k l ≡ edge-ends f → ⊥
        other q = let z : ◌≡◌ {A = ℕ} 0 1 = cc in omega arith

    pub variable-rest : (i k : ℕ) → i < 1 → k < c.d
        → first_refusal (placed_tests c.rulebook w₀ (not (names (c.n + i) t.a && names k t.b)) (eqb (k + 1) c.d) k (own_length c + (i * c.d + k)) t)
        ≡ first_refusal (rest_tests c w₀ p (variable-weight i k) lower t)
    variable-rest i k u v =
        let y : Bool = others_barred (eqb (k + 1) c.d) k (own_length c + (i * c.d + k)) w₀ in
        let e = ap (λ (b : Bool). eqb (k + 1) c.d && b) (variable-after i k u v)
        ∙ variable-stored (small_case c p) (waiting_weights c w₀) small-fits i k u (weight_in t)
        ∙ ap (λ (b : Bool). b && is_barred (weight_in t)) (others-moved (eqb (k + 1) c.d) k (i * c.d + k) (omega arith)) in
        closes-same (not (names (c.n + i) t.a && names k t.b)) (bars t) (in_starting (rules_of c) t.amount)
        (closes c.rulebook t y e) (never-closes c.rulebook t y e)

    pub edge-rest : (e k l : ℕ) → e < p → k < c.d → l < c.d
        → first_refusal (placed_tests c.rulebook w₀ (not (names (c.m + e) t.a && names k t.b && names l t.c))
        (eqb (k + 1) c.d && eqb (l + 1) c.d) (k * c.d + l) (own_length c + (c.d + (e * (c.d * c.d) + (k * c.d + l)))) t)
        ≡ first_refusal (rest_tests c w₀ p (edge-weight e k l) lower t)
    edge-rest e k l u v g =
        let last_one : Bool = eqb (k + 1) c.d && eqb (l + 1) c.d in
        let at : ℕ = c.d + (e * (c.d * c.d) + (k * c.d + l)) in
        let same : 1 * c.d + (e * (c.d * c.d) + (k * c.d + l)) ≡ at = omega arith in
        let y : Bool = others_barred last_one (k * c.d + l) (own_length c + at) w₀ in
        let q = ap (λ (b : Bool). last_one && b) (edge-after e k l u v g)
        ∙ edge-stored (small_case c p) (waiting_weights c w₀) small-fits e k l u (weight_in t)
        ∙ ap (λ (at : ℕ). others_barred last_one (k * c.d + l) at (waiting_weights c w₀) && is_barred (weight_in t)) same
        ∙ ap (λ (b : Bool). b && is_barred (weight_in t)) (others-moved last_one (k * c.d + l) at (omega arith)) in
        closes-same (not (names (c.m + e) t.a && names k t.b && names l t.c)) (bars t) (in_starting (rules_of c) t.amount)
        (closes c.rulebook t y q) (never-closes c.rulebook t y q)

-- ---- the line of an edge's ends

before_at : (first more : List ℕ) (n f : ℕ) → length first ≡ n → f < n → get_or (in_places (first ++ more)) f 0 ≡ get_or first f 0
before_at first more n f l h =
    get_or-append (first ++ more) (replicate (edge_places - length (first ++ more)) 0) 0 f (omega (arith, length-append first more))
    ∙ get_or-append first more 0 f (omega arith)

module _ (c : Case) (w₀ : List ℤ) (p e : ℕ) (lower : List ℕ) (few : e ≤ length lower) where
  abbrev read : Reading
  read = read_so_far c w₀ p (edge-ends e) lower

  lower-before : (f : ℕ) → f < c.m → lower_end read.case f ≡ lower_end c f
  lower-before f h = before_at (map (lower_end c) (below c.m)) (take e lower) c.m f (length-tab (lower_end c) 0 c.m) h
      ∙ get_d-tab (lower_end c) c.m f 0 h

  upper-before : (f : ℕ) → f < c.m → upper_end read.case f ≡ upper_end c f
  upper-before f h = before_at (map (upper_end c) (below c.m)) (replicate (length (take e lower)) c.n) c.m f (length-tab (upper_end c) 0 c.m) h
      ∙ get_d-tab (upper_end c) c.m f 0 h

  module _ (i : ℕ) where
    abbrev has : ℕ → Bool
    has f = eqb (lower_end read.case f) i && eqb (upper_end read.case f) c.n

    abbrev old : ℕ → Bool
    old f = eqb (lower_end c f) i && eqb (upper_end c f) c.n

    abbrev new : ℕ → Bool
    new f = eqb (get_or lower f 0) i

    has-old : (f : ℕ) → f < c.m → has f ≡ old f
    has-old f h = ap₂ (λ (a b : ℕ). eqb a i && eqb b c.n) (lower-before f h) (upper-before f h)

    has_new : (f : ℕ) → f < e → has (c.m + f) ≡ new f
    has_new f h = ap₂ (λ (a b : ℕ). eqb a i && eqb b c.n) (lower-read c p w₀ lower (edge-ends e) few f h) (upper-read c p w₀ lower (edge-ends e) few f h)
        ∙ rw (is_true (eqb c.n c.n) (simp tests refl)) (and-true (eqb (get_or lower f 0) i))

    joined_is : already_joined read.case (c.m + e) i c.n ≡ (joined_before c.lower c.upper c.m i c.n || end_before lower e i)
    joined_is = same_test _ _
        (λ t. let (f, h, s) = any_at has (c.m + e) t in ⊎_elim
        (λ o. let l = ltb→lt f c.m o in or_left (any old (below c.m)) (any new (below e)) (any_of old c.m l (subst T (has-old f l) s)))
        (λ o. let l = nltb→le f c.m o in let g : f - c.m < e = omega arith in let q : c.m + (f - c.m) ≡ f = omega arith in
        or_right (any old (below c.m)) (any new (below e))
        (any_of new e g (subst T (has_new (f - c.m) g) (subst (λ (f : ℕ). T (has f)) (sym q) s))))
        (either (ltb f c.m)))
        (λ t. ⊎_elim
        (λ s. let (f, h, o) = any_at old c.m s in any_of has (c.m + e) {x = f} (omega arith) (subst T (sym (has-old f h)) o))
        (λ s. let (f, h, o) = any_at new e s in any_of has (c.m + e) {x = c.m + f} (omega arith) (subst T (sym (has_new f h)) o))
        (or_cases (any old (below c.m)) (any new (below e)) t))

second-off : (a b d : Bool) → (a || b || d) ≡ false → b ≡ false
second-off true b d q = absurd (true≢false q)
second-off false true d q = absurd (true≢false q)
second-off false false d q = refl

pub first_off : (t : Test) (ts : List Test) → first_refusal (t ∷ ts) ≡ None → t.applies ≡ false
first_off t ts = go t.applies
  where
    go : (b : Bool) → (if b then Some t.refusal else first_refusal ts) ≡ None → b ≡ false
    go true e = let z : ◌≡◌ {A = ℕ} 0 1 = cc in absurd (omega arith)
    go false e = refl

-- its tests, with the new variable as the upper end
module _ (c : Case) (w₀ : List ℤ) (p e : ℕ) (lower : List ℕ) (t : Line) where
  abbrev out : Bool
  out = not (names (c.m + e) t.a) || outside (c.n + 1) t.b || not (names c.n t.c)

  abbrev repeats : Bool
  repeats = already_joined (read_so_far c w₀ p (edge-ends e) lower).case (c.m + e) (nat_abs t.b) (nat_abs t.c)

  ends-shape : first_refusal (OutOfRange when out ∷ EndsNotAscending when (not (lt_z t.b t.c)) ∷ EdgeRepeated when repeats ∷ [])
      ≡ first_refusal (rest_tests c w₀ p (edge-ends e) lower t)
  ends-shape =
      let n : c.n ≡ c.n + 1 - 1 = omega arith in
      ap (λ (n : ℕ). first_refusal (OutOfRange when (not (names (c.m + e) t.a) || outside (c.n + 1) t.b || not (names n t.c))
      ∷ EndsNotAscending when (not (lt_z t.b t.c)) ∷ EdgeRepeated when repeats ∷ [])) n

  upper-named : out ≡ false → nat_abs t.c ≡ c.n
  upper-named h = let (a, b) = simp (tests, T-eq) at h in ap nat_abs b

  pub ends-joined : e ≤ length lower → out ≡ false → lt_z t.b t.c ≡ true → (b : Bool)
      → (joined_before c.lower c.upper c.m (nat_abs t.b) c.n || end_before lower e (nat_abs t.b)) ≡ b
      → first_refusal (EdgeRepeated when b ∷ []) ≡ first_refusal (rest_tests c w₀ p (edge-ends e) lower t)
  ends-joined few h g b q =
      let r : repeats ≡ b = ap (already_joined (read_so_far c w₀ p (edge-ends e) lower).case (c.m + e) (nat_abs t.b)) (upper-named h)
      ∙ joined_is c w₀ p e lower few (nat_abs t.b) ∙ q in
      sym (rw (h, g, r)) ∙ ends-shape

  pub lower-inside : out ≡ false → outside (c.n + 1) t.b ≡ false
  lower-inside h = second-off (not (names (c.m + e) t.a)) (outside (c.n + 1) t.b) (not (names c.n t.c)) h

  inside : first_refusal (rest_tests c w₀ p (edge-ends e) lower t) ≡ None → outside (c.n + 1) t.b ≡ false
  inside h = lower-inside (first_off (OutOfRange when out) (EndsNotAscending when (not (lt_z t.b t.c)) ∷ EdgeRepeated when repeats ∷ []) (ends-shape ∙ h))

-- ---- a line that is taken: its weight waits as the definition says, and its lower end, which is a byte, is kept

below_more : (n k : ℕ) (z : ℤ) → n ≤ k → outside n z ≡ false → outside k z ≡ false
below_more n k (pos a) h e = is_false (outside k (pos a)) (let q = simp tests at e in simp tests (omega arith, omega arith))
below_more n k (negsuc a) h e = absurd (true≢false e)

module _ (c : Case) (w₀ : List ℤ) (p : ℕ) (lower : List ℕ) (t : Line) where
  lower-taken : Placed c (length w₀) p → (x : CaseDue) → first_refusal (rest_tests c w₀ p x lower t) ≡ None → lower_stored x t lower ≡ lower_kept x t lower
  lower-taken h (variable-weight i k) e = refl
  lower-taken h (edge-weight f k l) e = refl
  lower-taken h (edge-ends f) e = rw (below_more (c.n + 1) 256 t.b (omega (arith, variables-fit h)) (inside c w₀ p f lower t e))

  module _ (x : CaseDue) (h : has_place c (length w₀) p x ≡ true) where
    pub lower-kept : line_refusal c w₀ p x lower t ≡ None → lower_with c (length w₀) p x lower t ≡ lower_kept x t lower
    lower-kept e = rw h (lower-taken (placed-known c p (length w₀) x h).0 x (rest-none (off c w₀ p lower t x) (sym split ∙ e)))
      where
        split : line_refusal c w₀ p x lower t ≡ first_refusal (NotDue when (off c w₀ p lower t x) ∷ rest_tests c w₀ p x lower t)
        split = refusal_is c w₀ p lower t x ∙ rw h

        rest-none : (b : Bool) → first_refusal (NotDue when b ∷ rest_tests c w₀ p x lower t) ≡ None → first_refusal (rest_tests c w₀ p x lower t) ≡ None
        rest-none true e = let z : ◌≡◌ {A = ℕ} 0 1 = cc in absurd (omega arith)
        rest-none false e = e
