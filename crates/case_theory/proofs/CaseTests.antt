-- Which lines pass the tests of a case file, and that a case is valid just where the lines of all its dues do. Assumes nothing.
use mathlib.Core.Path.{◌≡◌, refl, sym, ap, subst, ◌∙◌}
use mathlib.Core.Bool.{Bool, true, false, not, ◌&&◌, ◌||◌, and-true, and-false, or-false}
use mathlib.Core.Logic.{◌↔◌, ⊎_elim}
use mathlib.Core.List.{List, [], ◌∷◌}
use Prim.Native.Nat.{ℕ, ◌+◌, ◌-◌, ◌≤◌, ◌<◌, ◌^◌}
use native.Mathlib.Omega.{arith}
use lib.IntN.{ℤ, pos, negsuc, nat_abs}
use lib.Dec.{T, T_not, eqb, eqb_refl, ltb→lt, leb→le}
use lib.Signed.{le_z, lt_z}
use lib.ListN.{length, get_or}
use lib.Seq.{get_or-set_other}
use Rattle.std.specs.Prelude.{if◌then◌else◌, Option, Some, None, is_some}
use Rattle.integers.specs.Words.{all, eq_z, within_z, minus}
use Rattle.integers.specs.Tests.{tests, if-false, if-cases, and_intro, or_left, or_right, or_cases, not-not-iff}
use Rattle.integers.specs.Linear.{flat, zs, ◌▸◌, T-eq}
use Rattle.integers.specs.Options.{none-some}
use Rattle.definitions.specs.declared.Case.{Case}
use Rattle.definitions.specs.declared.Line.{Line}
use Rattle.definitions.specs.Rules.{Rules, Coherent}
use Rattle.definitions.proofs.RulesLaws.{rules-fit}
use Rattle.definitions.specs.Refusals.{Test, first_refusal}
use Rattle.definitions.specs.Case.{lower_end, upper_end, weight, own_length, lent_length, is_barred, wholly_barred}
use Rattle.definitions.specs.Valid.{in_starting, starting_weight, zeros_from}
use Rattle.definitions.specs.Lines.{line, is_kind, not_due, line_too_wide}
use Rattle.definitions.specs.CaseFiles.{head_line, CaseDue, variable-weight, edge-ends, edge-weight, due_tests, head_tests}
use Rattle.definitions.specs.CaseFiles.{Reading, took, weight_line, bars, weight_in}
use Rattle.theory.proofs.Words.{none_below}
use Rattle.theory.proofs.Validity.{none-applies, not-and-iff, own-lent, Valid}
use Rattle.theory.proofs.Places.{variable-tuple, edge-tuple, by-scope, by-tuple}
use Rattle.theory.proofs.Barred.{in-range-free}
use Rattle.theory.proofs.Rounds.{within-most, line-fits}
use Rattle.case_theory.proofs.CaseDues.{line_of, IsDue, line_for}

-- ---- what the lines of case files need of the rules: a line is due if it is of its kind, with 0 in the columns that the kind does not use, and
-- the number of a barred tuple is no starting weight
pub record CaseKinds (r : Rules) : Type 0 where
  pub head-due : (l : Line) → not_due r (10 ∷ []) l ≡ not (is_kind 10 l && eq_z l.amount (pos 0))
  pub variable-due : (l : Line) → not_due r (11 ∷ 14 ∷ []) l
      ≡ not (eq_z l.c (pos 0) && (is_kind 11 l || (is_kind 14 l && eq_z l.amount (pos 0))))
  pub ends-due : (l : Line) → not_due r (12 ∷ []) l ≡ not (is_kind 12 l && eq_z l.amount (pos 0))
  pub edge-due : (l : Line) → not_due r (13 ∷ 15 ∷ []) l ≡ not (is_kind 13 l || (is_kind 15 l && eq_z l.amount (pos 0)))
  pub starting-free : (z : ℤ) → T (in_starting r z) → T (not (is_barred z))

in_both : (x y c z : Bool) → ((x && c) || (y && (c && z))) ≡ (c && (x || (y && z)))
in_both x y true z = simp and-true
in_both x y false z = simp and-false

pub case-kinds : {r : Rules} → Coherent r → CaseKinds r
case-kinds {r} coherent = record {
  head-due = λ l. rw coherent.known-kinds (simp (and-false, and-true, or-false));
  variable-due = λ l. rw coherent.known-kinds (simp (and-false, and-true, or-false)
      (ap not (in_both (is_kind 11 l) (is_kind 14 l) (eq_z l.c (pos 0)) (eq_z l.amount (pos 0)))));
  ends-due = λ l. rw coherent.known-kinds (simp (and-false, and-true, or-false));
  edge-due = λ l. rw coherent.known-kinds (simp (and-false, and-true, or-false));
  starting-free = λ z t. in-range-free coherent z ((rules-fit coherent).starting ▸ t ▸ simp flat (omega zs));
}

-- ---- which lines pass the tests of a due
is_none : {A : Type 0} (o : Option A) → o ≡ None ↔ T (not (is_some o))
is_none None = (λ e. tt, λ t. refl)
is_none (Some a) = (λ e. absurd (none-some (sym e)), λ t. absurd t)

pub passes : (ts : List Test) → first_refusal ts ≡ None ↔ T (all (λ t. not t.applies) ts)
passes ts = (λ e. (none-applies ts).0 ((is_none (first_refusal ts)).0 e), λ t. (is_none (first_refusal ts)).1 ((none-applies ts).1 t))

-- of what is read, this line included
abbrev pub Good : Rules → Reading → CaseDue → Line → Type 0
Good r g (variable-weight i k) t = T (bars t || in_starting r t.amount) × (k + 1 ≡ g.case.d → T (not (wholly_barred g.case g.table i)))
Good r g (edge-ends e) t = (nat_abs t.b < nat_abs t.c) × (nat_abs t.c < g.case.n)
    × ((f : ℕ) → f < e → lower_end g.case f ≡ nat_abs t.b → upper_end g.case f ≡ nat_abs t.c → ⊥)
Good r g (edge-weight e k l) t = T (bars t || in_starting r t.amount)
    × ((k + 1 ≡ g.case.d) × (l + 1 ≡ g.case.d) → T (not (wholly_barred g.case g.table (g.case.n + e))))

-- tests of two parts
not-both : (a b : Bool) → T (not (not a && not b)) ↔ T (a || b)
not-both true b = (λ t. t, λ t. t)
not-both false b = not-not-iff b

not-if : (a b : Bool) → T (not (a && b)) ↔ (T a → T (not b))
not-if true b = (λ t s. t, λ f. f tt)
not-if false b = (λ t s. absurd s, λ f. tt)

-- numbers from 0 on
nat-of : (z : ℤ) → T (le_z (pos 0) z) → z ≡ pos (nat_abs z)
nat-of (pos n) t = refl
nat-of (negsuc n) t = absurd t

nat-less : (a b : ℤ) → T (le_z (pos 0) a) → T (lt_z a b) → nat_abs a < nat_abs b
nat-less (pos a) (pos b) t u = ltb→lt a b u
nat-less (pos a) (negsuc b) t u = absurd u
nat-less (negsuc a) b t u = absurd t

-- a line is its columns
line-is : (t : Line) {k a b c z : ℤ} → t.kind ≡ k → t.a ≡ a → t.b ≡ b → t.c ≡ c → t.amount ≡ z → t ≡ record { kind = k; a = a; b = b; c = c; amount = z }
line-is t {k} {a} {b} {c} {z} p q r s u =
    let e : ◌≡◌ {A = Line} (record { kind = t.kind; a = t.a; b = t.b; c = t.c; amount = t.amount })
    (record { kind = k; a = a; b = b; c = c; amount = z }) = cc in e

-- ---- the two kinds of a weight's line, of which one bars
weight-columns : (kind barring : ℕ) (a b c z : ℤ) → let l = weight_line kind barring a b c z in
    (l.a ≡ a) × (l.b ≡ b) × (l.c ≡ c) × T (is_kind kind l || (is_kind barring l && eq_z l.amount (pos 0)))
weight-columns kind barring a b c z = go (is_barred z)
  where
    go : (t : Bool) → let l = if t then line barring a b c (pos 0) else line kind a b c z in
        (l.a ≡ a) × (l.b ≡ b) × (l.c ≡ c) × T (is_kind kind l || (is_kind barring l && eq_z l.amount (pos 0)))
    go true = (refl, refl, refl, or_right (eqb barring kind) _ (and_intro (eqb barring barring) true (eqb_refl barring) tt))
    go false = (refl, refl, refl, or_left (eqb kind kind) _ (eqb_refl kind))

module _ (kind barring : ℕ) (plain : (eqb kind 14 || eqb kind 15) ≡ false) (barred : (eqb barring 14 || eqb barring 15) ≡ true) where
  pub weight-range : (r : Rules) (a b c z : ℤ) → let l = weight_line kind barring a b c z in (bars l || in_starting r l.amount) ≡ starting_weight r z
  weight-range r a b c z = go (is_barred z)
    where
      go : (t : Bool) → let l = if t then line barring a b c (pos 0) else line kind a b c z in (bars l || in_starting r l.amount) ≡ (t || in_starting r z)
      go true = rw barred
      go false = rw plain

  -- the shape of a line that passes
  weight-shape : {r : Rules} → CaseKinds r → (t : Line) {a b c : ℤ} → t.a ≡ a → t.b ≡ b → t.c ≡ c → T (bars t || in_starting r t.amount)
      → T (is_kind kind t || (is_kind barring t && eq_z t.amount (pos 0))) → t ≡ weight_line kind barring a b c (weight_in t)
  weight-shape {r} kinds t {a} {b} {c} p q s range due = ⊎_elim
      (λ u.
      let k : t.kind ≡ pos kind = (T-eq t.kind (pos kind)).0 u in
      let o : bars t ≡ false = ap (λ (k : ℤ). eq_z k (pos 14) || eq_z k (pos 15)) k ∙ plain in
      line-is t k p q s refl ∙ rw o (sym (if-false _ _ (is_barred t.amount) (kinds.starting-free t.amount (rw o at range)))))
      (λ u.
      let (v, z) = simp (tests, T-eq) at u in
      let o : bars t ≡ true = ap (λ (k : ℤ). eq_z k (pos 14) || eq_z k (pos 15)) v ∙ barred in
      line-is t v p q s z ∙ rw o)
      (or_cases (is_kind kind t) (is_kind barring t && eq_z t.amount (pos 0)) due)

module _ {r : Rules} (kinds : CaseKinds r) (g : Reading) where
  pub passed : (due : CaseDue) (t : Line) → first_refusal (due_tests r g due (Some t)) ≡ None → (t ≡ line_for due t) × Good r (took g due (Some t)) due t
  passed (variable-weight i k) t e =
      let ((z, p), ((a, b), (h, (o, u)))) =
      simp (kinds.variable-due, tests, not-both, not-if, T-eq) at ((passes (due_tests r g (variable-weight i k) (Some t))).0 e) in
      (weight-shape 11 14 refl refl kinds t a b z h p, (h, o))
  passed (edge-ends x) t e =
      let ((p, z), (((a, (b, bn)), (v, vn)), (l, (o, u)))) =
      simp (kinds.ends-due, tests, T-eq, not-and-iff, none_below) at ((passes (due_tests r g (edge-ends x) (Some t))).0 e) in (
        line-is t p a (nat-of t.b b) (nat-of t.c v) z,
        (
          nat-less t.b t.c b l,
          nat-less t.c (pos g.case.n) v vn,
          λ f h q s.
              o f h (sym (get_or-set_other g.case.lower x f (nat_abs t.b) 0 (λ n. omega arith)) ∙ q)
              (sym (get_or-set_other g.case.upper x f (nat_abs t.c) 0 (λ n. omega arith)) ∙ s),
        ),
      )
  passed (edge-weight y k l) t e =
      let (p, (((a, b), v), (h, (o, u)))) =
      simp (kinds.edge-due, tests, not-both, not-if, T-eq) at ((passes (due_tests r g (edge-weight y k l) (Some t))).0 e) in
      (weight-shape 13 15 refl refl kinds t a b v h p, (h, o))

  pub good-passes : (k : Case) (w : List ℤ) (due : CaseDue) → Good r (took g due (Some (line_of k w due))) due (line_of k w due)
      → first_refusal (due_tests r g due (Some (line_of k w due))) ≡ None
  good-passes k w (variable-weight i a) (h, o) =
      let (p, q, s, d) = weight-columns 11 14 (pos i) (pos a) (pos 0) (weight k w i a 0) in
      (passes (due_tests r g (variable-weight i a) (Some (line_of k w (variable-weight i a))))).1
      (simp (kinds.variable-due, tests, not-both, not-if, T-eq) ((s, d), ((p, q), (h, (o, tt)))))
  good-passes k w (edge-ends e) (u, v, o) = (passes (due_tests r g (edge-ends e) (Some (line_of k w (edge-ends e))))).1
      (simp (kinds.ends-due, tests, not-and-iff, none_below) (
        (refl, refl),
        (
          ((refl, (omega arith, omega arith)), (omega arith, v)),
          (
            u,
            (
              λ f h q s.
                  o f h (get_or-set_other g.case.lower e f (lower_end k e) 0 (λ n. omega arith) ∙ q)
                  (get_or-set_other g.case.upper e f (upper_end k e) 0 (λ n. omega arith) ∙ s),
              tt,
            ),
          ),
        ),
      ))
  good-passes k w (edge-weight e a b) (h, o) =
      let (p, q, s, d) = weight-columns 13 15 (pos e) (pos a) (pos b) (weight k w (k.n + e) a b) in
      (passes (due_tests r g (edge-weight e a b) (Some (line_of k w (edge-weight e a b))))).1
      (simp (kinds.edge-due, tests, not-both, not-if, T-eq) (d, (((p, q), s), (h, (o, tt)))))

-- ---- a valid case is within the limits, and its lines pass

pub record Limited (r : Rules) (n d m : ℕ) : Type 0 where
  pub some-variable : 0 < n
  pub variables-most : n ≤ r.variables
  pub some-value : 0 < d
  pub values-most : d ≤ r.values
  pub edges_most : m ≤ r.edges

module _ {r : Rules} {c : Case} {w : List ℤ} where
  pub valid-limits : Valid r c w → Limited r c.n c.d c.m
  valid-limits v = record {
    some-variable = v.shape.some-variable;
    variables-most = v.variables-most;
    some-value = v.shape.some-value;
    values-most = v.values-most;
    edges_most = v.edges_most;
  }

  pub valid-good : Valid r c w → (due : CaseDue) → IsDue c.n c.d c.m due → Good r (record { case = c; table = w }) due (line_of c w due)
  valid-good v (variable-weight i k) (h, g) = (
    subst T (sym (weight-range 11 14 refl refl r (pos i) (pos k) (pos 0) (weight c w i k 0))) (v.in-range i k 0 (variable-tuple c i k h g)),
    λ e. v.some-free i (omega arith),
  )
  valid-good v (edge-ends e) h = (v.shape.ascending e h, v.shape.below-n e h, λ f u p q. v.apart e f h u (sym p) (sym q))
  valid-good v (edge-weight e k l) (h, g, u) = (
    subst T (sym (weight-range 13 15 refl refl r (pos e) (pos k) (pos l) (weight c w (c.n + e) k l))) (v.in-range (c.n + e) k l (edge-tuple c e k l h g u)),
    λ q. v.some-free (c.n + e) (omega arith),
  )

  pub good-valid : Limited r c.n c.d c.m → length w ≡ lent_length r c → T (within_z (minus r.carried) (pos r.carried) c.carry)
      → T (zeros_from (own_length c) w)
      → ((due : CaseDue) → IsDue c.n c.d c.m due → Good r (record { case = c; table = w }) due (line_of c w due)) → Valid r c w
  good-valid h long carry zeros good = record {
    variables-most = h.variables-most;
    values-most = h.values-most;
    edges_most = h.edges_most;
    long = long;
    own-fits = omega (arith, own-lent r c h.variables-most h.edges_most);
    carry-in = carry;
    shape = record {
      some-variable = h.some-variable;
      some-value = h.some-value;
      ascending = λ e u. (good (edge-ends e) u).0;
      below-n =
          λ e u. (good (edge-ends e) u).1;
    };
    apart = λ e f u v p q. (good (edge-ends e) u).2 f v (sym p) (sym q);
    in-range = λ x k l. by-tuple c (λ x k l. T (starting_weight r (weight c w x k l)))
        (λ i k u v. subst T (weight-range 11 14 refl refl r (pos i) (pos k) (pos 0) (weight c w i k 0)) (good (variable-weight i k) (u, v)).0)
        (λ e k l u v q. subst T (weight-range 13 15 refl refl r (pos e) (pos k) (pos l) (weight c w (c.n + e) k l)) (good (edge-weight e k l) (u, v, q)).0);
    past = zeros;
    some-free = by-scope c (λ x. T (not (wholly_barred c w x)))
        (λ i u. (good (variable-weight i (c.d - 1)) (u, omega (arith, h.some-value))).1 (omega (arith, h.some-value)))
        (λ e u. let l : c.d - 1 < c.d = omega (arith, h.some-value) in let o : c.d - 1 + 1 ≡ c.d = omega (arith, h.some-value) in
        (good (edge-weight e (c.d - 1) (c.d - 1)) (u, l, l)).1 (o, o));
  }

  -- every line fits its columns
  module _ (coherent : Coherent r) (v : Valid r c w) where
    weight-fits : (kind barring a b c : ℕ) (z : ℤ) → kind < 10 ^ 2 → barring < 10 ^ 2 → a < 10 ^ 4 → b < 10 ^ 4 → c < 10 ^ 4 → T (starting_weight r z)
        → line_too_wide r.amount_width (weight_line kind barring (pos a) (pos b) (pos c) z) ≡ false
    weight-fits kind barring a b c z hk hr ha hb hc t = if-cases (λ l. line_too_wide r.amount_width l ≡ false) (is_barred z) _ _
        (λ o. line-fits coherent barring a b c (pos 0) hr ha hb hc (omega (arith, coherent.moving-fits)))
        (λ o. line-fits coherent kind a b c z hk ha hb hc
        (omega (
          arith,
          small (⊎_elim (λ s. absurd (T_not (is_barred z) o s)) (λ s. s) (or_cases (is_barred z) (in_starting r z) t)),
          (rules-fit coherent).starting,
          coherent.difference,
          coherent.moving-fits,
        )))
      where
        small : T (in_starting r z) → nat_abs z ≤ r.starting
        small = simp tests (λ p. within-most r.starting z (record { le = p.0 }) (record { le = p.1 }))

    pub due-fits : (due : CaseDue) → IsDue c.n c.d c.m due → line_too_wide r.amount_width (line_of c w due) ≡ false
    due-fits (variable-weight i k) (h, g) = weight-fits 11 14 i k 0 (weight c w i k 0) (omega arith) (omega arith) (omega arith) (omega arith) (omega arith)
        (v.in-range i k 0 (variable-tuple c i k h g))
    due-fits (edge-ends e) h = let (u, o, p) = valid-good v (edge-ends e) h in
        line-fits coherent 12 e (lower_end c e) (upper_end c e) (pos 0) (omega arith) (omega arith) (omega arith) (omega arith) (omega arith)
    due-fits (edge-weight e k l) (h, g, u) = weight-fits 13 15 e k l (weight c w (c.n + e) k l) (omega arith) (omega arith) (omega arith) (omega arith)
        (omega arith) (v.in-range (c.n + e) k l (edge-tuple c e k l h g u))

    pub head-fits : line_too_wide r.amount_width (head_line c) ≡ false
    head-fits = line-fits coherent 10 c.n c.d c.m (pos 0) (omega arith) (omega arith) (omega arith) (omega arith) (omega arith)

-- ---- a case with other ends past its edges, and another carry

abbrev pub remade : Case → List ℕ → List ℕ → ℤ → Case
remade c lower upper carry = record { n = c.n; d = c.d; m = c.m; lower = lower; upper = upper; carry = carry; rulebook = c.rulebook }

pub zero-carried : (r : Rules) → T (within_z (minus r.carried) (pos r.carried) (pos 0))
zero-carried r = simp flat (omega zs)

pub valid-remade : {r : Rules} {c : Case} {w : List ℤ} → Valid r c w → (lower upper : List ℕ) {carry : ℤ}
    → ((e : ℕ) → e < c.m → get_or lower e 0 ≡ lower_end c e) → ((e : ℕ) → e < c.m → get_or upper e 0 ≡ upper_end c e)
    → T (within_z (minus r.carried) (pos r.carried) carry) → Valid r (remade c lower upper carry) w
valid-remade {r} {c} {w} v lower upper {carry} x y carried = good-valid (valid-limits v) v.long carried v.past good
  where
    good : (due : CaseDue) → IsDue c.n c.d c.m due
        → Good r (record { case = remade c lower upper carry; table = w }) due (line_of (remade c lower upper carry) w due)
    good (variable-weight i j) h = valid-good v (variable-weight i j) h
    good (edge-weight e j l) h = valid-good v (edge-weight e j l) h
    good (edge-ends e) h =
        let (a, b, o) = valid-good v (edge-ends e) h in (
          omega (arith, a, x e h, y e h),
          omega (arith, b, y e h),
          λ f u p q. o f u (sym (x f (omega arith)) ∙ p ∙ x e h) (sym (y f (omega arith)) ∙ q ∙ y e h),
        )

-- ---- which lines pass the tests of the head
within-nat : (low high : ℕ) (z : ℤ) → T (le_z (pos low) z) → T (le_z z (pos high)) → (z ≡ pos (nat_abs z)) × (low ≤ nat_abs z) × (nat_abs z ≤ high)
within-nat low high (pos n) t u = (refl, leb→le low n t, leb→le n high u)
within-nat low high (negsuc n) t u = absurd t

module _ {r : Rules} (kinds : CaseKinds r) where
  pub head_passed : (t : Line) → first_refusal (head_tests r (Some t)) ≡ None
      → (t ≡ line 10 (pos (nat_abs t.a)) (pos (nat_abs t.b)) (pos (nat_abs t.c)) (pos 0)) × Limited r (nat_abs t.a) (nat_abs t.b) (nat_abs t.c)
  head_passed t e =
      let ((p, z), ((((al, au), (bl, bu)), (cl, cu)), o)) = simp (kinds.head-due, tests, T-eq) at ((passes (head_tests r (Some t))).0 e) in
      let a = within-nat 1 r.variables t.a al au in
      let b = within-nat 1 r.values t.b bl bu in
      let c = within-nat 0 r.edges t.c cl cu in
      (line-is t p a.0 b.0 c.0 z, record { some-variable = a.1; variables-most = a.2; some-value = b.1; values-most = b.2; edges_most = c.2 })

  pub head-passes : (c : Case) → Limited r c.n c.d c.m → first_refusal (head_tests r (Some (head_line c))) ≡ None
  head-passes c h = (passes (head_tests r (Some (head_line c)))).1
      (simp (kinds.head-due, tests) (
        (refl, refl),
        (
          (((h.some-variable, h.variables-most), (h.some-value, h.values-most)), (omega arith, h.edges_most)),
          tt,
        ),
      ))
