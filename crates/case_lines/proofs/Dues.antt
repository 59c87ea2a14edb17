-- What is due at each line after the head. Assumes nothing.
use mathlib.Core.Path.{◌≡◌, refl, sym, ap, ap₂, subst, ◌∙◌}
use mathlib.Core.List.{List, ◌∷◌, ◌++◌, map}
use Prim.Native.Nat.{ℕ, zero, suc, ◌+◌, ◌*◌, ◌-◌, ◌/◌, ◌%◌, ◌≤◌, ◌<◌}
use native.Mathlib.Nat.{mod-lt, mod-eq_of_lt, div-eq_of_lt, mul-add-div_right, mul-add-mod_self_right, mul-le-mul, mul-le-mul_right}
use native.Mathlib.Omega.{arith}
use mathlib.Core.Logic.{◌≢◌, ⊎_elim}
use mathlib.Core.Bool.{true}
use lib.Dec.{ltb, ltb→lt, lt→ltb, nltb→le}
use Rattle.integers.specs.Tests.{either, if-cases, if-true}
use lib.ListN.{length, get_or, length-append, get_or-append}
use lib.Seq.{get_or-append-add}
use borrow.Author.Tests.{lt-ltb, le-ltb, eq-eqb, ne_eqb}
use Rattle.std.specs.Prelude.{if◌then◌else◌}
use Rattle.integers.specs.Words.{below, joined}
use Rattle.integers.specs.Tables.{length-tab, get_d-tab, length-rows, get_d-rows-at}
use Rattle.definitions.specs.Rules.{rules_in, coherent, edge_places}
use Rattle.definitions.specs.declared.Rulebook.{Rulebook}
use Rattle.definitions.specs.CaseFiles.{CaseDue, variable-weight, edge-ends, edge-weight, dues, case_of}
use Rattle.case_lines.specs.declared.Sizes.{Sizes}
use Rattle.case_lines.specs.declared.Awaited.{Awaited}
use Rattle.case_lines.specs.declared.Awaited.TheVariants.{VariableWeight, EdgeEnds, EdgeWeight}
use Rattle.case_lines.specs.Dues.{bytes_of_line, due_awaited, InCase, AtLine, SizesLimited, edge_due, edge_due_at, due_at, lines_due}
use Rattle.case_lines.specs.Dues.{is_plain, first_due, next_variable, next_tuple, next_due, count_due, weight_place, places_of}
use Rattle.case_lines.proofs.Tests.{plain_known, limited-plain, has-value, has-tuple}

some-wide : (a b q : ℕ) → q < a * b → 0 < b
some-wide a zero q h = absurd (omega arith)
some-wide a (suc b) q h = omega arith

module _ (n d m : ℕ) where
  variable-dues : ℕ → List CaseDue
  variable-dues i = map (variable-weight i) (below d)

  row : ℕ → ℕ → List CaseDue
  row e k = map (edge-weight e k) (below d)

  edge-dues : ℕ → List CaseDue
  unfolding row
  edge-dues e = edge-ends e ∷ joined (map (row e) (below d))

  variable-length : (i : ℕ) → length (variable-dues i) ≡ d
  unfolding variable-dues
  variable-length i = length-tab (variable-weight i) 0 d

  row-length : (e k : ℕ) → length (row e k) ≡ d
  unfolding row
  row-length e k = length-tab (edge-weight e k) 0 d

  edge-length : (e : ℕ) → length (edge-dues e) ≡ 1 + d * d
  unfolding edge-dues
  edge-length e = ap suc (length-rows (row e) d d (λ k h. row-length e k)) ∙ omega arith

  -- in an edge's lines
  at_edge : (e p : ℕ) (z : CaseDue) → p < 1 + d * d → get_or (edge-dues e) p z ≡ edge_due d e p
  unfolding edge-dues row
  at_edge e zero z h = refl
  at_edge e (suc p) z h =
      let k : suc p - 1 ≡ p = omega arith in
      let g : p < d * d = omega arith in
      get_d-rows-at (row e) d d (λ k h. row-length e k) p z g
      ∙ get_d-tab (edge-weight e (p / d)) d (p % d) z (mod-lt p (some-wide d d p g))
      ∙ rw (k, ne_eqb (suc p) 0 (λ z. omega arith))

  front : List CaseDue
  front = joined (map variable-dues (below n))

  back : List CaseDue
  back = joined (map edge-dues (below m))

  front_length : length front ≡ n * d
  unfolding front
  front_length = length-rows variable-dues n d (λ i h. variable-length i)

  back-length : length back ≡ m * (1 + d * d)
  unfolding back
  back-length = length-rows edge-dues m (1 + d * d) (λ e h. edge-length e)

  at_front : (q : ℕ) (z : CaseDue) → q < n * d → get_or front q z ≡ variable-weight (q / d) (q % d)
  unfolding front variable-dues
  at_front q z h = get_d-rows-at variable-dues n d (λ i h. variable-length i) q z h
      ∙ get_d-tab (variable-weight (q / d)) d (q % d) z (mod-lt q (some-wide n d q h))

  at_back : (p : ℕ) (z : CaseDue) → p < m * (1 + d * d) → get_or back p z ≡ edge_due_at d p
  unfolding back
  at_back p z h = get_d-rows-at edge-dues m (1 + d * d) (λ e h. edge-length e) p z h
      ∙ at_edge (p / (1 + d * d)) (p % (1 + d * d)) z (mod-lt p {m = 1 + d * d} (omega arith))

  dues-are : (b : Rulebook) → dues (case_of b n d m) ≡ front ++ back
  unfolding front back variable-dues edge-dues row
  dues-are b = refl

module _ (s : Sizes) where
  abbrev pub all_dues : List CaseDue
  all_dues = dues (case_of s.rulebook s.n s.d s.m)

  pub dues-length : length all_dues ≡ lines_due s
  dues-length =
      ap length (dues-are s.n s.d s.m s.rulebook) ∙ length-append (front s.n s.d s.m) (back s.n s.d s.m)
      ∙ omega (arith, front_length s.n s.d s.m, back-length s.n s.d s.m)

  pub dues-at : (q : ℕ) (z : CaseDue) → q < lines_due s → get_or all_dues q z ≡ due_at s q
  dues-at q z h =
      ap (λ ds. get_or ds q z) (dues-are s.n s.d s.m s.rulebook) ∙ ⊎_elim
      (λ t.
      let l : q < s.n * s.d = ltb→lt q (s.n * s.d) t in
      get_or-append (front s.n s.d s.m) (back s.n s.d s.m) z q (omega (arith, front_length s.n s.d s.m))
      ∙ at_front s.n s.d s.m q z l ∙ sym (rw (lt-ltb q (s.n * s.d) l)))
      (λ t.
      let l : s.n * s.d ≤ q = nltb→le q (s.n * s.d) t in
      let e : q ≡ length (front s.n s.d s.m) + (q - s.n * s.d) = omega (arith, front_length s.n s.d s.m) in
      ap (λ q. get_or (front s.n s.d s.m ++ back s.n s.d s.m) q z) e
      ∙ get_or-append-add (front s.n s.d s.m) (back s.n s.d s.m) (q - s.n * s.d) z
      ∙ at_back s.n s.d s.m (q - s.n * s.d) z (omega arith) ∙ sym (rw (le-ltb q (s.n * s.d) l)))
      (either (ltb q (s.n * s.d)))

-- the limits of coherent rules are few
pub sizes-few : (s : Sizes) → s.n ≤ (rules_in s.rulebook).variables → 1 ≤ s.d → s.d ≤ (rules_in s.rulebook).values → s.m ≤ (rules_in s.rulebook).edges
    → SizesLimited s
sizes-few s n some d m =
    let h = coherent s.rulebook in
    record {
      variables = n;
      some-value = some;
      values = d;
      edges = m;
      variables-few = omega (arith, n, h.variables-few);
      values-few = omega (arith, d, h.values-few);
      edges_placed = omega (arith, m, h.edges_placed);
    }

-- the most that plain bounds allow
abbrev pub most_weights : ℕ
most_weights = 256 * 8

abbrev pub most_square : ℕ
most_square = 8 * 8

abbrev pub most_lines : ℕ
most_lines = most_weights + (edge_places + edge_places * most_square)

module _ (s : Sizes) (p : is_plain s ≡ true) where
  pub values-few : s.n * s.d ≤ most_weights
  values-few = let (n, d, m) = plain_known s p in mul-le-mul n d

  pub square-few : s.d * s.d ≤ most_square
  square-few = let (n, d, m) = plain_known s p in mul-le-mul d d

  pub tuples-few : s.m * (s.d * s.d) ≤ edge_places * most_square
  tuples-few = let (n, d, m) = plain_known s p in mul-le-mul m square-few

  pub places-few : places_of s ≤ most_weights + edge_places * most_square
  places-few = omega (arith, values-few, tuples-few)

  pub lines-few : lines_due s ≤ most_lines
  lines-few = omega (arith, values-few, tuples-few, plain_known s p)

pub bytes-few : (b : Rulebook) (lines : ℕ) → lines ≤ most_lines + 1 → bytes_of_line b * lines ≤ (15 + 18) * (most_lines + 1)
bytes-few b lines h = mul-le-mul {n₁ = bytes_of_line b} {m₁ = lines} {n₂ = 15 + 18} {m₂ = most_lines + 1} (omega (arith, (coherent b).amount-fits)) h

-- ---- by the place of the line

module _ (s : Sizes) (q : ℕ) where
  due-variable : q < s.n * s.d → variable-weight (q / s.d) (q % s.d) ≡ due_at s q
  due-variable h = sym (rw (lt-ltb q (s.n * s.d) h))

  due_edge : s.n * s.d ≤ q → edge_due_at s.d (q - s.n * s.d) ≡ due_at s q
  due_edge h = sym (rw (le-ltb q (s.n * s.d) h))

module _ (d p : ℕ) where
  due-ends : p % (1 + d * d) ≡ 0 → edge-ends (p / (1 + d * d)) ≡ edge_due_at d p
  due-ends h = sym (rw (eq-eqb (p % (1 + d * d)) 0 h))

  due-weight : p % (1 + d * d) ≢ 0 → edge-weight (p / (1 + d * d)) ((p % (1 + d * d) - 1) / d) ((p % (1 + d * d) - 1) % d) ≡ edge_due_at d p
  due-weight h = sym (rw (ne_eqb (p % (1 + d * d)) 0 h))

-- ---- places

pub in_rows : (x n k d : ℕ) → x < n → k < d → x * d + k < n * d
in_rows x n k d h g = omega (arith, mul-le-mul_right {m = suc x} {n = n} d h)

-- an edge's place
pub in-squares : (e m k l d : ℕ) → e < m → k < d → l < d → (k * d + l < d * d) × (e * (d * d) + (k * d + l) < m * (d * d))
in-squares e m k l d h p q = (in_rows k d l d p q, in_rows e m (k * d + l) (d * d) h (in_rows k d l d p q))

-- ---- by what is due

row_at : (x k d : ℕ) → k < d → ((x * d + k) / d ≡ x) × ((x * d + k) % d ≡ k)
row_at x k d h = (rw (mul-add-div_right {m = d} (omega arith) x k, div-eq_of_lt h) (omega arith), mul-add-mod_self_right x d k ∙ mod-eq_of_lt h)

module _ (s : Sizes) (q : ℕ) where
  abbrev long : ℕ
  long = 1 + s.d * s.d

  abbrev past : ℕ
  past = q - s.n * s.d

  pub due-known : (a : Awaited) → AtLine s q a → (due_awaited a ≡ due_at s q) × InCase s a
  due-known (VariableWeight i k) (e, h, g) =
      let (p, r) = row_at i k s.d g in (
        ap₂ variable-weight (sym (ap (λ q. q / s.d) e ∙ p)) (sym (ap (λ q. q % s.d) e ∙ r)) ∙ due-variable s q (omega (arith, in_rows i s.n k s.d h g)),
        (h, g),
      )
  due-known (EdgeEnds e) (x, h) =
      let f : past ≡ e * long + 0 = omega arith in
      let (p, r) = row_at e 0 long (omega arith) in
      (ap edge-ends (sym (ap (λ p. p / long) f ∙ p)) ∙ due-ends s.d past (ap (λ p. p % long) f ∙ r) ∙ due_edge s q (omega arith), h)
  due-known (EdgeWeight e k l) (x, h, g, b) =
      let f : past ≡ e * long + (1 + (k * s.d + l)) = omega arith in
      let (p, r) = row_at e (1 + (k * s.d + l)) long (omega (arith, in_rows k s.d l s.d g b)) in
      let (u, v) = row_at k l s.d b in
      let m : past % long ≡ 1 + (k * s.d + l) = ap (λ p. p % long) f ∙ r in
      let t : past % long - 1 ≡ k * s.d + l = omega arith in (
        ap₂ (edge-weight e) (sym u) (sym v) ∙ ap₂ (λ x y. edge-weight x (y / s.d) (y % s.d)) (sym (ap (λ p. p / long) f ∙ p)) (sym t)
            ∙ due-weight s.d past (λ z. omega arith) ∙ due_edge s q (omega arith),
        (h, g, b),
      )

pub some-edge : (m x : ℕ) → 0 < m * x → 0 < m
some-edge zero x h = absurd (omega arith)
some-edge (suc m) x h = omega arith

pub no-edge-row : (n d : ℕ) → n ≤ 0 → n * d ≡ 0
no-edge-row zero d h = omega arith
no-edge-row (suc n) d h = absurd (omega arith)

-- ---- one after another

module _ (s : Sizes) (limited : SizesLimited s) where
  pub first-at : 0 < lines_due s → AtLine s 0 (first_due s)
  first-at h =
      if-cases
      (AtLine s 0)
      (ltb 0 s.n)
      (VariableWeight 0 0)
      (EdgeEnds 0)
      (λ t. (omega arith, ltb→lt 0 s.n t, limited.some-value))
      (λ t. let z : s.n * s.d ≡ 0 = no-edge-row s.n s.d (nltb→le 0 s.n t) in (omega arith, some-edge s.m (1 + s.d * s.d) (omega arith)))

  -- after the last line of a variable, and of an edge
  last-value : (i k q : ℕ) → AtLine s q (VariableWeight i k) → s.d ≤ k + 1 → s.n ≤ i + 1 → q + 1 < lines_due s → AtLine s (q + 1) (EdgeEnds 0)
  last-value i k q (e, h, g) p r l =
      let n : i + 1 ≡ s.n = omega arith in
      let x : (i + 1) * s.d ≡ s.n * s.d = ap (λ n. n * s.d) n in
      (omega arith, some-edge s.m (1 + s.d * s.d) (omega arith))

  last-tuple : (e k l q : ℕ) → AtLine s q (EdgeWeight e k l) → s.d ≤ l + 1 → s.d ≤ k + 1 → q + 1 < lines_due s → AtLine s (q + 1) (EdgeEnds (e + 1))
  last-tuple e k l q (x, h, g, b) p r f =
      let n : k + 1 ≡ s.d = omega arith in
      let y : (k + 1) * s.d ≡ s.d * s.d = ap (λ k. k * s.d) n in
      let z : q + 1 ≡ s.n * s.d + (e + 1) * (1 + s.d * s.d) = omega arith in (
        z,
        ⊎_elim
            (λ t. ltb→lt (e + 1) s.m t)
            (λ t. absurd (omega (arith, mul-le-mul_right {m = s.m} {n = e + 1} (1 + s.d * s.d) (nltb→le (e + 1) s.m t))))
            (either (ltb (e + 1) s.m)),
      )

  next-variable : (i k q : ℕ) → AtLine s q (VariableWeight i k) → q + 1 < lines_due s → AtLine s (q + 1) (next_variable s i k)
  next-variable i k q (e, h, g) l =
      if-cases
      (AtLine s (q + 1))
      (ltb (k + 1) s.d)
      (VariableWeight i (k + 1))
      (if ltb (i + 1) s.n then VariableWeight (i + 1) 0 else EdgeEnds 0)
      (λ t. (omega arith, h, ltb→lt (k + 1) s.d t))
      (λ t.
      let last = nltb→le (k + 1) s.d t in
      if-cases
      (AtLine s (q + 1))
      (ltb (i + 1) s.n)
      (VariableWeight (i + 1) 0)
      (EdgeEnds 0)
      (λ u. (omega (arith, last), ltb→lt (i + 1) s.n u, limited.some-value))
      (λ u. last-value i k q (e, h, g) last (nltb→le (i + 1) s.n u) l))

  next-tuple : (e k l q : ℕ) → AtLine s q (EdgeWeight e k l) → q + 1 < lines_due s → AtLine s (q + 1) (next_tuple s e k l)
  next-tuple e k l q (x, h, g, b) f =
      if-cases
      (AtLine s (q + 1))
      (ltb (l + 1) s.d)
      (EdgeWeight e k (l + 1))
      (if ltb (k + 1) s.d then EdgeWeight e (k + 1) 0 else (if ltb (e + 1) s.m then EdgeEnds (e + 1) else EdgeEnds 0))
      (λ t. (omega arith, h, g, ltb→lt (l + 1) s.d t))
      (λ t.
      let last = nltb→le (l + 1) s.d t in
      if-cases
      (AtLine s (q + 1))
      (ltb (k + 1) s.d)
      (EdgeWeight e (k + 1) 0)
      (if ltb (e + 1) s.m then EdgeEnds (e + 1) else EdgeEnds 0)
      (λ u. (omega (arith, last), h, ltb→lt (k + 1) s.d u, limited.some-value))
      (λ u.
      let z = last-tuple e k l q (x, h, g, b) last (nltb→le (k + 1) s.d u) f in
      subst (AtLine s (q + 1)) (sym (if-true (EdgeEnds (e + 1)) (EdgeEnds 0) (ltb (e + 1) s.m) (lt→ltb (e + 1) s.m z.1))) z))

  pub next-at : (a : Awaited) (q : ℕ) → AtLine s q a → q + 1 < lines_due s → AtLine s (q + 1) (next_due s a)
  next-at (VariableWeight i k) q h l = next-variable i k q h l
  next-at (EdgeEnds e) q (x, h) l = (omega arith, h, limited.some-value, limited.some-value)
  next-at (EdgeWeight e k l) q h f = next-tuple e k l q h f

  pub count-is : count_due s ≡ lines_due s
  count-is = rw (limited-plain s limited)

  -- what is due names places of the case, and its weight has a place
  module _ (p : ℕ) (due : Awaited) (placed : p ≡ weight_place s due) (known : InCase s due) where
    pub value-due : (i k : ℕ) → due ≡ VariableWeight i k → (i < s.n) × (k < s.d) × (p ≡ i * s.d + k) × (p < places_of s)
    value-due i k same =
        let (h, g) = subst (InCase s) same known in
        let e : p ≡ i * s.d + k = placed ∙ ap (weight_place s) same ∙ rw (has-value s limited i k h g) in
        (h, g, e, omega (arith, e, in_rows i s.n k s.d h g))

    pub tuple-due : (e k l : ℕ) → due ≡ EdgeWeight e k l
        → (e < s.m) × (k < s.d) × (l < s.d) × (p ≡ s.n * s.d + (e * (s.d * s.d) + (k * s.d + l))) × (p < places_of s)
    tuple-due e k l same =
        let (h, g, f) = subst (InCase s) same known in
        let x : p ≡ s.n * s.d + (e * (s.d * s.d) + (k * s.d + l)) = placed ∙ ap (weight_place s) same ∙ rw (has-tuple s limited e k l h g f) in
        (h, g, f, x, omega (arith, x, in-squares e s.m k l s.d h g f))
