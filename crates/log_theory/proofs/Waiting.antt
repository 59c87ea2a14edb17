-- The weights of a join that wait past the own places of a starting table, beside the plain reading of the join's lines: what is read so far, and
-- a line more. Assumes nothing.
use mathlib.Core.Path.{◌≡◌, refl, sym, ap, ap₂, subst, ◌∙◌}
use mathlib.Core.Bool.{true, true≢false}
use mathlib.Core.Logic.{◌≢◌, ⊎_elim}
use mathlib.Core.List.{List, [], ◌∷◌, ◌++◌, map, append-nil, append_assoc}
use Prim.Native.Nat.{ℕ, suc, ◌+◌, ◌-◌, ◌≤◌, ◌<◌}
use native.Mathlib.Omega.{arith}
use lib.IntN.{ℤ, pos, nat_abs}
use lib.Dec.{T, eqb, ltb, leb, eqb→eq, eqb_refl, ltb→lt, nltb→le, le→leb}
use lib.ListN.{length, get_or, take, set, replicate, length-append, length-replicate, length-set, replicate-append-replicate}
use lib.Seq.{get_or-set_same, get_or-set_other, get_or-drop, set-append_seam, take-suc-set, length-take-le, take-set-le}
use Rattle.std.specs.Prelude.{if◌then◌else◌, Some, None}
use Rattle.integers.specs.Words.{below}
use Rattle.integers.specs.Tests.{tests, is_true, either, if-true, if-false, or_left, or_right, eqb-iff, not-eqb-iff}
use Rattle.integers.specs.Linear.{T-eq}
use Rattle.integers.specs.Tables.{length-tab}
use Rattle.definitions.specs.declared.Case.{Case}
use Rattle.definitions.specs.declared.Line.{Line}
use Rattle.definitions.specs.Rules.{rules_of, coherent, edge_places}
use Rattle.definitions.specs.Refusals.{first_refusal}
use Rattle.definitions.specs.Case.{lower_end, upper_end, place, own_length, lent_length, weight}
use Rattle.definitions.specs.Valid.{zeros_from}
use Rattle.definitions.specs.CaseFiles.{CaseDue, variable-weight, edge-ends, edge-weight, Reading, took, weight_in, zeroed_from}
use Rattle.definitions.specs.Moves.{Difference}
use Rattle.definitions.proofs.CaseLaws.{place-own}
use Rattle.logs.specs.Leave.{in_places}
use Rattle.logs.specs.Join.{grown_case, is_new, scope_ungrown, begun_join, join_line_tests}
use Rattle.logs.specs.Waiting.{small_case, renumbered, new_scope, ends_read, weights_read, waiting_weights, read_so_far, weight_waits, lower_kept}
use Rattle.theory.proofs.Places.{IsTuple, by-tuple, variable-tuple, edge-tuple, place-apart, same-table, table-cong}
use Rattle.theory.proofs.Full.{full-weight, full-long, full-past}
use Rattle.theory.proofs.Words.{none_below}
use Rattle.theory.proofs.Validity.{own-lent, not-and-iff}
use Rattle.theory.proofs.Join.{grown_scope, grown-variable, edge-up, old-scope}
use Rattle.case_theory.proofs.CaseDues.{IsDue}
use Rattle.case_theory.proofs.CaseTests.{case-kinds, passes}
use Rattle.case_theory.proofs.Zeroed.{zeros-at}

-- ---- the scopes of the case as it will be: those before, and those of the small case

-- the number in the case as it will be of scope y of the small case
abbrev pub joined_scope : Case → ℕ → ℕ
joined_scope c y = if eqb y 0 then c.n else c.n + c.m + y

module _ (c : Case) where
  pub variable-joined : {i : ℕ} → i < 1 → joined_scope c i ≡ c.n + i
  variable-joined {i} h = if-true _ _ (eqb i 0) ((eqb-iff i 0).1 (omega arith)) ∙ omega arith

  pub edge-joined : (e : ℕ) → joined_scope c (1 + e) ≡ c.n + 1 + (c.m + e)
  edge-joined e = if-false _ _ (eqb (1 + e) 0) ((not-eqb-iff (1 + e) 0).1 (λ q. omega arith)) ∙ omega arith

  -- it is new, and its number can be taken back
  joined-new : (y : ℕ) → (is_new c (joined_scope c y) ≡ true) × (new_scope c (joined_scope c y) ≡ y)
  joined-new y = ⊎_elim
      (λ t.
      let s : joined_scope c y ≡ c.n = if-true _ _ (eqb y 0) t in
      let z : y ≡ 0 = eqb→eq y 0 t in
      rw s (is_true (is_new c c.n) (or_left (eqb c.n c.n) _ (eqb_refl c.n)), if-true _ _ (eqb c.n c.n) (eqb_refl c.n) ∙ sym z))
      (λ t.
      let s : joined_scope c y ≡ c.n + c.m + y = if-false _ _ (eqb y 0) t in
      let z : y ≢ 0 = (not-eqb-iff y 0).0 t in
      let x : ℕ = c.n + c.m + y in
      rw s (
        is_true (is_new c x) (or_right (eqb x c.n) (leb (c.n + 1 + c.m) x) (le→leb (c.n + 1 + c.m) x (omega arith))),
        if-false _ _ (eqb x c.n) ((not-eqb-iff x c.n).1 (λ q. z (omega arith))) ∙ omega arith,
      ))
      (either (eqb y 0))

  module _ (p : ℕ) where
    -- what holds at the scopes before and at the new ones
    by-joined : (P : ℕ → ℕ → ℕ → Type 0) → ((x k l : ℕ) → IsTuple c x k l → P (grown_scope c x) k l)
        → ((y k l : ℕ) → IsTuple (small_case c p) y k l → P (joined_scope c y) k l) → {x k l : ℕ} → IsTuple (grown_case c p) x k l → P x k l
    by-joined P old new = by-tuple (grown_case c p) P
        (λ i k u v. ⊎_elim
        (λ t. let o = ltb→lt i c.n t in subst (λ (x : ℕ). P x k 0) (grown-variable c o) (old i k 0 (variable-tuple c i k o v)))
        (λ t. let o : c.n + 0 ≡ i = omega (arith, nltb→le i c.n t) in
        subst (λ (x : ℕ). P x k 0) (variable-joined (omega arith) ∙ o) (new 0 k 0 (variable-tuple (small_case c p) 0 k (omega arith) v)))
        (either (ltb i c.n)))
        (λ e k l u v q. ⊎_elim
        (λ t. let o = ltb→lt e c.m t in subst (λ (x : ℕ). P x k l) (edge-up c e) (old (c.n + e) k l (edge-tuple c e k l o v q)))
        (λ t. let o = nltb→le e c.m t in let n : c.n + 1 + (c.m + (e - c.m)) ≡ c.n + 1 + e = omega arith in
        subst (λ (x : ℕ). P x k l) (edge-joined (e - c.m) ∙ n) (new (1 + (e - c.m)) k l (edge-tuple (small_case c p) (e - c.m) k l (omega arith) v q)))
        (either (ltb e c.m)))

    old-tuple : {x k l : ℕ} → IsTuple c x k l → IsTuple (grown_case c p) (grown_scope c x) k l
    old-tuple = by-tuple c (λ x k l. IsTuple (grown_case c p) (grown_scope c x) k l)
        (λ i k u v. rw (grown-variable c u) (variable-tuple (grown_case c p) i k (omega arith) v))
        (λ e k l u v q. rw (edge-up c e) (edge-tuple (grown_case c p) e k l (omega arith) v q))

    new-tuple : {y k l : ℕ} → IsTuple (small_case c p) y k l → IsTuple (grown_case c p) (joined_scope c y) k l
    new-tuple = by-tuple (small_case c p) (λ y k l. IsTuple (grown_case c p) (joined_scope c y) k l)
        (λ i k u v. rw (variable-joined u) (variable-tuple (grown_case c p) (c.n + i) k (omega arith) v))
        (λ e k l u v q. rw (edge-joined e) (edge-tuple (grown_case c p) (c.m + e) k l (omega arith) v q))

    scopes-apart : {x k l : ℕ} → IsTuple c x k l → (y : ℕ) → grown_scope c x ≢ joined_scope c y
    scopes-apart {x} i y e = true≢false (sym (joined-new y).0 ∙ ap (is_new c) (sym e) ∙ (old-scope c x i.scope).0)

    -- ---- the table of the case as it will be: the weights before, and those that wait

    abbrev pub waiting_table : List ℤ → List ℤ
    waiting_table w₀ = (read_so_far c w₀ p (variable-weight 0 0) []).table

    abbrev weight_then : List ℤ → Difference
    weight_then w₀ y k l =
        if is_new c y then weight (small_case c p) (waiting_weights c w₀) (new_scope c y) k l else weight c w₀ (scope_ungrown c y) k l

    module _ (w₀ : List ℤ) where
      pub old-weight : {x k l : ℕ} → IsTuple c x k l → weight (grown_case c p) (waiting_table w₀) (grown_scope c x) k l ≡ weight c w₀ x k l
      old-weight {x} i = let (a, b) = old-scope c x i.scope in full-weight (grown_case c p) (weight_then w₀) w₀ (old-tuple i) ∙ rw (a, b)

      pub new-weight : {y k l : ℕ} → IsTuple (small_case c p) y k l
          → weight (grown_case c p) (waiting_table w₀) (joined_scope c y) k l ≡ get_or w₀ (own_length c + place (small_case c p) y k l) (pos 0)
      new-weight {y} {k} {l} i = let (a, b) = joined-new y in
          full-weight (grown_case c p) (weight_then w₀) w₀ (new-tuple i)
          ∙ rw (a, b) (get_or-drop (own_length c) w₀ (place (small_case c p) y k l) (pos 0))

      pub waiting-past : (i : ℕ) → own_length (grown_case c p) ≤ i → get_or (waiting_table w₀) i (pos 0) ≡ pos 0
      waiting-past = zeros-at (own_length (grown_case c p)) (waiting_table w₀) (full-past (grown_case c p) (weight_then w₀) w₀)

      module _ (fits : own_length (grown_case c p) ≤ length w₀) where
        pub waiting-long : length (waiting_table w₀) ≡ length w₀
        waiting-long = full-long (grown_case c p) (weight_then w₀) w₀ fits

        waiting-is : (u : List ℤ) → length u ≡ length w₀
            → ((x k l : ℕ) → IsTuple c x k l → weight (grown_case c p) u (grown_scope c x) k l ≡ weight c w₀ x k l)
            → ((y k l : ℕ) → IsTuple (small_case c p) y k l
            → weight (grown_case c p) u (joined_scope c y) k l ≡ get_or w₀ (own_length c + place (small_case c p) y k l) (pos 0))
            → ((i : ℕ) → own_length (grown_case c p) ≤ i → get_or u i (pos 0) ≡ pos 0) → u ≡ waiting_table w₀
        waiting-is u long old new past = same-table (grown_case c p) u (waiting_table w₀) (long ∙ sym waiting-long)
            (λ x k l. by-joined (λ x k l. weight (grown_case c p) u x k l ≡ weight (grown_case c p) (waiting_table w₀) x k l)
            (λ x k l i. old x k l i ∙ sym (old-weight i)) (λ y k l i. new y k l i ∙ sym (new-weight i)))
            (λ i h. past i h ∙ sym (waiting-past i h))

    -- one weight more
    module _ (w₀ : List ℤ) (fits : own_length (grown_case c p) ≤ length w₀) {y k l : ℕ} (i : IsTuple (small_case c p) y k l) (z : ℤ) where
      abbrev stored : ℕ
      stored = place (grown_case c p) (joined_scope c y) k l

      abbrev kept : ℕ
      kept = own_length c + place (small_case c p) y k l

      stored-own : stored < own_length (grown_case c p)
      stored-own = let g = new-tuple i in place-own (grown_case c p) (joined_scope c y) k l g.scope g.one g.two

      kept-own : kept < own_length (grown_case c p)
      kept-own = omega (arith, place-own (small_case c p) y k l i.scope i.one i.two)

      set-old : (x a b : ℕ) → IsTuple c x a b
          → weight (grown_case c p) (set (waiting_table w₀) stored z) (grown_scope c x) a b ≡ weight c (set w₀ kept z) x a b
      set-old x a b j =
          get_or-set_other (waiting_table w₀) stored (place (grown_case c p) (grown_scope c x) a b) z (pos 0)
          (λ e. scopes-apart j y (place-apart (grown_case c p) (old-tuple j) (new-tuple i) e).0)
          ∙ old-weight w₀ j
          ∙ sym (get_or-set_other w₀ kept (place c x a b) z (pos 0) (λ e. omega (arith, place-own c x a b j.scope j.one j.two)))

      set_new : (x a b : ℕ) → IsTuple (small_case c p) x a b
          → weight (grown_case c p) (set (waiting_table w₀) stored z) (joined_scope c x) a b
          ≡ get_or (set w₀ kept z) (own_length c + place (small_case c p) x a b) (pos 0)
      set_new x a b j = ⊎_elim
          (λ t.
          let (s, f, g) = place-apart (small_case c p) j i (eqb→eq (place (small_case c p) x a b) (place (small_case c p) y k l) t) in
          let d : place (grown_case c p) (joined_scope c x) a b ≡ stored = rw (s, f, g) in
          let e : own_length c + place (small_case c p) x a b ≡ kept = rw (s, f, g) in
          ap (λ (n : ℕ). get_or (set (waiting_table w₀) stored z) n (pos 0)) d
          ∙ get_or-set_same (waiting_table w₀) stored z (pos 0) (omega (arith, waiting-long w₀ fits, stored-own))
          ∙ sym (ap (λ (n : ℕ). get_or (set w₀ kept z) n (pos 0)) e ∙ get_or-set_same w₀ kept z (pos 0) (omega (arith, kept-own))))
          (λ t.
          let n = (not-eqb-iff (place (small_case c p) x a b) (place (small_case c p) y k l)).0 t in
          get_or-set_other (waiting_table w₀) stored (place (grown_case c p) (joined_scope c x) a b) z (pos 0) (λ e.
          let (s, f, g) = place-apart (grown_case c p) (new-tuple j) (new-tuple i) e in
          let d : x ≡ y = sym (joined-new x).1 ∙ ap (new_scope c) s ∙ (joined-new y).1 in
          n (rw (d, f, g)))
          ∙ new-weight w₀ j ∙ sym (get_or-set_other w₀ kept (own_length c + place (small_case c p) x a b) z (pos 0) (λ e. n (omega arith))))
          (either (eqb (place (small_case c p) x a b) (place (small_case c p) y k l)))

      waiting-set : set (waiting_table w₀) stored z ≡ waiting_table (set w₀ kept z)
      waiting-set =
          let long = length-set w₀ kept z in
          waiting-is (set w₀ kept z) (omega arith) (set (waiting_table w₀) stored z)
          (length-set (waiting_table w₀) stored z ∙ waiting-long w₀ fits ∙ sym long) set-old set_new
          (λ n h. get_or-set_other (waiting_table w₀) stored n z (pos 0) (λ e. omega (arith, stored-own)) ∙ waiting-past w₀ n h)

-- ---- the lines of a join

-- so many edges' ends are read after a line
abbrev pub ends_after : CaseDue → ℕ
ends_after (variable-weight i k) = 0
ends_after (edge-ends e) = suc e
ends_after (edge-weight e k l) = suc e

-- an end more
place-next : (ends : List ℕ) (b : ℕ) → length ends < edge_places → set (in_places ends) (length ends) b ≡ in_places (ends ++ (b ∷ []))
place-next ends b h =
    let k : ℕ = edge_places - suc (length ends) in
    let e : edge_places - length ends ≡ suc k = omega arith in
    let f : edge_places - length (ends ++ (b ∷ [])) ≡ k = omega (arith, length-append ends (b ∷ [])) in
    ap (λ (n : ℕ). set (ends ++ replicate n 0) (length ends) b) e ∙ set-append_seam ends 0 (replicate k 0) b
    ∙ sym (ap (λ (n : ℕ). (ends ++ (b ∷ [])) ++ replicate n 0) f ∙ append_assoc ends (b ∷ []) (replicate k 0))

module _ (c : Case) (p : ℕ) where
  abbrev holding : List ℕ → List ℕ → List ℤ → Reading
  holding lower upper table = record {
    case = record { n = c.n + 1; d = c.d; m = c.m + p; lower = lower; upper = upper; carry = c.carry; rulebook = c.rulebook };
    table = table;
  }

  -- the ends of the case before and those read
  abbrev lower_ends : List ℕ → List ℕ
  lower_ends ends = map (lower_end c) (below c.m) ++ ends

  abbrev upper_ends : ℕ → List ℕ
  upper_ends e = map (upper_end c) (below c.m) ++ replicate e c.n

  module _ (e : ℕ) (room : c.m + e < edge_places) (ends : List ℕ) (b : ℕ) where
    lower-next : length ends ≡ e → set (in_places (lower_ends ends)) (c.m + e) b ≡ in_places (lower_ends (ends ++ (b ∷ [])))
    lower-next l =
        let n : length (lower_ends ends) ≡ c.m + e =
        length-append (map (lower_end c) (below c.m)) ends ∙ ap₂ ◌+◌ (length-tab (lower_end c) 0 c.m) l in
        ap (λ (n : ℕ). set (in_places (lower_ends ends)) n b) (sym n) ∙ place-next (lower_ends ends) b (omega arith)
        ∙ ap in_places (append_assoc (map (lower_end c) (below c.m)) ends (b ∷ []))

    upper-next : b ≡ c.n → set (in_places (upper_ends e)) (c.m + e) b ≡ in_places (upper_ends (suc e))
    upper-next q =
        let n : length (upper_ends e) ≡ c.m + e =
        length-append (map (upper_end c) (below c.m)) (replicate e c.n) ∙ ap₂ ◌+◌ (length-tab (upper_end c) 0 c.m) (length-replicate e c.n) in
        let s : e + 1 ≡ suc e = omega arith in
        ap (λ (n : ℕ). set (in_places (upper_ends e)) n b) (sym n) ∙ place-next (upper_ends e) b (omega arith)
        ∙ ap in_places (append_assoc (map (upper_end c) (below c.m)) (replicate e c.n) (b ∷ [])
        ∙ ap (λ (b : ℕ). map (upper_end c) (below c.m) ++ (replicate e c.n ++ (b ∷ []))) q
        ∙ ap (λ (ends : List ℕ). map (upper_end c) (below c.m) ++ ends) (replicate-append-replicate e 1 c.n ∙ ap (λ (n : ℕ). replicate n c.n) s))

module _ (c : Case) (w₀ : List ℤ) (p : ℕ) (long : length w₀ ≡ lent_length (rules_of c) c) (most : c.n < (rules_of c).variables)
    (room : c.m + p ≤ (rules_of c).edges) where
  pub fits : own_length (grown_case c p) ≤ length w₀
  fits = omega (arith, own-lent (rules_of c) (grown_case c p) (omega arith) room)

  -- a line of the join is read, and its weight or its lower end kept
  pub took-waits : (lower : List ℕ) → length lower ≡ edge_places → (x : CaseDue) → IsDue 1 c.d p x → (t : Line)
      → ((e : ℕ) → x ≡ edge-ends e → nat_abs t.c ≡ c.n) → (y : CaseDue) → ends_read y ≡ ends_after x
      → took (read_so_far c w₀ p x lower) (renumbered c x) (Some t) ≡ read_so_far c (weight_waits c w₀ p x t) p y (lower_kept x t lower)
  took-waits lower many (variable-weight i k) (u, v) t new y e =
      ap₂ (λ (n : ℕ) (u : List ℤ). holding c p (in_places (lower_ends c p (take n lower))) (in_places (upper_ends c p (length (take n lower)))) u) (sym e)
      (ap (λ (x : ℕ). set (waiting_table c p w₀) (place (grown_case c p) x k 0) (weight_in t)) (sym (variable-joined c u))
      ∙ waiting-set c p w₀ fits (variable-tuple (small_case c p) i k u v) (weight_in t))
  took-waits lower many (edge-weight e k l) (u, v, q) t new y s =
      ap₂ (λ (n : ℕ) (u : List ℤ). holding c p (in_places (lower_ends c p (take n lower))) (in_places (upper_ends c p (length (take n lower)))) u) (sym s)
      (ap (λ (x : ℕ). set (waiting_table c p w₀) (place (grown_case c p) x k l) (weight_in t)) (sym (edge-joined c e))
      ∙ waiting-set c p w₀ fits (edge-tuple (small_case c p) e k l u v q) (weight_in t))
  took-waits lower many (edge-ends e) u t new y s =
      let few : c.m + e < edge_places = omega (arith, (coherent c.rulebook).edges_placed) in
      let b : ℕ = nat_abs t.b in
      let n : length (take e lower) ≡ e = length-take-le e lower (omega arith) in
      let m : length (take (suc e) (set lower e b)) ≡ suc e = length-take-le (suc e) (set lower e b) (omega (arith, length-set lower e b)) in
      ap₂ (λ (a b : List ℕ). holding c p a b (waiting_table c p w₀))
      (lower-next c p e few (take e lower) b n ∙ ap (λ (ends : List ℕ). in_places (lower_ends c p ends)) (sym (take-suc-set lower e b (omega arith))))
      (ap (λ (n : ℕ). set (in_places (upper_ends c p n)) (c.m + e) (nat_abs t.c)) n ∙ upper-next c p e few (take e lower) (nat_abs t.c) (new e refl)
      ∙ ap (λ (n : ℕ). in_places (upper_ends c p n)) (sym m))
      ∙ ap (λ (n : ℕ). let ends = take n (set lower e b) in
      holding c p (in_places (lower_ends c p ends)) (in_places (upper_ends c p (length ends))) (waiting_table c p w₀)) (sym s)

-- ---- before the first line

pub begun-waits : (c : Case) (w₀ : List ℤ) (p : ℕ) → T (zeros_from (own_length c) w₀) → (lower : List ℕ)
    → (begun_join c w₀ p).reading ≡ read_so_far c w₀ p (variable-weight 0 0) lower
begun-waits c w₀ p zeros lower =
    ap₂ (λ (a b : List ℕ). holding c p (in_places a) (in_places b) (begun_join c w₀ p).reading.table)
    (sym (append-nil (map (lower_end c) (below c.m)))) (sym (append-nil (map (upper_end c) (below c.m))))
    ∙ ap (λ (u : List ℤ). holding c p (in_places (lower_ends c p [])) (in_places (upper_ends c p 0))
    (u ++ replicate (length w₀ - own_length (grown_case c p)) (pos 0)))
    (table-cong (grown_case c p) (λ y k l i. ap (λ (z : ℤ). if is_new c y then z else weight c w₀ (scope_ungrown c y) k l)
    (sym (get_or-drop (own_length c) w₀ (place (small_case c p) (new_scope c y) k l) (pos 0) ∙ zeros-at (own_length c) w₀ zeros _ (omega arith)))))

-- ---- the store: a line changes neither the lengths nor the own places of the case

module _ (c : Case) (w₀ : List ℤ) (p : ℕ) (t : Line) where
  pub waits-long : (x : CaseDue) → length (weight_waits c w₀ p x t) ≡ length w₀
  waits-long (variable-weight i k) = length-set w₀ _ (weight_in t)
  waits-long (edge-ends e) = refl
  waits-long (edge-weight e k l) = length-set w₀ _ (weight_in t)

  own-kept : (q : ℕ) → zeroed_from (own_length c) (set w₀ (own_length c + q) (weight_in t)) ≡ zeroed_from (own_length c) w₀
  own-kept q = ap₂ (λ (u : List ℤ) (n : ℕ). u ++ replicate (n - own_length c) (pos 0))
      (take-set-le (own_length c) w₀ (own_length c + q) (weight_in t) (omega arith)) (length-set w₀ (own_length c + q) (weight_in t))

  pub waits-own : (x : CaseDue) → zeroed_from (own_length c) (weight_waits c w₀ p x t) ≡ zeroed_from (own_length c) w₀
  waits-own (variable-weight i k) = own-kept (weights_read c p (variable-weight i k))
  waits-own (edge-ends e) = refl
  waits-own (edge-weight e k l) = own-kept (weights_read c p (edge-weight e k l))

pub lower_long : (x : CaseDue) (t : Line) (lower : List ℕ) → length (lower_kept x t lower) ≡ length lower
lower_long (variable-weight i k) t lower = refl
lower_long (edge-ends e) t lower = length-set lower e (nat_abs t.b)
lower_long (edge-weight e k l) t lower = refl

-- the ends of an edge of the join: its upper end is the new variable
pub upper-joins : (c : Case) (g : Reading) → g.case.n ≡ c.n + 1 → (x : CaseDue) (t : Line)
    → first_refusal (join_line_tests (rules_of c) g (renumbered c x) t) ≡ None → (e : ℕ) → x ≡ edge-ends e → nat_abs t.c ≡ c.n
upper-joins c g n x t pass e s =
    let h = simp ((case-kinds (coherent c.rulebook)).ends-due, tests, T-eq, not-and-iff, none_below) at
    ((passes (join_line_tests (rules_of c) g (renumbered c (edge-ends e)) t)).0 (rw s at pass)) in
    ap nat_abs h.1.0.1 ∙ omega arith
