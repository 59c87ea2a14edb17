-- What is due in a case file: the line of each due, its rank in the file, and what taking a line changes. Assumes nothing.
use mathlib.Core.Path.{◌≡◌, refl, sym, ap, ap₂, subst, ◌∙◌}
use mathlib.Core.Bool.{Bool, true, false, ◌||◌}
use mathlib.Core.Logic.{◌≢◌, ⊎_elim}
use mathlib.Core.List.Memᴰ
use mathlib.Core.List.{List, [], ◌∷◌, ◌++◌, map}
use Prim.Native.Nat.{ℕ, zero, suc, ◌+◌, ◌*◌, ◌-◌, ◌≤◌, ◌<◌}
use native.Mathlib.Nat.{mul-le-mul_right}
use native.Mathlib.Omega.{arith}
use lib.IntN.{ℤ, pos, nat_abs}
use lib.Dec.{T, eqb, ltb, ltb→lt, nltb→le}
use lib.ListN.{length, get_or, set, length-set}
use lib.Seq.{get_or-set_same, get_or-set_other, ext_get_or}
use Rattle.std.specs.Prelude.{if◌then◌else◌, Some}
use Rattle.integers.specs.Words.{from, below, joined}
use Rattle.integers.specs.Tests.{either}
use Rattle.integers.specs.Linear.{T-eq}
use Rattle.integers.specs.Lists.{◌∈◌, below_in, joined_in, map-append, map-joined, map-map, map_same}
use Rattle.definitions.specs.declared.Rulebook.{Rulebook}
use Rattle.definitions.specs.declared.Case.{Case}
use Rattle.definitions.specs.declared.Line.{Line}
use Rattle.definitions.specs.Rules.{rules_in, edge_places, full_length}
use Rattle.definitions.specs.Case.{values, lower_end, upper_end, place, weight, barred_weight, is_barred}
use Rattle.definitions.specs.Valid.{zeros_from}
use Rattle.definitions.specs.Lines.{line}
use Rattle.definitions.specs.CaseFiles.{head_line, weight_line, case_lines, CaseDue, variable-weight, edge-ends, edge-weight, dues, Reading, took}
use Rattle.definitions.specs.CaseFiles.{weight_in, zeroed_from}
use Rattle.definitions.proofs.CaseLaws.{place-own}
use Rattle.theory.proofs.Places.{IsTuple, variable-tuple, edge-tuple, each-variable, each-edge, place-apart, by-tuple, same-table}
use Rattle.case_theory.proofs.Zeroed.{zeroed-length, zeroed-before, zeroed-past, zeros-at}

-- ---- the line that is due

abbrev pub line_of : Case → List ℤ → CaseDue → Line
line_of c w (variable-weight i k) = weight_line 11 14 (pos i) (pos k) (pos 0) (weight c w i k 0)
line_of c w (edge-ends e) = line 12 (pos e) (pos (lower_end c e)) (pos (upper_end c e)) (pos 0)
line_of c w (edge-weight e k l) = weight_line 13 15 (pos e) (pos k) (pos l) (weight c w (c.n + e) k l)

-- f at every due, as the lists of the file stand
map-dues : (f : CaseDue → Line) (c : Case) → map f (dues c)
    ≡ joined (map (λ i. map (λ k. f (variable-weight i k)) (values c)) (below c.n))
    ++ joined (map (λ e. f (edge-ends e) ∷ joined (map (λ k. map (λ l. f (edge-weight e k l)) (values c)) (values c))) (below c.m))
map-dues f c = simp (map-append, map-joined, map-map)

pub case-lines : (c : Case) (w : List ℤ) → case_lines c w ≡ head_line c ∷ map (line_of c w) (dues c)
case-lines c w = ap (λ (ls : List Line). head_line c ∷ ls) (
    ap₂ (λ (p q : List (List Line)). joined p ++ joined q)
    (map_same c.n (λ i h. each-variable c (λ k l. weight_line 11 14 (pos i) (pos k) (pos 0) (weight c w i k l)) i h))
    (map_same c.m (λ e h. ap (λ (ls : List Line). line_of c w (edge-ends e) ∷ ls) (each-edge c (λ k l. line_of c w (edge-weight e k l)) e)))
    ∙ sym (map-dues (line_of c w) c))

-- ---- the dues of sizes n, d and m, and how many stand before each
module _ (n d m : ℕ) where
  abbrev pub IsDue : CaseDue → Type 0
  IsDue (variable-weight i k) = (i < n) × (k < d)
  IsDue (edge-ends e) = e < m
  IsDue (edge-weight e k l) = (e < m) × (k < d) × (l < d)

  abbrev pub rank : CaseDue → ℕ
  rank (variable-weight i k) = i * d + k
  rank (edge-ends e) = n * d + e * suc (d * d)
  rank (edge-weight e k l) = suc (n * d + e * suc (d * d) + (k * d + l))

  -- these dues have the ranks from a to b
  pub data Run : ℕ → List CaseDue → ℕ → Type 0 where
    stop : {a b : ℕ} → a ≡ b → Run a [] b
    step : {a b : ℕ} {due : CaseDue} {ds : List CaseDue} → IsDue due → rank due ≡ a → Run (suc a) ds b → Run a (due ∷ ds) b

module _ {n d m : ℕ} where
  pub run_length : {a b : ℕ} {ds : List CaseDue} → Run n d m a ds b → a + length ds ≡ b
  run_length (stop e) = omega arith
  run_length (step h e r) = omega (arith, run_length r)

  -- a due stands at its rank
  run_at : {a b : ℕ} {ds : List CaseDue} {due : CaseDue} → Run n d m a ds b → due ∈ ds
      → IsDue n d m due × (a ≤ rank n d m due) × (get_or ds (rank n d m due - a) (edge-ends 0) ≡ due)
  run_at {a} {due = x} (step {due = y} {ds = ds} h e r) (Memᴰ.head q) =
      let o : rank n d m x ≡ a = ap (rank n d m) q ∙ e in
      let z : rank n d m x - a ≡ 0 = omega arith in
      (subst (IsDue n d m) (sym q) h, omega arith, ap (λ (i : ℕ). get_or (y ∷ ds) i (edge-ends 0)) z ∙ sym q)
  run_at {a} {due = x} (step {due = y} {ds = ds} h e r) (Memᴰ.tail i) =
      let (g, l, q) = run_at r i in
      let z : rank n d m x - a ≡ suc (rank n d m x - suc a) = omega arith in
      (g, omega arith, ap (λ (i : ℕ). get_or (y ∷ ds) i (edge-ends 0)) z ∙ q)
  run_at (stop e) i = absurd (Memᴰ.not-nil i)

  run-cast : {a b x y : ℕ} {ds : List CaseDue} → Run n d m a ds b → a ≡ x → b ≡ y → Run n d m x ds y
  run-cast {ds} r e f = rw (← e, ← f) r

  run-append : {a b e : ℕ} {xs ys : List CaseDue} → Run n d m a xs b → Run n d m b ys e → Run n d m a (xs ++ ys) e
  run-append (stop p) q = run-cast q (sym p) refl
  run-append (step h p r) q = step h p (run-append r q)

  run-map : (f : ℕ → CaseDue) (a b c : ℕ) → ((k : ℕ) → b ≤ k → k < b + c → IsDue n d m (f k) × (rank n d m (f k) ≡ a + k))
      → Run n d m (a + b) (map f (from b c)) (a + (b + c))
  run-map f a b zero h = stop {a = a + b} {b = a + (b + 0)} (omega arith)
  run-map f a b (suc c) h = step (h b (omega arith) (omega arith)).0 (h b (omega arith) (omega arith)).1
      (run-cast {x = suc (a + b)} {y = a + (b + suc c)} (run-map f a (suc b) c (λ k l u. h k (omega arith) (omega arith))) (omega arith) (omega arith))

  run-joined : (f : ℕ → List CaseDue) (s a b c : ℕ) → ((i : ℕ) → b ≤ i → i < b + c → Run n d m (a + i * s) (f i) (a + suc i * s))
      → Run n d m (a + b * s) (joined (map f (from b c))) (a + (b + c) * s)
  run-joined f s a b zero h = stop {a = a + b * s} {b = a + (b + 0) * s} (omega arith)
  run-joined f s a b (suc c) h = run-append (h b (omega arith) (omega arith))
      (run-cast (run-joined f s a (suc b) c (λ i l u. h i (omega arith) (omega arith))) refl (omega arith))

module _ (c : Case) where
  abbrev weights_of : ℕ → List CaseDue
  weights_of e = joined (map (λ k. map (edge-weight e k) (values c)) (values c))

  pub dues-run : Run c.n c.d c.m 0 (dues c) (c.n * c.d + c.m * suc (c.d * c.d))
  dues-run = run-append {b = c.n * c.d}
      (run-cast (run-joined (λ i. map (variable-weight i) (values c)) c.d 0 0 c.n (λ i l u.
      run-cast (run-map (variable-weight i) (i * c.d) 0 c.d (λ k p q. ((omega arith, omega arith), refl))) (omega arith) (omega arith)))
      (omega arith) (omega arith))
      (run-cast (run-joined (λ e. edge-ends e ∷ weights_of e) (suc (c.d * c.d)) (c.n * c.d) 0 c.m (λ e l u.
      let a : ℕ = suc (c.n * c.d + e * suc (c.d * c.d)) in
      step (omega arith) refl (run-cast (run-joined (λ k. map (edge-weight e k) (values c)) c.d a 0 c.d (λ k p q.
      run-cast (run-map (edge-weight e k) (a + k * c.d) 0 c.d (λ l x y. ((omega arith, omega arith, omega arith), omega arith))) (omega arith)
      (omega arith)))
      (omega arith) (omega arith)))) (omega arith) (omega arith))

  -- every due is met
  pub due_in : (due : CaseDue) → IsDue c.n c.d c.m due → due ∈ dues c
  due_in (variable-weight i k) (u, v) =
      Memᴰ.append_left _ (joined_in (Memᴰ.map (variable-weight i) (below_in v)) (Memᴰ.map (λ i. map (variable-weight i) (values c)) (below_in u)))
  due_in (edge-ends e) u =
      Memᴰ.append_right (joined (map (λ i. map (variable-weight i) (values c)) (below c.n)))
      (joined_in (Memᴰ.head refl) (Memᴰ.map (λ e. edge-ends e ∷ weights_of e) (below_in u)))
  due_in (edge-weight e k l) (u, v, h) =
      Memᴰ.append_right (joined (map (λ i. map (variable-weight i) (values c)) (below c.n)))
      (joined_in (Memᴰ.tail (joined_in (Memᴰ.map (edge-weight e k) (below_in h)) (Memᴰ.map (λ k. map (edge-weight e k) (values c)) (below_in v))))
      (Memᴰ.map (λ e. edge-ends e ∷ weights_of e) (below_in u)))

  pub in-dues : {due : CaseDue} → due ∈ dues c → IsDue c.n c.d c.m due
  in-dues i = (run_at dues-run i).0

  pub rank-apart : (x y : CaseDue) → IsDue c.n c.d c.m x → IsDue c.n c.d c.m y → rank c.n c.d c.m x ≡ rank c.n c.d c.m y
      → x ≡ y
  rank-apart x y h g e =
      sym (run_at dues-run (due_in x h)).2 ∙ ap (λ (i : ℕ). get_or (dues c) (i - 0) (edge-ends 0)) e ∙ (run_at dues-run (due_in y g)).2

pub rank_below : (n d m : ℕ) (due : CaseDue) → IsDue n d m due → rank n d m due < n * d + m * suc (d * d)
rank_below n d m (variable-weight i k) (u, v) = omega (arith, mul-le-mul_right {m = suc i} {n = n} d u)
rank_below n d m (edge-ends e) u = omega (arith, mul-le-mul_right {m = suc e} {n = m} (suc (d * d)) u)
rank_below n d m (edge-weight e k l) (u, v, h) = omega (arith, mul-le-mul_right {m = suc e} {n = m} (suc (d * d)) u, mul-le-mul_right {m = suc k} {n = d} d v)

-- the line with what is stored of t in place
abbrev pub line_for : CaseDue → Line → Line
line_for (variable-weight i k) t = weight_line 11 14 (pos i) (pos k) (pos 0) (weight_in t)
line_for (edge-ends e) t = line 12 (pos e) (pos (nat_abs t.b)) (pos (nat_abs t.c)) (pos 0)
line_for (edge-weight e k l) t = weight_line 13 15 (pos e) (pos k) (pos l) (weight_in t)

-- the weight that is written is the weight that is stored
pub weight-back : (kind barring : ℕ) → (eqb kind 14 || eqb kind 15) ≡ false → (eqb barring 14 || eqb barring 15) ≡ true → (a b c z : ℤ)
    → weight_in (weight_line kind barring a b c z) ≡ z
weight-back kind barring plain barred a b c z = go (is_barred z) (T-eq z barred_weight).0
  where
    go : (t : Bool) → (T t → z ≡ barred_weight) → weight_in (if t then line barring a b c (pos 0) else line kind a b c z) ≡ z
    go true h = rw barred (sym (h tt))
    go false h = rw plain

pub line-for : (c : Case) (w : List ℤ) (due : CaseDue) → line_for due (line_of c w due) ≡ line_of c w due
line-for c w (variable-weight i k) = ap (weight_line 11 14 (pos i) (pos k) (pos 0)) (weight-back 11 14 refl refl (pos i) (pos k) (pos 0) (weight c w i k 0))
line-for c w (edge-ends e) = refl
line-for c w (edge-weight e k l) =
    ap (weight_line 13 15 (pos e) (pos k) (pos l)) (weight-back 13 15 refl refl (pos e) (pos k) (pos l) (weight c w (c.n + e) k l))

-- the ends of m edges, and what follows them
pub same_ends : (m : ℕ) (p q : List ℕ) → length p ≡ length q → ((e : ℕ) → e < m → get_or p e 0 ≡ get_or q e 0) → ((e : ℕ) → m ≤ e → get_or p e 0 ≡ get_or q e 0) → p ≡ q
same_ends m p q long own past = ext_get_or 0 p q long (λ e h. ⊎_elim (λ t. own e (ltb→lt e m t)) (λ t. past e (nltb→le e m t)) (either (ltb e m)))

-- ---- the lists that reading changes, of a case with sizes n, d and m
pub record State : Type 0 where
  pub lower : List ℕ
  pub upper : List ℕ
  pub table : List ℤ

module _ (book : Rulebook) (n d m : ℕ) where
  abbrev pub case_at : State → Case
  case_at s = record { n = n; d = d; m = m; lower = s.lower; upper = s.upper; carry = pos 0; rulebook = book }

  abbrev pub reading : State → Reading
  reading s = record { case = case_at s; table = s.table }

  abbrev pub line_at : State → CaseDue → Line
  line_at s due = line_of (case_at s) s.table due

  abbrev stored : State → ℕ → ℕ → ℕ → ℤ → State
  stored s x k l z = record { lower = s.lower; upper = s.upper; table = set s.table (place (case_at s) x k l) z }

  abbrev pub next : State → CaseDue → Line → State
  next s (variable-weight i k) t = stored s i k 0 (weight_in t)
  next s (edge-ends e) t = record { lower = set s.lower e (nat_abs t.b); upper = set s.upper e (nat_abs t.c); table = s.table }
  next s (edge-weight e k l) t = stored s (n + e) k l (weight_in t)

  pub took-next : (s : State) (due : CaseDue) (t : Line) → took (reading s) due (Some t) ≡ reading (next s due t)
  took-next s (variable-weight i k) t = refl
  took-next s (edge-ends e) t = refl
  took-next s (edge-weight e k l) t = refl

  -- the lists have their lengths, and 0 past the edges
  pub record Sized (s : State) : Type 0 where
    pub long : length s.table ≡ full_length (rules_in book) d
    pub own-fits : n * d + m * (d * d) ≤ length s.table
    pub lower_long : length s.lower ≡ edge_places
    pub upper_long : length s.upper ≡ edge_places
    pub lower-past : (e : ℕ) → m ≤ e → get_or s.lower e 0 ≡ 0
    pub upper-past : (e : ℕ) → m ≤ e → get_or s.upper e 0 ≡ 0

  stored-sized : {s : State} → Sized s → (x k l : ℕ) (z : ℤ) → Sized (stored s x k l z)
  stored-sized {s} h x k l z = record {
    long = length-set s.table (place (case_at s) x k l) z ∙ h.long;
    own-fits = omega (arith, length-set s.table (place (case_at s) x k l) z, h.own-fits);
    lower_long = h.lower_long;
    upper_long = h.upper_long;
    lower-past = h.lower-past;
    upper-past = h.upper-past;
  }

  pub next-sized : {s : State} → Sized s → (due : CaseDue) → IsDue n d m due → (t : Line) → Sized (next s due t)
  next-sized h (variable-weight i k) u t = stored-sized h i k 0 (weight_in t)
  next-sized h (edge-weight e k l) u t = stored-sized h (n + e) k l (weight_in t)
  next-sized {s} h (edge-ends e) u t = record {
    long = h.long;
    own-fits = h.own-fits;
    lower_long = length-set s.lower e (nat_abs t.b) ∙ h.lower_long;
    upper_long = length-set s.upper e (nat_abs t.c) ∙ h.upper_long;
    lower-past = λ f g. get_or-set_other s.lower e f (nat_abs t.b) 0 (λ q. omega arith) ∙ h.lower-past f g;
    upper-past = λ f g. get_or-set_other s.upper e f (nat_abs t.c) 0 (λ q. omega arith) ∙ h.upper-past f g;
  }

  module _ (s : State) where
    stored_there : {x k l : ℕ} → n * d + m * (d * d) ≤ length s.table → IsTuple (case_at s) x k l → (z : ℤ)
        → weight (case_at s) (set s.table (place (case_at s) x k l) z) x k l ≡ z
    stored_there {x} {k} {l} e t z = get_or-set_same s.table (place (case_at s) x k l) z (pos 0)
        (omega (arith, place-own (case_at s) x k l t.scope t.one t.two))

    stored_other : {x k l y a b : ℕ} → IsTuple (case_at s) x k l → IsTuple (case_at s) y a b → (x ≡ y → k ≡ a → l ≡ b → ⊥) → (z : ℤ)
        → weight (case_at s) (set s.table (place (case_at s) x k l) z) y a b ≡ weight (case_at s) s.table y a b
    stored_other {x} {k} {l} {y} {a} {b} t u apart z =
        get_or-set_other s.table (place (case_at s) x k l) (place (case_at s) y a b) z (pos 0)
        (λ e. let (p, q, r) = place-apart (case_at s) t u (sym e) in apart p q r)

    pub next-there : m ≤ edge_places → Sized s → (due : CaseDue) → IsDue n d m due → (t : Line) → line_at (next s due t) due ≡ line_for due t
    next-there few h (variable-weight i k) (u, v) t =
        ap (weight_line 11 14 (pos i) (pos k) (pos 0)) (stored_there h.own-fits (variable-tuple (case_at s) i k u v) (weight_in t))
    next-there few h (edge-weight e k l) (u, v, q) t =
        ap (weight_line 13 15 (pos e) (pos k) (pos l)) (stored_there h.own-fits (edge-tuple (case_at s) e k l u v q) (weight_in t))
    next-there few h (edge-ends e) u t = ap₂ (λ (i j : ℕ). line 12 (pos e) (pos i) (pos j) (pos 0))
        (get_or-set_same s.lower e (nat_abs t.b) 0 (omega (arith, h.lower_long)))
        (get_or-set_same s.upper e (nat_abs t.c) 0 (omega (arith, h.upper_long)))

    pub next-other : (due : CaseDue) → IsDue n d m due → (t : Line) (other : CaseDue) → IsDue n d m other → rank n d m other ≢ rank n d m due
        → line_at (next s due t) other ≡ line_at s other
    next-other (variable-weight i k) (u, v) t (variable-weight j a) (p, q) o =
        ap (weight_line 11 14 (pos j) (pos a) (pos 0)) (stored_other (variable-tuple (case_at s) i k u v) (variable-tuple (case_at s) j a p q) (λ x y z. o (cc))
        (weight_in t))
    next-other (variable-weight i k) (u, v) t (edge-ends f) p o = refl
    next-other (variable-weight i k) (u, v) t (edge-weight f a b) (p, q, r) o =
        ap (weight_line 13 15 (pos f) (pos a) (pos b)) (stored_other (variable-tuple (case_at s) i k u v) (edge-tuple (case_at s) f a b p q r)
        (λ x y z. omega arith) (weight_in t))
    next-other (edge-ends e) u t (variable-weight j a) p o = refl
    next-other (edge-ends e) u t (edge-ends f) p o = ap₂ (λ (i j : ℕ). line 12 (pos f) (pos i) (pos j) (pos 0))
        (get_or-set_other s.lower e f (nat_abs t.b) 0 (λ q. o (cc))) (get_or-set_other s.upper e f (nat_abs t.c) 0 (λ q. o (cc)))
    next-other (edge-ends e) u t (edge-weight f a b) p o = refl
    next-other (edge-weight e k l) (u, v, h) t (variable-weight j a) (p, q) o =
        ap (weight_line 11 14 (pos j) (pos a) (pos 0)) (stored_other (edge-tuple (case_at s) e k l u v h) (variable-tuple (case_at s) j a p q)
        (λ x y z. omega arith) (weight_in t))
    next-other (edge-weight e k l) (u, v, h) t (edge-ends f) p o = refl
    next-other (edge-weight e k l) (u, v, h) t (edge-weight f a b) (p, q, r) o =
        ap (weight_line 13 15 (pos f) (pos a) (pos b)) (stored_other (edge-tuple (case_at s) e k l u v h) (edge-tuple (case_at s) f a b p q r)
        (λ x y z. let g : e ≡ f = omega arith in o (cc)) (weight_in t))

  -- ---- two states with the same lines at the dues of ranks below a
  abbrev pub Agree : ℕ → State → State → Type 0
  Agree a s f = (due : CaseDue) → IsDue n d m due → rank n d m due < a → line_at s due ≡ line_at f due

  -- the ends of an edge, by its line
  pub same-lower : (s f : State) (e : ℕ) → line_at s (edge-ends e) ≡ line_at f (edge-ends e) → lower_end (case_at s) e ≡ lower_end (case_at f) e
  same-lower s f e q = ap (λ (l : Line). nat_abs l.b) q

  pub same-upper : (s f : State) (e : ℕ) → line_at s (edge-ends e) ≡ line_at f (edge-ends e) → upper_end (case_at s) e ≡ upper_end (case_at f) e
  same-upper s f e q = ap (λ (l : Line). nat_abs l.c) q

  -- a weight, by its line
  pub same-variable : (s f : State) (i k : ℕ) → line_at s (variable-weight i k) ≡ line_at f (variable-weight i k)
      → weight (case_at s) s.table i k 0 ≡ weight (case_at f) f.table i k 0
  same-variable s f i k q =
      sym (weight-back 11 14 refl refl (pos i) (pos k) (pos 0) (weight (case_at s) s.table i k 0)) ∙ ap weight_in q
      ∙ weight-back 11 14 refl refl (pos i) (pos k) (pos 0) (weight (case_at f) f.table i k 0)

  pub same-edge : (s f : State) (e k l : ℕ) → line_at s (edge-weight e k l) ≡ line_at f (edge-weight e k l)
      → weight (case_at s) s.table (n + e) k l ≡ weight (case_at f) f.table (n + e) k l
  same-edge s f e k l q =
      sym (weight-back 13 15 refl refl (pos e) (pos k) (pos l) (weight (case_at s) s.table (n + e) k l)) ∙ ap weight_in q
      ∙ weight-back 13 15 refl refl (pos e) (pos k) (pos l) (weight (case_at f) f.table (n + e) k l)

  -- ---- 0 past the own places
  abbrev pub zeroed : State → State
  zeroed s = record { lower = s.lower; upper = s.upper; table = zeroed_from (n * d + m * (d * d)) s.table }

  pub zeroed-sized : {s : State} → Sized s → Sized (zeroed s)
  zeroed-sized {s} h = record {
    long = zeroed-length (n * d + m * (d * d)) s.table ∙ h.long;
    own-fits = omega (arith, zeroed-length (n * d + m * (d * d)) s.table, h.own-fits);
    lower_long = h.lower_long;
    upper_long = h.upper_long;
    lower-past = h.lower-past;
    upper-past = h.upper-past;
  }

  zeroed-weight : (s : State) {x k l : ℕ} → IsTuple (case_at s) x k l → weight (case_at s) s.table x k l ≡ weight (case_at s) (zeroed s).table x k l
  zeroed-weight s {x} {k} {l} t =
      sym (zeroed-before (n * d + m * (d * d)) s.table (place (case_at s) x k l) (place-own (case_at s) x k l t.scope t.one t.two))

  pub zeroed-lines : (s : State) (due : CaseDue) → IsDue n d m due → line_at s due ≡ line_at (zeroed s) due
  zeroed-lines s (variable-weight i k) (u, v) = ap (weight_line 11 14 (pos i) (pos k) (pos 0)) (zeroed-weight s (variable-tuple (case_at s) i k u v))
  zeroed-lines s (edge-ends e) u = refl
  zeroed-lines s (edge-weight e k l) (u, v, h) = ap (weight_line 13 15 (pos e) (pos k) (pos l)) (zeroed-weight s (edge-tuple (case_at s) e k l u v h))

  -- lines at all dues are the whole state, with 0 past the own places
  pub same-state : {s f : State} → Sized s → Sized f → T (zeros_from (n * d + m * (d * d)) f.table) → Agree (n * d + m * suc (d * d)) s f → zeroed s ≡ f
  same-state {s} {f} h g zeros agree =
      let lower = same_ends m s.lower f.lower (h.lower_long ∙ sym g.lower_long) (λ e u. same-lower s f e (lines (edge-ends e) u))
      (λ e u. h.lower-past e u ∙ sym (g.lower-past e u)) in
      let upper = same_ends m s.upper f.upper (h.upper_long ∙ sym g.upper_long) (λ e u. same-upper s f e (lines (edge-ends e) u))
      (λ e u. h.upper-past e u ∙ sym (g.upper-past e u)) in
      let table = same-table (case_at s) (zeroed s).table f.table ((zeroed-sized h).long ∙ sym g.long)
      (λ x k l t. sym (zeroed-weight s t) ∙ by-tuple (case_at s) (λ x k l. weight (case_at s) s.table x k l ≡ weight (case_at f) f.table x k l)
      (λ i k u v. same-variable s f i k (lines (variable-weight i k) (u, v))) (λ e k l u v p. same-edge s f e k l (lines (edge-weight e k l) (u, v, p))) t)
      (λ p u. zeroed-past (n * d + m * (d * d)) s.table p u ∙ sym (zeros-at (n * d + m * (d * d)) f.table zeros p u)) in
      let z : ◌≡◌ {A = State} (record { lower = s.lower; upper = s.upper; table = (zeroed s).table })
      (record { lower = f.lower; upper = f.upper; table = f.table }) = cc in
      z
    where
      lines : (due : CaseDue) → IsDue n d m due → line_at s due ≡ line_at f due
      lines due u = agree due u (rank_below n d m due u)
