-- Any list of moves, each allowed where the ones before it lead, is written in lines that the plain replay takes, with the effect of the
-- moves; where the list ends with a lower upper bound, the lines and a bound line are taken as a round. The lines of a void line are taken
-- where its scopes refute and what it asks to be barred is. And whatever the lines, the weights after them are reached by a list of moves.
-- Assumes nothing.
use mathlib.Core.Path.{◌≡◌, refl, sym, ap, ap₂, subst, ◌∙◌}
use mathlib.Core.Bool.{Bool, true, false, not, ◌&&◌, ◌||◌}
use mathlib.Core.Logic.{◌≢◌, ◌⊎◌, inl, inr, ⊎_elim}
use mathlib.Core.List.{List, [], ◌∷◌, ◌++◌, map, append_assoc}
use mathlib.Core.List.Memᴰ
use Prim.Native.Nat.{ℕ, suc, ◌+◌, ◌*◌, ◌-◌, ◌^◌, ◌≤◌, ◌<◌}
use native.Mathlib.Nat.{mul-le-mul_right}
use native.Mathlib.Omega.{arith}
use lib.IntN.{ℤ, pos, negsuc, nat_abs}
use lib.Dec.{T, eqb, eqb→eq, ltb, ltb→lt, nltb→le, lt→ltb, lit<}
use lib.Signed.{◌≤ℤ◌, ◌<ℤ◌}
use lib.ListN.{length}
use Rattle.std.specs.Prelude.{if◌then◌else◌, Option, Some, None, is_some}
use Rattle.integers.specs.Words.{first, last, joined, is_in, minus, within_z}
use Rattle.integers.specs.Tests.{and-iff, not-or-iff, not-not-iff, not-leb-iff, not-eqb-iff, and_intro, and_left, and_right, either, if-false, if-cases}
use Rattle.integers.specs.Linear.{flat, zs, ◌▸◌, T-eq}
use Rattle.integers.specs.Lists.{◌∈◌, map-append}
use Rattle.integers.specs.Sums.{Σ-most, Σ-least}
use Rattle.definitions.specs.declared.Case.{Case}
use Rattle.definitions.specs.declared.Line.{Line}
use Rattle.definitions.specs.declared.Refusal.{Refusal}
use Rattle.definitions.specs.Rules.{Rules, Coherent, scopes_at_most}
use Rattle.definitions.specs.Refusals.{first_refusal}
use Rattle.definitions.specs.Case.{scope_count, greatest, upper_bound}
use Rattle.definitions.specs.Valid.{in_working, working_weight}
use Rattle.definitions.specs.Moves.{Move, shift, press, active_press, shift_amount, press_amount, active_values, active_refuted, moved, leaves_range}
use Rattle.definitions.specs.Lines.{line, line_text, line_too_wide, read_line, not_due, outside}
use Rattle.calls.specs.Calls.{is_rising}
use Rattle.definitions.specs.Replay.{Target, pressing, voiding, Held, State, holding, after_bound, after_void, kinds_due, begin_out, all_barred, not_above}
use Rattle.definitions.specs.Replay.{target_tests, tests_of_kind, line_tests, completed, taken, answered, step_unrefused, step, after}
use Rattle.definitions.proofs.ColumnLaws.{fits-digits, fits}
use Rattle.definitions.proofs.LineLaws.{each_fits, line_read}
use Rattle.definitions.specs.RoundLines.{raise_line, move_lines, bound_line, round_lines, round_text, lines_of_void, void_text}
use Rattle.theory.proofs.Barred.{greatest-in-range}
use Rattle.theory.proofs.Validity.{none-applies, Handed}
use Rattle.theory.proofs.Replays.{AllowedShift, AllowedPress, Refuting, Allowed, handed_moved, Quiet, Sound, sound-step, stepped}
use Rattle.theory.proofs.Replays.{stepped-allowed, case-after, none-iff}

-- ---- moves that are allowed

-- one after another they lead from w to v
pub data AllAllowed (r : Rules) (c : Case) : List ℤ → List Move → List ℤ → Type 0 where
  no_move : {w : List ℤ} → AllAllowed r c w [] w
  one_more : {w v : List ℤ} {move : Move} {moves : List Move} → Allowed r c w move → AllAllowed r c (moved c move w) moves v → AllAllowed r c w (move ∷ moves) v

-- a table that every call takes stays one
pub all-handed : {r : Rules} → Coherent r → {c : Case} {w v : List ℤ} {moves : List Move} → AllAllowed r c w moves v → Handed r (working_weight r) c w
    → Handed r (working_weight r) c v
all-handed coherent no_move k = k
all-handed coherent {c} {w} (one_more {move} h m) k = all-handed coherent m (handed_moved coherent c w move h k)

-- whatever the lines, the weights after them are reached by allowed moves
pub moves-after : {r : Rules} {s : State} → Sound r s → (ts : List (List ℕ))
    → (moves : List Move) × AllAllowed r s.case s.weights moves (after r s ts).weights
moves-after v [] = ([], no_move)
moves-after {r} {s} v (t ∷ ts) =
    let (moves, m) = moves-after {s = step r s t} (sound-step r s t v) ts in
    let k = rw (case-after r s (t ∷ [])) at m in
    ⊎_elim
    (λ e. (moves, subst (λ (w : List ℤ). AllAllowed r s.case w moves (after r (step r s t) ts).weights) e k))
    (λ (move, h, e). (move ∷ moves, one_more h (subst (λ (w : List ℤ). AllAllowed r s.case w moves (after r (step r s t) ts).weights) e k)))
    (stepped-allowed v (stepped r s t))

-- ---- scopes that rise

-- such a list within n has room, and more with a number left out
rising-most : (x : ℕ) (xs : List ℕ) (n : ℕ) → T (is_rising (x ∷ xs)) → ((y : ℕ) → y ∈ (x ∷ xs) → y < n) → x + length (x ∷ xs) ≤ n
rising-most x [] n t h = omega (arith, h x (Memᴰ.head refl))
rising-most x (y ∷ xs) n t h =
    omega (
      arith,
      ltb→lt x y (and_left (ltb x y) (is_rising (y ∷ xs)) t),
      rising-most y xs n (and_right (ltb x y) (is_rising (y ∷ xs)) t) (λ y m. h y (Memᴰ.tail m)),
    )

rising-short : (lo x : ℕ) (xs : List ℕ) (n i : ℕ) → lo ≤ x → lo ≤ i → i < n → T (is_rising (x ∷ xs)) → ((y : ℕ) → y ∈ (x ∷ xs) → (y < n) × (y ≢ i))
    → lo + length (x ∷ xs) < n
rising-short lo x [] n i f g l t h = let (u, o) = h x (Memᴰ.head refl) in omega arith
rising-short lo x (y ∷ xs) n i f g l t h =
    let (u, o) = h x (Memᴰ.head refl) in
    let s = ltb→lt x y (and_left (ltb x y) (is_rising (y ∷ xs)) t) in
    let k : suc x ≤ i → suc x + length (y ∷ xs) < n =
    λ b. rising-short (suc x) y xs n i s b l (and_right (ltb x y) (is_rising (y ∷ xs)) t) (λ y m. h y (Memᴰ.tail m)) in
    let m = rising-most x (y ∷ xs) n t (λ y m. (h y m).0) in
    ⊎_elim (λ b. omega (arith, k (ltb→lt x i b))) (λ b. omega (arith, nltb→le x i b)) (either (ltb x i))

pub raised-few : {c : Case} {w : List ℤ} {i : ℕ} {raised : List ℕ} → Refuting c w i raised → length raised < scope_count c
raised-few {c} {i} {raised} k = go raised k.some-raised k.rising k.scopes
  where
    go : (xs : List ℕ) → 0 < length xs → T (is_rising xs) → ((x : ℕ) → x ∈ xs → (x < scope_count c) × (x ≢ i)) → length xs < scope_count c
    go [] o t h = absurd (omega arith)
    go (x ∷ xs) o t h = omega (arith, rising-short 0 x xs (scope_count c) i (omega arith) (omega arith) (omega (arith, k.variable)) t h)

press-refuting : {r : Rules} {c : Case} {w : List ℤ} {i : ℕ} {raised : List ℕ} {a : ℤ} → AllowedPress r c w i (active_values c w i) raised a
    → Refuting c w i raised
press-refuting k = record { variable = k.variable; some-raised = k.some-raised; rising = k.rising; scopes = k.scopes; refutes = k.refutes }

-- each is above the last before it
above-last : (r : Rules) (ys : List ℕ) (x : ℕ) (xs : List ℕ) → T (is_rising (ys ++ (x ∷ xs))) → T (not (not_above (last ys) x))
above-last r [] x xs t = tt
above-last r (y ∷ []) x xs t = let l = ltb→lt y x (and_left (ltb y x) (is_rising (x ∷ xs)) t) in (not-leb-iff x y).1 l
above-last r (y ∷ z ∷ ys) x xs t = above-last r (z ∷ ys) x xs (and_right (ltb y z) (is_rising (z ∷ ys ++ (x ∷ xs))) t)

-- ---- what the lines of moves need of the rules

-- they are due where moves are written
pub record MoveKinds (r : Rules) : Type 0 where
  pub shift-due : (e end v : ℕ) (a : ℤ) → T (not (not_due r (kinds_due false None) (line 1 (pos e) (pos end) (pos v) a)))
  pub press-due : (i k : ℕ) (a : ℤ) → T (not (not_due r (kinds_due false None) (line 2 (pos i) (pos k) (pos 0) a)))
  pub raise-due : (h : Held) (x : ℕ) → T (not (not_due r (kinds_due false (Some h)) (raise_line x)))
  pub bound-due : (z : ℤ) → T (not (not_due r (kinds_due false None) (bound_line z)))
  pub void-due : (i k : ℕ) → T (not (not_due r (kinds_due false None) (line 5 (pos i) (pos k) (pos 0) (pos 0))))

pub move-kinds : {r : Rules} → Coherent r → MoveKinds r
move-kinds {r} coherent = record {
  shift-due = λ e end v a. rw coherent.known-kinds tt;
  press-due = λ i k a. rw coherent.known-kinds tt;
  raise-due = λ h x. rw coherent.known-kinds tt;
  bound-due = λ z. rw coherent.known-kinds tt;
  void-due = λ i k. rw coherent.known-kinds tt;
}

-- ---- lines that fit their columns

pub within-most : (m : ℕ) (z : ℤ) → minus m ≤ℤ z → z ≤ℤ pos m → nat_abs z ≤ m
within-most m (pos n) h k = omega zs
within-most m (negsuc n) h k = h ▸ simp flat (omega zs)

module _ {r : Rules} (coherent : Coherent r) where
  pub line-fits : (k a b c : ℕ) (z : ℤ) → k < 10 ^ 2 → a < 10 ^ 4 → b < 10 ^ 4 → c < 10 ^ 4 → nat_abs z < 10 ^ (r.amount_width - 1)
      → line_too_wide r.amount_width (line k (pos a) (pos b) (pos c) z) ≡ false
  line-fits k a b c z hk ha hb hc hz = each_fits r.amount_width (line k (pos a) (pos b) (pos c) z) (record {
    kind = fits-digits 2 k (omega arith) hk;
    a = fits-digits 4 a (omega arith) ha;
    b = fits-digits 4 b (omega arith) hb;
    c = fits-digits 4 c (omega arith) hc;
    amount = fits r.amount_width z coherent.amount-some hz;
  })

  amount-small : (a : ℤ) → minus r.moving ≤ℤ a → a ≤ℤ pos r.moving → nat_abs a < 10 ^ (r.amount_width - 1)
  amount-small a h k = omega (arith, coherent.moving-fits, within-most r.moving a h k)

  module _ {c : Case} {w : List ℤ} (h : Handed r (working_weight r) c w) where
    scopes-small : scope_count c < 10 ^ 4
    scopes-small = omega (arith, coherent.scopes-few, h.variables-most, h.edges_most)

    values-small : c.d < 10 ^ 4
    values-small = let q : 8 < 10 ^ 4 = lit< tt in omega (arith, coherent.values-few, h.values-most)

    greatest-working : (x : ℕ) → x < scope_count c → (minus r.working ≤ℤ greatest c w x) × (greatest c w x ≤ℤ pos r.working)
    greatest-working x g =
        let q : T (in_working r (greatest c w x)) = greatest-in-range c coherent w h.in-range x g (h.some-free x g) in
        (q ▸ simp flat (omega zs), q ▸ simp flat (omega zs))

    -- an upper bound of working weights fits the amount column
    pub bound-within : (minus (scopes_at_most r * r.working + r.carried) ≤ℤ upper_bound c w)
        × (upper_bound c w ≤ℤ pos (scopes_at_most r * r.working + r.carried))
    bound-within =
        let m = mul-le-mul_right {m = scope_count c} {n = scopes_at_most r} r.working (omega (arith, h.variables-most, h.edges_most)) in (
          h.carry-in ▸ Σ-least (greatest c w) r.working 0 (scope_count c) (λ x l u. (greatest-working x (omega arith)).0) ▸ simp flat (omega zs),
          h.carry-in ▸ Σ-most (greatest c w) r.working 0 (scope_count c) (λ x l u. (greatest-working x (omega arith)).1) ▸ simp flat (omega zs),
        )

    bound-small : nat_abs (upper_bound c w) < 10 ^ (r.amount_width - 1)
    bound-small =
        omega (arith, coherent.bound-fits, within-most (scopes_at_most r * r.working + r.carried) (upper_bound c w) bound-within.0 bound-within.1)

    shift_fits : {e end v : ℕ} {a : ℤ} → AllowedShift r c w e end v a → line_too_wide r.amount_width (line 1 (pos e) (pos end) (pos v) a) ≡ false
    shift_fits {e} {end} {v} {a} k = line-fits 1 e end v a (lit< tt) (omega (arith, k.edge, scopes-small)) (omega (arith, k.side, values-small))
        (omega (arith, k.value, values-small)) (amount-small a (k.amount ▸ simp flat (omega zs)) (k.amount ▸ simp flat (omega zs)))

    -- the first line of a press or a void line
    begin-fits : {i : ℕ} {raised : List ℕ} (kind : ℕ) (a : ℤ) → kind < 10 ^ 2 → nat_abs a < 10 ^ (r.amount_width - 1) → Refuting c w i raised
        → line_too_wide r.amount_width (line kind (pos i) (pos (length raised)) (pos 0) a) ≡ false
    begin-fits {i} {raised} kind a t n k =
        line-fits kind i (length raised) 0 a t (omega (arith, k.variable, scopes-small)) (omega (arith, raised-few k, scopes-small)) (lit< tt) n

    press-fits : {i : ℕ} {lowered : ℕ → Bool} {raised : List ℕ} {a : ℤ} → AllowedPress r c w i lowered raised a
        → line_too_wide r.amount_width (line 2 (pos i) (pos (length raised)) (pos 0) a) ≡ false
    press-fits {i} {raised} {a} k = begin-fits 2 a (lit< tt) (amount-small a (k.amount ▸ simp flat (omega zs)) (k.amount ▸ simp flat (omega zs)))
        (press-refuting (subst (λ (set : ℕ → Bool). AllowedPress r c w i set raised a) k.lowers k))

    void-begin-fits : {i : ℕ} {raised : List ℕ} → Refuting c w i raised
        → line_too_wide r.amount_width (line 5 (pos i) (pos (length raised)) (pos 0) (pos 0)) ≡ false
    void-begin-fits k = begin-fits 5 (pos 0) (lit< tt) (omega (arith, coherent.moving-fits)) k

    raise-fits : {x : ℕ} → x < scope_count c → line_too_wide r.amount_width (raise_line x) ≡ false
    raise-fits {x} k = line-fits 3 x 0 0 (pos 0) (lit< tt) (omega (arith, scopes-small)) (lit< tt) (lit< tt) (omega (arith, coherent.moving-fits))

    bound-fits : line_too_wide r.amount_width (bound_line (upper_bound c w)) ≡ false
    bound-fits = line-fits 4 0 0 0 (upper_bound c w) (lit< tt) (lit< tt) (lit< tt) (lit< tt) bound-small

    -- every line of a void line
    pub void-fits : {i : ℕ} {raised : List ℕ} → Refuting c w i raised → {l : Line} → l ∈ lines_of_void i raised → line_too_wide r.amount_width l ≡ false
    void-fits k (Memᴰ.head e) = rw e (void-begin-fits k)
    void-fits {raised} k (Memᴰ.tail m) = let (x, o, e) = Memᴰ.of_map raise_line raised m in rw (← e) (raise-fits (k.scopes x o).0)

    move-fits : (move : Move) → Allowed r c w move → {l : Line} → l ∈ move_lines move → line_too_wide r.amount_width l ≡ false
    move-fits (shift e end v a) k m = rw (Memᴰ.eq_of_singleton m) (shift_fits k)
    move-fits (press i lowered raised a) k (Memᴰ.head e) = rw e (press-fits k)
    move-fits (press i lowered raised a) k (Memᴰ.tail m) = let (x, o, e) = Memᴰ.of_map raise_line raised m in rw (← e) (raise-fits (k.scopes x o).0)

  -- every line of a round
  pub round-fits : {c : Case} {w v : List ℤ} {moves : List Move} → Handed r (working_weight r) c w → AllAllowed r c w moves v → {l : Line}
      → l ∈ round_lines c moves v
      → line_too_wide r.amount_width l ≡ false
  round-fits h no_move m = rw (Memᴰ.eq_of_singleton m) (bound-fits h)
  round-fits {c} {w} h (one_more {v} {move} {moves} k a) {l} m =
      go (Memᴰ.append_cases (move_lines move) (subst (λ (q : List Line). l ∈ q)
      (append_assoc (move_lines move) (joined (map move_lines moves)) (bound_line (upper_bound c v) ∷ [])) m)) (round-fits (handed_moved coherent c w move k h) a)
    where
      go : l ∈ move_lines move ⊎ l ∈ round_lines c moves v → (l ∈ round_lines c moves v → line_too_wide r.amount_width l ≡ false)
          → line_too_wide r.amount_width l ≡ false
      go (inl o) f = move-fits h move k o
      go (inr o) f = f o

-- ---- lines one after another

pub after-append : (r : Rules) (s : State) (xs ys : List (List ℕ)) → after r s (xs ++ ys) ≡ after r (after r s xs) ys
after-append r s [] ys = refl
after-append r s (x ∷ xs) ys = after-append r (step r s x) xs ys

-- the state with other weights, nothing held, no void line and no number
abbrev pub standing : State → List ℤ → Bool → State
standing s w moving = record {
  case = s.case;
  starting = s.starting;
  weights = w;
  rounds = s.rounds;
  start = s.start;
  held = None;
  moving = moving;
  void = false;
  refusal = None;
}

stands : (s : State) → s.refusal ≡ None → s.held ≡ None → s.void ≡ false → s ≡ standing s s.weights s.moving
stands s e f g =
    ap₂ (λ (h : Option Held) (x : Option Refusal). again h s.void x) f e ∙ ap (λ (v : Bool). again None v None) g
  where
    again : Option Held → Bool → Option Refusal → State
    again h v x = record {
      case = s.case;
      starting = s.starting;
      weights = s.weights;
      rounds = s.rounds;
      start = s.start;
      held = h;
      moving = s.moving;
      void = v;
      refusal = x;
    }

not-and : (a b : Bool) → (T a → T (not b)) → T (not (a && b))
not-and true b f = f tt
not-and false b f = tt

or-true : (a : Bool) → (a || true) ≡ true
or-true true = refl
or-true false = refl

within-n : (n x : ℕ) → x < n → T (not (outside n (pos x)))
within-n n x h = simp flat (omega zs)

module _ {r : Rules} (coherent : Coherent r) (kinds : MoveKinds r) (s : State) where
  abbrev text : Line → List ℕ
  text l = line_text r.amount_width l

  line_taken : (u : State) (l : Line) → u.refusal ≡ None → line_too_wide r.amount_width l ≡ false → T (not (not_due r (kinds_due u.void u.held) l))
      → Quiet (tests_of_kind r u u.held l)
      → step r u (text l) ≡ taken u u.held (Some l)
  line_taken u l e f due q =
      if-false u (step_unrefused r u (read_line r.amount_width (text l))) (is_some u.refusal) (rw e tt)
      ∙ ap (step_unrefused r u) (line_read r.amount_width l f)
      ∙ ap (answered u (Some l)) ((none-iff (first_refusal (line_tests r u (Some l)))).0 ((none-applies (line_tests r u (Some l))).1
      (and_intro (not (not_due r (kinds_due u.void u.held) l)) _ due q)))

  module _ {w : List ℤ} (h : Handed r (working_weight r) s.case w) where
    shift-taken : (b : Bool) (e end v : ℕ) (a : ℤ) → AllowedShift r s.case w e end v a
        → step r (standing s w b) (text (line 1 (pos e) (pos end) (pos v) a)) ≡ standing s (moved s.case (shift e end v a) w) true
    shift-taken b e end v a k =
        line_taken (standing s w b) (line 1 (pos e) (pos end) (pos v) a) refl
        (shift_fits coherent h k) (kinds.shift-due e end v a)
        (simp (and-iff, not-or-iff) (
          (
            ((within-n s.case.m e k.edge, within-n 2 end k.side), within-n s.case.d v k.value),
            (not-not-iff (shift_amount r a)).1 k.amount,
          ),
          (k.in-range, tt),
        ))

    begin-in : {i : ℕ} {raised : List ℕ} (kind : ℕ) (a : ℤ) → Refuting s.case w i raised
        → T (not (begin_out s.case (line kind (pos i) (pos (length raised)) (pos 0) a)))
    begin-in {i} {raised} kind a k = simp not-or-iff (
      within-n s.case.n i k.variable,
      (not-not-iff (within_z (pos 1) (pos (scope_count s.case - 1)) (pos (length raised)))).1 (k.some-raised ▸ raised-few k ▸ simp flat (omega zs)),
    )

    -- A press or a void line held, with scopes that refute. With the last raise line its target has no number, and it leads to `done`.
    module _ {i : ℕ} {raised : List ℕ} (k : Refuting s.case w i raised) (target : Target) (done : Bool → State) where
      abbrev held : List ℕ → ℕ → Held
      held ys left = record { variable = i; target = target; raised = ys; left = left }

      abbrev now : Bool → List ℕ → ℕ → State
      now b ys left = holding (standing s w b) (held ys left)

      module _ (quiet : (b : Bool) (ys : List ℕ) (left next : ℕ) → Quiet (target_tests r (now b ys left) (held raised next) target))
          (completes : (b : Bool) (ys : List ℕ) (left next : ℕ) → completed (now b ys left) (held raised next) target ≡ done b) where
        raise-taken : (b : Bool) (ys : List ℕ) (x left : ℕ) → x ∈ raised → T (not (not_above (last ys) x)) → (left ≡ 1 → ys ++ (x ∷ []) ≡ raised)
            → step r (now b ys left) (text (raise_line x))
            ≡ (if eqb left 1 then completed (now b ys left) (held (ys ++ (x ∷ [])) (left - 1)) target else now b (ys ++ (x ∷ [])) (left - 1))
        raise-taken b ys x left m up whole =
            line_taken (now b ys left) (raise_line x) refl
            (raise-fits coherent h (k.scopes x m).0) (kinds.raise-due (held ys left) x)
            (simp (and-iff, not-or-iff) (
              within-n (scope_count s.case) x (k.scopes x m).0,
              (
                (up, (not-eqb-iff x i).1 (k.scopes x m).1),
                (
                  not-and (eqb left 1) (not (active_refuted s.case w i (ys ++ (x ∷ []))))
                      (λ t. (not-not-iff (active_refuted s.case w i (ys ++ (x ∷ [])))).1 (rw (whole (eqb→eq left 1 t)) k.refutes)),
                  if-cases Quiet (eqb left 1) (target_tests r (now b ys left) (held (ys ++ (x ∷ [])) (left - 1)) target) []
                      (λ t. rw (whole (eqb→eq left 1 t)) (quiet b ys left (left - 1))) (λ t. tt),
                ),
              ),
            ))

        -- the raise lines that are left, after those of ys
        raises-taken : (b : Bool) (ys : List ℕ) (x : ℕ) (xs : List ℕ) → ys ++ (x ∷ xs) ≡ raised
            → after r (now b ys (length (x ∷ xs))) (map text (map raise_line (x ∷ xs))) ≡ done b
        raises-taken b ys x [] e =
            raise-taken b ys x 1 (subst (λ (l : List ℕ). x ∈ l) e (Memᴰ.append_right ys (Memᴰ.head refl))) (above-last r ys x [] (rw e k.rising))
            (λ _. e)
            ∙ ap (λ (zs : List ℕ). completed (now b ys 1) (held zs 0) target) e ∙ completes b ys 1 0
        raises-taken b ys x (z ∷ xs) e =
            ap (λ (u : State). after r u (map text (map raise_line (z ∷ xs))))
            (raise-taken b ys x (length (x ∷ z ∷ xs)) (subst (λ (l : List ℕ). x ∈ l) e (Memᴰ.append_right ys (Memᴰ.head refl)))
            (above-last r ys x (z ∷ xs) (rw e k.rising))
            (λ n. absurd (omega arith)) ∙ if-false _ _ (eqb (length (x ∷ z ∷ xs)) 1) ((not-eqb-iff (length (x ∷ z ∷ xs)) 1).1 (λ n. omega arith))
            ∙ ap (λ (n : ℕ). now b (ys ++ (x ∷ [])) n) (omega arith))
            ∙ raises-taken b (ys ++ (x ∷ [])) z xs (append_assoc ys (x ∷ []) (z ∷ xs) ∙ e)

        all-raises-taken : (b : Bool) → after r (now b [] (length raised)) (map text (map raise_line raised)) ≡ done b
        all-raises-taken b = go raised refl
          where
            go : (xs : List ℕ) → xs ≡ raised → after r (now b [] (length xs)) (map text (map raise_line xs)) ≡ done b
            go [] e = absurd (omega (arith, k.some-raised, ap length e))
            go (x ∷ xs) e = raises-taken b [] x xs e

    press-taken : (b : Bool) {i : ℕ} {raised : List ℕ} {a : ℤ} → AllowedPress r s.case w i (active_values s.case w i) raised a
        → after r (standing s w b) (map text (move_lines (press i (active_values s.case w i) raised a)))
        ≡ standing s (moved s.case (active_press s.case w i raised a) w) true
    press-taken b {i} {raised} {a} k =
        let v : List ℤ = moved s.case (active_press s.case w i raised a) w in
        let f = press-refuting k in
        ap (λ (u : State). after r u (map text (map raise_line raised)))
        (line_taken (standing s w b) (line 2 (pos i) (pos (length raised)) (pos 0) a) refl (press-fits coherent h k) (kinds.press-due i (length raised) a)
        (and_intro (not (begin_out s.case (line 2 (pos i) (pos (length raised)) (pos 0) a) || not (press_amount r a))) true
        ((not-or-iff (begin_out s.case (line 2 (pos i) (pos (length raised)) (pos 0) a)) (not (press_amount r a))).1
        (begin-in 2 a f, (not-not-iff (press_amount r a)).1 k.amount)) tt))
        ∙ all-raises-taken f (pressing a) (λ _. standing s v true)
        (λ b ys left next. and_intro (not (leaves_range r s.case w v)) true k.in-range tt) (λ b ys left next. refl) b

    -- weights and rounds stay, and nothing is due any more
    void-taken : (b : Bool) {i : ℕ} {raised : List ℕ} → Refuting s.case w i raised
        → T (all_barred s.case w i (active_values s.case w i) (is_in raised))
        → after r (standing s w b) (void_text r i raised) ≡ after_void (standing s w b)
    void-taken b {i} {raised} k bars =
        let all = all_barred s.case w i (active_values s.case w i) (is_in raised) in
        ap (λ (u : State). after r u (map text (map raise_line raised)))
        (line_taken (standing s w b) (line 5 (pos i) (pos (length raised)) (pos 0) (pos 0)) refl (void-begin-fits coherent h k)
        (kinds.void-due i (length raised))
        (and_intro (not (begin_out s.case (line 5 (pos i) (pos (length raised)) (pos 0) (pos 0)))) true
        (begin-in 5 (pos 0) k) tt))
        ∙ all-raises-taken k voiding (λ b. after_void (standing s w b))
        (λ b ys left next. and_intro (not (not all)) true ((not-not-iff all).1 bars) tt) (λ b ys left next. refl) b

    bound-taken : (b : Bool) → s.rounds < r.rounds → upper_bound s.case w <ℤ s.start
        → step r (standing s w b) (text (bound_line (upper_bound s.case w))) ≡ after_bound (standing s w b) (upper_bound s.case w)
    bound-taken b few lower =
        line_taken (standing s w b) (bound_line (upper_bound s.case w)) refl
        (bound-fits coherent h) (kinds.bound-due (upper_bound s.case w))
        (simp (and-iff, not-not-iff) (lt→ltb s.rounds r.rounds few, ((T-eq (upper_bound s.case w) (upper_bound s.case w)).1 refl, (lower.lt, tt))))

    move_taken : (b : Bool) (move : Move) → Allowed r s.case w move
        → after r (standing s w b) (map text (move_lines move)) ≡ standing s (moved s.case move w) true
    move_taken b (shift e end v a) k = shift-taken b e end v a k
    move_taken b (press i lowered raised a) k =
        subst
        (λ (set : ℕ → Bool). AllowedPress r s.case w i set raised a
        → after r (standing s w b) (map text (move_lines (press i set raised a))) ≡ standing s (moved s.case (press i set raised a) w) true)
        (sym k.lowers) (press-taken b) k

  -- ---- moves one after another

  moves-on : (b : Bool) {w v : List ℤ} {moves : List Move} → Handed r (working_weight r) s.case w → AllAllowed r s.case w moves v
      → after r (standing s w b) (map text (joined (map move_lines moves))) ≡ standing s v (is_some (first moves) || b)
  moves-on b h no_move = refl
  moves-on b {w} {v} h (one_more {move} {moves} k m) =
      ap (after r (standing s w b)) (map-append text (move_lines move) (joined (map move_lines moves)))
      ∙ after-append r (standing s w b) (map text (move_lines move)) (map text (joined (map move_lines moves)))
      ∙ ap (λ (u : State). after r u (map text (joined (map move_lines moves)))) (move_taken h b move k)
      ∙ moves-on true (handed_moved coherent s.case w move k h) m ∙ ap (standing s v) (or-true (is_some (first moves)))

  module _ (unrefused : s.refusal ≡ None) (unheld : s.held ≡ None) (going : s.void ≡ false) (h : Handed r (working_weight r) s.case s.weights) where
    pub moves-taken : {v : List ℤ} {moves : List Move} → AllAllowed r s.case s.weights moves v
        → after r s (map (line_text r.amount_width) (joined (map move_lines moves))) ≡ standing s v (is_some (first moves) || s.moving)
    moves-taken {moves} m = ap (λ (u : State). after r u (map text (joined (map move_lines moves)))) (stands s unrefused unheld going) ∙ moves-on s.moving h m

    pub void-line-taken : {i : ℕ} {raised : List ℕ} → Refuting s.case s.weights i raised
        → T (all_barred s.case s.weights i (active_values s.case s.weights i) (is_in raised))
        → after r s (void_text r i raised) ≡ after_void s
    void-line-taken {i} {raised} k bars =
        ap (λ (u : State). after r u (void_text r i raised)) (stands s unrefused unheld going) ∙ void-taken h s.moving k bars
        ∙ ap after_void (sym (stands s unrefused unheld going))

    module _ {v : List ℤ} {moves : List Move} (m : AllAllowed r s.case s.weights moves v) (few : s.rounds < r.rounds)
        (lower : upper_bound s.case v <ℤ s.start) where
      pub round-taken : after r s (round_text r s.case moves v) ≡ after_bound (standing s v true) (upper_bound s.case v)
      round-taken =
          ap (after r s) (map-append text (joined (map move_lines moves)) (bound_line (upper_bound s.case v) ∷ []))
          ∙ after-append r s (map text (joined (map move_lines moves))) (text (bound_line (upper_bound s.case v)) ∷ [])
          ∙ ap (λ (u : State). step r u (text (bound_line (upper_bound s.case v)))) (moves-taken m)
          ∙ bound-taken (all-handed coherent m h) (is_some (first moves) || s.moving) few lower
