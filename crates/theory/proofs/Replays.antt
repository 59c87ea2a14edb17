-- Demand 3 of the plain replay, whoever wrote the lines: after any list the objective of each lawful assignment is at least its starting one
-- (L4), the upper bound is at least every such starting objective (L5), rounds number at most the upper bound at the start less any such
-- starting objective (L6), and after a void line there is no lawful assignment (K2j). What is kept from line to line is said of the state alone;
-- a line keeps the weights or makes one move, and every move so made is allowed.
-- Assumes nothing.
use mathlib.Core.Path.{◌≡◌, refl, sym, ap, ap₂, subst, ◌∙◌}
use mathlib.Core.Bool.{Bool, true, false, not, ◌&&◌, ◌||◌}
use mathlib.Core.Logic.{◌≢◌, ◌↔◌, ◌⊎◌, inl, inr, ⊎_elim}
use mathlib.Core.List.Memᴰ
use mathlib.Core.List.{List, [], ◌∷◌, ◌++◌, map}
use Prim.Native.Nat.{ℕ, ◌-◌, ◌≤◌, ◌<◌}
use native.Mathlib.Omega.{arith}
use lib.IntN.{ℤ, pos, negsuc, nat_abs, ◌+ℤ◌}
use lib.Dec.{T, eqb, ltb, ltb→lt, lt→ltb}
use lib.Signed.{◌≤ℤ◌, ◌<ℤ◌}
use lib.ListN.{length, length-append}
use Rattle.std.specs.Prelude.{if◌then◌else◌, Option, Some, None, is_some}
use Rattle.integers.specs.Words.{all, last, is_in}
use Rattle.integers.specs.Tests.{false-is, and-iff, not-or-iff, not-not-iff, not-leb-iff, not-eqb-iff, if-cases, and_intro, and_left, and_right}
use Rattle.integers.specs.Options.{some_inj, none-some}
use Rattle.integers.specs.Linear.{flat, zs, ◌▸◌, T-eq, ≤ℤ-trans, ≤ℤ-of-eq}
use Rattle.integers.specs.Lists.{◌∈◌}
use Rattle.definitions.specs.declared.Case.{Case}
use Rattle.definitions.specs.declared.Line.{Line}
use Rattle.definitions.specs.declared.Refusal.{Refusal}
use Rattle.definitions.specs.declared.Refusal.TheVariants.{NotInColumns, NotRefuted, CutShort}
use Rattle.definitions.specs.Rules.{Rules, Coherent}
use Rattle.definitions.specs.Refusals.{Test, ◌when◌, first_refusal}
use Rattle.definitions.specs.Case.{scope_count, own_length, objective, upper_bound, barred, is_lawful}
use Rattle.definitions.specs.Valid.{working_weight, valid}
use Rattle.definitions.specs.Consistency.{all_refuted}
use Rattle.definitions.specs.Moves.{Move, shift, press, shift_amount, press_amount, active_values, active_refuted, difference, spared, moved, leaves_range}
use Rattle.definitions.specs.Lines.{read_line, not_due, is_kind, outside}
use Rattle.calls.specs.Calls.{is_rising}
use Rattle.definitions.specs.Replay.{Target, pressing, voiding, Held, State, fresh, after_move, holding, after_bound, after_void, refused, kinds_due, shift_of}
use Rattle.definitions.specs.Replay.{shift_tests, begin_out, press_tests, void_tests, held_of, raising, is_last, held_values, not_above, all_barred, target_tests}
use Rattle.definitions.specs.Replay.{raise_tests, bound_tests, tests_of_kind, completed, line_tests, taken, answered}
use Rattle.definitions.specs.Replay.{step_unrefused, step, after, answers, at_end, keeps_rules}
use Rattle.theory.proofs.Shape.{Shape}
use Rattle.theory.proofs.Places.{IsTuple, plus-length}
use Rattle.theory.proofs.Totals.{bound-above}
use Rattle.theory.proofs.Shifts.{shift-moves}
use Rattle.theory.proofs.Barred.{bars-kept, lawful-iff, lawful-same}
use Rattle.theory.proofs.Presses.{press-moves, none-lawful}
use Rattle.theory.proofs.Validity.{none-applies, Handed, valid-facts, valid-carry, working-handed, handed-spared}

-- ---- moves that are allowed

pub record AllowedShift (r : Rules) (c : Case) (w : List ℤ) (e end v : ℕ) (a : ℤ) : Type 0 where
  pub edge : e < c.m
  pub side : end < 2
  pub value : v < c.d
  pub amount : T (shift_amount r a)
  pub in-range : T (not (leaves_range r c w (moved c (shift e end v a) w)))

-- the values lowered are the active ones
pub record AllowedPress (r : Rules) (c : Case) (w : List ℤ) (i : ℕ) (lowered : ℕ → Bool) (raised : List ℕ) (a : ℤ) : Type 0 where
  pub variable : i < c.n
  pub some-raised : 0 < length raised
  pub rising : T (is_rising raised)
  pub scopes : (x : ℕ) → x ∈ raised → (x < scope_count c) × (x ≢ i)
  pub amount : T (press_amount r a)
  pub lowers : lowered ≡ active_values c w i
  pub refutes : T (all_refuted c w (is_in raised) i lowered)
  pub in-range : T (not (leaves_range r c w (moved c (press i lowered raised a) w)))

-- what a press and a void line have in common: scopes, raised in order, that refute the active values of a variable
pub record Refuting (c : Case) (w : List ℤ) (i : ℕ) (raised : List ℕ) : Type 0 where
  pub variable : i < c.n
  pub some-raised : 0 < length raised
  pub rising : T (is_rising raised)
  pub scopes : (x : ℕ) → x ∈ raised → (x < scope_count c) × (x ≢ i)
  pub refutes : T (active_refuted c w i raised)

abbrev pub Allowed : Rules → Case → List ℤ → Move → Type 0
Allowed r c w (shift e end v a) = AllowedShift r c w e end v a
Allowed r c w (press i lowered raised a) = AllowedPress r c w i lowered raised a

pub allowed-stays : (r : Rules) (c : Case) (w : List ℤ) (move : Move) → Allowed r c w move → T (not (leaves_range r c w (moved c move w)))
allowed-stays r c w (shift e end v a) h = h.in-range
allowed-stays r c w (press i lowered raised a) h = h.in-range

-- they keep and add no barred tuple, and a table that every call takes stays one
module _ {r : Rules} (coherent : Coherent r) (c : Case) (w : List ℤ) (move : Move) (k : Allowed r c w move) where
  pub allowed-bars : {x a b : ℕ} → IsTuple c x a b → barred c (moved c move w) x a b ≡ barred c w x a b
  allowed-bars = bars-kept c w (difference c w move) coherent (allowed-stays r c w move k)

  pub handed_moved : Handed r (working_weight r) c w → Handed r (working_weight r) c (moved c move w)
  handed_moved h = handed-spared coherent (difference c w move) h (allowed-stays r c w move k)

-- ---- what one line, of any bytes, can do to a state

abbrev pub TargetSound : Rules → Target → Type 0
TargetSound r (pressing a) = T (press_amount r a)
TargetSound r voiding = T true

-- a press or a void line held can be taken if the scopes still to come are like those raised so far
pub record HeldSound (r : Rules) (c : Case) (h : Held) : Type 0 where
  pub variable : h.variable < c.n
  pub amount : TargetSound r h.target
  pub rising : T (is_rising h.raised)
  pub scopes : (x : ℕ) → x ∈ h.raised → (x < scope_count c) × (x ≢ h.variable)

-- a scope that it may raise next
pub record RaisesNext (c : Case) (h : Held) (x : ℕ) : Type 0 where
  pub scope : x < scope_count c
  pub other : x ≢ h.variable
  pub above : T (not (not_above (last h.raised) x))

pub data Stepped (r : Rules) (s : State) : State → Type 0 where
  stays : Stepped r s s
  refuses : (x : Refusal) → Stepped r s (refused s x)
  shifts : (e end v : ℕ) (a : ℤ) → AllowedShift r s.case s.weights e end v a → Stepped r s (after_move s (shift e end v a))
  holds : (h : Held) → HeldSound r s.case h → Stepped r s (holding s h)
  raises : (h : Held) (x left : ℕ) → s.held ≡ Some h → RaisesNext s.case h x
      → Stepped r s (holding s (record { variable = h.variable; target = h.target; raised = h.raised ++ (x ∷ []); left = left }))
  presses : (h : Held) (a : ℤ) (x : ℕ) → s.held ≡ Some h → h.target ≡ pressing a → RaisesNext s.case h x
      → T (all_refuted s.case s.weights (is_in (h.raised ++ (x ∷ []))) h.variable (held_values s h))
      → T (not (leaves_range r s.case s.weights (moved s.case (press h.variable (held_values s h) (h.raised ++ (x ∷ [])) a) s.weights)))
      → Stepped r s (after_move s (press h.variable (held_values s h) (h.raised ++ (x ∷ [])) a))
  voids : (h : Held) (x : ℕ) → s.held ≡ Some h
      → T (all_refuted s.case s.weights (is_in (h.raised ++ (x ∷ []))) h.variable (held_values s h))
      → T (all_barred s.case s.weights h.variable (held_values s h) (is_in (h.raised ++ (x ∷ []))))
      → Stepped r s (after_void s)
  bounds : (z : ℤ) → s.rounds < r.rounds → z ≡ upper_bound s.case s.weights → z <ℤ s.start → Stepped r s (after_bound s z)

-- no test of the list applies
abbrev pub Quiet : List Test → Type 0
Quiet ts = T (all (λ t. not t.applies) ts)

pub inside : (n : ℕ) (z : ℤ) → T (not (outside n z)) → nat_abs z < n
inside n (pos x) t = t ▸ simp flat (omega zs)
inside n (negsuc x) t = absurd t

module _ (r : Rules) (s : State) (t : Line) where
  shift-step : Quiet (shift_tests r s t) → Stepped r s (after_move s (shift_of t))
  shift-step q =
      let p = simp (and-iff, not-or-iff) at q in
      shifts (nat_abs t.a) (nat_abs t.b) (nat_abs t.c) t.amount (record {
        edge = inside s.case.m t.a p.0.0.0.0;
        side = inside 2 t.b p.0.0.0.1;
        value = inside s.case.d t.c p.0.0.1;
        amount = (not-not-iff (shift_amount r t.amount)).0 p.0.1;
        in-range = p.1.0;
      })

  begin-step : (target : Target) → TargetSound r target → T (not (begin_out s.case t)) → Stepped r s (holding s (held_of target t))
  begin-step target k q =
      let p = simp not-or-iff at q in
      holds (held_of target t) (record {
        variable = inside s.case.n t.a p.0;
        amount = k;
        rising = tt;
        scopes = λ x m. absurd (Memᴰ.not-nil m);
      })

  press-step : Quiet (press_tests r s t) → Stepped r s (holding s (held_of (pressing t.amount) t))
  press-step q =
      let p = (not-or-iff (begin_out s.case t) (not (press_amount r t.amount))).0
      (and_left (not (begin_out s.case t || not (press_amount r t.amount))) true q) in
      begin-step (pressing t.amount) ((not-not-iff (press_amount r t.amount)).0 p.1) p.0

  void-step : Quiet (void_tests s t) → Stepped r s (holding s (held_of voiding t))
  void-step q = begin-step voiding tt (and_left (not (begin_out s.case t)) true q)

  bound-step : Quiet (bound_tests r s t) → Stepped r s (after_bound s t.amount)
  bound-step q =
      let p = simp (and-iff, not-not-iff) at q in
      let e : t.amount ≡ upper_bound s.case s.weights = (T-eq t.amount (upper_bound s.case s.weights)).0 p.1.0 in
      bounds t.amount (ltb→lt s.rounds r.rounds p.0) e (p.1.1.0 ▸ e ▸ simp flat (omega zs))

  raise-step : (h : Held) → s.held ≡ Some h → Quiet (raise_tests r s h t)
      → Stepped r s (if is_last h then completed s (raising h t) h.target else holding s (raising h t))
  raise-step h e q = go (is_last h)
      (and_right (not (not_above (last h.raised) x || eqb x h.variable)) _ (and_right (not (outside (scope_count s.case) t.a)) _ q))
    where
      x : ℕ
      x = nat_abs t.a

      refutes : Bool
      refutes = all_refuted s.case s.weights (is_in (raising h t).raised) h.variable (held_values s h)

      bars : Bool
      bars = all_barred s.case s.weights h.variable (held_values s h) (is_in (raising h t).raised)

      next : RaisesNext s.case h x
      next =
          let f = and_left (not (outside (scope_count s.case) t.a)) _ q in
          let g = (not-or-iff (not_above (last h.raised) x) (eqb x h.variable)).0
          (and_left (not (not_above (last h.raised) x || eqb x h.variable)) _ (and_right (not (outside (scope_count s.case) t.a)) _ q)) in
          record { scope = inside (scope_count s.case) t.a f; other = (not-eqb-iff x h.variable).0 g.1; above = g.0 }

      complete : (target : Target) → h.target ≡ target → T refutes → Quiet (target_tests r s (raising h t) target)
          → Stepped r s (completed s (raising h t) target)
      complete (pressing a) d f k = presses h a x e d next f (and_left (not (leaves_range r s.case s.weights
          (moved s.case (press h.variable (held_values s h) (raising h t).raised a) s.weights))) true k)
      complete voiding d f k = voids h x e f ((not-not-iff bars).0 (and_left (not (not bars)) true k))

      go : (b : Bool) → Quiet (NotRefuted when (b && not refutes) ∷ (if b then target_tests r s (raising h t) h.target else []))
          → Stepped r s (if b then completed s (raising h t) h.target else holding s (raising h t))
      go true k = complete h.target refl ((not-not-iff refutes).0 (and_left (not (not refutes)) _ k)) (and_right (not (not refutes)) _ k)
      go false k = raises h x (h.left - 1) e next

  kind-step : (h : Option Held) → s.held ≡ h → Quiet (tests_of_kind r s h t) → Stepped r s (taken s h (Some t))
  kind-step (Some h) e q = raise-step h e q
  kind-step None e q = go (is_kind 1 t) (is_kind 2 t) (is_kind 4 t) q
    where
      go : (a b d : Bool) → Quiet (if a then shift_tests r s t else if b then press_tests r s t else if d then bound_tests r s t else void_tests s t)
          → Stepped r s (if a then after_move s (shift_of t) else if b then holding s (held_of (pressing t.amount) t)
          else if d then after_bound s t.amount else holding s (held_of voiding t))
      go true b d q = shift-step q
      go false true d q = press-step q
      go false false true q = bound-step q
      go false false false q = void-step q

module _ (r : Rules) (s : State) where
  answered-step : (t : Option Line) → Stepped r s (step_unrefused r s t)
  answered-step None = refuses NotInColumns
  answered-step (Some t) = go (first_refusal (line_tests r s (Some t))) refl
    where
      go : (o : Option Refusal) → first_refusal (line_tests r s (Some t)) ≡ o → Stepped r s (answered s (Some t) o)
      go None e = kind-step r s t s.held refl (and_right (not (not_due r (kinds_due s.void s.held) t)) _
          ((none-applies (line_tests r s (Some t))).0 (rw e tt)))
      go (Some x) e = refuses x

  pub stepped : (t : List ℕ) → Stepped r s (step r s t)
  stepped t = if-cases (Stepped r s) (is_some s.refusal) s _ (λ _. stays) (λ _. answered-step (read_line r.amount_width t))

-- ---- lines one after another

-- what every line keeps, every list keeps
pub after-keeps : (r : Rules) (P : State → Type 0) → ((s : State) (t : List ℕ) → P s → P (step r s t)) → (s : State) (ts : List (List ℕ)) → P s
    → P (after r s ts)
after-keeps r P one s [] p = p
after-keeps r P one s (t ∷ ts) p = after-keeps r P one (step r s t) ts (one s t p)

-- the case and its starting weights
pub stepped_same : {r : Rules} {s u : State} → Stepped r s u → (u.case ≡ s.case) × (u.starting ≡ s.starting)
stepped_same stays = (refl, refl)
stepped_same (refuses x) = (refl, refl)
stepped_same (shifts e end v a h) = (refl, refl)
stepped_same (holds h k) = (refl, refl)
stepped_same (raises h x left e n) = (refl, refl)
stepped_same (presses h a x e d n f i) = (refl, refl)
stepped_same (voids h x e f b) = (refl, refl)
stepped_same (bounds z h e l) = (refl, refl)

module _ (r : Rules) (s : State) (ts : List (List ℕ)) where
  same_case : ((after r s ts).case ≡ s.case) × ((after r s ts).starting ≡ s.starting)
  same_case = after-keeps r (λ u. (u.case ≡ s.case) × (u.starting ≡ s.starting))
      (λ u t e. let d = stepped_same (stepped r u t) in (d.0 ∙ e.0, d.1 ∙ e.1)) s ts (refl, refl)

  pub case-after : (after r s ts).case ≡ s.case
  case-after = same_case.0

  pub starting-after : (after r s ts).starting ≡ s.starting
  starting-after = same_case.1

-- ---- what is kept

pub record Sound (r : Rules) (s : State) : Type 0 where
  pub rules : Coherent r
  pub shape : Shape s.case
  pub own : own_length s.case ≤ length s.starting
  pub long : length s.weights ≡ length s.starting
  pub bars : (x k l : ℕ) → IsTuple s.case x k l → barred s.case s.weights x k l ≡ barred s.case s.starting x k l
  pub kept : (p : List ℕ) → T (is_lawful s.case s.starting p)
      → objective s.case s.starting p ≤ℤ (objective s.case s.weights p +ℤ s.case.carry)
  pub under : (p : List ℕ) → T (is_lawful s.case s.starting p) → objective s.case s.starting p ≤ℤ s.start
  pub few : s.rounds ≤ r.rounds
  pub press-held : (h : Held) → s.held ≡ Some h → HeldSound r s.case h
  pub none-lawful : T s.void → (p : List ℕ) → T (is_lawful s.case s.starting p) → ⊥

rising-next : (ys : List ℕ) (x : ℕ) → T (is_rising ys) → T (not (not_above (last ys) x)) → T (is_rising (ys ++ (x ∷ [])))
rising-next [] x t n = tt
rising-next (y ∷ []) x t n = and_intro (ltb y x) true (lt→ltb y x ((not-leb-iff x y).0 n)) tt
rising-next (y ∷ z ∷ ys) x t n = and_intro (ltb y z) (is_rising ((z ∷ ys) ++ (x ∷ []))) (and_left (ltb y z) (is_rising (z ∷ ys)) t)
    (rising-next (z ∷ ys) x (and_right (ltb y z) (is_rising (z ∷ ys)) t) n)

module _ {r : Rules} {c : Case} {h : Held} {x : ℕ} (o : HeldSound r c h) (n : RaisesNext c h x) where
  next-rising : T (is_rising (h.raised ++ (x ∷ [])))
  next-rising = rising-next h.raised x o.rising n.above

  next-scopes : (y : ℕ) → y ∈ (h.raised ++ (x ∷ [])) → (y < scope_count c) × (y ≢ h.variable)
  next-scopes y m = ⊎_elim (o.scopes y) (λ k. subst (λ (y : ℕ). (y < scope_count c) × (y ≢ h.variable)) (sym (Memᴰ.eq_of_singleton k))
      (n.scope, n.other)) (Memᴰ.append_cases h.raised m)

press-allowed : {r : Rules} {s : State} → Sound r s → (h : Held) (a : ℤ) (x : ℕ) → s.held ≡ Some h → h.target ≡ pressing a → RaisesNext s.case h x
    → T (all_refuted s.case s.weights (is_in (h.raised ++ (x ∷ []))) h.variable (held_values s h))
    → T (not (leaves_range r s.case s.weights (moved s.case (press h.variable (held_values s h) (h.raised ++ (x ∷ [])) a) s.weights)))
    → AllowedPress r s.case s.weights h.variable (held_values s h) (h.raised ++ (x ∷ [])) a
press-allowed {r} v h a x e d n f i = let o = v.press-held h e in record {
  variable = o.variable;
  some-raised = omega (arith, length-append h.raised (x ∷ []));
  rising = next-rising o n;
  scopes = next-scopes o n;
  amount = subst (TargetSound r) d o.amount;
  lowers = refl;
  refutes = f;
  in-range = i;
}

-- every line keeps the weights or makes one move, and this one is allowed
pub stepped-allowed : {r : Rules} {s u : State} → Sound r s → Stepped r s u
    → (u.weights ≡ s.weights) ⊎ ((move : Move) × Allowed r s.case s.weights move × (u.weights ≡ moved s.case move s.weights))
stepped-allowed v stays = inl refl
stepped-allowed v (refuses x) = inl refl
stepped-allowed v (shifts e end k a h) = inr (shift e end k a, h, refl)
stepped-allowed v (holds h k) = inl refl
stepped-allowed v (raises h x left e n) = inl refl
stepped-allowed {s} v (presses h a x e d n f i) =
    inr (press h.variable (held_values s h) (h.raised ++ (x ∷ [])) a, press-allowed v h a x e d n f i, refl)
stepped-allowed v (voids h x e f b) = inl refl
stepped-allowed v (bounds z h e l) = inl refl

module _ {r : Rules} {s : State} (v : Sound r s) where
  -- the same assignments are lawful as at the start
  lawful-now : (p : List ℕ) → T (is_lawful s.case s.starting p) → T (is_lawful s.case s.weights p)
  lawful-now = lawful-same s.case s.starting s.weights v.bars v.shape

  pub bound-from : (p : List ℕ) → T (is_lawful s.case s.starting p) → objective s.case s.starting p ≤ℤ upper_bound s.case s.weights
  bound-from p a = ≤ℤ-trans (v.kept p a) (bound-above v.shape p ((lawful-iff s.case s.starting p).0 a).0 s.weights)

  move-sound : (move : Move) → Allowed r s.case s.weights move → ((p : List ℕ) → T (is_lawful s.case s.weights p)
      → objective s.case s.weights p ≤ℤ objective s.case (moved s.case move s.weights) p)
      → Sound r (after_move s move)
  move-sound move k up = record {
    rules = v.rules;
    shape = v.shape;
    own = v.own;
    long =
        plus-length s.case (spared s.case s.weights (difference s.case s.weights move)) s.weights (omega (arith, v.own, v.long))
        ∙ v.long;
    bars = λ x a b u. allowed-bars v.rules s.case s.weights move k u ∙ v.bars x a b u;
    kept = λ p a. v.kept p a ▸ up p (lawful-now p a) ▸ simp flat (omega zs);
    under = v.under;
    few = v.few;
    press-held = λ h e. absurd (none-some e);
    none-lawful = v.none-lawful;
  }

  hold-sound : (h : Held) → HeldSound r s.case h → Sound r (holding s h)
  hold-sound h k = record {
    rules = v.rules;
    shape = v.shape;
    own = v.own;
    long = v.long;
    bars = v.bars;
    kept = v.kept;
    under = v.under;
    few = v.few;
    press-held = λ j e. subst (HeldSound r s.case) (some_inj e) k;
    none-lawful = v.none-lawful;
  }

  pub sound-stepped : {u : State} → Stepped r s u → Sound r u
  sound-stepped stays = v
  sound-stepped (refuses x) = record {
    rules = v.rules;
    shape = v.shape;
    own = v.own;
    long = v.long;
    bars = v.bars;
    kept = v.kept;
    under = v.under;
    few = v.few;
    press-held = v.press-held;
    none-lawful = v.none-lawful;
  }
  sound-stepped (shifts e end k a h) = move-sound (shift e end k a) h
      (λ p g. ≤ℤ-of-eq (sym (shift-moves s.case e end k a v.shape h.edge p s.weights g)))
  sound-stepped (holds h k) = hold-sound h k
  sound-stepped (raises h x left e n) =
      let o = v.press-held h e in
      hold-sound (record { variable = h.variable; target = h.target; raised = h.raised ++ (x ∷ []); left = left })
      (record { variable = o.variable; amount = o.amount; rising = next-rising o n; scopes = next-scopes o n })
  sound-stepped (presses h a x e d n f i) =
      let o = v.press-held h e in
      let least : T (press_amount r a) = subst (TargetSound r) d o.amount in
      move-sound (press h.variable (held_values s h) (h.raised ++ (x ∷ [])) a) (press-allowed v h a x e d n f i) (λ p g.
      press-moves v.shape p s.weights g h.variable o.variable (held_values s h) (h.raised ++ (x ∷ [])) f a (least ▸ simp flat (omega zs)))
  sound-stepped (voids h x e f b) = record {
    rules = v.rules;
    shape = v.shape;
    own = v.own;
    long = v.long;
    bars = v.bars;
    kept = v.kept;
    under = v.under;
    few = v.few;
    press-held = λ h e. absurd (none-some e);
    none-lawful = λ t p a. none-lawful v.shape p s.weights (lawful-now p a) h.variable (v.press-held h e).variable (held_values s h)
        (h.raised ++ (x ∷ [])) f b;
  }
  sound-stepped (bounds z h e l) = record {
    rules = v.rules;
    shape = v.shape;
    own = v.own;
    long = v.long;
    bars = v.bars;
    kept = v.kept;
    under = λ p a. rw e (bound-from p a);
    few = omega arith;
    press-held = λ h e. absurd (none-some e);
    none-lawful = v.none-lawful;
  }

pub sound-step : (r : Rules) (s : State) (t : List ℕ) → Sound r s → Sound r (step r s t)
sound-step r s t v = sound-stepped v (stepped r s t)

pub sound-after : (r : Rules) (s : State) (ts : List (List ℕ)) → Sound r s → Sound r (after r s ts)
sound-after r = after-keeps r (Sound r) (sound-step r)

-- ---- the count of rounds and the upper bound at the round's start together never rise
module _ (r : Rules) where
  pub counted : {s u : State} → Stepped r s u → (pos u.rounds +ℤ u.start) ≤ℤ (pos s.rounds +ℤ s.start)
  counted stays = simp flat (omega zs)
  counted (refuses x) = simp flat (omega zs)
  counted (shifts e end v a h) = simp flat (omega zs)
  counted (holds h k) = simp flat (omega zs)
  counted (raises h x left e n) = simp flat (omega zs)
  counted (presses h a x e d n f i) = simp flat (omega zs)
  counted (voids h x e f b) = simp flat (omega zs)
  counted (bounds z h e l) = l ▸ simp flat (omega zs)

  module _ (s : State) (ts : List (List ℕ)) where
    counted-after : (pos (after r s ts).rounds +ℤ (after r s ts).start) ≤ℤ (pos s.rounds +ℤ s.start)
    counted-after = after-keeps r (λ u. (pos u.rounds +ℤ u.start) ≤ℤ (pos s.rounds +ℤ s.start)) (λ u t h. ≤ℤ-trans (counted (stepped r u t)) h) s ts
        (simp flat (omega zs))

    -- from any sound state
    pub rounds-from : Sound r s → (p : List ℕ) → T (is_lawful s.case s.starting p)
        → (pos (after r s ts).rounds +ℤ objective s.case s.starting p) ≤ℤ (pos s.rounds +ℤ s.start)
    rounds-from v p a =
        let u = rw (case-after r s ts, starting-after r s ts) at ((sound-after r s ts v).under p (rw (case-after r s ts, starting-after r s ts) a)) in
        u ▸ counted-after ▸ simp flat (omega zs)

-- ---- a table that every call takes, in a sound state, stays one

pub handed-step : {r : Rules} {s : State} → Sound r s → Handed r (working_weight r) s.case s.weights → (t : List ℕ)
    → Handed r (working_weight r) (step r s t).case (step r s t).weights
handed-step {r} {s} v h t = rw (case-after r s (t ∷ [])) (⊎_elim
    (λ e. subst (Handed r (working_weight r) s.case) (sym e) h)
    (λ (move, k, e). subst (Handed r (working_weight r) s.case) (sym e) (handed_moved v.rules s.case s.weights move k h))
    (stepped-allowed v (stepped r s t)))

pub handed-list : {r : Rules} {s : State} → Sound r s → Handed r (working_weight r) s.case s.weights → (ts : List (List ℕ))
    → Handed r (working_weight r) (after r s ts).case (after r s ts).weights
handed-list {r} {s} v h ts = (after-keeps r (λ u. Sound r u × Handed r (working_weight r) u.case u.weights)
    (λ u t (a, b). (sound-step r u t a, handed-step a b t)) s ts (v, h)).1

-- ---- a valid case

module _ {r : Rules} (coherent : Coherent r) (c : Case) (w : List ℤ) (t : T (valid r c w)) where
  pub sound-fresh : Sound r (fresh c w)
  sound-fresh =
      let h = valid-facts r c w t in
      let e = h.long in
      record {
        rules = coherent;
        shape = h.shape;
        own = omega arith;
        long = refl;
        bars = λ x k l u. refl;
        kept = λ p a. valid-carry r c w t ▸ simp flat (omega zs);
        under = λ p a. valid-carry r c w t ▸ bound-above h.shape p ((lawful-iff c w p).0 a).0 w ▸ simp flat (omega zs);
        few = omega arith;
        press-held = λ h e. absurd (none-some e);
        none-lawful = λ f. absurd f;
      }

  module _ (ts : List (List ℕ)) where
    pub total_kept : (p : List ℕ) → T (is_lawful c w p) → objective c w p ≤ℤ objective c (after r (fresh c w) ts).weights p
    total_kept p a = valid-carry r c w t ▸ (rw (case-after r (fresh c w) ts, starting-after r (fresh c w) ts) at
        ((sound-after r (fresh c w) ts sound-fresh).kept p (rw (case-after r (fresh c w) ts, starting-after r (fresh c w) ts) a))) ▸ simp flat (omega zs)

    pub bound-sound : (p : List ℕ) → T (is_lawful c w p) → objective c w p ≤ℤ upper_bound c (after r (fresh c w) ts).weights
    bound-sound p a =
        valid-carry r c w t ▸ total_kept p a
        ▸ bound-above (valid-facts r c w t).shape p ((lawful-iff c w p).0 a).0 (after r (fresh c w) ts).weights ▸ simp flat (omega zs)

    pub rounds-few : (p : List ℕ) → T (is_lawful c w p) → (pos (after r (fresh c w) ts).rounds +ℤ objective c w p) ≤ℤ upper_bound c w
    rounds-few p a = rounds-from r (fresh c w) ts sound-fresh p a ▸ simp flat (omega zs)

    -- a whole void line means that no lawful assignment exists
    pub void-sound : T (after r (fresh c w) ts).void → (p : List ℕ) → T (is_lawful c w p) → ⊥
    void-sound f p a = (sound-after r (fresh c w) ts sound-fresh).none-lawful f p (rw (case-after r (fresh c w) ts, starting-after r (fresh c w) ts) a)

    -- the working table is one that every call takes
    pub handed-after : Handed r (working_weight r) c (after r (fresh c w) ts).weights
    handed-after = rw (case-after r (fresh c w) ts) at (handed-list sound-fresh (working-handed coherent (valid-facts r c w t)) ts)

-- ---- numbers

pub none-iff : {A : Type 0} (o : Option A) → T (not (is_some o)) ↔ o ≡ None
none-iff None = (λ t. refl, λ e. tt)
none-iff (Some a) = (λ t. absurd t, λ e. absurd (none-some (sym e)))

-- a number stands: nothing changes any more, and it is every later answer and the end's
module _ (r : Rules) (s : State) {x : Refusal} (e : s.refusal ≡ Some x) where
  step-stands : (t : List ℕ) → step r s t ≡ s
  step-stands t = rw e

  pub after-stands : (ts : List (List ℕ)) → after r s ts ≡ s
  after-stands [] = refl
  after-stands (t ∷ ts) = rw (step-stands t) (after-stands ts)

-- a list that leaves no number began with none, and no answer was one
pub no_number : (r : Rules) (s : State) (ts : List (List ℕ)) → (after r s ts).refusal ≡ None ↔ (s.refusal ≡ None) × (answers r s ts ≡ map (λ t. None) ts)
no_number r s [] = (λ e. (e, refl), λ p. p.0)
no_number r s (t ∷ ts) = go (no_number r (step r s t) ts) s.refusal refl
  where
    go : (after r s (t ∷ ts)).refusal ≡ None ↔ ((step r s t).refusal ≡ None) × (answers r (step r s t) ts ≡ map (λ t. None) ts) → (o : Option Refusal)
        → s.refusal ≡ o
        → (after r s (t ∷ ts)).refusal ≡ None ↔ (s.refusal ≡ None) × (answers r s (t ∷ ts) ≡ map (λ t. None) (t ∷ ts))
    go ih None e = (λ f. let p = ih.0 f in (e, ap₂ ◌∷◌ p.0 p.1), λ p. let q = p.1 in ih.1 ((cc), (cc)))
    go ih (Some x) e = (
      λ f. absurd (none-some (sym f ∙ ap (λ (u : State). u.refusal) (after-stands r s e (t ∷ ts)) ∙ e)),
      λ p. absurd (none-some (sym p.0 ∙ e)),
    )

-- the end gives no number just where none was given, and a void line is whole, or nothing is held and no move lacks its bound line
abbrev pub Ended : State → Type 0
Ended s = T s.void ⊎ ((s.held ≡ None) × (s.moving ≡ false))

end-iff : (s : State) → at_end s ≡ None ↔ (s.refusal ≡ None) × Ended s
end-iff s = go s.refusal s.void s.held s.moving
  where
    go : (x : Option Refusal) (v : Bool) (h : Option Held) (m : Bool)
        → (if is_some x then x else if not v && (is_some h || m) then Some CutShort else None) ≡ None ↔ (x ≡ None) × (T v ⊎ ((h ≡ None) × (m ≡ false)))
    go (Some x) v h m = (λ e. absurd (none-some (sym e)), λ p. p.0)
    go None true h m = (λ e. (refl, inl tt), λ p. refl)
    go None false (Some h) m = (λ e. absurd (none-some (sym e)), λ p. absurd (⊎_elim (λ f. f) (λ q. none-some (sym q.0)) p.1))
    go None false None true = (λ e. absurd (none-some (sym e)), λ p. absurd (⊎_elim (λ f. f) (λ q. false-is true q.1) p.1))
    go None false None false = (λ e. (refl, inr (refl, refl)), λ p. refl)

-- a list keeps the line rules just where no line's answer is a number, and its end is whole
module _ (r : Rules) (c : Case) (w : List ℤ) (ts : List (List ℕ)) where
  pub accepted-iff : at_end (after r (fresh c w) ts) ≡ None ↔ (answers r (fresh c w) ts ≡ map (λ t. None) ts) × Ended (after r (fresh c w) ts)
  accepted-iff = (
    λ e. let p = (end-iff (after r (fresh c w) ts)).0 e in (((no_number r (fresh c w) ts).0 p.0).1, p.1),
    λ p. (end-iff (after r (fresh c w) ts)).1 ((no_number r (fresh c w) ts).1 (refl, p.0), p.1),
  )

  pub keeps-iff : T (keeps_rules r c w ts) ↔ at_end (after r (fresh c w) ts) ≡ None
  keeps-iff = none-iff (at_end (after r (fresh c w) ts))
