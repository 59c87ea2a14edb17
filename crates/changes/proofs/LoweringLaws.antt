-- A variable lowered and scopes raised, scope by scope; on a table that was checked it is the press. Assumes nothing.
use mathlib.Core.Path.{◌≡◌, refl, sym, ap, ap₂, subst, ◌∙◌}
use mathlib.Core.Bool.{Bool, true, false, not, ◌&&◌, ◌||◌}
use mathlib.Core.Logic.{◌⊎◌, inl, inr, ⊎_elim}
use mathlib.Core.List.{List, [], ◌∷◌}
use Prim.Native.Nat.{ℕ, ◌+◌, ◌≤◌, ◌<◌}
use native.Mathlib.Omega.{arith}
use lib.IntN.{ℤ, pos, neg_ℤ, ◌+ℤ◌, +ℤ_idl, +ℤ_idr}
use lib.Dec.{T, eqb, ltb, eqb→eq, ltb→lt, lt→ltb}
use lib.ListN.{length, get_or, set, length-set}
use lib.Seq.{get_or-set_same, get_or-set_other}
use borrow.Author.Tests.{eq-eqb, lt-ltb, le-ltb}
use Rattle.std.specs.Prelude.{if◌then◌else◌, Option}
use Rattle.integers.specs.Words.{greatest_of, eq_z}
use Rattle.integers.specs.Tests.{either, is_true, is_false, if-true, if-false, if-cases, same_test, imp_intro, imp_elim}
use Rattle.integers.specs.Tests.{not-or-iff, false-is, not-not-iff, not-eqb-iff}
use Rattle.integers.specs.Lists.{all-at, all_of}
use Rattle.integers.specs.Linear.{zs, flat, ◌▸◌}
use Rattle.definitions.specs.declared.Case.{Case}
use Rattle.definitions.specs.declared.Refusal.{Refusal}
use Rattle.definitions.specs.declared.Refusal.TheVariants.{LeavesRange}
use Rattle.definitions.specs.Rules.{Rules, rules_of}
use Rattle.definitions.specs.Refusals.{◌when◌, first_refusal}
use Rattle.definitions.specs.Answers.{outcome_of, unless_refused}
use Rattle.definitions.specs.Case.{scope_count, own_length, weight, greatest}
use Rattle.definitions.specs.Valid.{working_weight}
use Rattle.definitions.specs.Moves.{Difference, spared, plus, only_where, press_by, press_amount, leaves_range}
use Rattle.calls.specs.Calls.{is_raised}
use Rattle.theory.proofs.Places.{IsTuple, each-cong, weight-plus, plus-length, plus-cong, plus-plus, plus-zero}
use Rattle.theory.proofs.Validity.{Handed}
use Rattle.tables.specs.Scopes.{scope_part, best_at, BestOf}
use Rattle.tables.proofs.Answered.{limits-known}
use Rattle.tables.proofs.Best.{over-is}
use Rattle.changes.specs.Spaced.{amount_within, sparing, stays_with}
use Rattle.marks.specs.Marks.{mark as is_marked}
use Rattle.marks.proofs.Laws.{mark-zero}
use Rattle.changes.specs.Scopes.{Amount, Amounts, place_in, scope_by, values_in, rest_of, is_touched, scope_gets, scope_lets, lowering_lets}
use Rattle.changes.specs.Kept.{is_best, MarksOf, Change, lowering_change, table_after, stays_working, KeptMade, lowering_out, lower_and_raise_call}
use Rattle.changes.proofs.SpacedLaws.{sparing-none}
use Rattle.changes.proofs.ScopeLaws.{none-lowered, place-in-variable, part-stays-iff, same-weight, same-part}
use Rattle.changes.proofs.KeptLaws.{stays-iff, call-answer, call-table, call-best}

-- ---- amounts
only-false : (b : Bool) (z : ℤ) → b ≡ false → only_where b z ≡ pos 0
only-false b z e = rw e

pub lowering-amounts : (r : Rules) (i values x mark : ℕ) (a best : ℤ) → T (press_amount r a) → Amounts r (scope_gets i values a x mark best)
lowering-amounts r i values x mark a best t p z = go (is_marked (values_in i values x) p) (eq_z z best) (not (eqb mark 0))
  where
    go : (b e m : Bool) → T (amount_within r (only_where b (neg_ℤ a) +ℤ (if e then pos 0 else only_where m a)))
    go true true m = t ▸ simp flat (omega zs)
    go true false true = t ▸ simp flat (omega zs)
    go true false false = t ▸ simp flat (omega zs)
    go false true m = t ▸ simp flat (omega zs)
    go false false true = t ▸ simp flat (omega zs)
    go false false false = t ▸ simp flat (omega zs)

-- arguments that are not out
pub lowering-in : (c : Case) (i : ℕ) (a : ℤ) → lowering_out (rules_of c) c i a ≡ false → (i < c.n) × T (press_amount (rules_of c) a)
lowering-in c i a e =
    let (s, t) = (not-or-iff (not (ltb i c.n)) (not (press_amount (rules_of c) a))).0 (false-is _ e) in
    (ltb→lt i c.n ((not-not-iff (ltb i c.n)).0 s), (not-not-iff (press_amount (rules_of c) a)).0 t)

-- ---- what is added up to a scope
abbrev pub up_to : ℕ → Difference → Difference
up_to x δ y k l = only_where (ltb y x) (δ y k l)

rest-split : (r b : Bool) (a : ℤ) → only_where (r && not b) a ≡ (if b then pos 0 else only_where r a)
rest-split true true a = refl
rest-split true false a = refl
rest-split false true a = refl
rest-split false false a = refl

-- a scope that is not touched stays
module _ (c : Case) (w : List ℤ) (long : own_length c ≤ length w) (i values x mark : ℕ) (a best : ℤ) (e : is_touched i x mark ≡ false) where
  pub untouched : plus c (scope_by c w x (scope_gets i values a x mark best)) w ≡ w
  untouched =
      let (s, u) = (not-or-iff (eqb x i) (not (eqb mark 0))).0 (false-is (is_touched i x mark) e) in
      plus-zero c (scope_by c w x (scope_gets i values a x mark best)) w (omega arith) (λ y k l t.
      nothing (place_in c x k l) (weight c w x k l) (eqb y x) (is_false _ s) (is_false _ u))
    where
      none : (p : ℕ) (z : ℤ) → eqb x i ≡ false → not (eqb mark 0) ≡ false → scope_gets i values a x mark best p z ≡ pos 0
      none p z f g =
          none-lowered (values_in i values x) a best (rest_of mark a) (rw f) p z
          ∙ if-cases (λ (n : ℤ). n ≡ pos 0) (eq_z z best) (pos 0) (rest_of mark a) (λ u. refl) (λ u. only-false (not (eqb mark 0)) a g)

      nothing : (p : ℕ) (z : ℤ) (b : Bool) → eqb x i ≡ false → not (eqb mark 0) ≡ false → only_where b (sparing z (scope_gets i values a x mark best p z)) ≡ pos 0
      nothing p z true f g = ap (sparing z) (none p z f g) ∙ sparing-none z
      nothing p z false f g = refl

module _ (c : Case) (w best : List ℤ) (raised : List ℕ) (i values : ℕ) (a : ℤ) (variable : i < c.n) where
  abbrev m : Change
  m = lowering_change c w best raised i (is_marked values) a

  abbrev δ : Difference
  δ = spared c w m.adds

  abbrev gets : ℕ → Amount
  gets x = scope_gets i values a x (get_or raised x 0) (best_at best x)

  -- what is added at a tuple
  pub added-at : (x k l : ℕ) → IsTuple c x k l → m.adds x k l ≡ gets x (place_in c x k l) (weight c w x k l)
  added-at x k l t =
      ap₂ ◌+ℤ◌ (ap (λ (b : Bool). only_where b (neg_ℤ a)) (⊎_elim own other (either (eqb x i)))) (rest-split (is_raised raised x) (is_best c w best x k l) a)
    where
      own : T (eqb x i) → (eqb x i && is_marked values k) ≡ is_marked (values_in i values x) (place_in c x k l)
      own s =
          let e : x ≡ i = eqb→eq x i s in
          let q : place_in c x k l ≡ k = place-in-variable c x k l (omega arith) in
          ap (λ (b : Bool). b && is_marked values k) (is_true (eqb x i) s)
          ∙ sym (ap₂ is_marked (if-true values 0 (eqb x i) s) q)

      other : T (not (eqb x i)) → (eqb x i && is_marked values k) ≡ is_marked (values_in i values x) (place_in c x k l)
      other s =
          ap (λ (b : Bool). b && is_marked values k) (is_false (eqb x i) s)
          ∙ sym (ap (λ (v : ℕ). is_marked v (place_in c x k l)) (if-false values 0 (eqb x i) s) ∙ mark-zero (place_in c x k l))

  -- nothing is added elsewhere
  pub lowering-still : (x k l : ℕ) → T (not (eqb x i || is_raised raised x)) → m.adds x k l ≡ pos 0
  lowering-still x k l t = let (s, u) = (not-or-iff (eqb x i) (is_raised raised x)).0 t in rw (is_false (eqb x i) s, is_false (is_raised raised x) u)

  abbrev lets : ℕ → Bool
  lets x = scope_lets (rules_of c) c w i values a x (get_or raised x 0) (best_at best x)

  pub lets-is : own_length c ≤ length w → lowering_lets (rules_of c) c w best raised i values a ≡ stays_working (rules_of c) c w m
  lets-is long = same_test (lowering_lets (rules_of c) c w best raised i values a) (stays_working (rules_of c) c w m)
      (λ s. (stays-iff (rules_of c) c w m).1 (λ x k l t u.
      let p = imp_elim (is_touched i x (get_or raised x 0)) _ (all-at lets (scope_count c) s x t.scope) u in
      subst (λ (z : ℤ). T (stays_with (rules_of c) (weight c w x k l) z)) (sym (added-at x k l t))
      ((part-stays-iff c w long x t.scope (gets x) (rules_of c)).0 p k l t)))
      (λ s. all_of lets (scope_count c) (λ x h. imp_intro (is_touched i x (get_or raised x 0)) _ (λ u.
      (part-stays-iff c w long x h (gets x) (rules_of c)).1 (λ k l t.
      subst (λ (z : ℤ). T (stays_with (rules_of c) (weight c w x k l) z)) (added-at x k l t) ((stays-iff (rules_of c) c w m).0 s x k l t u)))))

  -- ---- one scope after the other
  pub lowering-none : own_length c ≤ length w → plus c (up_to 0 δ) w ≡ w
  lowering-none long = plus-zero c (up_to 0 δ) w (omega arith) (λ y k l t. only-false (ltb y 0) (δ y k l) (le-ltb y 0 (omega arith)))

  pub lowering-all : plus c (up_to (scope_count c) δ) w ≡ plus c δ w
  lowering-all = plus-cong c (up_to (scope_count c) δ) w δ (λ y k l t. whole y k l (lt-ltb y (scope_count c) t.scope))
    where
      whole : (y k l : ℕ) → ltb y (scope_count c) ≡ true → up_to (scope_count c) δ y k l ≡ δ y k l
      whole y k l e = rw e

  module _ (x : ℕ) (h : x < scope_count c) where
    pub nothing_yet : (k l : ℕ) → IsTuple c x k l → up_to x δ x k l ≡ pos 0
    nothing_yet k l t = only-false (ltb x x) (δ x k l) (le-ltb x x (omega arith))

    abbrev turn : Difference
    turn = scope_by c (plus c (up_to x δ) w) x (gets x)

    pub lowering-turn : plus c (scope_by c (plus c (up_to x δ) w) x (gets x)) (plus c (up_to x δ) w) ≡ plus c (up_to (x + 1) δ) w
    lowering-turn =
        plus-plus c (up_to x δ) w turn
        ∙ plus-cong c (λ y k l. up_to x δ y k l +ℤ turn y k l) w (up_to (x + 1) δ) (λ y k l t. go y k l t (either (eqb y x)))
      where
        at : (k l : ℕ) → IsTuple c x k l → up_to x δ x k l +ℤ turn x k l ≡ up_to (x + 1) δ x k l
        at k l t =
            rw (le-ltb x x (omega arith), eq-eqb x x refl, lt-ltb x (x + 1) (omega arith), same-weight c (up_to x δ) w x h nothing_yet k l t)
            (+ℤ_idl _ ∙ ap (sparing (weight c w x k l)) (sym (added-at x k l t)))

        go : (y k l : ℕ) → IsTuple c y k l → T (eqb y x) ⊎ T (not (eqb y x)) → up_to x δ y k l +ℤ turn y k l ≡ up_to (x + 1) δ y k l
        go y k l t (inl s) = let e : y ≡ x = eqb→eq y x s in subst (λ (y : ℕ). IsTuple c y k l → up_to x δ y k l +ℤ turn y k l ≡ up_to (x + 1) δ y k l) (sym e)
            (at k l) t
        go y k l t (inr s) =
            ap (λ (z : ℤ). up_to x δ y k l +ℤ z) (only-false (eqb y x) _ (is_false (eqb y x) s)) ∙ +ℤ_idr (up_to x δ y k l)
            ∙ ap (λ (b : Bool). only_where b (δ y k l)) (same_test (ltb y x) (ltb y (x + 1))
            (λ u. lt→ltb y (x + 1) (omega (arith, ltb→lt y x u)))
            (λ u. lt→ltb y x (omega (arith, ltb→lt y (x + 1) u, (not-eqb-iff y x).0 s))))

    pub lowering-greatest : greatest c (plus c (up_to (x + 1) δ) w) x ≡ greatest c (plus c δ w) x
    lowering-greatest = ap greatest_of (each-cong c x h
        (λ k l t. weight-plus c (up_to (x + 1) δ) w t ∙ ap (λ (z : ℤ). weight c w x k l +ℤ z) (whole k l (lt-ltb x (x + 1) (omega arith)))
        ∙ sym (weight-plus c δ w t)))
      where
        whole : (k l : ℕ) → ltb x (x + 1) ≡ true → up_to (x + 1) δ x k l ≡ δ x k l
        whole k l e = rw e

-- the table and `best` when the scopes below x are done
pub record Lowered (c : Case) (w best : List ℤ) (raised : List ℕ) (i values : ℕ) (a : ℤ) (x : ℕ) (table kept : List ℤ) : Type 0 where
  pub table_is : table ≡ plus c (up_to x (spared c w (lowering_change c w best raised i (is_marked values) a).adds)) w
  pub same-long : length kept ≡ length best
  pub done : (y : ℕ) → y < x → best_at kept y
      ≡ (if (eqb y i || is_raised raised y) then greatest c (table_after c w (lowering_change c w best raised i (is_marked values) a)) y else best_at best y)
  pub due : (y : ℕ) → x ≤ y → best_at kept y ≡ best_at best y

module _ (c : Case) (w best : List ℤ) (raised : List ℕ) (i values : ℕ) (a : ℤ) (variable : i < c.n) (long : own_length c ≤ length w)
    (room : scope_count c ≤ length best) where
  abbrev added : Difference
  added = spared c w (lowering_change c w best raised i (is_marked values) a).adds

  -- the number kept for scope y in the end
  abbrev keeps : ℕ → ℤ
  keeps y = if (eqb y i || is_raised raised y) then greatest c (plus c added w) y else best_at best y

  pub lowered_none : Lowered c w best raised i values a 0 w best
  lowered_none = record {
    table_is = sym (lowering-none c w best raised i values a variable long);
    same-long = refl;
    done = λ y h. absurd (omega arith);
    due = λ y h. refl;
  }

  pub lowered-all : {t b : List ℤ} → Lowered c w best raised i values a (scope_count c) t b
      → KeptMade c w best (lowering_change c w best raised i (is_marked values) a) t b
  lowered-all {t} {b} p = (
    p.table_is ∙ lowering-all c w best raised i values a variable,
    over-is keeps (scope_count c) best room b p.same-long p.done p.due,
  )

  module _ {t b : List ℤ} {x : ℕ} (p : Lowered c w best raised i values a x t b) where
    pub lowered_long : length t ≡ length w
    lowered_long = ap length p.table_is ∙ plus-length c (up_to x added) w long

    module _ (h : x < scope_count c) where
      pub lowered-lets : T (lowering_lets (rules_of c) c w best raised i values a)
          → T (scope_lets (rules_of c) c t i values a x (get_or raised x 0) (best_at b x))
      lowered-lets s =
          let e : scope_part c t x ≡ scope_part c w x = ap (λ (t : List ℤ). scope_part c t x) p.table_is
          ∙ same-part c (up_to x added) w x h (nothing_yet c w best raised i values a variable x h) long in
          let lets : ℕ → Bool = λ x. scope_lets (rules_of c) c w i values a x (get_or raised x 0) (best_at best x) in
          rw (e, p.due x (omega arith)) (all-at lets (scope_count c) s x h)

      pub lowered-next : {t' b' : List ℤ} → t' ≡ plus c (scope_by c t x (scope_gets i values a x (get_or raised x 0) (best_at b x))) t
          → b' ≡ set b x (if is_touched i x (get_or raised x 0) then greatest c t' x else best_at b x) → Lowered c w best raised i values a (x + 1) t' b'
      lowered-next {t'} {b'} e d =
          let g : t' ≡ plus c (up_to (x + 1) added) w =
          e ∙ ap₂ (λ (t : List ℤ) (z : ℤ). plus c (scope_by c t x (scope_gets i values a x (get_or raised x 0) z)) t) p.table_is (p.due x (omega arith))
          ∙ lowering-turn c w best raised i values a variable x h in
          let l : x < length b = omega (arith, p.same-long) in
          let now : ℤ = if is_touched i x (get_or raised x 0) then greatest c t' x else best_at b x in
          let at : best_at (set b x now) x ≡ keeps x =
          get_or-set_same b x now (pos 0) l ∙ ap₂ (λ (u v : ℤ). if is_touched i x (get_or raised x 0) then u else v)
          (ap (λ (t : List ℤ). greatest c t x) g ∙ lowering-greatest c w best raised i values a variable x h) (p.due x (omega arith)) in
          record {
            table_is = g;
            same-long = ap length d ∙ length-set b x now ∙ p.same-long;
            done = λ y u. ap (λ (b : List ℤ). best_at b y) d ∙ ⊎_elim
                (λ s. let q : y ≡ x = eqb→eq y x s in subst (λ (y : ℕ). best_at (set b x now) y ≡ keeps y) (sym q) at)
                (λ s. get_or-set_other b x y now (pos 0) ((not-eqb-iff y x).0 s) ∙ p.done y (omega (arith, (not-eqb-iff y x).0 s)))
                (either (eqb y x));
            due = λ y u. ap (λ (b : List ℤ). best_at b y) d ∙ get_or-set_other b x y now (pos 0) (λ q. omega arith) ∙ p.due y (omega arith);
          }

-- ---- where the table was checked and `best` holds the greatest weights, it is the press of the marked values
module _ {c : Case} {w best : List ℤ} (h : Handed (rules_of c) (working_weight (rules_of c)) c w) (b : BestOf c w best) (raised : List ℕ) (i values : ℕ)
    (lowered : ℕ → Bool) (marks : MarksOf c lowered values) (a : ℤ) where
  pub lowering-same : (x k l : ℕ) → IsTuple c x k l
      → (lowering_change c w best raised i (is_marked values) a).adds x k l ≡ press_by c w i lowered (is_raised raised) a x k l
  lowering-same x k l t =
      ap₂ (λ (p q : Bool). only_where (eqb x i && p) (neg_ℤ a) +ℤ only_where (is_raised raised x && not q) a)
      (marks k (omega (arith, t.one, (limits-known h).values-few)) ∙ ap (λ (p : Bool). p && lowered k) (lt-ltb k c.d t.one))
      (ap (eq_z (weight c w x k l)) (b.holds x t.scope))

  module _ (room : scope_count c ≤ length raised) (variable : i < c.n) (amount : T (press_amount (rules_of c) a)) where
    abbrev pressed : List ℤ
    pressed = plus c (spared c w (press_by c w i lowered (is_raised raised) a)) w

    abbrev leaves : Option Refusal
    leaves = first_refusal (LeavesRange when (leaves_range (rules_of c) c w pressed) ∷ [])

    pub lower-and-raise-is-press :
        ((lower_and_raise_call (rules_of c) c w best raised i values a).answer ≡ outcome_of leaves)
        × ((lower_and_raise_call (rules_of c) c w best raised i values a).table ≡ unless_refused leaves pressed w)
        × BestOf c (lower_and_raise_call (rules_of c) c w best raised i values a).table (lower_and_raise_call (rules_of c) c w best raised i values a).best
    unfolding lower_and_raise_call
    lower-and-raise-is-press =
        let m = lowering_change c w best raised i (is_marked values) a in
        let wrong = ltb (length best) (scope_count c) || ltb (length raised) (scope_count c) in
        let out = lowering_out (rules_of c) c i a in
        let n : wrong ≡ false = rw (le-ltb (length best) (scope_count c) b.enough, le-ltb (length raised) (scope_count c) room) in
        let o : out ≡ false = rw (lt-ltb i c.n variable, is_true (press_amount (rules_of c) a) amount) in
        let still = lowering-still c w best raised i values a variable in
        let δ = press_by c w i lowered (is_raised raised) a in (
          call-answer h b m (λ x k l t. still x k l) (λ x k l t. still x k l) δ lowering-same wrong out n o,
          call-table h b m (λ x k l t. still x k l) (λ x k l t. still x k l) δ lowering-same wrong out n o,
          call-best h b m (λ x k l t. still x k l) (λ x k l t. still x k l) δ lowering-same wrong out n o,
        )
