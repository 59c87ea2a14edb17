-- What a call of the engine's round answers and leaves where no pair comes first, by what its press did, or its void line. Assumes nothing.
use mathlib.Core.Path.{◌≡◌, refl, sym, ap, ap₂, subst, ◌∙◌}
use mathlib.Core.Bool.{Bool, true, false, not, ◌&&◌}
use mathlib.Core.List.Memᴰ
use mathlib.Core.List.{List, [], ◌∷◌, ◌++◌, map, append-nil}
use Prim.Native.Nat.{ℕ, ◌+◌, ◌*◌, ◌^◌, ◌≤◌, ◌<◌}
use native.Mathlib.Nat.{mul-le-mul_left}
use native.Mathlib.Omega.{arith}
use lib.IntN.{ℤ, pos, neg_ℤ, ◌+ℤ◌}
use lib.Dec.{T, eqb, lit<}
use lib.Signed.{mag}
use lib.ListN.{length}
use mir.Syntax.{w64}
use mir.Val.{to_z, of_z, hbits}
use Rattle.std.specs.Prelude.{if◌then◌else◌, Result, Ok, Err, Option, Some, None, ⊤}
use Rattle.integers.specs.Words.{any, joined, is_in}
use Rattle.integers.specs.Tests.{false-is, same_test}
use Rattle.integers.specs.Linear.{flat, zs, ◌▸◌, read_back}
use Rattle.integers.specs.Lists.{◌∈◌, those-in, in-those, below_in, is_in-in}
use Rattle.definitions.specs.declared.Case.{Case}
use Rattle.definitions.specs.declared.Line.{Line}
use Rattle.definitions.specs.declared.Refusal.{Refusal}
use Rattle.definitions.specs.declared.Refusal.TheVariants.{LeavesRange}
use Rattle.definitions.specs.declared.Round.{Round}
use Rattle.definitions.specs.Rules.{coherent, rules_of}
use Rattle.definitions.specs.Refusals.{◌when◌, first_refusal}
use Rattle.definitions.specs.Answers.{outcome_of, unless_refused}
use Rattle.definitions.specs.Case.{scopes, scope_count, active, barred, upper_bound}
use Rattle.definitions.specs.Valid.{working_weight}
use Rattle.definitions.specs.Moves.{active_press, only_where, press_by, spared, active_values, press_amount, leaves_range}
use Rattle.definitions.specs.Lines.{line_length, line_text, line_too_wide, overwritten}
use Rattle.definitions.specs.PairRounds.{lowest_pair}
use Rattle.definitions.specs.Engine.{chosen, kept_scopes, least_gap, Next, round, void, voided, round_bytes, made_of, make_next, pair_next, presses_next, engine_next}
use Rattle.definitions.specs.RoundLines.{raise_line, bound_line, round_lines, round_text, void_text}
use Rattle.calls.specs.Calls.{WriteCall, is_raised}
use Rattle.calls.specs.EngineCalls.{RoundCall, round_made, round_call}
use Rattle.theory.proofs.Validity.{Handed}
use Rattle.theory.proofs.Places.{plus-cong}
use Rattle.theory.proofs.Rounds.{AllAllowed, all-handed, round-fits}
use Rattle.press_theory.proofs.Trim.{chosen-some, kept-fewer}
use Rattle.press_theory.proofs.Gaps.{amount-some, amount-most, next-press, next-void}
use Rattle.press_theory.proofs.Fall.{engine_pressed, after-press}
use Rattle.engine_theory.proofs.Runs.{differ}
use Rattle.engine_theory.proofs.Engine.{presses, engine-allowed}
use Rattle.engine_theory.proofs.Calls.{taken-iff, call-taken}
use Rattle.tables.specs.Scopes.{BestOf}
use Rattle.tables.proofs.Answered.{limits-true}
use Rattle.gaps.specs.Gaps.{no_gap, else_no_gap}
use Rattle.gaps.proofs.Amounts.{amount-less}
use Rattle.changes.specs.Kept.{MarksOf, best_values, lower_and_raise_call}
use Rattle.changes.proofs.LoweringLaws.{lower-and-raise-is-press}
use Rattle.changes.proofs.ValueLaws.{best-values-active}
use Rattle.round_lines.specs.Press.{raised_below, press_line, lines_of_press, write_all_call, write_void_call}
use Rattle.round_lines.proofs.Calls.{press-written, void-written}
use Rattle.engine.specs.Rounds.{pressed_by, Found, Pressed, round_written, MadeRound}

-- ---- which way a press went

abbrev way : Bool → Result ⊤ Refusal
way b = if b then Err LeavesRange else Ok tt

refused-way : {x : Refusal} (b : Bool) → Err x ≡ way b → (b ≡ true) × (x ≡ LeavesRange)
refused-way true e = (refl, cc)
refused-way false e = differ (cc)

done-way : (b : Bool) → Ok tt ≡ way b → b ≡ false
done-way true e = cc
done-way false e = refl

-- what `lower_and_raise` gives on a table that was checked, of the values that `best_values` gives
pub pressed-by : {c : Case} {w best : List ℤ} → Handed (rules_of c) (working_weight (rules_of c)) c w → BestOf c w best → (raised : List ℕ) (i : ℕ) (a : ℤ)
    → scope_count c ≤ length raised → i < c.n → T (press_amount (rules_of c) a) → (values : ℕ) → values ≡ best_values (rules_of c) c w best i
    → {r : Result ⊤ Refusal} {after next : List ℤ} → r ≡ (lower_and_raise_call (rules_of c) c w best raised i values a).answer
    → after ≡ (lower_and_raise_call (rules_of c) c w best raised i values a).table → next ≡ (lower_and_raise_call (rules_of c) c w best raised i values a).best
    → Pressed c i raised a w after next r
pressed-by {c} {w} {best} h b raised i a room variable amount values v e f g =
    let marks = subst (λ (s : ℕ). MarksOf c (active_values c w i) s) (sym v) (best-values-active h b i variable) in
    let (p, q, k) = lower-and-raise-is-press h b raised i values (active_values c w i) marks a room variable amount in
    record {
      answer = e ∙ p ∙ answers (leaves_range (rules_of c) c w (pressed_by c i raised a w));
      table = f ∙ q ∙ tables (leaves_range (rules_of c) c w (pressed_by c i raised a w));
      greatest-kept = rw (f, g) k;
    }
  where
    answers : (l : Bool) → outcome_of (first_refusal (LeavesRange when l ∷ [])) ≡ (if l then Err LeavesRange else Ok tt)
    answers true = refl
    answers false = refl

    tables : (l : Bool) → unless_refused (first_refusal (LeavesRange when l ∷ [])) (pressed_by c i raised a w) w ≡ (if l then w else pressed_by c i raised a w)
    tables true = refl
    tables false = refl

-- ---- the lines of a press

lines_are : (c : Case) (w : List ℤ) (i : ℕ) (xs : List ℕ) (a : ℤ) (v : List ℤ)
    → round_lines c (active_press c w i xs a ∷ []) v ≡ lines_of_press i xs a (upper_bound c v)
lines_are c w i xs a v = ap (λ (l : List Line). l ++ (bound_line (upper_bound c v) ∷ [])) (append-nil (press_line i (length xs) a ∷ map raise_line xs))

none-wide : (width : ℕ) (ls : List Line) → ((l : Line) → l ∈ ls → line_too_wide width l ≡ false) → any (line_too_wide width) ls ≡ false
none-wide width [] h = refl
none-wide width (l ∷ ls) h = rw (h l (Memᴰ.head refl)) (none-wide width ls (λ k m. h k (Memᴰ.tail m)))

module _ {c : Case} {w : List ℤ} {i : ℕ} {a : ℤ} (h : Handed (rules_of c) (working_weight (rules_of c)) c w) (which : chosen c w ≡ Some i)
    (least : least_gap c w i ≡ Some a) where
  pub amount-within : T (press_amount (rules_of c) a)
  amount-within =
      amount-some c w h.shape which least ▸ amount-most c w h.shape which least (rules_of c) (coherent c.rulebook) h.in-range
      ▸ (coherent c.rulebook).difference ▸ simp flat (omega zs)

  module _ (no-pair : lowest_pair (rules_of c) c w ≡ None) (raised : List ℕ) (same : raised_below raised (scope_count c) ≡ kept_scopes c w i) where
    kept_in : (x : ℕ) → x < scope_count c → is_raised raised x ≡ is_in (kept_scopes c w i) x
    kept_in x g = same_test (is_raised raised x) (is_in (kept_scopes c w i) x)
        (λ t. subst (λ (l : List ℕ). T (is_in l x)) same ((is_in-in (raised_below raised (scope_count c)) x).1 (those-in (is_raised raised) (below_in g) t)))
        (λ t. (in-those (is_raised raised) (scopes c) ((is_in-in (raised_below raised (scope_count c)) x).0 (subst (λ (l : List ℕ). T (is_in l x)) (sym same) t))).1)

    pressed-is : pressed_by c i raised a w ≡ engine_pressed c w i a
    pressed-is =
        plus-cong c (spared c w (press_by c w i (active_values c w i) (is_raised raised) a)) w
        (spared c w (press_by c w i (active_values c w i) (is_in (kept_scopes c w i)) a)) (λ x k l t.
        ap (λ (b : Bool). if barred c w x k l then pos 0 else
        only_where (eqb x i && active_values c w i k) (neg_ℤ a) +ℤ only_where (b && not (active c w x k l)) a) (kept_in x t.scope))

    count_room : {n : ℕ} → round_bytes (rules_of c) c ≤ n → line_length (rules_of c).amount_width * (length (raised_below raised (scope_count c)) + 2) ≤ n
    count_room long =
        let room : length (raised_below raised (scope_count c)) + 2 ≤ scope_count c + 1 =
        omega (arith, ap length same, kept-fewer c w i (chosen-some c w which).0) in
        omega (arith, mul-le-mul_left {m = length (raised_below raised (scope_count c)) + 2} {n = scope_count c + 1} (line_length (rules_of c).amount_width) room)

    module _ (out : List ℕ) (long : round_bytes (rules_of c) c ≤ length out) where
      call-is : (b : Bool) → leaves_range (rules_of c) c w (engine_pressed c w i a) ≡ b
          → round_call (rules_of c) engine_next c w out ≡ round_made c w out
          (made_of (rules_of c) c (active_press c w i (kept_scopes c w i) a ∷ []) (if b then None else Some (engine_pressed c w i a)))
      call-is b e =
          call-taken (rules_of c) engine_next c w out ((taken-iff (rules_of c) engine_next c w out).1 (h, long))
          ∙ ap (λ (n : Next). round_made c w out (make_next (rules_of c) c w n))
          (ap (λ (o : Option ℕ). pair_next c w o (presses_next (rules_of c) c w)) no-pair ∙ next-press (rules_of c) c w which least)
          ∙ ap (λ (o : Option (List ℤ)). round_made c w out (made_of (rules_of c) c (active_press c w i (kept_scopes c w i) a ∷ []) o))
          (after-press c w i a (rules_of c))
          ∙ ap (λ (q : Bool). round_made c w out
          (made_of (rules_of c) c (active_press c w i (kept_scopes c w i) a ∷ []) (if q then None else Some (engine_pressed c w i a)))) e

      -- number 11
      pub made-refused : {x : Refusal} {after best : List ℤ} → Pressed c i raised a w after best (Err x)
          → MadeRound false c w out after out (Err x) × BestOf c after best
      made-refused {x} p =
          let (e, f) = refused-way (leaves_range (rules_of c) c w (pressed_by c i raised a w)) p.answer in
          let d = call-is true (ap (leaves_range (rules_of c) c w) (sym pressed-is) ∙ e) in (
            record {
              answer = ap Err f ∙ sym (ap (λ (u : RoundCall). u.answer) d);
              table = p.table ∙ ap (λ (b : Bool). if b then w else pressed_by c i raised a w) e ∙ sym (ap (λ (u : RoundCall). u.table) d);
              output = sym (ap (λ (u : RoundCall). u.out) d);
            },
            p.greatest-kept,
          )

      module _ {after best : List ℤ} (p : Pressed c i raised a w after best (Ok tt)) where
        stays : leaves_range (rules_of c) c w (engine_pressed c w i a) ≡ false
        stays = ap (leaves_range (rules_of c) c w) (sym pressed-is) ∙ done-way (leaves_range (rules_of c) c w (pressed_by c i raised a w)) p.answer

        after_is : after ≡ engine_pressed c w i a
        after_is =
            p.table ∙ ap (λ (b : Bool). if b then w else pressed_by c i raised a w)
            (done-way (leaves_range (rules_of c) c w (pressed_by c i raised a w)) p.answer) ∙ pressed-is

        allows : AllAllowed (rules_of c) c w (active_press c w i (kept_scopes c w i) a ∷ []) (engine_pressed c w i a)
        allows = engine-allowed (coherent c.rulebook) h (presses no-pair which least (false-is (leaves_range (rules_of c) c w (engine_pressed c w i a)) stays))

        pub done-handed : Handed (rules_of c) (working_weight (rules_of c)) c after
        done-handed = rw after_is (all-handed (coherent c.rulebook) allows h)

        abbrev lines_made : List Line
        lines_made = lines_of_press i (raised_below raised (scope_count c)) a (upper_bound c after)

        lines-made : lines_made ≡ round_lines c (active_press c w i (kept_scopes c w i) a ∷ []) (engine_pressed c w i a)
        lines-made =
            ap₂ (λ (xs : List ℕ) (v : List ℤ). lines_of_press i xs a (upper_bound c v)) same after_is
            ∙ sym (lines_are c w i (kept_scopes c w i) a (engine_pressed c w i a))

        lines_fit : any (line_too_wide (rules_of c).amount_width) lines_made ≡ false
        lines_fit = none-wide (rules_of c).amount_width lines_made
            (λ l m. round-fits (coherent c.rulebook) h allows (subst (λ (q : List Line). l ∈ q) lines-made m))

        text-made : joined (map (line_text (rules_of c).amount_width) lines_made)
            ≡ joined (round_text (rules_of c) c (active_press c w i (kept_scopes c w i) a ∷ []) (engine_pressed c w i a))
        text-made = ap (λ (l : List Line). joined (map (line_text (rules_of c).amount_width) l)) lines-made

        pub made-done : scope_count c ≤ length raised → {r : Result Round Refusal} {bound : ℤ} {written : List ℕ} → bound ≡ upper_bound c after
            → r ≡ round_written (write_all_call (rules_of c) c out raised i a bound).answer bound
            → written ≡ (write_all_call (rules_of c) c out raised i a bound).out
            → MadeRound false c w out after written r
        made-done room {r} {bound} {written} e n o =
            let d = call-is false stays in
            let u : write_all_call (rules_of c) c out raised i a (upper_bound c after)
            ≡ record {
              answer = Ok (length (joined (map (line_text (rules_of c).amount_width) lines_made)));
              out = overwritten (joined (map (line_text (rules_of c).amount_width) lines_made)) out;
            } =
            press-written c out raised i a (upper_bound c after) (limits-true h) room (count_room long) (chosen-some c w which).0 lines_fit in
            record {
              answer =
                  n ∙ ap (λ (z : ℤ). round_written (write_all_call (rules_of c) c out raised i a z).answer z) e
                  ∙ ap (λ (q : WriteCall). round_written q.answer (upper_bound c after)) u
                  ∙ ap₂ (λ (n : ℕ) (z : ℤ). Ok (Round.Made n z)) (ap length text-made) (ap (upper_bound c) after_is) ∙ sym (ap (λ (u : RoundCall). u.answer) d);
              table = after_is ∙ sym (ap (λ (u : RoundCall). u.table) d);
              output =
                  o ∙ ap (λ (z : ℤ). (write_all_call (rules_of c) c out raised i a z).out) e
                  ∙ ap (λ (q : WriteCall). q.out) u
                  ∙ ap (λ (l : List ℕ). overwritten l out) text-made ∙ sym (ap (λ (u : RoundCall). u.out) d);
            }

-- ---- a void line

module _ {c : Case} {w best : List ℤ} {raised : List ℕ} {i : ℕ} (f : Found c w best raised i) where
  -- nothing sets a gap just where the least gap has the bits of no_gap
  module _ {z : ℤ} (small : mag z < 2 ^ hbits w64) (answer : z ≡ else_no_gap (least_gap c w i)) where
    pub no-gap-bits : of_z w64 z ≡ of_z w64 (pos no_gap) → least_gap c w i ≡ None
    no-gap-bits b = go (least_gap c w i) refl
      where
        go : (o : Option ℤ) → least_gap c w i ≡ o → o ≡ None
        go None e = refl
        go (Some a) e =
            let d : z ≡ pos no_gap = sym (read_back w64 z small) ∙ ap (to_z w64) b ∙ read_back w64 (pos no_gap) (lit< tt) in
            let g : z ≡ a = answer ∙ ap else_no_gap e in
            absurd (amount-less f.handed f.which e ▸ d ▸ g ▸ simp flat (omega zs))

    pub some-gap-bits : (of_z w64 z ≡ of_z w64 (pos no_gap) → ⊥) → least_gap c w i ≡ Some (to_z w64 (of_z w64 z))
    some-gap-bits n = go (least_gap c w i) refl
      where
        go : (o : Option ℤ) → least_gap c w i ≡ o → least_gap c w i ≡ Some (to_z w64 (of_z w64 z))
        go None e = absurd (n (ap (of_z w64) (answer ∙ ap else_no_gap e)))
        go (Some a) e = e ∙ ap Some (sym (read_back w64 z small ∙ answer ∙ ap else_no_gap e))

  pub next-pressed : {a : ℤ} → least_gap c w i ≡ Some a → engine_next (rules_of c) c w ≡ round (active_press c w i (kept_scopes c w i) a ∷ [])
  next-pressed least =
      ap (λ (o : Option ℕ). pair_next c w o (presses_next (rules_of c) c w)) f.no-pair ∙ next-press (rules_of c) c w f.which least

  module _ (least : least_gap c w i ≡ None) where
    pub next-voids : engine_next (rules_of c) c w ≡ void i (kept_scopes c w i)
    next-voids = ap (λ (o : Option ℕ). pair_next c w o (presses_next (rules_of c) c w)) f.no-pair ∙ next-void (rules_of c) c w f.which least

    module _ (out : List ℕ) (long : round_bytes (rules_of c) c ≤ length out) where
      abbrev text : List ℕ
      text = joined (void_text (rules_of c) i (kept_scopes c w i))

      written_is : write_void_call (rules_of c) c out raised i ≡ record { answer = Ok (length text); out = overwritten text out }
      written_is =
          let few : length (raised_below raised (scope_count c)) + 1 ≤ scope_count c =
          omega (arith, ap length f.kept, kept-fewer c w i (chosen-some c w f.which).0) in
          let most = mul-le-mul_left {m = length (raised_below raised (scope_count c)) + 1} {n = scope_count c} (line_length (rules_of c).amount_width) few in
          void-written c out raised i (limits-true f.handed) f.room (omega arith) (chosen-some c w f.which).0
          ∙ ap (λ (xs : List ℕ). let t = joined (void_text (rules_of c) i xs) in record { answer = Ok (length t); out = overwritten t out }) f.kept

      void-call : round_call (rules_of c) engine_next c w out ≡ round_made c w out (voided (void_text (rules_of c) i (kept_scopes c w i)))
      void-call =
          call-taken (rules_of c) engine_next c w out ((taken-iff (rules_of c) engine_next c w out).1 (f.handed, long))
          ∙ ap (λ (n : Next). round_made c w out (make_next (rules_of c) c w n)) next-voids

      pub void-unrefused : {x : Refusal} → Err x ≡ (write_void_call (rules_of c) c out raised i).answer → ⊥
      void-unrefused e = let d = e ∙ ap (λ (q : WriteCall). q.answer) written_is in differ (cc)

      pub void-made : {bytes : ℕ} {written : List ℕ} → Ok bytes ≡ (write_void_call (rules_of c) c out raised i).answer
          → written ≡ (write_void_call (rules_of c) c out raised i).out → MadeRound false c w out w written (Ok (Round.Void bytes))
      void-made {bytes} e o =
          let d : Ok bytes ≡ Ok (length text) = e ∙ ap (λ (q : WriteCall). q.answer) written_is in
          let n : bytes ≡ length text = cc in
          record {
            answer = ap (λ (k : ℕ). Ok (Round.Void k)) n ∙ sym (ap (λ (u : RoundCall). u.answer) void-call);
            table = sym (ap (λ (u : RoundCall). u.table) void-call);
            output = o ∙ ap (λ (q : WriteCall). q.out) written_is ∙ sym (ap (λ (u : RoundCall). u.out) void-call);
          }
