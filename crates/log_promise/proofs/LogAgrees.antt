-- The plain replay of a log beside what stands between the lines of the library's replay: within a stretch they agree as Agrees says, and a join
-- begun is held as its lines and weights so far. Assumes nothing.
use Rattle.log_checker.specs.declared.JoinBegun.{JoinBegun}
use mathlib.Core.Path.{◌≡◌, refl, sym, ap, ap₂, subst, ◌∙◌}
use mathlib.Core.Bool.{Bool, true, false, not, ◌&&◌, ◌||◌}
use mathlib.Core.Logic.{◌↔◌, ⊎_elim}
use mathlib.Core.List.{List, [], ◌∷◌, map}
use Prim.Native.Nat.{ℕ, zero, suc, ◌+◌, ◌-◌, ◌≤◌, ◌<◌}
use native.Mathlib.Nat.{suc-sub-suc}
use native.Mathlib.Omega.{arith}
use lib.IntN.{ℤ, pos, nat_abs}
use lib.Dec.{T}
use lib.ListN.{length, drop, length-drop, length-replicate}
use Rattle.std.specs.Prelude.{if◌then◌else◌, Ok, Err, Option, Some, None, is_some, None}
use Rattle.integers.specs.Words.{eq_z}
use Rattle.integers.specs.Linear.{T-eq}
use Rattle.integers.specs.Tests.{is_true, is_false, either, and_left, and_right}
use Rattle.integers.specs.Options.{none-some}
use Rattle.definitions.specs.declared.Case.{Case}
use Rattle.definitions.specs.declared.Line.{Line}
use Rattle.definitions.specs.declared.Refusal.{Refusal}
use Rattle.definitions.specs.declared.Refusal.TheVariants.{NotInColumns, NotDue, CutShort}
use Rattle.definitions.specs.Rules.{Rules, coherent, rules_of, scopes_at_most, scope_places, edge_places}
use Rattle.definitions.specs.Refusals.{first_refusal, sooner}
use Rattle.definitions.specs.Answers.{outcome_of}
use Rattle.definitions.specs.Case.{own_length, lent_length}
use Rattle.definitions.specs.Valid.{zeros_from, both_handed_over, valid}
use Rattle.definitions.specs.Lines.{read_line, not_due, is_kind}
use Rattle.definitions.specs.CaseFiles.{CaseDue, Reading, took, zeroed_from}
use Rattle.definitions.specs.Replay.{State, Held, step, step_unrefused, at_end}
use Rattle.logs.specs.Leave.{WeightedCase, left_by}
use Rattle.logs.specs.Join.{Joining as PlainJoin, join_dues, join_line_tests, grown_by}
use Rattle.logs.specs.Logs.{fresh_log, after_log, log_answers}
use Rattle.logs.specs.Logs.{LogState, in_stretch, new_stretch, refused_log, between_rounds, after_leave, line_between, line_read, step_log, log_end}
use Rattle.logs.specs.Logs.{after_join, joined_by, line_of_join, line_by, leave_line_tests, begin_join_tests, unless_number}
use Rattle.logs.specs.Waiting.{small_case, renumbered, ends_read, is_last_due, weights_read, read_so_far, weight_waits, lower_kept, waiting_tests}
use Rattle.case_lines.specs.declared.Awaited.{Awaited}
use Rattle.case_lines.specs.Dues.{SizesLimited, due_awaited, first_due, next_due}
use Rattle.case_theory.proofs.JoinReads.{join_lines}
use Rattle.checker.specs.declared.Replay.{Replay as Stretch}
use Rattle.checker.specs.Checker.{none_raised, fresh_replay as fresh_stretch}
use Rattle.checker.specs.Checker.{StepCall as StretchCall, Asked, due_kinds, is_short, is_void, record_out, of_due, step_tests}
use Rattle.checker.specs.Checker.{step_by as stretch_by, step_line as stretch_line}
use Rattle.log_checker.specs.Checker.{EndCall, no_ends, begun_with, join_sizes, fresh_replay, of_join, of_join_line, after_lines, line_answers, join_begun}
use Rattle.log_checker.specs.Checker.{Between, StepCall, LineAsked, is_between, waiting_at, with_stretch, lent_number, of_move, of_leave}
use Rattle.log_checker.specs.Checker.{refused_by, step_by, step_line, step_standing, step_replay, is_cut_short, end_lent, end_standing, end_replay}
use Rattle.theory.proofs.Validity.{BothHanded, both-handed, valid-facts}
use Rattle.theory.proofs.Replays.{none-iff, stepped, stepped_same}
use Rattle.case_theory.proofs.CaseDues.{IsDue, rank, rank-apart, rank_below}
use Rattle.case_theory.proofs.Zeroed.{zeros-at, zeros_by, zeroed-length, zeroed-zeros}
use Rattle.log_theory.proofs.WaitingTests.{waits-quiet}
use Rattle.log_theory.proofs.Waiting.{ends_after, took-waits, begun-waits, waits-long, waits-own, lower_long, upper-joins}
use Rattle.log_theory.proofs.WaitingDues.{last-due, join-limited, due-next, first-rank, waits-zeros}
use Rattle.log_theory.proofs.LogSteps.{moves_link}
use Rattle.log_theory.proofs.JoinDues.{join-length, join-due}
use Rattle.log_theory.proofs.SoundLogs.{SoundJoin, SoundLog, sound-log-fresh, sound-log-step}
use Rattle.checker_promise.proofs.Agrees.{due_of, record_of, MarkedIn}
use Rattle.checker_promise.proofs.Folds.{short-alike, record-in, line-reaches, handed-first, handed-unrefused}
use Rattle.log_promise.specs.Lists.{begun}

-- ---- what stands between the lines: the state's, with these bytes for the raised scopes, this starting table, and this for a join

abbrev pub log_between : LogState → List ℕ → List ℤ → Option JoinBegun → List ℕ → Between
log_between s bytes w₀ join lower = record {
  case = s.stretch.case;
  starting = w₀;
  table = s.stretch.weights;
  replay = record { stretch = record_of s.stretch bytes; joining = join; lower = lower };
}

-- a join begun of so many edges: where x is due, what is read so far is what waits
pub record JoinAt (c : Case) (w₀ : List ℤ) (edges : ℕ) (x : CaseDue) (lower : List ℕ) (j : PlainJoin) : Type 0 where
  pub in-join : IsDue 1 c.d edges x
  pub past : T (zeros_from (own_length c + weights_read c edges x) w₀)
  pub dues : j.dues ≡ drop (rank 1 c.d edges x) (join_dues c edges)
  pub reading : j.reading ≡ read_so_far c w₀ edges x lower

abbrev pub JoinSame : State → List ℤ → Option JoinBegun → List ℕ → Option PlainJoin → Type 0
JoinSame s w₀ join lower None = (join ≡ None) × (w₀ ≡ s.starting)
JoinSame s w₀ join lower (Some j) =
    (edges : ℕ) × (due : Awaited) × (join ≡ (Some (join_begun edges due))) × JoinAt s.case w₀ edges (due_awaited due) lower j

-- the parts agree with the state; a refused line leaves nothing to be asked
pub record Parts (r : Rules) (s : LogState) (bytes : List ℕ) (w₀ : List ℤ) (join : Option JoinBegun) (lower : List ℕ) : Type 0 where
  pub marked : MarkedIn r s.stretch bytes
  pub long : length w₀ ≡ lent_length r s.stretch.case
  pub many : length lower ≡ edge_places
  pub starting : zeroed_from (own_length s.stretch.case) w₀ ≡ s.stretch.starting
  pub cleared : (x : Refusal) → s.stretch.refusal ≡ Some x → w₀ ≡ s.stretch.starting
  pub lent : s.stretch.refusal ≡ None → lent_number r (log_between s bytes w₀ join lower) ≡ None
  pub joins : s.stretch.refusal ≡ None → JoinSame s.stretch w₀ join lower s.joining

pub record AgreesLog (r : Rules) (s : LogState) (b : Between) : Type 0 where
  pub bytes : List ℕ
  pub waiting : List ℤ
  pub join : Option JoinBegun
  pub lower : List ℕ
  pub same : b ≡ log_between s bytes waiting join lower
  pub parts : Parts r s bytes waiting join lower
  pub sound : SoundLog r s
  pub placed : scopes_at_most r ≤ scope_places

-- the call leads to a state
abbrev Reaches : Rules → StepCall → LogState → Type 0
Reaches r call u =
    (call.answer ≡ outcome_of u.stretch.refusal)
    × ((bytes : List ℕ) × (w₀ : List ℤ) × (join : Option JoinBegun) × (lower : List ℕ) × (call.after ≡ log_between u bytes w₀ join lower)
    × Parts r u bytes w₀ join lower)

-- ---- what is due, in the record and in the state

between-alike : (s : State) (bytes : List ℕ) → is_between (record_of s bytes) ≡ between_rounds s
between-alike s bytes = go s.void s.held s.moving
  where
    go : (v : Bool) (h : Option Held) (m : Bool) → (not (is_short (due_of v h) m) && not (is_void (due_of v h))) ≡ (not (is_some h) && not m && not v)
    go true None true = refl
    go true None false = refl
    go true (Some h) m = refl
    go false None true = refl
    go false None false = refl
    go false (Some h) m = refl

-- ---- a stretch's line in a log

abbrev lifted : Between → StretchCall → StepCall
lifted b call = record {
  answer = call.stepped.answer;
  after = record { case = b.case; starting = b.starting; table = call.table; replay = with_stretch b.replay call.stepped.replay };
}

module _ (r : Rules) (c : Case) (w₀ w : List ℤ) (p : Stretch) (lower : List ℕ) where
  abbrev at : Between
  at = record { case = c; starting = w₀; table = w; replay = record { stretch = p; joining = None; lower = lower } }

  -- nothing applies to what is handed over
  both-lent : lent_number r at ≡ None ↔ BothHanded r c w₀ w × T (not (record_out r c p))
  both-lent = (
    λ e. (both-handed r c w₀ w (record_out r c p)).0 ((none-iff (first_refusal (both_handed_over r c w₀ w (record_out r c p)))).1 e),
    λ h. (none-iff (first_refusal (both_handed_over r c w₀ w (record_out r c p)))).0 ((both-handed r c w₀ w (record_out r c p)).1 h),
  )

  module _ (lent : lent_number r at ≡ None) where
    by-lifts : (asked : Asked) (o : Option Refusal) (t : Line) → step_by r at (of_move r at asked t) o ≡ lifted at (stretch_by w p asked o)
    by-lifts asked None t = refl
    by-lifts asked (Some x) t = rw lent

    number-lifts : (t : Line) → let asked = of_due r c w p p.due t in
        sooner (lent_number r at) (first_refusal (of_move r at asked t).tests) ≡ first_refusal (step_tests r c w p t asked)
    number-lifts t =
        let (h, i) = both-lent.0 lent in
        let asked = of_due r c w p p.due t in
        let e = handed-first h.now asked.out asked.later in
        rw (lent, is_false (record_out r c p) i) (ap (λ (o : Option Refusal). if not_due r (due_kinds p.due) t then Some NotDue else o) (sym e))

    line-lifts : (l : Option Line) → T (not (is_between p && moves_link l)) → step_line r at l ≡ lifted at (stretch_line r c w p l)
    line-lifts None n = rw lent
    line-lifts (Some t) n =
        ap (λ (asked : LineAsked). step_by r at asked (sooner (lent_number r at) (first_refusal asked.tests))) (ordinary _ _ (is_between p) (is_kind 7 t) (is_kind 8 t) n)
        ∙ by-lifts (of_due r c w p p.due t) (sooner (lent_number r at) (first_refusal (of_move r at (of_due r c w p p.due t) t).tests)) t
        ∙ ap (λ (o : Option Refusal). lifted at (stretch_by w p (of_due r c w p p.due t) o)) (number-lifts t)
      where
        move : LineAsked
        move = of_move r at (of_due r c w p p.due t) t

        ordinary : (x y : LineAsked) (b seven eight : Bool) → T (not (b && (seven || eight))) → (if b && seven then x else if b && eight then y else move) ≡ move
        ordinary x y false seven eight n = refl
        ordinary x y true false false n = refl
        ordinary x y true false true n = absurd n
        ordinary x y true true eight n = absurd n

-- ---- refused lines

zeroed-self : (p : ℕ) (w : List ℤ) → T (zeros_from p w) → zeroed_from p w ≡ w
zeroed-self zero [] t = refl
zeroed-self zero (z ∷ w) t =
    let e : length (z ∷ w) - 0 ≡ suc (length w - 0) = omega arith in
    rw e (ap₂ ◌∷◌ (sym ((T-eq z (pos 0)).0 (and_left (eq_z z (pos 0)) _ t))) (zeroed-self zero w (and_right (eq_z z (pos 0)) _ t)))
zeroed-self (suc p) [] t = let e : 0 - suc p ≡ 0 = omega arith in rw e
zeroed-self (suc p) (z ∷ w) t = zeroed-cons p z w ∙ ap (λ (l : List ℤ). z ∷ l) (zeroed-self p w t)
  where
    zeroed-cons : (p : ℕ) (z : ℤ) (w : List ℤ) → zeroed_from (suc p) (z ∷ w) ≡ z ∷ zeroed_from p w
    zeroed-cons p z w = rw suc-sub-suc

zeroed-again : (p : ℕ) (w : List ℤ) → zeroed_from p (zeroed_from p w) ≡ zeroed_from p w
zeroed-again p w = zeroed-self p (zeroed_from p w) (zeroed-zeros p w)

-- what waits goes, and the case's own weights are left
waiting-goes : (s : State) (w₀ : List ℤ) (lower : List ℕ) → zeroed_from (own_length s.case) w₀ ≡ s.starting → (join : Option JoinBegun) (o : Option PlainJoin)
    → JoinSame s w₀ join lower o → waiting_at s.case w₀ join ≡ s.starting
waiting-goes s w₀ lower e None None (f, g) = g
waiting-goes s w₀ lower e None (Some j) (edges, due, f, g) = let z : ◌≡◌ {A = ℕ} 0 1 = cc in absurd (omega arith)
waiting-goes s w₀ lower e (Some j) o m = e

module _ {r : Rules} {s : LogState} {bytes : List ℕ} {w₀ : List ℤ} {join : Option JoinBegun} {lower : List ℕ} (k : Parts r s bytes w₀ join lower)
    (unrefused : s.stretch.refusal ≡ None) where
  abbrev here : Between
  here = log_between s bytes w₀ join lower

  -- the weights that wait go, and those of the case stay
  own-stays : (join : Option JoinBegun) → zeroed_from (own_length s.stretch.case) (waiting_at s.stretch.case w₀ join) ≡ s.stretch.starting
  own-stays None = k.starting
  own-stays (Some j) = zeroed-again (own_length s.stretch.case) w₀ ∙ k.starting

  own-long : (join : Option JoinBegun) → length (waiting_at s.stretch.case w₀ join) ≡ lent_length r s.stretch.case
  own-long None = k.long
  own-long (Some j) = zeroed-length (own_length s.stretch.case) w₀ ∙ k.long

  refused-reaches : (x : Refusal) → Reaches r (refused_by r here x (lent_number r here)) (refused_log s x)
  refused-reaches x = (
    refl,
    (
      bytes,
      waiting_at s.stretch.case w₀ join,
      join,
      lower,
      ap (λ (o : Option Refusal). (refused_by r here x o).after) (k.lent unrefused),
      record {
        marked = k.marked;
        long = own-long join;
        many = k.many;
        starting = own-stays join;
        cleared = λ y e. waiting-goes s.stretch w₀ lower k.starting join s.joining (k.joins unrefused);
        lent = λ e. absurd (none-some (sym e));
        joins = λ e. absurd (none-some (sym e));
      },
    ),
  )

line-same-as : (r : Rules) (s : State) (l : Line) → T (not (between_rounds s && moves_link (Some l)))
    → line_between r s l ≡ in_stretch (step_unrefused r s (Some l))
line-same-as r s l n = go (between_rounds s) (is_kind 7 l) (is_kind 8 l) _ _ _ n
  where
    go : (b seven eight : Bool) (x y u : LogState) → T (not (b && (seven || eight))) → (if b && seven then x else if b && eight then y else u) ≡ u
    go false seven eight x y u n = refl
    go true false false x y u n = refl
    go true false true x y u n = absurd n
    go true true eight x y u n = absurd n

-- ---- where no join is begun

module _ {r : Rules} (placed : scopes_at_most r ≤ scope_places) where
  -- no number applies to what is handed over
  nothing_lent : {u : State} {bytes : List ℕ} → SoundLog r (in_stretch u) → MarkedIn r u bytes → (lower : List ℕ)
      → lent_number r (log_between (in_stretch u) bytes u.starting None lower) ≡ None
  nothing_lent {u} {bytes} v m lower = (both-lent r u.case u.starting u.weights (record_of u bytes) lower).1
      (v.both, record-in placed v.sound v.both.now m)

  -- a stretch begins
  new-reaches : (s : State) (bytes : List ℕ) (join : Option JoinBegun) (lower : List ℕ) → length lower ≡ edge_places → (v : WeightedCase) → SoundLog r (new_stretch s v)
      → Reaches r (record { answer = Ok tt; after = begun_with (record { stretch = record_of s bytes; joining = join; lower = lower }) v }) (new_stretch s v)
  new-reaches s bytes join lower many v sound =
      let m : MarkedIn r (new_stretch s v).stretch bytes = λ h e. absurd (none-some e) in (
        refl,
        (
          bytes,
          v.starting,
          None,
          lower,
          refl,
          record {
            marked = m;
            long = sound.both.first.long;
            many = many;
            starting = zeroed-self (own_length v.case) v.starting sound.both.first.past;
            cleared = λ x e. absurd (none-some e);
            lent = λ e. nothing_lent sound m lower;
            joins = λ e. (refl, refl);
          },
        ),
      )

  module _ {s : State} {bytes : List ℕ} {lower : List ℕ} (sound : SoundLog r (in_stretch s)) (unrefused : s.refusal ≡ None)
      (k : Parts r (in_stretch s) bytes s.starting None lower) where
    abbrev now : Between
    now = log_between (in_stretch s) bytes s.starting None lower

    leave-reaches : (t : Line) (o : Option Refusal) → SoundLog r (unless_number r (in_stretch s) (after_leave r s t) o)
        → Reaches r (step_by r now (of_leave r now t) o) (unless_number r (in_stretch s) (after_leave r s t) o)
    leave-reaches t None v = new-reaches s bytes None lower k.many (left_by r s.case (nat_abs t.a) s.starting s.weights) v
    leave-reaches t (Some x) v = refused-reaches k unrefused x

    -- a line of the stretch
    move-reaches : (bs : List ℕ) (l : Option Line) → read_line r.amount_width bs ≡ l → T (not (between_rounds s && moves_link l))
        → SoundLog r (in_stretch (step_unrefused r s l)) → Reaches r (step_line r now l) (in_stretch (step_unrefused r s l))
    move-reaches bs l read n v =
        let u = step_unrefused r s l in
        let q : step r s bs ≡ u = rw (unrefused, read) in
        let (c, w) = subst (λ (u : State). (u.case ≡ s.case) × (u.starting ≡ s.starting)) q (stepped_same (stepped r s bs)) in
        let (marks, e, m) = line-reaches placed sound.sound sound.both.now k.marked l in
        let d = line-lifts r s.case s.starting s.weights (record_of s bytes) lower (k.lent unrefused) l
        (rw (between-alike s bytes) n) ∙ ap (lifted now) e in (
          ap (λ (x : StepCall). x.answer) d,
          (
            marks,
            s.starting,
            None,
            lower,
            ap (λ (x : StepCall). x.after) d ∙ ap (λ (c : Case). record {
              case = c;
              starting = s.starting;
              table = u.weights;
              replay = record { stretch = record_of u marks; joining = None; lower = lower };
            }) (sym c),
            record {
              marked = m;
              long = k.long ∙ ap (lent_length r) (sym c);
              many = k.many;
              starting = ap (λ (c : Case). zeroed_from (own_length c) s.starting) c ∙ k.starting ∙ sym w;
              cleared = λ x e. sym w;
              lent = λ f. subst (λ (w₀ : List ℤ). lent_number r (log_between (in_stretch u) marks w₀ None lower) ≡ None) w (nothing_lent v m lower);
              joins = λ f. (refl, sym w);
            },
          ),
        )

    -- a line where no join is begun; `begins` is what a line of kind 8 leads to
    module _ (t : Line)
        (begins : (o : Option Refusal) → first_refusal (begin_join_tests r s t) ≡ o → SoundLog r (unless_number r (in_stretch s) (after_join s t) o)
        → Reaches r (step_by r now (of_join r now t) o) (unless_number r (in_stretch s) (after_join s t) o)) where
      special-reaches : T (between_rounds s && moves_link (Some t)) → SoundLog r (line_between r s t) → Reaches r (step_line r now (Some t)) (line_between r s t)
      special-reaches b v =
          rw (k.lent unrefused, between-alike s bytes, is_true (between_rounds s) (and_left (between_rounds s) _ b))
          (go (is_kind 7 t) (is_kind 8 t) (and_right (between_rounds s) _ b) (rw (is_true (between_rounds s) (and_left (between_rounds s) _ b)) at v))
        where
          go : (x y : Bool) → T (x || y)
              → SoundLog r (if x then unless_number r (in_stretch s) (after_leave r s t) (first_refusal (leave_line_tests r s t))
              else if y then unless_number r (in_stretch s) (after_join s t) (first_refusal (begin_join_tests r s t)) else in_stretch (step_unrefused r s (Some t)))
              → Reaches r (let asked = if x then of_leave r now t else if y then of_join r now t
              else of_move r now (of_due r s.case s.weights (record_of s bytes) (due_of s.void s.held) t) t in
              step_by r now asked (first_refusal asked.tests))
              (if x then unless_number r (in_stretch s) (after_leave r s t) (first_refusal (leave_line_tests r s t))
              else if y then unless_number r (in_stretch s) (after_join s t) (first_refusal (begin_join_tests r s t)) else in_stretch (step_unrefused r s (Some t)))
          go true y q v = leave-reaches t (first_refusal (leave_line_tests r s t)) v
          go false true q v = begins (first_refusal (begin_join_tests r s t)) refl v
          go false false q v = absurd q

-- ---- a join

drop_all : {A : Type 0} (n : ℕ) (xs : List A) → length xs ≤ n → drop n xs ≡ []
drop_all zero [] h = refl
drop_all zero (x ∷ xs) h = absurd (omega arith)
drop_all (suc n) [] h = refl
drop_all (suc n) (x ∷ xs) h = drop_all n xs (omega arith)

-- no number applies in the middle of a join
waits : (r : Rules) (s : LogState) (j : PlainJoin) → SoundLog r s → s.joining ≡ Some j → (w₀ : List ℤ) (edges : ℕ) (x : CaseDue) (lower : List ℕ)
    → length w₀ ≡ lent_length r s.stretch.case → length lower ≡ edge_places → zeroed_from (own_length s.stretch.case) w₀ ≡ s.stretch.starting
    → JoinAt s.stretch.case w₀ edges x lower j
    → first_refusal (waiting_tests r s.stretch.case w₀ s.stretch.weights edges x lower false) ≡ None
waits r s j v e w₀ edges x lower long many own at =
    let c : Case = s.stretch.case in
    let k = (v.join j e).1 in
    let d : k.added ≡ edges = let f = ap (λ (g : Reading). g.case.m) (sym k.reading ∙ at.reading) in omega arith in
    let at' : JoinAt c w₀ k.added x lower j = subst (λ (p : ℕ). JoinAt c w₀ p x lower j) (sym d) at in
    let q : rank 1 c.d k.added x ≡ k.taken =
    let f = ap length (sym k.due ∙ at'.dues) in
    omega (
      arith,
      length-drop k.taken (join_dues c k.added),
      length-drop (rank 1 c.d k.added x) (join_dues c k.added),
      join-length c k.added,
      k.some-due,
      rank_below 1 c.d k.added x at'.in-join,
    ) in
    subst (λ (p : ℕ). first_refusal (waiting_tests r c w₀ s.stretch.weights p x lower false) ≡ None) d
    (waits-quiet v.under v.both k x at'.in-join q w₀ long own at'.past lower many at'.reading)

module _ {r : Rules} (placed : scopes_at_most r ≤ scope_places) where
  -- a join is on its way: what agrees is all that is asked
  joining-parts : {s : LogState} {j : PlainJoin} {bytes : List ℕ} (w₀ : List ℤ) (edges : ℕ) (due : Awaited) (lower : List ℕ) → SoundLog r s
      → s.stretch.refusal ≡ None → s.joining ≡ Some j → MarkedIn r s.stretch bytes → length w₀ ≡ lent_length r s.stretch.case → length lower ≡ edge_places
      → zeroed_from (own_length s.stretch.case) w₀ ≡ s.stretch.starting → JoinAt s.stretch.case w₀ edges (due_awaited due) lower j
      → Parts r s bytes w₀ (Some (join_begun edges due)) lower
  joining-parts {s} {j} {bytes} w₀ edges due lower v free e m long many own at = record {
    marked = m;
    long = long;
    many = many;
    starting = own;
    cleared = λ x f. absurd (none-some (sym free ∙ f));
    lent = λ f. rw (
      is_false (record_out r s.stretch.case (record_of s.stretch bytes)) (record-in placed v.sound v.both.now m),
      between-alike s.stretch bytes,
      is_true (between_rounds s.stretch) (v.join j e).0,
    ) (waits r s j v e w₀ edges (due_awaited due) lower long many own at);
    joins = λ f. rw e (edges, due, refl, at);
  }

  -- kind 8: no line of it is read yet
  begin-reaches : {s : State} {bytes : List ℕ} {lower : List ℕ} → SoundLog r (in_stretch s) → s.refusal ≡ None
      → (k : Parts r (in_stretch s) bytes s.starting None lower) → (t : Line) (o : Option Refusal)
      → SoundLog r (unless_number r (in_stretch s) (after_join s t) o)
      → let now = log_between (in_stretch s) bytes s.starting None lower in
      Reaches r (step_by r now (of_join r now t) o) (unless_number r (in_stretch s) (after_join s t) o)
  begin-reaches {s} {bytes} {lower} sound unrefused k t None v =
      let p = nat_abs t.a in
      let due = first_due (join_sizes s.case p) in
      let (in-join, at) = first-rank s.case p sound.both.first.shape.some-value in (
        ap outcome_of (sym unrefused),
        (
          bytes,
          s.starting,
          (Some (join_begun p due)),
          lower,
          refl,
          joining-parts s.starting p due lower v unrefused refl k.marked k.long k.many k.starting (record {
            in-join = in-join;
            past = zeros_by (own_length s.case + weights_read s.case p (due_awaited due)) s.starting (λ i h. zeros-at (own_length s.case) s.starting sound.both.first.past i (omega arith));
            dues = ap (λ (n : ℕ). drop n (join_dues s.case p)) (sym at);
            reading = begun-waits s.case s.starting p sound.both.first.past lower;
          }),
        ),
      )
  begin-reaches sound unrefused k t (Some x) v = refused-reaches k unrefused x

  -- a case line of the join
  module _ {s : LogState} {j : PlainJoin} {bytes : List ℕ} {w₀ : List ℤ} {edges : ℕ} {due : Awaited} {lower : List ℕ} (sound : SoundLog r s)
      (begun : s.joining ≡ Some j) (unrefused : s.stretch.refusal ≡ None) (k : Parts r s bytes w₀ (Some (join_begun edges due)) lower)
      (at : JoinAt s.stretch.case w₀ edges (due_awaited due) lower j) (t : Line) where
    abbrev c : Case
    c = s.stretch.case

    abbrev x : CaseDue
    x = due_awaited due

    abbrev mid : Between
    mid = log_between s bytes w₀ (Some (join_begun edges due)) lower

    abbrev g : Reading
    g = read_so_far c w₀ edges x lower

    abbrev rest : List CaseDue
    rest = drop (suc (rank 1 c.d edges x)) (join_dues c edges)

    -- the plain replay has this line due too
    due-same : j.dues ≡ renumbered c x ∷ rest
    due-same =
        let (y, u, e, d) = join-due c edges (rank 1 c.d edges x) (omega (arith, rank_below 1 c.d edges x at.in-join)) in
        at.dues ∙ d ∙ ap (λ (y : CaseDue). renumbered c y ∷ rest) (rank-apart (small_case c edges) y x u at.in-join e)

    line_same : line_of_join r s j.reading j.dues t
        ≡ unless_number r s (joined_by s.stretch (took g (renumbered c x) (Some t)) rest) (first_refusal (join_line_tests r g (renumbered c x) t))
    line_same = rw (at.reading, due-same)

    -- the case has room for the join
    abbrev joint : SoundJoin r c s.stretch.starting j
    joint = (sound.join j begun).1

    as_many : joint.added ≡ edges
    as_many = let e = ap (λ (g : Reading). g.case.m) (sym joint.reading ∙ at.reading) in omega arith

    one_more : c.n < (rules_of c).variables
    one_more = subst (λ (r : Rules). c.n < r.variables) sound.under joint.variables

    room : c.m + edges ≤ (rules_of c).edges
    room = subst (λ (r : Rules). c.m + edges ≤ r.edges) sound.under (omega (arith, joint.edges, as_many))

    full : length w₀ ≡ lent_length (rules_of c) c
    full = k.long ∙ ap (λ (r : Rules). lent_length r c) sound.under

    limited : SizesLimited (join_sizes c edges)
    limited = join-limited c edges one_more sound.both.first.shape.some-value
        (subst (λ (r : Rules). c.d ≤ r.values) sound.under sound.both.first.values-most) room

    abbrev after : Reading
    after = took g (renumbered c x) (Some t)

    module _ (pass : first_refusal (join_line_tests r g (renumbered c x) t) ≡ None) where
      read-on : (y : CaseDue) → ends_read y ≡ ends_after x → after ≡ read_so_far c (weight_waits c w₀ edges x t) edges y (lower_kept x t lower)
      read-on = took-waits c w₀ edges full one_more room lower k.many x at.in-join t
          (upper-joins c g refl x t (subst (λ (r : Rules). first_refusal (join_line_tests r g (renumbered c x) t) ≡ None) sound.under pass))

      more-reaches : is_last_due c edges x ≡ false → SoundLog r (joined_by s.stretch after rest)
          → Reaches r (record { answer = Ok tt; after = (of_join_line r mid edges due t).next }) (joined_by s.stretch after rest)
      more-reaches more v =
          let (in-join, next, ends) = due-next c edges limited due (rank 1 c.d edges x) at.in-join refl more in
          let later = next_due (join_sizes c edges) due in
          let some_left : suc (rank 1 c.d edges x) < join_lines c edges =
          omega (arith, rank_below 1 c.d edges (due_awaited later) in-join) in
          let (y, u, e, d) = join-due c edges (suc (rank 1 c.d edges x)) some_left in
          let j' : PlainJoin = record { reading = after; dues = renumbered c y ∷ drop (suc (suc (rank 1 c.d edges x))) (join_dues c edges) } in
          rw (more, d) (
            ap outcome_of (sym unrefused),
            (
              bytes,
              weight_waits c w₀ edges x t,
              (Some (join_begun edges later)),
              lower_kept x t lower,
              refl,
              joining-parts {j = j'} (weight_waits c w₀ edges x t) edges later (lower_kept x t lower) (rw d at v) unrefused refl k.marked (waits-long c w₀ edges t x ∙ k.long)
                  (lower_long x t lower ∙ k.many) (waits-own c w₀ edges t x ∙ k.starting) (record {
                    in-join = in-join;
                    past = waits-zeros c edges w₀ t (due_awaited later) in-join x at.in-join next ends at.past;
                    dues = sym d ∙ ap (λ (n : ℕ). drop n (join_dues c edges)) (sym next);
                    reading = read-on (due_awaited later) ends;
                  }),
            ),
          )

      last-reaches : is_last_due c edges x ≡ true → SoundLog r (joined_by s.stretch after rest)
          → Reaches r (record { answer = Ok tt; after = (of_join_line r mid edges due t).next }) (joined_by s.stretch after rest)
      last-reaches last v =
          let n : suc (rank 1 c.d edges x) ≡ join_lines c edges = (last-due c edges limited.some-value x at.in-join).0 last in
          let none_left : rest ≡ [] = drop_all (suc (rank 1 c.d edges x)) (join_dues c edges) (omega (arith, join-length c edges)) in
          rw (last, none_left)
          (new-reaches placed s.stretch bytes (Some (join_begun edges due)) lower k.many (grown_by c s.stretch.weights after) (rw none_left at v))

    line_joins : (o : Option Refusal) → first_refusal (join_line_tests r g (renumbered c x) t) ≡ o
        → SoundLog r (unless_number r s (joined_by s.stretch after rest) o)
        → Reaches r (step_by r mid (of_join_line r mid edges due t) o) (unless_number r s (joined_by s.stretch after rest) o)
    line_joins None e v = go (is_last_due c edges x) refl
      where
        go : (b : Bool) → is_last_due c edges x ≡ b
            → Reaches r (step_by r mid (of_join_line r mid edges due t) None) (unless_number r s (joined_by s.stretch after rest) None)
        go true l = last-reaches e l v
        go false l = more-reaches e l v
    line_joins (Some y) e v = refused-reaches k unrefused y

    join-reaches : SoundLog r (line_of_join r s j.reading j.dues t) → Reaches r (step_line r mid (Some t)) (line_of_join r s j.reading j.dues t)
    join-reaches v = rw (line_same, k.lent unrefused) (line_joins (first_refusal (join_line_tests r g (renumbered c x) t)) refl (rw line_same at v))

  -- ---- every line

  module _ {s : LogState} (sound : SoundLog r s) {bytes : List ℕ} {w₀ : List ℤ} {join : Option JoinBegun} {lower : List ℕ} (k : Parts r s bytes w₀ join lower)
      (unrefused : s.stretch.refusal ≡ None) (t : List ℕ) where
    abbrev alone : LogState
    alone = in_stretch s.stretch

    -- no join is begun
    alone-reaches : SoundLog r alone → Parts r alone bytes s.stretch.starting None lower → (l : Line) → read_line r.amount_width t ≡ Some l
        → SoundLog r (line_between r s.stretch l)
        → Reaches r (step_line r (log_between alone bytes s.stretch.starting None lower) (Some l)) (line_between r s.stretch l)
    alone-reaches sound' k' l q v = ⊎_elim
        (λ b. special-reaches placed sound' unrefused k' l (λ o f. begin-reaches sound' unrefused k' l o) b v)
        (λ n. let f = line-same-as r s.stretch l n in
        subst (Reaches r (step_line r (log_between alone bytes s.stretch.starting None lower) (Some l))) (sym f)
        (move-reaches placed sound' unrefused k' t (Some l) q n (subst (SoundLog r) f v)))
        (either (between_rounds s.stretch && moves_link (Some l)))

    by-join : (l : Line) → read_line r.amount_width t ≡ Some l → (o : Option PlainJoin) → s.joining ≡ o → JoinSame s.stretch w₀ join lower o
        → SoundLog r (line_by r s o l) → Reaches r (step_line r (log_between s bytes w₀ join lower) (Some l)) (line_by r s o l)
    by-join l q None e (none-begun, same) v =
        let d : s ≡ alone = ap (λ (o : Option PlainJoin). record { stretch = s.stretch; joining = o }) e in
        let k' : Parts r alone bytes s.stretch.starting None lower =
        subst (λ (w : List ℤ). Parts r alone bytes w None lower) same
        (subst (λ (x : Option JoinBegun). Parts r alone bytes w₀ x lower) none-begun (subst (λ (u : LogState). Parts r u bytes w₀ join lower) d k)) in
        subst (λ (x : Option JoinBegun). Reaches r (step_line r (log_between s bytes w₀ x lower) (Some l)) (line_between r s.stretch l)) (sym none-begun)
        (subst (λ (w : List ℤ). Reaches r (step_line r (log_between s bytes w None lower) (Some l)) (line_between r s.stretch l)) (sym same)
        (alone-reaches (subst (SoundLog r) d sound) k' l q v))
    by-join l q (Some j) e (edges, due, held, mark) v =
        subst (λ (x : Option JoinBegun). Reaches r (step_line r (log_between s bytes w₀ x lower) (Some l)) (line_of_join r s j.reading j.dues l)) (sym held)
        (join-reaches sound e unrefused (subst (λ (x : Option JoinBegun). Parts r s bytes w₀ x lower) held k) mark l v)

    read-reaches : (l : Option Line) → read_line r.amount_width t ≡ l → SoundLog r (line_read r s l)
        → Reaches r (step_line r (log_between s bytes w₀ join lower) l) (line_read r s l)
    read-reaches None q v = refused-reaches k unrefused NotInColumns
    read-reaches (Some l) q v = by-join l q s.joining refl (k.joins unrefused) v

-- ---- every line keeps the agreement, and its answer is the plain replay's

module _ {r : Rules} {s : LogState} {b : Between} (a : AgreesLog r s b) where
  abbrev standing : Between
  standing = log_between s a.bytes a.waiting a.join a.lower

  step_is : (t : List ℕ) → Reaches r (step_replay r b t) (step_log r s t)
  unfolding step_replay
  step_is t = rw a.same (go s.stretch.refusal refl (sound-log-step r s t a.sound))
    where
      go : (x : Option Refusal) → s.stretch.refusal ≡ x → SoundLog r (if is_some x then s else line_read r s (read_line r.amount_width t))
          → Reaches r (step_standing r standing t (outcome_of x)) (if is_some x then s else line_read r s (read_line r.amount_width t))
      go None e v = read-reaches a.placed a.sound a.parts e t (read_line r.amount_width t) refl v
      go (Some x) e v = (ap outcome_of (sym e), (a.bytes, a.waiting, a.join, a.lower, refl, a.parts))

  pub agrees-step : (t : List ℕ) → AgreesLog r (step_log r s t) (step_replay r b t).after
  agrees-step t =
      let (e, (bytes, w₀, join, lower, same, k)) = step_is t in
      record {
        bytes = bytes;
        waiting = w₀;
        join = join;
        lower = lower;
        same = same;
        parts = k;
        sound = sound-log-step r s t a.sound;
        placed = a.placed;
      }

  pub answer-agrees : (t : List ℕ) → (step_replay r b t).answer ≡ outcome_of (step_log r s t).stretch.refusal
  answer-agrees t = (step_is t).0

  pub end-agrees : (end_replay r b).answer ≡ outcome_of (log_end s)
  unfolding end_replay
  end-agrees = ap (λ (d : Between). (end_replay r d).answer) a.same ∙ go s.stretch.refusal refl
    where
      cut : (b : Bool) (u v : List ℤ) → (if◌then◌else◌ {A = EndCall} b (record { answer = Err CutShort; starting = u })
          (record { answer = Ok tt; starting = v })).answer ≡ outcome_of (if b then Some CutShort else None)
      cut true u v = refl
      cut false u v = refl

      short : (join : Option JoinBegun) (o : Option PlainJoin) → JoinSame s.stretch a.waiting join a.lower o → s.stretch.refusal ≡ None
          → outcome_of (if is_cut_short r standing.replay join then Some CutShort else None)
          ≡ outcome_of (if is_some o then Some CutShort else at_end s.stretch)
      short join None (f, w) e =
          ap (λ (x : Option JoinBegun). outcome_of (if is_cut_short r standing.replay x then Some CutShort else None)) f
          ∙ rw (e, short-alike s.stretch.void s.stretch.held s.stretch.moving)
      short join (Some j) (edges, due, f, mark) e = ap (λ (x : Option JoinBegun). outcome_of (if is_cut_short r standing.replay x then Some CutShort else None)) f

      go : (x : Option Refusal) → s.stretch.refusal ≡ x
          → (end_standing r standing (outcome_of x)).answer ≡ outcome_of (if is_some x then x else if is_some s.joining then Some CutShort else at_end s.stretch)
      go None e =
          ap (λ (o : Option Refusal). (end_lent r standing o).answer) (a.parts.lent e)
          ∙ cut (is_cut_short r standing.replay a.join) (waiting_at s.stretch.case a.waiting a.join) a.waiting
          ∙ short a.join s.joining (a.parts.joins e) e
      go (Some x) e = refl

  -- the end leaves the case's own starting weights
  pub end-starting : (end_replay r b).starting ≡ s.stretch.starting
  unfolding end_replay
  end-starting = ap (λ (d : Between). (end_replay r d).starting) a.same ∙ go s.stretch.refusal refl
    where
      left : (join : Option JoinBegun) (o : Option PlainJoin) → JoinSame s.stretch a.waiting join a.lower o
          → (if◌then◌else◌ {A = EndCall} (is_cut_short r standing.replay join)
          (record { answer = Err CutShort; starting = waiting_at s.stretch.case a.waiting join })
          (record { answer = Ok tt; starting = a.waiting })).starting ≡ s.stretch.starting
      left None o m = same (is_cut_short r standing.replay None)
          ∙ waiting-goes s.stretch a.waiting a.lower a.parts.starting None o m
        where
          same : (b : Bool) → (if◌then◌else◌ {A = EndCall} b (record { answer = Err CutShort; starting = a.waiting })
              (record { answer = Ok tt; starting = a.waiting })).starting ≡ a.waiting
          same true = refl
          same false = refl
      left (Some j) o m = a.parts.starting

      go : (x : Option Refusal) → s.stretch.refusal ≡ x → (end_standing r standing (outcome_of x)).starting ≡ s.stretch.starting
      go None e = ap (λ (o : Option Refusal). (end_lent r standing o).starting) (a.parts.lent e) ∙ left a.join s.joining (a.parts.joins e)
      go (Some x) e = a.parts.cleared x e

-- ---- lists of lines

pub fold-agrees : {r : Rules} {s : LogState} {b : Between} → AgreesLog r s b → (ts : List (List ℕ)) → AgreesLog r (after_log r s ts) (after_lines r b ts)
fold-agrees a [] = a
fold-agrees {r = r} {s = s} {b = b} a (t ∷ ts) = fold-agrees {s = step_log r s t} (agrees-step a t) ts

pub answers_agree : {r : Rules} {s : LogState} {b : Between} → AgreesLog r s b → (ts : List (List ℕ))
    → line_answers r b ts ≡ map outcome_of (log_answers r s ts)
answers_agree a [] = refl
answers_agree {r = r} {s = s} {b = b} a (t ∷ ts) = ap₂ ◌∷◌ (answer-agrees a t) (answers_agree {s = step_log r s t} (agrees-step a t) ts)

module _ (c : Case) (w : List ℤ) (t : T (valid (rules_of c) c w)) where
  pub agrees-fresh : AgreesLog (rules_of c) (fresh_log c w) (begun (rules_of c) c w)
  unfolding fresh_replay fresh_stretch
  agrees-fresh =
      let v = sound-log-fresh c w t in
      let m : MarkedIn (rules_of c) (fresh_log c w).stretch none_raised = λ h e. absurd (none-some e) in
      record {
        bytes = none_raised;
        waiting = w;
        join = None;
        lower = no_ends;
        same = rw (handed-unrefused (valid-facts (rules_of c) c w t));
        parts = record {
          marked = m;
          long = v.both.first.long;
          many = length-replicate {A = ℕ} edge_places 0;
          starting = zeroed-self (own_length c) w v.both.first.past;
          cleared = λ x e. absurd (none-some e);
          lent = λ e. nothing_lent (coherent c.rulebook).scopes-placed v m no_ends;
          joins = λ e. (refl, refl);
        };
        sound = v;
        placed = (coherent c.rulebook).scopes-placed;
      }
