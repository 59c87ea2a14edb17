-- The plain replay of a log, line by line: a number that applied stands, lines that the replay of a stretch takes are taken alike, and what a
-- line of any bytes can do. Assumes nothing.
use mathlib.Core.Path.{◌≡◌, refl, sym, ap, ap₂, subst, ◌∙◌}
use mathlib.Core.Bool.{Bool, true, false, not, ◌&&◌, ◌||◌}
use mathlib.Core.Logic.{◌↔◌, ⊎_elim}
use mathlib.Core.List.{List, [], ◌∷◌, map}
use Prim.Native.Nat.{ℕ, ◌+◌, ◌≤◌, ◌<◌}
use native.Mathlib.Omega.{arith}
use lib.IntN.{ℤ, pos, negsuc, nat_abs, ◌+ℤ◌}
use lib.Dec.{T, ltb, ltb→lt}
use lib.Signed.{lt_z}
use Rattle.std.specs.Prelude.{if◌then◌else◌, Option, Some, None, is_some}
use Rattle.integers.specs.Words.{any, is_in, eq_z}
use Rattle.integers.specs.Tests.{is_true, either, if-cases, and_left, and_right, or_cases, and-iff, not-or-iff, not-not-iff}
use Rattle.integers.specs.Options.{none-some}
use Rattle.integers.specs.Linear.{flat, zs, ◌▸◌, T-eq}
use Rattle.definitions.specs.declared.Case.{Case}
use Rattle.definitions.specs.declared.Line.{Line}
use Rattle.definitions.specs.declared.Refusal.{Refusal}
use Rattle.definitions.specs.declared.Refusal.TheVariants.{NotInColumns, NotDue}
use Rattle.definitions.specs.Rules.{Rules, Kind, line_kinds, Coherent}
use Rattle.definitions.specs.Lines.{read_line, is_kind, has_kind, unused_zero, not_due, outside}
use Rattle.definitions.specs.Refusals.{first_refusal}
use Rattle.definitions.specs.CaseFiles.{CaseDue, took}
use Rattle.definitions.specs.Replay.{Held, State, fresh, kinds_due, step_unrefused, step, after, answers, at_end, keeps_rules}
use Rattle.logs.specs.Leave.{left_by}
use Rattle.logs.specs.Join.{Joining, begun_join, join_line_tests, grown_by}
use Rattle.logs.specs.Logs.{LogState, in_stretch, fresh_log, new_stretch, refused_log, between_rounds, after_leave, after_join, joined_by}
use Rattle.logs.specs.Logs.{leave_line_tests, begin_join_tests, unless_number, line_between, line_of_join, line_by, line_read, step_log, after_log, log_answers, log_end, keeps_log_rules}
use Rattle.theory.proofs.Replays.{inside, none-iff, no_number, accepted-iff, keeps-iff}
use Rattle.case_theory.proofs.CaseTests.{passes}

-- ---- numbers

-- a number stands: nothing changes any more
module _ (r : Rules) (s : LogState) {x : Refusal} (e : s.stretch.refusal ≡ Some x) where
  pub log-step-stands : (t : List ℕ) → step_log r s t ≡ s
  log-step-stands t = rw e

  pub log-stands : (ts : List (List ℕ)) → after_log r s ts ≡ s
  log-stands [] = refl
  log-stands (t ∷ ts) = rw (log-step-stands t) (log-stands ts)

-- a list that leaves no number began with none, and no answer was one
pub log-no-number : (r : Rules) (s : LogState) (ts : List (List ℕ))
    → (after_log r s ts).stretch.refusal ≡ None ↔ (s.stretch.refusal ≡ None) × (log_answers r s ts ≡ map (λ t. None) ts)
log-no-number r s [] = (λ e. (e, refl), λ p. p.0)
log-no-number r s (t ∷ ts) = go (log-no-number r (step_log r s t) ts) s.stretch.refusal refl
  where
    go : (after_log r s (t ∷ ts)).stretch.refusal ≡ None
        ↔ ((step_log r s t).stretch.refusal ≡ None) × (log_answers r (step_log r s t) ts ≡ map (λ t. None) ts)
        → (o : Option Refusal) → s.stretch.refusal ≡ o
        → (after_log r s (t ∷ ts)).stretch.refusal ≡ None ↔ (s.stretch.refusal ≡ None) × (log_answers r s (t ∷ ts) ≡ map (λ t. None) (t ∷ ts))
    go ih None e = (λ f. let p = ih.0 f in (e, ap₂ ◌∷◌ p.0 p.1), λ p. let q = p.1 in ih.1 ((cc), (cc)))
    go ih (Some x) e = (
      λ f. absurd (none-some (sym f ∙ ap (λ (u : LogState). u.stretch.refusal) (log-stands r s e (t ∷ ts)) ∙ e)),
      λ p. absurd (none-some (sym p.0 ∙ e)),
    )

-- ---- a stretch alone

-- a link leaves or joins by this line
abbrev pub moves_link : Option Line → Bool
moves_link l = has_kind 7 l || has_kind 8 l

-- any other line, and any line that does not stand between rounds, does in a log what it does in a stretch
pub step_same : (r : Rules) (s : State) (t : List ℕ) → T (not (between_rounds s && moves_link (read_line r.amount_width t)))
    → step_log r (in_stretch s) t ≡ in_stretch (step r s t)
step_same r s t n = go (is_some s.refusal) (read_line r.amount_width t) n
  where
    between : (b seven eight : Bool) (x y : LogState) (u : State) → T (not (b && (seven || eight)))
        → (if b && seven then x else if b && eight then y else in_stretch u) ≡ in_stretch u
    between false seven eight x y u n = refl
    between true false false x y u n = refl
    between true false true x y u n = absurd n
    between true true eight x y u n = absurd n

    go : (b : Bool) (l : Option Line) → T (not (between_rounds s && moves_link l))
        → (if b then in_stretch s else line_read r (in_stretch s) l) ≡ in_stretch (if b then s else step_unrefused r s l)
    go true l n = refl
    go false None n = refl
    go false (Some l) n = between (between_rounds s) (is_kind 7 l) (is_kind 8 l) _ _ _ n

-- such a line is not due in a stretch
not-due : {r : Rules} → Coherent r → (v : Bool) (h : Option Held) (l : Line) → T (moves_link (Some l)) → T (not_due r (kinds_due v h) l)
not-due {r} coherent v h l t = rw coherent.known-kinds (⊎_elim (λ (e : T (is_kind 7 l)). other ((T-eq l.kind (pos 7)).0 e) (neither v h).0)
    (λ (e : T (is_kind 8 l)). other ((T-eq l.kind (pos 8)).0 e) (neither v h).1) (or_cases (is_kind 7 l) (is_kind 8 l) t))
  where
    due : Bool → Option Held → ℤ → Bool
    due v h z = any (λ (k : Kind). eq_z z (pos k.kind) && is_in (kinds_due v h) k.kind && unused_zero k l) line_kinds

    other : {z : ℤ} → l.kind ≡ z → T (not (due v h z)) → T (not (due v h l.kind))
    other e n = subst (λ (z : ℤ). T (not (due v h z))) (sym e) n

    neither : (v : Bool) (h : Option Held) → T (not (due v h (pos 7))) × T (not (due v h (pos 8)))
    neither true h = (tt, tt)
    neither false None = (tt, tt)
    neither false (Some h) = (tt, tt)

module _ {r : Rules} (coherent : Coherent r) where
  -- what a stretch takes, a log takes alike
  pub step-lifts : (s : State) (t : List ℕ) → (step r s t).refusal ≡ None → step_log r (in_stretch s) t ≡ in_stretch (step r s t)
  step-lifts s t e = ⊎_elim (λ m. go s.refusal refl (read_line r.amount_width t) refl m) (step_same r s t)
      (either (between_rounds s && moves_link (read_line r.amount_width t)))
    where
      go : (o : Option Refusal) → s.refusal ≡ o → (l : Option Line) → read_line r.amount_width t ≡ l → T (between_rounds s && moves_link l)
          → step_log r (in_stretch s) t ≡ in_stretch (step r s t)
      go (Some x) d l q m = rw d
      go None d None q m = absurd (and_right (between_rounds s) false m)
      go None d (Some l) q m =
          let n = is_true (not_due r (kinds_due s.void s.held) l)
          (not-due coherent s.void s.held l (and_right (between_rounds s) (moves_link (Some l)) m)) in
          let f : (step r s t).refusal ≡ Some NotDue = rw (d, q, n) in
          absurd (none-some (sym e ∙ f))

  pub list-lifts : (s : State) (ts : List (List ℕ)) → (after r s ts).refusal ≡ None
      → (after_log r (in_stretch s) ts ≡ in_stretch (after r s ts)) × (log_answers r (in_stretch s) ts ≡ answers r s ts)
  list-lifts s [] e = (refl, refl)
  list-lifts s (t ∷ ts) e =
      let d = step-lifts s t ((no_number r (step r s t) ts).0 e).0 in
      let p = list-lifts (step r s t) ts e in
      (rw d p.0, rw d (ap (λ (os : List (Option Refusal)). (step r s t).refusal ∷ os) p.1))

-- the end's answer is the same
pub end-lifts : (s : State) → log_end (in_stretch s) ≡ at_end s
end-lifts s = go s.refusal _
  where
    go : (o x : Option Refusal) → (if is_some o then o else if is_some o then o else x) ≡ (if is_some o then o else x)
    go None x = refl
    go (Some y) x = refl

-- a list that keeps the rules of a stretch keeps those of a log
pub keeps-lifts : {r : Rules} → Coherent r → (c : Case) (w : List ℤ) (ts : List (List ℕ)) → T (keeps_rules r c w ts) → T (keeps_log_rules r c w ts)
keeps-lifts {r} coherent c w ts t =
    let e = (keeps-iff r c w ts).0 t in
    let f = (no_number r (fresh c w) ts).1 (refl, ((accepted-iff r c w ts).0 e).0) in
    (none-iff (log_end (after_log r (fresh_log c w) ts))).1 (ap log_end (list-lifts coherent (fresh c w) ts f).0 ∙ end-lifts (after r (fresh c w) ts) ∙ e)

-- ---- what one line, of any bytes, can do to a log's state

pub data LogStepped (r : Rules) (s : LogState) (bytes : List ℕ) : LogState → Type 0 where
  unchanged : (x : Refusal) → s.stretch.refusal ≡ Some x → LogStepped r s bytes s
  numbered : (x : Refusal) → LogStepped r s bytes (refused_log s x)
  in-stretch : s.joining ≡ None → T (not (between_rounds s.stretch && has_kind 7 (read_line r.amount_width bytes)))
      → LogStepped r s bytes (in_stretch (step r s.stretch bytes))
  link-leaves : (i : ℕ) → T (between_rounds s.stretch) → T (has_kind 7 (read_line r.amount_width bytes)) → 1 < s.stretch.case.n → i < s.stretch.case.n
      → LogStepped r s bytes (new_stretch s.stretch (left_by r s.stretch.case i s.stretch.starting s.stretch.weights))
  join-begins : (p : ℕ) → T (between_rounds s.stretch) → s.stretch.case.n < r.variables → s.stretch.case.m + p ≤ r.edges → p ≤ s.stretch.case.n
      → LogStepped r s bytes (record { stretch = s.stretch; joining = Some (begun_join s.stretch.case s.stretch.starting p) })
  join-reads : (j : Joining) (due later : CaseDue) (dues : List CaseDue) (t : Line) → s.joining ≡ Some j → j.dues ≡ due ∷ later ∷ dues
      → first_refusal (join_line_tests r j.reading due t) ≡ None
      → LogStepped r s bytes (record { stretch = s.stretch; joining = Some (record { reading = took j.reading due (Some t); dues = later ∷ dues }) })
  join-ends : (j : Joining) (due : CaseDue) (t : Line) → s.joining ≡ Some j → j.dues ≡ due ∷ [] → first_refusal (join_line_tests r j.reading due t) ≡ None
      → LogStepped r s bytes (new_stretch s.stretch (grown_by s.stretch.case s.stretch.weights (took j.reading due (Some t))))

pub room : (m n edges : ℕ) (z : ℤ) → T (not (lt_z (pos edges) (pos m +ℤ z))) → T (not (outside n z)) → m + nat_abs z ≤ edges
room m n edges (pos x) t u = t ▸ simp flat (omega zs)
room m n edges (negsuc x) t u = absurd u

module _ (r : Rules) (s : State) (bytes : List ℕ) (unrefused : s.refusal ≡ None) (t : Line) (read : read_line r.amount_width bytes ≡ Some t) where
  between-stepped : LogStepped r (in_stretch s) bytes (line_between r s t)
  between-stepped = if-cases (LogStepped r (in_stretch s) bytes) (between_rounds s && is_kind 7 t) _ _
      (λ a. leave a (first_refusal (leave_line_tests r s t)) refl)
      (λ n. if-cases (LogStepped r (in_stretch s) bytes) (between_rounds s && is_kind 8 t) _ _
      (λ a. join a (first_refusal (begin_join_tests r s t)) refl)
      (λ m.
      let e : step r s bytes ≡ step_unrefused r s (Some t) = rw (unrefused, read) in
      subst (λ (u : State). LogStepped r (in_stretch s) bytes (in_stretch u)) e (in-stretch refl (rw read n))))
    where
      leave : T (between_rounds s && is_kind 7 t) → (o : Option Refusal) → first_refusal (leave_line_tests r s t) ≡ o
          → LogStepped r (in_stretch s) bytes (unless_number r (in_stretch s) (after_leave r s t) o)
      leave a None e =
          let h = simp and-iff at ((passes (leave_line_tests r s t)).0 e) in
          link-leaves (nat_abs t.a) (and_left (between_rounds s) (is_kind 7 t) a) (rw read (and_right (between_rounds s) (is_kind 7 t) a))
          (ltb→lt 1 s.case.n ((not-not-iff (ltb 1 s.case.n)).0 h.1.0)) (inside s.case.n t.a h.1.1.0)
      leave a (Some x) e = numbered x

      join : T (between_rounds s && is_kind 8 t) → (o : Option Refusal) → first_refusal (begin_join_tests r s t) ≡ o
          → LogStepped r (in_stretch s) bytes (unless_number r (in_stretch s) (after_join s t) o)
      join a None e =
          let h = simp (and-iff, not-or-iff) at ((passes (begin_join_tests r s t)).0 e) in
          join-begins (nat_abs t.a) (and_left (between_rounds s) (is_kind 8 t) a)
          (ltb→lt s.case.n r.variables ((not-not-iff (ltb s.case.n r.variables)).0 h.1.0.0))
          (room s.case.m (s.case.n + 1) r.edges t.a h.1.0.1 h.1.1.0) (omega (arith, inside (s.case.n + 1) t.a h.1.1.0))
      join a (Some x) e = numbered x

  join-stepped : (j : Joining) → LogStepped r (record { stretch = s; joining = Some j }) bytes (line_by r (record { stretch = s; joining = Some j }) (Some j) t)
  join-stepped j = go j.dues refl
    where
      here : LogState
      here = record { stretch = s; joining = Some j }

      taken : (due : CaseDue) (dues : List CaseDue) → j.dues ≡ due ∷ dues → (o : Option Refusal) → first_refusal (join_line_tests r j.reading due t) ≡ o
          → LogStepped r here bytes (unless_number r here (joined_by s (took j.reading due (Some t)) dues) o)
      taken due [] d None e = join-ends j due t refl d e
      taken due (later ∷ dues) d None e = join-reads j due later dues t refl d e
      taken due dues d (Some x) e = numbered x

      go : (dues : List CaseDue) → j.dues ≡ dues → LogStepped r here bytes (line_of_join r here j.reading dues t)
      go [] d = numbered NotDue
      go (due ∷ dues) d = taken due dues d (first_refusal (join_line_tests r j.reading due t)) refl

pub log-stepped : (r : Rules) (s : LogState) (bytes : List ℕ) → LogStepped r s bytes (step_log r s bytes)
log-stepped r s bytes = go s.stretch.refusal refl
  where
    by-join : s.stretch.refusal ≡ None → (t : Line) → read_line r.amount_width bytes ≡ Some t → (o : Option Joining) → s.joining ≡ o
        → LogStepped r (record { stretch = s.stretch; joining = o }) bytes (line_by r (record { stretch = s.stretch; joining = o }) o t)
    by-join e t q None d = between-stepped r s.stretch bytes e t q
    by-join e t q (Some j) d = join-stepped r s.stretch bytes e t q j

    read : s.stretch.refusal ≡ None → (l : Option Line) → read_line r.amount_width bytes ≡ l → LogStepped r s bytes (line_read r s l)
    read e None q = numbered NotInColumns
    read e (Some t) q = by-join e t q s.joining refl

    go : (o : Option Refusal) → s.stretch.refusal ≡ o → LogStepped r s bytes (if is_some o then s else line_read r s (read_line r.amount_width bytes))
    go (Some x) e = unchanged x e
    go None e = read e (read_line r.amount_width bytes) refl
