-- What a step says of the lines from it on, and that a span lies in the log. Assumes nothing.
use Rattle.definitions.specs.declared.Refusal.{Refusal}
use Rattle.definitions.specs.declared.RefusedAt.{RefusedAt}
use Rattle.definitions.specs.Answers.{refused_at}
use Rattle.definitions.specs.Answers.{from_to}
use mathlib.Core.Path.{◌≡◌, refl, sym, ap, subst, ◌∙◌}
use mathlib.Core.Bool.{Bool, true, false}
use mathlib.Core.List.{List, [], ◌∷◌}
use Prim.Native.Nat.{ℕ, zero, suc, ◌+◌, ◌*◌, ◌-◌, ◌/◌, ◌^◌, ◌<◌, ◌≤◌}
use native.Mathlib.Nat.{mul-le-mul_right, div-mul-le_self}
use native.Mathlib.Omega.{arith}
use lib.ListN.{length, take, drop}
use lib.Seq.{drop-drop}
use lib.IntN.{ℤ}
use lib.Dec.{eqb, eqb→eq}
use lib.Signed.{mag}
use mir.Syntax.{w64}
use mir.Val.{hbits, to_z, of_z}
use Rattle.std.specs.Prelude.{if◌then◌else◌, Result, Ok, Err, Option, Some, None}
use Rattle.integers.specs.Words.{eq_z}
use Rattle.integers.specs.Tests.{eqb-iff, same_test}
use Rattle.integers.specs.Linear.{T-eq, read_back}
use Rattle.definitions.specs.declared.Span.{Span}
use Rattle.definitions.specs.declared.Line.{Line}
use Rattle.definitions.specs.declared.Refusal.TheVariants.{NotInColumns, OutOfRange, CutShort}
use Rattle.definitions.specs.Rules.{Rules, Coherent}
use Rattle.definitions.specs.Lines.{line_length, read_line, is_kind, cut_lines, lines_in, has_part}
use Rattle.definitions.specs.Views.{span_from, span_in, round_span}
use Rattle.lines.specs.Found.{line_answer}
use Rattle.lines.specs.AtWidth.{width_out, read_line_at}
use Rattle.lines.proofs.AtRules.{width-in}
use Rattle.views.specs.declared.Step.{Step}
use Rattle.views.specs.declared.Step.TheVariants.{Found, On}
use Rattle.views.specs.Steps.{ended_step, passed_step, resumed_step, resumed, round_span_at}

-- ---- the code's tests

-- numbers are equal just where their bits are
module _ (a b : ℤ) (p : mag a < 2 ^ hbits w64) (q : mag b < 2 ^ hbits w64) where
  pub kind-test : eqb (of_z w64 a) (of_z w64 b) ≡ eq_z a b
  kind-test = same_test (eqb (of_z w64 a) (of_z w64 b)) (eq_z a b)
      (λ t. (T-eq a b).1 (sym (read_back w64 a p) ∙ ap (to_z w64) (eqb→eq (of_z w64 a) (of_z w64 b) t) ∙ read_back w64 b q))
      (λ t. (eqb-iff (of_z w64 a) (of_z w64 b)).1 (ap (of_z w64) ((T-eq a b).0 t)))

pub ended-now : (long at from left : ℕ) → left ≡ 0 → Found (from_to (from * long) ((at + 1) * long)) ≡ ended_step long at from left
ended-now long at from zero e = refl
ended-now long at from (suc fewer) e = absurd (omega arith)

pub ended-before : (long at from left : ℕ) → (left ≡ 0 → ⊥) → On (at + 1) (left - 1) ≡ ended_step long at from left
ended-before long at from zero e = absurd (e refl)
ended-before long at from (suc fewer) e = ap (On (at + 1)) (omega arith)

-- fewer lines of the same length lie in as many bytes
pub fewer-within : (long a b n : ℕ) → a ≤ b → b * long ≤ n → a * long ≤ n
fewer-within long a b n h l = omega (arith, l, mul-le-mul_right {m = a} {n = b} long h)

-- ---- a span lies in a log of n bytes

abbrev Inside : ℕ → Result Span RefusedAt → Type 0
Inside n (Ok span) = (span.from ≤ span.to) × (span.to ≤ n)
Inside n (Err x) = Unit

more-inside : (m n : ℕ) → m ≤ n → (s : Result Span RefusedAt) → Inside m s → Inside n s
more-inside m n l (Ok span) h = (h.0, omega arith)
more-inside m n l (Err x) h = tt

length_cut : (d n : ℕ) (t : List ℕ) → length (cut_lines d n t) ≡ n
length_cut d zero t = refl
length_cut d (suc n) t = ap suc (length_cut d n (drop d t))

-- ---- a step and the lines behind it, at width w

module _ (w : ℕ) where
  abbrev long : ℕ
  long = line_length w

  module _ (part : Bool) (ts : List (List ℕ)) (at from : ℕ) where
    abbrev rest : ℕ → ℕ → Result Span RefusedAt
    rest f l = span_from w part (at + 1) f l ts

    -- the answer where line `at` reads so
    abbrev by_left : ℕ → Result Span RefusedAt
    by_left left = elim left [
      | zero ↦ Ok (from_to (from * long) ((at + 1) * long))
      | suc fewer ↦ rest (at + 1) fewer
    ]

    abbrev by_kind : Bool → ℕ → Result Span RefusedAt
    by_kind bound left = elim bound [
      | false ↦ rest from left
      | true ↦ by_left left
    ]

    abbrev by-line : Option Line → ℕ → Result Span RefusedAt
    by-line o left = elim o [
      | None ↦ Err (refused_at NotInColumns at)
      | Some l ↦ by_kind (is_kind 4 l) left
    ]

    after-bound : (left : ℕ) → resumed_step rest (ended_step long at from left) ≡ by_left left
    after-bound zero = refl
    after-bound (suc fewer) = refl

    after-kind : (bound : Bool) (left : ℕ) → resumed_step rest (if bound then ended_step long at from left else On from left) ≡ by_kind bound left
    after-kind true left = after-bound left
    after-kind false left = refl

    after_line : (o : Option Line) (left : ℕ) → resumed rest (passed_step (line_answer o) long at from left) ≡ by-line o left
    after_line None left = refl
    after_line (Some l) left = after-kind (is_kind 4 l) left

  step-next : (part : Bool) (ts : List (List ℕ)) (at from : ℕ) (t : List ℕ) (left : ℕ)
      → resumed (rest part ts at from) (passed_step (line_answer (read_line w t)) long at from left) ≡ span_from w part at from left (t ∷ ts)
  step-next part ts at from t left = after_line part ts at from (read_line w t) left

  -- after line `at`
  abbrev StepInside : ℕ → Step → Type 0
  StepInside at (Found span) = Inside ((at + 1) * long) (Ok span)
  StepInside at (On from left) = from ≤ at + 1

  abbrev PassedInside : ℕ → Result Step RefusedAt → Type 0
  PassedInside at (Ok step) = StepInside at step
  PassedInside at (Err x) = Unit

  module _ (at from : ℕ) (h : from ≤ at) where
    ended-inside : (left : ℕ) → StepInside at (ended_step long at from left)
    ended-inside zero = (fewer-within long from (at + 1) ((at + 1) * long) (omega arith) (omega arith), omega arith)
    ended-inside (suc fewer) = omega arith

    kind-inside : (bound : Bool) (left : ℕ) → StepInside at (if bound then ended_step long at from left else On from left)
    kind-inside true left = ended-inside left
    kind-inside false left = omega arith

    pub passed-inside : (r : Result Line Refusal) (left : ℕ) → PassedInside at (passed_step r long at from left)
    passed-inside (Ok l) left = kind-inside (is_kind 4 l) left
    passed-inside (Err x) left = tt

  pub on-inside : (at from left : ℕ) {r : Result Step RefusedAt} {s : Step} → r ≡ Ok s → s ≡ On from left → PassedInside at r → from ≤ at + 1
  on-inside at from left p e h = rw e at (rw p at h)

  resumed-inside : (n at : ℕ) (rest : ℕ → ℕ → Result Span RefusedAt) → (at + 1) * long ≤ n → ((f l : ℕ) → f ≤ at + 1 → Inside n (rest f l))
      → (r : Result Step RefusedAt) → PassedInside at r → Inside n (resumed rest r)
  resumed-inside n at rest l h (Ok (Found span)) i = more-inside ((at + 1) * long) n l (Ok span) i
  resumed-inside n at rest l h (Ok (On from left)) i = h from left i
  resumed-inside n at rest l h (Err x) i = tt

  from-inside : (part : Bool) (n : ℕ) (ts : List (List ℕ)) (at from left : ℕ) → from ≤ at → (at + length ts) * long ≤ n
      → Inside n (span_from w part at from left ts)
  from-inside part n [] at from left h l = tt
  from-inside part n (t ∷ ts) at from left h l =
      subst (Inside n) (step-next part ts at from t left)
      (resumed-inside n at (λ f k. span_from w part (at + 1) f k ts) (fewer-within long (at + 1) (at + length (t ∷ ts)) n (omega arith) l)
      (λ f k i. from-inside part n ts (at + 1) f k i (fewer-within long (at + 1 + length ts) (at + length (t ∷ ts)) n (omega arith) l))
      (passed_step (line_answer (read_line w t)) long at from left) (passed-inside at from h (line_answer (read_line w t)) left))

  span-inside : (log : List ℕ) (round : ℕ) → Inside (length log) (span_in w log round)
  span-inside log round =
      from-inside (has_part w log) (length log) (lines_in w log) 0 0 round (omega arith)
      (fewer-within long (0 + length (lines_in w log)) (length log / long) (length log) (rw length_cut (omega arith)) (div-mul-le_self (length log) long))

  pub part-inside : (log : List ℕ) (round : ℕ) {from to : ℕ} → span_in w log round ≡ Ok (from_to from to) → (from ≤ to) × (to ≤ length log)
  part-inside log round e = rw e at (span-inside log round)

  -- ---- the lines from one on

  lines_next : (log : List ℕ) (whole at : ℕ) → at < whole
      → cut_lines long (whole - at) (drop (at * long) log) ≡ take long (drop (at * long) log) ∷ cut_lines long (whole - (at + 1)) (drop ((at + 1) * long) log)
  lines_next log whole at h =
      let n : whole - at ≡ suc (whole - (at + 1)) = omega arith in
      let e : at * long + long ≡ (at + 1) * long = omega arith in
      let d : drop long (drop (at * long) log) ≡ drop ((at + 1) * long) log = drop-drop long (at * long) log ∙ ap (λ k. drop k log) e in
      rw (n, d)

  -- the answer from line `at` on
  abbrev pub span_at : List ℕ → ℕ → ℕ → ℕ → ℕ → Result Span RefusedAt
  span_at log whole at from left = span_from w (has_part w log) at from left (cut_lines long (whole - at) (drop (at * long) log))

  pub at-step : width_out w ≡ false → (log : List ℕ) (whole at from left : ℕ) → at < whole
      → resumed (span_at log whole (at + 1)) (passed_step (read_line_at w (take long (drop (at * long) log))) long at from left) ≡ span_at log whole at from left
  unfolding read_line_at
  at-step i log whole at from left h =
      rw i (step-next (has_part w log) (cut_lines long (whole - (at + 1)) (drop ((at + 1) * long) log)) at from (take long (drop (at * long) log)) left)
      ∙ ap (span_from w (has_part w log) at from left) (sym (lines_next log whole at h))

  pub at-end : (log : List ℕ) (whole at from left : ℕ) → whole ≤ at
      → Err (refused_at (if has_part w log then CutShort else OutOfRange) at) ≡ span_at log whole at from left
  at-end log whole at from left h = let e : whole - at ≡ 0 = omega arith in rw e

-- ---- the call on all input

module _ (w : ℕ) (log : List ℕ) (round : ℕ) where
  pub span-out : width_out w ≡ true → Err (refused_at NotInColumns 0) ≡ round_span_at w log round
  unfolding round_span_at
  span-out o = rw o

  pub span-within : width_out w ≡ false → span_in w log round ≡ round_span_at w log round
  unfolding round_span_at
  span-within i = rw i

-- at the width of coherent rules the span is that under the rules
pub span-at-rules : (r : Rules) → Coherent r → {width : ℕ} → width ≡ r.amount_width → (log : List ℕ) (round : ℕ)
    → round_span_at width log round ≡ round_span r log round
unfolding round_span_at
span-at-rules r coherent {width} e log round = rw (width-in r coherent e) (rw e)
