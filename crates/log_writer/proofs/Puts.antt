-- A line at a position, from a line at the first byte of the rest. Assumes nothing.
use Rattle.std.specs.Prelude.{Ok, Err, Option, Some, None}
use mathlib.Core.Path.{◌≡◌, refl, sym, ap, ◌∙◌}
use mathlib.Core.Bool.{Bool, true, false}
use mathlib.Core.List.{List, [], ◌∷◌, ◌++◌, append-nil}
use Prim.Native.Nat.{ℕ, ◌+◌, ◌-◌, ◌<◌, ◌≤◌}
use native.Mathlib.Omega.{arith}
use lib.Dec.{ltb}
use lib.ListN.{length, take, drop, length-append, length-drop, take-append-drop, drop_of_length-le}
use lib.Seq.{length-take-le, take_all}
use borrow.Author.Tests.{lt-ltb, ltb-false}
use Rattle.definitions.specs.declared.Line.{Line}
use Rattle.definitions.specs.declared.Refusal.{Refusal}
use Rattle.definitions.specs.declared.Refusal.TheVariants.{WrongLength, OutOfRange}
use Rattle.definitions.specs.Rules.{Rules, Coherent}
use Rattle.definitions.specs.Refusals.{◌when◌, first_refusal}
use Rattle.definitions.specs.Answers.{outcome_of}
use Rattle.definitions.specs.Lines.{line_length, line_text, line_too_wide, overwritten}
use Rattle.calls.specs.Calls.{line_written, line_put, put_line_call}
use Rattle.definitions.proofs.LineLaws.{line-length}
use Rattle.log_writer.specs.declared.Put.{Put}
use Rattle.lines.specs.AtWidth.{line_out, write_refusal_at, write_line_at}
use Rattle.lines.proofs.AtRules.{refusal-at-rules}
use Rattle.log_writer.specs.Writers.{put_line_in, put_of}

module _ (w : ℕ) (out : List ℕ) (at : ℕ) (l : Line) where
  line-by : write_line_at w (drop at out) l ≡ line_written w (drop at out) l (write_refusal_at w (length out - at) l)
  unfolding write_line_at
  line-by = ap (λ k. line_written w (drop at out) l (write_refusal_at w k l)) (length-drop at out)

  put-by : put_line_in w out at l ≡ line_put w out at l (write_refusal_at w (length out - at) l)
  unfolding put_line_in
  put-by = refl

  pub put-past : length out < at → put_line_in w out at l ≡ record { answer = Err WrongLength; out = out; at = at }
  put-past h = let e : length out - at ≡ 0 = omega arith in put-by ∙ (rw e (simp (lt-ltb 0 (15 + w) (omega arith))))

  -- what is answered, and what the slice is, where the line was put into the rest
  abbrev Put-so : Put → Option Refusal → Type 0
  Put-so r o = (r ≡ put_of (line_put w out at l o)) × (take at out ++ (line_written w (drop at out) l o).out ≡ (line_put w out at l o).out)

  refused-by : {x : Refusal} (o : Option Refusal) → Err x ≡ outcome_of o → Put-so (record { answer = Err x; at = at }) o
  refused-by (Some y) e = (ap (λ a. record { answer = a; at = at }) e, take-append-drop at out)
  refused-by None e = cc

  done-by : (o : Option Refusal) → Ok tt ≡ outcome_of o → Put-so (record { answer = Ok tt; at = at + line_length w }) o
  done-by None e = (refl, refl)
  done-by (Some y) e = cc

  -- the rest as the code has it: so many bytes from the position on, and none after them
  abbrev pub rest : List ℕ
  rest = take (length out - at) (drop at out)

  rest-is : rest ≡ drop at out
  rest-is = take_all (length out - at) (drop at out) (simp length-drop (omega arith))

  none_after : (last : List ℕ) → last ++ drop (length out - at) (drop at out) ≡ last
  none_after last = ap (λ t. last ++ t) (drop_of_length-le (drop at out) {i = length out - at} (simp length-drop (omega arith))) ∙ append-nil last

  rest-by : write_line_at w rest l ≡ line_written w (drop at out) l (write_refusal_at w (length out - at) l)
  rest-by = ap (λ t. write_line_at w t l) rest-is ∙ line-by

  abbrev Put-so-code : Put → List ℕ → Type 0
  Put-so-code r last =
      (r ≡ put_of (put_line_in w out at l)) × (take at out ++ (last ++ drop (length out - at) (drop at out)) ≡ (put_line_in w out at l).out)

  so : (r : Put) (last : List ℕ) → at ≤ length out → last ≡ (write_line_at w rest l).out → Put-so r (write_refusal_at w (length out - at) l) → Put-so-code r last
  so r last h e (p, q) = (
    p ∙ ap put_of (sym put-by),
    ap (λ t. take at out ++ t) (none_after last ∙ e ∙ ap (λ c. c.out) rest-by) ∙ q ∙ ap (λ c. c.out) (sym put-by),
  )

  pub put_refused : at ≤ length out → {x : Refusal} (last : List ℕ) → Err x ≡ (write_line_at w rest l).answer → last ≡ (write_line_at w rest l).out
      → Put-so-code (record { answer = Err x; at = at }) last
  put_refused h {x} last e f =
      so (record { answer = Err x; at = at }) last h f (refused-by (write_refusal_at w (length out - at) l) (e ∙ ap (λ c. c.answer) rest-by))

  -- a line that was written had room
  short-refused : (a b : Bool) → Ok tt ≡ outcome_of (first_refusal (WrongLength when a ∷ OutOfRange when b ∷ [])) → a ≡ false
  short-refused false b e = refl
  short-refused true b e = cc

  pub done-room : at ≤ length out → Ok tt ≡ (write_line_at w rest l).answer → at + line_length w ≤ length out
  done-room h e =
      omega (
        arith,
        ltb-false (length out - at) (line_length w) (short-refused (ltb (length out - at) (line_length w)) (line_out w l)
            (e ∙ ap (λ c. c.answer) rest-by)),
      )

  pub put-done : at ≤ length out → (last : List ℕ) → Ok tt ≡ (write_line_at w rest l).answer → last ≡ (write_line_at w rest l).out
      → Put-so-code (record { answer = Ok tt; at = at + line_length w }) last
  put-done h last e f =
      so (record { answer = Ok tt; at = at + line_length w }) last h f (done-by (write_refusal_at w (length out - at) l) (e ∙ ap (λ c. c.answer) rest-by))

-- bytes put over others leave the length
over-length : (out text : List ℕ) (at : ℕ) → at + length text ≤ length out → length (take at out ++ overwritten text (drop at out)) ≡ length out
over-length out text at h = simp (length-append, length-drop) (omega (arith, length-take-le at out (omega arith)))

-- a line that is put leaves the slice's length
pub put-same-length : (r : Rules) (out : List ℕ) (at : ℕ) (l : Line) → length (put_line_call r out at l).out ≡ length out
unfolding put_line_call
put-same-length r out at l = go (ltb (length out - at) (line_length r.amount_width)) (line_too_wide r.amount_width l) refl refl
  where
    go : (a b : Bool) → ltb (length out - at) (line_length r.amount_width) ≡ a → line_too_wide r.amount_width l ≡ b
        → length (line_put r.amount_width out at l (first_refusal (WrongLength when a ∷ OutOfRange when b ∷ []))).out ≡ length out
    go true b e f = refl
    go false true e f = refl
    go false false e f =
        over-length out (line_text r.amount_width l) at (omega (
          arith,
          line-length r.amount_width l f,
          ltb-false (length out - at)
              (line_length r.amount_width) e,
        ))

-- at the width of coherent rules the line is put as under the rules
pub put-at-rules : (r : Rules) → Coherent r → {width : ℕ} → width ≡ r.amount_width → (out : List ℕ) (at : ℕ) (l : Line)
    → put_line_in width out at l ≡ put_line_call r out at l
unfolding put_line_in put_line_call
put-at-rules r coherent {width} e out at l = rw (refusal-at-rules r coherent e (length out - at) l) (rw e)
