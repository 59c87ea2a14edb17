-- Moves made with their lines put: none, one shift, and one part after the other. Assumes nothing.
use Rattle.std.specs.Prelude.{Result, ⊤}
use Rattle.definitions.specs.declared.Refusal.{Refusal}
use mathlib.Core.Path.{◌≡◌, refl, sym, ap, subst, ◌∙◌}
use mathlib.Core.Bool.{Bool, false}
use mathlib.Core.List.Memᴰ
use mathlib.Core.List.{List, [], ◌∷◌, ◌++◌, map, append-nil, append_assoc}
use Prim.Native.Nat.{ℕ, ◌+◌, ◌-◌, ◌^◌, ◌≤◌, ◌<◌}
use native.Mathlib.Nat.{mul-add}
use native.Mathlib.Omega.{arith}
use borrow.Author.Tests.{le-ltb}
use lib.IntN.{ℤ}
use lib.Dec.{lt→ltb, lit<}
use lib.ListN.{length, take, drop, length-append}
use lib.Seq.{drop-drop}
use Rattle.integers.specs.Words.{joined}
use Rattle.integers.specs.Tests.{false-is, is_false, not-or-iff, not-not-iff}
use Rattle.integers.specs.Lists.{joined-append, map-append}
use Rattle.definitions.specs.declared.Case.{Case}
use Rattle.definitions.specs.declared.Line.{Line}
use Rattle.definitions.specs.Rules.{rules_of, coherent}
use Rattle.definitions.specs.Refusals.{◌when◌, first_refusal}
use Rattle.definitions.specs.declared.Refusal.TheVariants.{LeavesRange}
use Rattle.definitions.specs.Answers.{unless_refused}
use Rattle.definitions.specs.Case.{upper_bound}
use Rattle.definitions.specs.Valid.{working_weight}
use Rattle.definitions.specs.Moves.{Move, shift, moved, leaves_range}
use Rattle.definitions.specs.Lines.{line_too_wide, overwritten}
use Rattle.definitions.specs.RoundLines.{move_lines, bound_line}
use Rattle.definitions.proofs.LineLaws.{line-length}
use Rattle.calls.specs.Calls.{shift_out}
use Rattle.theory.proofs.Validity.{Handed}
use Rattle.theory.proofs.Replays.{AllowedShift}
use Rattle.theory.proofs.Rounds.{no_move, one_more, round-fits}
use Rattle.tables.specs.Scopes.{BestOf}
use Rattle.changes.specs.Kept.{transfer_call, Gives}
use Rattle.changes.proofs.TransferLaws.{transfer-is-shift}
use Rattle.lines.specs.AtWidth.{line_out}
use Rattle.lines.proofs.AtRules.{width-in}
use Rattle.log_writer.specs.Writers.{put_line_in}
use Rattle.round_lines.specs.Press.{Put}
use Rattle.round_lines.proofs.Texts.{line-put}
use Rattle.pair_rounds.specs.Shifts.{line_bytes, line_text_of, shift_line, moves_text, moves_line_count, Shifted}
use Rattle.pair_rounds.proofs.Moves.{allowed-join}

-- ---- one line

module _ (c : Case) (out : List ℕ) (at : ℕ) (l : Line) (room : at + line_bytes c ≤ length out) (fits : line_too_wide (rules_of c).amount_width l ≡ false) where
  line-in : line_out (rules_of c).amount_width l ≡ false
  line-in = rw (width-in (rules_of c) (coherent c.rulebook) {width = (rules_of c).amount_width} refl) fits

  pub line_at : {width : ℕ} → width ≡ (rules_of c).amount_width → {next : List ℕ} → next ≡ (put_line_in width out at l).out
      → ((put_line_in width out at l).at ≡ at + line_bytes c) × Put at (line_text_of c l) (at + line_bytes c) out next
  unfolding put_line_in
  line_at e {next} f =
      let s = le-ltb (length out - at) (line_bytes c) (omega arith) in
      let n = line-length (rules_of c).amount_width l fits in
      let g : next ≡ take at out ++ (line_text_of c l ++ drop (at + line_bytes c) out) = f ∙ (rw (e, s, line-in) (rw (n, drop-drop (line_bytes c) at out))) in
      (rw (e, s, line-in), λ p o q m. line-put (rules_of c).amount_width out next p o at l (false-is (line_out (rules_of c).amount_width l) line-in) g q m)

-- ---- texts one after the other

lines-append : (xs ys : List Move) → joined (map move_lines (xs ++ ys)) ≡ joined (map move_lines xs) ++ joined (map move_lines ys)
lines-append xs ys = ap joined (map-append move_lines xs ys) ∙ joined-append (map move_lines xs) (map move_lines ys)

pub count-append : (xs ys : List Move) → moves_line_count (xs ++ ys) ≡ moves_line_count xs + moves_line_count ys
count-append xs ys = ap length (lines-append xs ys) ∙ length-append (joined (map move_lines xs)) (joined (map move_lines ys))

text-append : (c : Case) (xs ys : List Move) → moves_text c (xs ++ ys) ≡ moves_text c xs ++ moves_text c ys
text-append c xs ys =
    ap (λ (l : List Line). joined (map (line_text_of c) l)) (lines-append xs ys)
    ∙ ap joined (map-append (line_text_of c) (joined (map move_lines xs)) (joined (map move_lines ys)))
    ∙ joined-append (map (line_text_of c) (joined (map move_lines xs))) (map (line_text_of c) (joined (map move_lines ys)))

pub put-join : {at middle end : ℕ} {s t out between next : List ℕ} → Put at s middle out between → Put middle t end between next → Put at (s ++ t) end out next
put-join {s} {t} f g p o q n =
    let (a, b) = f p o q n in
    let (x, y) = g (p ++ s) o a b in
    (x ∙ ap (λ (l : List ℕ). overwritten l o) (append_assoc p s t), ap length (sym (append_assoc p s t)) ∙ y)

module _ {c : Case} where
  pub shifted_none : {w best : List ℤ} (at : ℕ) (out : List ℕ) → BestOf c w best → Shifted c [] w w best at at out out
  shifted_none at out b = record {
    allowed = no_move;
    greatest-kept = b;
    put = λ p o q n. (rw (append-nil p) q, rw (append-nil p) n);
    bytes = omega arith;
  }

  pub shifted-more : {xs ys : List Move} {w u v best after : List ℤ} {at middle end : ℕ} {out between next : List ℕ}
      → Shifted c xs w u best at middle out between → Shifted c ys u v after middle end between next → Shifted c (xs ++ ys) w v after at end out next
  shifted-more {xs} {ys} {at} {end} {out} {next} p q = record {
    allowed = allowed-join p.allowed q.allowed;
    greatest-kept = q.greatest-kept;
    put = subst (λ (t : List ℕ). Put at t end out next) (sym (text-append c xs ys)) (put-join p.put q.put);
    bytes = rw (count-append xs ys) (omega (arith, p.bytes, q.bytes, mul-add (line_bytes c) (moves_line_count xs) (moves_line_count ys)));
  }

  -- the lines of allowed shifts fit their columns, and so does the bound line
  module _ {w : List ℤ} (h : Handed (rules_of c) (working_weight (rules_of c)) c w) where
    pub shift_fits : {e end v : ℕ} {a : ℤ} → AllowedShift (rules_of c) c w e end v a
        → line_too_wide (rules_of c).amount_width (shift_line e end v a) ≡ false
    shift_fits {e} {end} {v} {a} k = round-fits (coherent c.rulebook) {moves = shift e end v a ∷ []} h (one_more k no_move) (Memᴰ.head refl)

    pub bound-fits : line_too_wide (rules_of c).amount_width (bound_line (upper_bound c w)) ≡ false
    bound-fits = round-fits (coherent c.rulebook) {moves = []} h no_move (Memᴰ.head refl)

    -- an allowed shift
    module _ {best : List ℤ} (b : BestOf c w best) {e end v : ℕ} {a : ℤ} (k : AllowedShift (rules_of c) c w e end v a) where
      pub shift_small : (e < 10 ^ 4) × (end < 10 ^ 4) × (v < 10 ^ 4)
      shift_small =
          let q : 8 < 10 ^ 4 = lit< tt in
          let r = coherent c.rulebook in (
            omega (arith, k.edge, h.edges_most, r.scopes-few),
            omega (arith, k.side),
            omega (arith, k.value, h.values-most, r.values-few),
          )

      inside : shift_out (rules_of c) c e end v a ≡ false
      inside = is_false (shift_out (rules_of c) c e end v a)
          (simp (not-or-iff, not-not-iff) (((lt→ltb e c.m k.edge, lt→ltb end 2 k.side), lt→ltb v c.d k.value), k.amount))

      pub shifted_one : {answer : Result ⊤ Refusal} {after greatest : List ℤ} → Gives (transfer_call (rules_of c) c w best e end v a) answer after greatest
          → {at r : ℕ} {out next : List ℕ} → r ≡ at + line_bytes c → Put at (line_text_of c (shift_line e end v a)) (at + line_bytes c) out next
          → Shifted c (shift e end v a ∷ []) w after greatest at r out next
      shifted_one {after} {greatest} (f, g, i) {at} {r} {out} {next} n put =
          let (p, q, s) = transfer-is-shift h b e end v a inside in
          let d : after ≡ moved c (shift e end v a) w =
          g ∙ q ∙ ap (λ (l : Bool). unless_refused (first_refusal (LeavesRange when l ∷ [])) (moved c (shift e end v a) w) w)
          (is_false (leaves_range (rules_of c) c w (moved c (shift e end v a) w)) k.in-range) in
          record {
            allowed = rw d (one_more k no_move);
            greatest-kept = rw (g, i) s;
            put = rw (n, append-nil (line_text_of c (shift_line e end v a))) put;
            bytes = omega (arith, n);
          }
