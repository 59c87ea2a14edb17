-- A case file written line by line. Assumes nothing.
use Rattle.std.specs.Prelude.{Ok, Err, Option, Some, None}
use Rattle.case_lines.specs.Dues.{bytes_of_line}
use mathlib.Core.Path.{◌≡◌, refl, sym, ap, ap₂, subst, ◌∙◌}
use mathlib.Core.Bool.{true, false}
use mathlib.Core.List.{List, [], ◌∷◌, ◌++◌, map, append_assoc, append-nil}
use Prim.Native.Nat.{ℕ, ◌+◌, ◌*◌, ◌-◌, ◌≤◌, ◌<◌}
use native.Mathlib.Numerals.{add-one}
use native.Mathlib.Nat.{mul-le-mul_right}
use native.Mathlib.Omega.{arith}
use lib.IntN.{ℤ}
use lib.Dec.{ltb, nltb→le}
use lib.ListN.{length, take, drop, length-append, length-take, length-drop}
use lib.Seq.{take-suc, take_all, drop-drop, drop-append-add}
use Rattle.integers.specs.Words.{joined}
use Rattle.integers.specs.Lists.{◌∈◌, map-append, map-map, joined-append}
use Rattle.integers.specs.Tables.{get_d-in}
use Rattle.definitions.specs.declared.Case.{Case}
use Rattle.definitions.specs.declared.Refusal.{Refusal}
use Rattle.definitions.specs.declared.Refusal.TheVariants.{OutsideLimits}
use Rattle.definitions.specs.Refusals.{first_refusal}
use Rattle.definitions.specs.Answers.{outcome_of, unless_refused, answer_of}
use Rattle.definitions.specs.Valid.{starting_weight, within_limits, handed_over}
use Rattle.definitions.specs.Rules.{rules_in, rules_of, coherent}
use Rattle.definitions.specs.Lines.{line_text, line_too_wide, overwritten}
use Rattle.calls.specs.Calls.{file_bytes, write_case_call}
use Rattle.definitions.specs.CaseFiles.{CaseDue, edge-ends, head_line, case_text}
use Rattle.definitions.proofs.LineLaws.{line-length}
use Rattle.theory.proofs.Validity.{Valid, handed}
use Rattle.case_theory.proofs.CaseDues.{line_of, case-lines, in-dues}
use Rattle.case_theory.proofs.CaseTests.{due-fits, head-fits, zero-carried, valid-remade}
use Rattle.tables.proofs.Order.{limited, outcome-done, outcome-refused}
use Rattle.lines.proofs.Stores.{column-next}
use Rattle.case_lines.specs.declared.Sizes.{Sizes}
use Rattle.case_lines.specs.Dues.{SizesLimited, due_at, lines_due, case_with}
use Rattle.case_lines.proofs.Dues.{all_dues, dues-length, dues-at, sizes-few}

-- ---- a line in its place

pub put-length : (o y : List ℕ) (n long : ℕ) → n + long ≤ length o → length y ≡ long → length (take n o ++ (y ++ drop (n + long) o)) ≡ length o
put-length o y n long h e = simp (length-append, length-take, length-drop) (omega arith)

-- where all lines have room, line q has
pub case-line-room : (long q most all : ℕ) → q < most → long * (most + 1) ≤ all → long * (q + 1) + long ≤ all
case-line-room long q most all h k = omega (arith, mul-le-mul_right {m = q + 2} {n = most + 1} long (omega arith))

pub over-twice : (p x out : List ℕ) → length p ≤ length x → overwritten x (overwritten p out) ≡ overwritten x out
over-twice p x out h =
    let e : length x ≡ length p + (length x - length p) = omega arith in
    ap (λ t. x ++ t) (ap (λ n. drop n (overwritten p out)) e ∙ drop-append-add p (drop (length p) out) (length x - length p)
    ∙ drop-drop (length x - length p) (length p) out ∙ ap (λ n. drop n out) (sym e))

-- ---- the lines of a case

module _ (s : Sizes) (lower upper : List ℕ) (w : List ℤ) where
  text : CaseDue → List ℕ
  text due = line_text (rules_in s.rulebook).amount_width (line_of (case_with s lower upper) w due)

  -- the head and q lines after it
  pub case_written : ℕ → List ℕ
  case_written q = line_text (rules_in s.rulebook).amount_width (head_line (case_with s lower upper)) ++ joined (map text (take q (all_dues s)))

  written-first : case_written 0 ≡ line_text (rules_in s.rulebook).amount_width (head_line (case_with s lower upper))
  unfolding case_written
  written-first = append-nil (line_text (rules_in s.rulebook).amount_width (head_line (case_with s lower upper)))

  written_next : (q : ℕ) → q < lines_due s → case_written (q + 1) ≡ case_written q ++ line_text (rules_in s.rulebook).amount_width
      (line_of (case_with s lower upper) w (due_at s q))
  unfolding case_written text
  written_next q h =
      let e : take (q + 1) (all_dues s) ≡ take q (all_dues s) ++ (due_at s q ∷ []) =
      rw add-one (take-suc (all_dues s) q (edge-ends 0) (omega (arith, dues-length s))
      ∙ ap (λ due. take q (all_dues s) ++ (due ∷ [])) (dues-at s q (edge-ends 0) h)) in
      ap (λ ds. line_text (rules_in s.rulebook).amount_width (head_line (case_with s lower upper)) ++ joined (map text ds)) e
      ∙ ap (λ ts. line_text (rules_in s.rulebook).amount_width (head_line (case_with s lower upper)) ++ joined ts)
      (map-append text (take q (all_dues s)) (due_at s q ∷ []))
      ∙ ap (λ t. line_text (rules_in s.rulebook).amount_width (head_line (case_with s lower upper)) ++ t)
      (joined-append (map text (take q (all_dues s))) (text (due_at s q) ∷ [])
      ∙ ap (λ t. joined (map text (take q (all_dues s))) ++ t) (append-nil (text (due_at s q))))
      ∙ sym (append_assoc (line_text (rules_in s.rulebook).amount_width (head_line (case_with s lower upper))) (joined (map text (take q (all_dues s))))
      (text (due_at s q)))

  pub lines-written-all : (q : ℕ) → lines_due s ≤ q → case_written q ≡ case_text (rules_in s.rulebook) (case_with s lower upper) w
  unfolding case_written text
  lines-written-all q h =
      ap (λ ds. line_text (rules_in s.rulebook).amount_width (head_line (case_with s lower upper)) ++ joined (map text ds))
      (take_all q (all_dues s) (omega (arith, dues-length s)))
      ∙ sym (ap (λ ls. joined (map (line_text (rules_in s.rulebook).amount_width) ls)) (case-lines (case_with s lower upper) w)
      ∙ ap (λ ts. line_text (rules_in s.rulebook).amount_width (head_line (case_with s lower upper)) ++ joined ts)
      (map-map (line_text (rules_in s.rulebook).amount_width) (line_of (case_with s lower upper) w) (all_dues s)))

  module _ (v : Valid (rules_in s.rulebook) (case_with s lower upper) w) where
    pub valid-limited : SizesLimited s
    valid-limited = sizes-few s v.variables-most v.shape.some-value v.values-most v.edges_most

    pub head-line-fits : line_too_wide (rules_in s.rulebook).amount_width (head_line (case_with s lower upper)) ≡ false
    head-line-fits = head-fits (coherent s.rulebook) v

    pub case-line-fits : (q : ℕ) → q < lines_due s → line_too_wide (rules_in s.rulebook).amount_width (line_of (case_with s lower upper) w (due_at s q)) ≡ false
    case-line-fits q h = due-fits (coherent s.rulebook) v (due_at s q)
        (in-dues (case_with s lower upper) (subst (λ (due : CaseDue). due ∈ all_dues s) (dues-at s q (edge-ends 0) h)
        (get_d-in (all_dues s) {i = q} (edge-ends 0) (omega (arith, dues-length s)))))

    -- the head is put, and then each line
    pub put_first : (entry out : List ℕ) → out ≡ take 0 entry ++ (line_text (rules_in s.rulebook).amount_width (head_line (case_with s lower upper)) ++ drop
        (0 + bytes_of_line s.rulebook) entry)
        → bytes_of_line s.rulebook ≤ length entry → (length (case_written 0) ≡ bytes_of_line s.rulebook * (0 + 1)) × (length out ≡ length entry)
        × (out ≡ overwritten (case_written 0) entry)
    put_first entry out e h =
        let n = line-length (rules_in s.rulebook).amount_width (head_line (case_with s lower upper)) head-line-fits in (
          ap length written-first ∙ n ∙ omega arith,
          ap length e ∙ put-length entry (line_text (rules_in s.rulebook).amount_width (head_line (case_with s lower upper))) 0 (bytes_of_line s.rulebook)
              (omega arith) n,
          e ∙ ap₂ (λ p n. p ++ drop n entry) (sym written-first) (let z : 0 + bytes_of_line s.rulebook ≡ bytes_of_line s.rulebook = omega arith in z
              ∙ sym (ap length written-first ∙ n)),
        )

    pub put_next : (entry out next : List ℕ) (q : ℕ) → q < lines_due s → length (case_written q) ≡ bytes_of_line s.rulebook * (q + 1)
        → out ≡ overwritten (case_written q) entry → bytes_of_line s.rulebook * (q + 1) + bytes_of_line s.rulebook ≤ length out
        → next ≡ take (bytes_of_line s.rulebook * (q + 1)) out ++ (line_text (rules_in s.rulebook).amount_width
        (line_of (case_with s lower upper) w (due_at s q)) ++ drop (bytes_of_line s.rulebook * (q + 1) + bytes_of_line s.rulebook) out)
        → (length (case_written (q + 1)) ≡ bytes_of_line s.rulebook * (q + 1 + 1)) × (length next ≡ length out)
        × (next ≡ overwritten (case_written (q + 1)) entry)
    put_next entry out next q h n e m f =
        let y = line_text (rules_in s.rulebook).amount_width (line_of (case_with s lower upper) w (due_at s q)) in
        let k : length y ≡ bytes_of_line s.rulebook = line-length (rules_in s.rulebook).amount_width (line_of (case_with s lower upper) w (due_at s q))
        (case-line-fits q h) in (
          ap length (written_next q h) ∙ length-append (case_written q) y ∙ omega arith,
          ap length f ∙ put-length out y (bytes_of_line s.rulebook * (q + 1)) (bytes_of_line s.rulebook) m k,
          f ∙ column-next (case_written q) entry out (bytes_of_line s.rulebook * (q + 1)) n e y (bytes_of_line s.rulebook) k
              ∙ ap (λ p. overwritten p entry) (sym (written_next q h)),
        )

-- ---- the call

module _ (c : Case) (w : List ℤ) (out : List ℕ) where
  abbrev sizes_of : Sizes
  sizes_of = record { n = c.n; d = c.d; m = c.m; rulebook = c.rulebook }

  abbrev pub write_asked : Option Refusal
  write_asked = first_refusal (handed_over (rules_of c) (starting_weight (rules_of c)) c w (ltb (length out) (bytes_of_line c.rulebook * (lines_due sizes_of + 1))) false)

  bytes-are : file_bytes (rules_of c) c ≡ bytes_of_line c.rulebook * (lines_due sizes_of + 1)
  bytes-are = omega arith

  call-is : write_case_call (rules_of c) c w out ≡ record {
    answer = answer_of write_asked (bytes_of_line c.rulebook * (lines_due sizes_of + 1));
    out =
        unless_refused write_asked (overwritten (case_text (rules_of c) c w) out) out;
  }
  unfolding write_case_call
  call-is = ap (λ n.
      let o = first_refusal (handed_over (rules_of c) (starting_weight (rules_of c)) c w (ltb (length out) n) false) in
      record { answer = answer_of o n; out = unless_refused o (overwritten (case_text (rules_of c) c w) out) out }) bytes-are

  refused-is : {x : Refusal} → write_asked ≡ Some x → write_case_call (rules_of c) c w out ≡ record { answer = Err x; out = out }
  refused-is e = call-is ∙ ap (λ o. record {
    answer = answer_of o (bytes_of_line c.rulebook * (lines_due sizes_of + 1));
    out =
        unless_refused o (overwritten (case_text (rules_of c) c w) out) out;
  }) e

  pub write-limits : within_limits (rules_of c) c.n c.d c.m ≡ false → Err OutsideLimits ≡ (write_case_call (rules_of c) c w out).answer
      × (out ≡ (write_case_call (rules_of c) c w out).out)
  write-limits h = let e = refused-is {x = OutsideLimits} (rw h) in (sym (ap (λ c. c.answer) e), sym (ap (λ c. c.out) e))

  pub write-refused : {x : Refusal} → Err x ≡ outcome_of write_asked → Err x ≡ (write_case_call (rules_of c) c w out).answer
      × (out ≡ (write_case_call (rules_of c) c w out).out)
  write-refused h = let e = refused-is (outcome-refused h) in (sym (ap (λ c. c.answer) e), sym (ap (λ c. c.out) e))

  module _ (h : Ok tt ≡ outcome_of write_asked) where
    -- the carry is not written
    pub write-valid : Valid (rules_of c) (case_with sizes_of c.lower c.upper) w × (bytes_of_line c.rulebook * (lines_due sizes_of + 1) ≤ length out)
    write-valid =
        let d : write_asked ≡ None = outcome-done h in
        let (v, short, o) = (handed (rules_of c) (starting_weight (rules_of c)) c w (ltb (length out) (bytes_of_line c.rulebook * (lines_due sizes_of + 1))) false).0
        (rw d tt) in
        (valid-remade v c.lower c.upper (λ e h. refl) (λ e h. refl) (zero-carried (rules_of c)), nltb→le (length out) (bytes_of_line c.rulebook * (lines_due sizes_of + 1)) short)

    pub write-done-is : {n : ℕ} {u : List ℕ} → n ≡ bytes_of_line c.rulebook * (lines_due sizes_of + 1) → u ≡ overwritten (case_text (rules_of c) c w) out
        → Ok n ≡ (write_case_call (rules_of c) c w out).answer × (u ≡ (write_case_call (rules_of c) c w out).out)
    write-done-is p q =
        let d : write_asked ≡ None = outcome-done h in
        let e = call-is ∙ ap (λ o. record {
          answer = answer_of o (bytes_of_line c.rulebook * (lines_due sizes_of + 1));
          out =
              unless_refused o (overwritten (case_text (rules_of c) c w) out) out;
        }) d in
        (ap Ok p ∙ sym (ap (λ c. c.answer) e), q ∙ sym (ap (λ c. c.out) e))

pub limits-are : (c : Case) → within_limits (rules_of c) c.n c.d c.m ≡ true
    → SizesLimited (record { n = c.n; d = c.d; m = c.m; rulebook = c.rulebook })
limits-are c e = let l = limited c e in sizes-few (record { n = c.n; d = c.d; m = c.m; rulebook = c.rulebook }) l.variables l.some-value l.values
    l.edges
