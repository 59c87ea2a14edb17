-- The reader of a case looks only at the lines that are due, so a front that holds the longest case is read as the whole input is. The line of a
-- case's refusal, and the lines used, are at most those of the longest case. Assumes nothing.
use Rattle.definitions.specs.declared.RefusedAt.{RefusedAt}
use Rattle.definitions.specs.Answers.{size_with}
use mathlib.Core.Path.{◌≡◌, refl, sym, ap, ap₂, ◌∙◌}
use mathlib.Core.Bool.{Bool, true, false}
use mathlib.Core.Logic.{◌⊎◌, inl, inr}
use mathlib.Core.List.{List, [], ◌∷◌, ◌++◌, append-nil}
use Prim.Native.Nat.{ℕ, suc, ◌+◌, ◌*◌, ◌≤◌}
use native.Mathlib.Nat.{mul-le-mul, mul-le-mul_left, mul-le-mul_right, mul_comm}
use native.Mathlib.Omega.{arith}
use lib.IntN.{ℤ}
use lib.Dec.{eqb}
use lib.ListN.{length, drop, length-append, length-drop}
use lib.Seq.{take-append-le, drop-append-le}
use borrow.Author.Tests.{le-ltb, ne_eqb}
use Rattle.std.specs.Prelude.{if◌then◌else◌, Result, Ok, Err, Option, Some, None}
use Rattle.integers.specs.Options.{none-some}
use Rattle.definitions.specs.declared.Case.{Case}
use Rattle.definitions.specs.declared.Rulebook.{Rulebook}
use Rattle.definitions.specs.declared.Line.{Line}
use Rattle.definitions.specs.declared.CaseRead.{CaseRead}
use Rattle.definitions.specs.declared.CaseSize.{CaseSize}
use Rattle.definitions.specs.declared.Refusal.{Refusal}
use Rattle.definitions.specs.declared.Refusal.TheVariants.{WrongLength, CutShort}
use Rattle.definitions.specs.Rules.{Rules, rules_in, coherent}
use Rattle.definitions.specs.Refusals.{first_refusal}
use Rattle.definitions.specs.Case.{lent_length}
use Rattle.definitions.specs.Lines.{line_length}
use Rattle.definitions.specs.CaseFiles.{CaseDue, dues, due_tests, Reading, took, head_tests, headed, CaseCall, case_refused, is_cut, first_line, after_first}
use Rattle.definitions.specs.CaseFiles.{read_dues, head_refusal, read_lines, read_case, end_tests, rest_refusal, nothing_after, read_case_alone, case_size}
use Rattle.definitions.specs.Places.{longest_lines, longest_case}
use Rattle.definitions.specs.Programs.{table_for, press_read, press_prints}
use Rattle.case_theory.proofs.CaseDues.{run_length, dues-run}
use Rattle.case_theory.proofs.CaseTests.{CaseKinds, case-kinds, head_passed}
use Rattle.case_theory.proofs.CaseReads.{zeroed_call, zeroed-read}

-- the line of a refusal, or the lines used
abbrev pub front_line : Result ℕ RefusedAt → ℕ
front_line (Ok lines) = lines
front_line (Err x) = x.line

module _ (r : Rules) where
  -- a front that holds a line
  module _ (s rest : List ℕ) (h : line_length r.amount_width ≤ length s) where
    cut-front : is_cut r (s ++ rest) ≡ is_cut r s
    cut-front =
        le-ltb (length (s ++ rest)) (line_length r.amount_width) (rw length-append (omega arith))
        ∙ sym (le-ltb (length s) (line_length r.amount_width) h)

    line-front : first_line r (s ++ rest) ≡ first_line r s
    line-front = rw (take-append-le (line_length r.amount_width) s rest h)

    after_front : after_first r (s ++ rest) ≡ after_first r s ++ rest
    after_front = drop-append-le (line_length r.amount_width) s rest h

module _ (book : Rulebook) where
  abbrev r : Rules
  r = rules_in book

  -- one line that is due, by whether the bytes are cut short, the line, the refusal, and what is left
  module _ (g : Reading) (at : ℕ) (due : CaseDue) (ds : List CaseDue) where
    tried : Option Line → Option Refusal
    tried l = first_refusal (due_tests r g due l)

    turn : Bool → Option Line → Option Refusal → List ℕ → CaseCall
    turn b l o s =
        elim b [
          | true ↦ case_refused book CutShort at g.table
          | false ↦
              elim o [
                | None ↦ read_dues book (took g due l) (at + 1) ds s
                | Some x ↦ case_refused book x at g.table
              ]
        ]

    turns : (s : List ℕ) → read_dues book g at (due ∷ ds) s ≡ turn (is_cut r s) (first_line r s) (tried (first_line r s)) (after_first r s)
    unfolding turn tried
    turns s = refl

    turn-same : (b : Bool) (l : Option Line) (o : Option Refusal) (s t : List ℕ)
        → read_dues book (took g due l) (at + 1) ds s ≡ read_dues book (took g due l) (at + 1) ds t → turn b l o s ≡ turn b l o t
    unfolding turn
    turn-same true l o s t e = refl
    turn-same false l None s t e = e
    turn-same false l (Some x) s t e = refl

    turn-line : (b : Bool) (l : Option Line) (o : Option Refusal) (s : List ℕ)
        → front_line (read_dues book (took g due l) (at + 1) ds s).read.answer ≤ at + 1 + length ds
        → front_line (turn b l o s).read.answer ≤ at + suc (length ds)
    unfolding turn
    turn-line true l o s h = omega arith
    turn-line false l None s h = omega arith
    turn-line false l (Some x) s h = omega arith

  dues-front : (ds : List CaseDue) (g : Reading) (at : ℕ) (s rest : List ℕ) → length ds * line_length r.amount_width ≤ length s
      → read_dues book g at ds (s ++ rest) ≡ read_dues book g at ds s
  dues-front [] g at s rest h = refl
  dues-front (due ∷ ds) g at s rest h =
      let e : suc (length ds) * line_length r.amount_width ≡ line_length r.amount_width + length ds * line_length r.amount_width = omega arith in
      let long : line_length r.amount_width ≤ length s = omega arith in
      let l : Option Line = first_line r s in
      turns g at due ds (s ++ rest)
      ∙ ap₂ (λ (b : Bool) (l : Option Line). turn g at due ds b l (tried g at due ds l) (after_first r (s ++ rest))) (cut-front r s rest long)
      (line-front r s rest long)
      ∙ ap (turn g at due ds (is_cut r s) l (tried g at due ds l)) (after_front r s rest long)
      ∙ turn-same g at due ds (is_cut r s) l (tried g at due ds l) (after_first r s ++ rest) (after_first r s)
      (dues-front ds (took g due l) (at + 1) (after_first r s) rest (rw length-drop (omega arith)))
      ∙ sym (turns g at due ds s)

  dues-line : (ds : List CaseDue) (g : Reading) (at : ℕ) (s : List ℕ) → front_line (read_dues book g at ds s).read.answer ≤ at + length ds
  dues-line [] g at s = omega arith
  dues-line (due ∷ ds) g at s =
      rw (turns g at due ds s)
      (turn-line g at due ds (is_cut r s) (first_line r s) (tried g at due ds (first_line r s)) (after_first r s)
      (dues-line ds (took g due (first_line r s)) (at + 1) (after_first r s)))

  -- ---- the head, by its refusal, its line, and what is left
  module _ (w : List ℤ) where
    opened : Option Refusal → Option Line → List ℕ → CaseCall
    opened o l s =
        elim o [
          | None ↦
              if eqb (length w) (lent_length r (headed book l))
              then read_dues book (record { case = headed book l; table = w }) 1 (dues (headed book l)) s
              else case_refused book WrongLength 0 w
          | Some x ↦ case_refused book x 0 w
        ]

    opens : (t : List ℕ) → read_lines book t w ≡ opened (head_refusal r t) (first_line r t) (after_first r t)
    unfolding opened
    opens t = refl

    opened-same : (l : Option Line) (s t : List ℕ) → read_dues book (record { case = headed book l; table = w }) 1 (dues (headed book l)) s ≡ read_dues book
        (record { case = headed book l; table = w }) 1 (dues (headed book l)) t
        → opened None l s ≡ opened None l t
    unfolding opened
    opened-same l s t e = ap (λ (x : CaseCall). if eqb (length w) (lent_length r (headed book l)) then x else case_refused book WrongLength 0 w) e

    opened-line : (l : Option Line) (s : List ℕ) (k : ℕ) → 1 + length (dues (headed book l)) ≤ k → front_line (opened None l s).read.answer ≤ k
    unfolding opened
    opened-line l s k h = go (eqb (length w) (lent_length r (headed book l)))
      where
        g : Reading
        g = record { case = headed book l; table = w }

        go : (b : Bool) → front_line (if b then read_dues book g 1 (dues (headed book l)) s else case_refused book WrongLength 0 w).read.answer ≤ k
        go true = omega (arith, dues-line (dues (headed book l)) g 1 s)
        go false = omega arith

    opened-refused : (x : Refusal) (l : Option Line) (s t : List ℕ) → opened (Some x) l s ≡ opened (Some x) l t
    unfolding opened
    opened-refused x l s t = refl

    refused-line : (x : Refusal) (l : Option Line) (s : List ℕ) → front_line (opened (Some x) l s).read.answer ≡ 0
    unfolding opened
    refused-line x l s = refl

-- the size by the head's refusal and its line
unfoldable pub front-sized : Rulebook → Option Refusal → Option Line → Result CaseSize Refusal
front-sized b o l =
    elim o [
      | None ↦ Ok (size_with (headed b l).n (headed b l).d (headed b l).m (lent_length (rules_in b) (headed b l)))
      | Some x ↦ Err x
    ]

module _ (book : Rulebook) where
  abbrev rules : Rules
  rules = rules_in book

  kinds : CaseKinds rules
  kinds = case-kinds (coherent book)

  -- a head that is taken asks for no more
  head-lines : (b : Bool) (l : Option Line) → (if b then Some CutShort else first_refusal (head_tests rules l)) ≡ None
      → 1 + length (dues (headed book l)) ≤ longest_lines rules
  head-lines true l e = absurd (none-some (sym e))
  head-lines false None e = absurd (none-some (sym e))
  head-lines false (Some l) e =
      let (same, limits) = head_passed kinds l e in
      let c : Case = headed book (Some l) in
      let p : c.n * c.d ≤ rules.variables * rules.values = mul-le-mul limits.variables-most limits.values-most in
      let q : c.d * c.d ≤ rules.values * rules.values = mul-le-mul limits.values-most limits.values-most in
      let u : c.m * (1 + c.d * c.d) ≤ rules.edges * (1 + rules.values * rules.values) =
      mul-le-mul {m₁ = 1 + c.d * c.d} limits.edges_most (omega arith) in
      let v : suc (c.d * c.d) ≡ 1 + c.d * c.d = omega arith in
      let k = run_length (dues-run c) in
      omega (arith, ap (λ (i : ℕ). c.m * i) v)

  pub lines-line : (t : List ℕ) (w : List ℤ) → front_line (read_lines book t w).read.answer ≤ longest_lines rules
  lines-line t w = rw (opens book w t) (go (head_refusal rules t) refl)
    where
      go : (o : Option Refusal) → head_refusal rules t ≡ o → front_line
          (opened book w o (first_line rules t) (after_first rules t)).read.answer ≤ longest_lines rules
      go None e = opened-line book w (first_line rules t) (after_first rules t) (longest_lines rules) (head-lines (is_cut rules t) (first_line rules t) e)
      go (Some x) e = omega (arith, refused-line book w x (first_line rules t) (after_first rules t))

  pub case-line : (t : List ℕ) (w : List ℤ) → front_line (read_case book t w).read.answer ≤ longest_lines rules
  case-line t w = omega (arith, ap (λ (x : CaseRead). front_line x.answer) (zeroed-read (read_lines book t w)), lines-line t w)

  -- a front that holds the longest case
  module _ (front rest : List ℕ) (h : longest_case rules ≤ length front) where
    long : line_length rules.amount_width ≤ length front
    long = omega (arith, mul-le-mul_left {m = 1} {n = longest_lines rules} (line_length rules.amount_width) (omega arith))

    head-front : head_refusal rules (front ++ rest) ≡ head_refusal rules front
    head-front = ap₂ (λ (b : Bool) (l : Option Line). if b then Some CutShort else first_refusal (head_tests rules l)) (cut-front rules front rest long)
        (line-front rules front rest long)

    dues-fit : (k : ℕ) → 1 + k ≤ longest_lines rules → k * line_length rules.amount_width ≤ length (after_first rules front)
    dues-fit k g =
        let l : ℕ = line_length rules.amount_width in
        let m : (1 + k) * l ≤ longest_lines rules * l = mul-le-mul_right l g in
        let e : (1 + k) * l ≡ l + k * l = omega arith in
        rw length-drop (omega (arith, mul_comm (longest_lines rules) l))

    long-front : (w : List ℤ) → read_lines book (front ++ rest) w ≡ read_lines book front w
    long-front w =
        opens book w (front ++ rest)
        ∙ ap₂ (λ (o : Option Refusal) (l : Option Line). opened book w o l (after_first rules (front ++ rest))) head-front (line-front rules front rest long)
        ∙ ap (opened book w (head_refusal rules front) (first_line rules front)) (after_front rules front rest long)
        ∙ go (head_refusal rules front) refl
        ∙ sym (opens book w front)
      where
        go : (o : Option Refusal) → head_refusal rules front ≡ o → opened book w o (first_line rules front) (after_first rules front ++ rest) ≡ opened book w o
            (first_line rules front) (after_first rules front)
        go (Some x) e = opened-refused book w x (first_line rules front) (after_first rules front ++ rest) (after_first rules front)
        go None e =
            let l : Option Line = first_line rules front in
            opened-same book w l (after_first rules front ++ rest) (after_first rules front)
            (dues-front book (dues (headed book l)) (record { case = headed book l; table = w }) 1 (after_first rules front) rest
            (dues-fit (length (dues (headed book l))) (head-lines (is_cut rules front) l e)))

    size-front : case_size book (front ++ rest) ≡ case_size book front
    unfolding front-sized
    size-front = ap₂ (front-sized book) head-front (line-front rules front rest long)

  -- a front that holds the longest case or the whole input
  pub case-front : (front rest : List ℕ) → (longest_case rules ≤ length front) ⊎ (rest ≡ [])
      → (case_size book (front ++ rest) ≡ case_size book front) × ((w : List ℤ) → read_case book (front ++ rest) w ≡ read_case book front w)
  case-front front rest (inl h) = (size-front front rest h, λ w. ap zeroed_call (long-front front rest h w))
  case-front front rest (inr e) =
      let n : front ++ rest ≡ front = rw e (append-nil front) in
      (ap (case_size book) n, λ w. ap (λ (t : List ℕ). read_case book t w) n)

-- ---- a case that is read alone, as by `press`
module _ (r : Rules) where
  ending : ℕ → Bool → Option Line → Option Refusal
  ending n b l = if eqb n 0 then None else if b then Some CutShort else first_refusal (end_tests r l)

  -- a line is left
  rest-front : (s rest : List ℕ) → line_length r.amount_width ≤ length s → rest_refusal r (s ++ rest) ≡ rest_refusal r s
  unfolding ending
  rest-front s rest h =
      let p : eqb (length (s ++ rest)) 0 ≡ eqb (length s) 0 =
      ne_eqb (length (s ++ rest)) 0 (λ z. omega (arith, length-append s rest)) ∙ sym (ne_eqb (length s) 0 (λ z. omega arith)) in
      ap₂ (λ (b : Bool) (l : Option Line). ending (length (s ++ rest)) b l) (cut-front r s rest h) (line-front r s rest h)
      ∙ ap (λ (e : Bool). if e then None else if is_cut r s then Some CutShort else first_refusal (end_tests r (first_line r s))) p

module _ (book : Rulebook) (front rest : List ℕ) (h : longest_case (rules_in book) + line_length (rules_in book).amount_width ≤ length front) where
  abbrev under : Rules
  under = rules_in book

  ended : CaseCall → ℕ → Option Refusal → CaseCall
  ended call lines o = elim o [
    | None ↦ call
    | Some x ↦ case_refused book x lines call.table
  ]

  line-left : (lines : ℕ) → lines ≤ longest_lines under → line_length under.amount_width ≤ length (drop (lines * line_length under.amount_width) front)
  line-left lines few =
      let l : ℕ = line_length under.amount_width in
      let m : lines * l ≤ longest_lines under * l = mul-le-mul_right l few in
      rw length-drop (omega (arith, mul_comm (longest_lines under) l))

  ends-front : (call : CaseCall) (a : Result ℕ RefusedAt) → front_line a ≤ longest_lines under → nothing_after book (front ++ rest) call a ≡ nothing_after book front call a
  unfolding ended
  ends-front call (Err x) few = refl
  ends-front call (Ok lines) few =
      let k : ℕ = lines * line_length under.amount_width in
      let left = line-left lines few in
      ap (ended call lines) (ap (rest_refusal under) (drop-append-le k front rest (omega (arith, length-drop k front)))
      ∙ rest-front under (drop k front) rest left)

  pub alone-front : (w : List ℤ) → read_case_alone book (front ++ rest) w ≡ read_case_alone book front w
  alone-front w =
      let long : longest_case under ≤ length front = omega arith in
      ap zeroed_call (ap (λ (k : CaseCall). nothing_after book (front ++ rest) k k.read.answer) (long-front book front rest long w)
      ∙ ends-front (read_lines book front w) (read_lines book front w).read.answer (lines-line book front w))

-- a front that holds the longest case and a line more, or the whole input, is printed as the whole input is
pub press-front : (book : Rulebook) (front rest : List ℕ) → (longest_case (rules_in book) + line_length (rules_in book).amount_width ≤ length front) ⊎ (rest ≡ [])
    → press_prints book (front ++ rest) ≡ press_prints book front
press-front book front rest (inr e) = let n : front ++ rest ≡ front = rw e (append-nil front) in ap (press_prints book) n
press-front book front rest (inl h) =
    let long : longest_case (rules_in book) ≤ length front = omega arith in
    ap (λ (k : CaseCall). press_read k k.read.answer)
    (ap (λ (s : Result CaseSize Refusal). read_case_alone book (front ++ rest) (table_for s)) (size-front book front rest long)
    ∙ alone-front book front rest h (table_for (case_size book front)))
