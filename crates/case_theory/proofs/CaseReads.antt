-- The reader of case files, line by line: one line that is taken, and all lines after the head, both ways. Assumes nothing.
use Rattle.definitions.specs.declared.RefusedAt.{RefusedAt}
use Rattle.definitions.specs.Answers.{refused_at}
use mathlib.Core.Path.{◌≡◌, refl, sym, ap, ap₂, subst, ◌∙◌}
use mathlib.Core.Bool.{Bool, true, false, not, ◌&&◌}
use mathlib.Core.Logic.{◌≢◌, ⊎_elim}
use mathlib.Core.List.Memᴰ
use mathlib.Core.List.{List, [], ◌∷◌, ◌++◌, map, append_assoc}
use Prim.Native.Nat.{ℕ, suc, ◌+◌, ◌*◌, ◌≤◌, ◌<◌}
use native.Mathlib.Nat.{mul-le-mul_right, zero-mul}
use native.Mathlib.Omega.{arith}
use lib.IntN.{ℤ}
use lib.Dec.{T, T_not, not_T, eqb, eqb→eq}
use lib.ListN.{length, take, drop, length-append}
use lib.Seq.{take_at, drop_at, take-add}
use borrow.Author.Tests.{le-ltb, eq-eqb, ne_eqb, eqb-true}
use Rattle.std.specs.Prelude.{if◌then◌else◌, Result, Ok, Err, Option, Some, None}
use Rattle.integers.specs.Words.{joined, all, any, is_in}
use Rattle.integers.specs.Tests.{either, and_left, and_right, not-eqb-iff}
use Rattle.integers.specs.Lists.{◌∈◌, any-in}
use Rattle.integers.specs.Options.{none-some}
use Rattle.definitions.specs.declared.Rulebook.{Rulebook}
use Rattle.definitions.specs.declared.Line.{Line}
use Rattle.definitions.specs.declared.CaseRead.{CaseRead}
use Rattle.definitions.specs.declared.Refusal.{Refusal}
use Rattle.definitions.specs.declared.Refusal.TheVariants.{WrongLength, CutShort}
use Rattle.definitions.specs.Rules.{Rules, rules_in, edge_places, Kind}
use Rattle.definitions.specs.Refusals.{first_refusal}
use Rattle.definitions.specs.Case.{lent_length, weight, is_barred, wholly_barred}
use Rattle.definitions.specs.Valid.{zeros_from}
use Rattle.definitions.specs.Lines.{is_kind, not_due, unused_zero, line_length, line_text, line_too_wide}
use Rattle.definitions.specs.CaseFiles.{CaseDue, variable-weight, edge-ends, edge-weight, dues, due_tests, Reading, took}
use Rattle.definitions.specs.CaseFiles.{head_tests, headed, CaseCall, case_refused, case_taken, is_cut, first_line, after_first}
use Rattle.definitions.specs.CaseFiles.{read_dues, read_lines, read_case, end_tests, rest_refusal, nothing_after, zeroed_past, read_lines_alone, read_case_alone}
use Rattle.definitions.proofs.LineLaws.{line_read, line-written, line-length}
use Rattle.theory.proofs.Places.{IsTuple, each-cong}
use Rattle.case_theory.proofs.Zeroed.{zeroed-zeros}
use Rattle.case_theory.proofs.CaseDues.{IsDue, rank, stop, step, rank-apart, line_for, line-for, case_at, reading, line_at, next, took-next}
use Rattle.case_theory.proofs.CaseDues.{next-sized, next-there, next-other, Agree, same-lower, same-upper, same-variable, same-edge}
use Rattle.case_theory.proofs.CaseDues.{zeroed, zeroed-sized, zeroed-lines, same-state, Run, State, Sized}
use Rattle.case_theory.proofs.CaseTests.{passes, Good, passed, good-passes, CaseKinds}

-- ---- a call with 0 past the own places of a case that is taken
abbrev pub zeroed_call : CaseCall → CaseCall
zeroed_call call = zeroed_past call call.read.answer

pub zeroed-read : (call : CaseCall) → (zeroed_call call).read ≡ call.read
zeroed-read call = go call.read.answer
  where
    go : (x : Result ℕ RefusedAt) → (zeroed_past call x).read ≡ call.read
    go (Err x) = refl
    go (Ok lines) = refl

-- ---- one line at the front
module _ (r : Rules) where
  -- a line that fits, and the rest
  module _ (l : Line) (fits : line_too_wide r.amount_width l ≡ false) (rest : List ℕ) where
    pub front-whole : is_cut r (line_text r.amount_width l ++ rest) ≡ false
    front-whole = le-ltb (length (line_text r.amount_width l ++ rest)) (line_length r.amount_width)
        (rw length-append (omega (arith, line-length r.amount_width l fits)))

    pub front-line : first_line r (line_text r.amount_width l ++ rest) ≡ Some l
    front-line = rw (take_at (line_text r.amount_width l) rest (line_length r.amount_width) (line-length r.amount_width l fits))
        (line_read r.amount_width l fits)

    pub front-after : after_first r (line_text r.amount_width l ++ rest) ≡ rest
    front-after = drop_at (line_text r.amount_width l) rest (line_length r.amount_width) (line-length r.amount_width l fits)

  -- the line is the text's front
  pub line-front : (t : List ℕ) {l : Line} → first_line r t ≡ Some l → (k : ℕ) (rest : List ℕ) → rest ≡ take (k * line_length r.amount_width) (after_first r t)
      → line_text r.amount_width l ++ rest ≡ take (suc k * line_length r.amount_width) t
  line-front t {l} e k rest q =
      let w : ℕ = line_length r.amount_width in
      let o : suc k * w ≡ w + k * w = omega arith in
      ap₂ ◌++◌ (line-written r.amount_width (take w t) l e).1 q ∙ sym (ap (λ (i : ℕ). take i t) o ∙ take-add w (k * w) t)

  never : {x : Refusal} {a b : ℕ} → Err (refused_at x a) ≡ Ok b → ⊥
  never e = let z : ◌≡◌ {A = ℕ} 0 1 = cc in omega arith

  pub read_same : {a b : ℕ} → ◌≡◌ {A = Result ℕ RefusedAt} (Ok a) (Ok b) → a ≡ b
  read_same e = cc

  nothing-due : (l : Line) → T (not_due r [] l)
  nothing-due l = not_T (any due r.kinds) (λ t. let (k, i, s) = (any-in due r.kinds).0 t in
      and_right (is_kind k.kind l) false (and_left (is_kind k.kind l && false) (unused_zero k l) s))
    where
      due : Kind → Bool
      due k = is_kind k.kind l && is_in [] k.kind && unused_zero k l

  nothing_left : (s : List ℕ) → rest_refusal r s ≡ None → s ≡ []
  nothing_left [] e = refl
  nothing_left (x ∷ s) e = absurd (go (is_cut r (x ∷ s)) (first_line r (x ∷ s)) (rw (ne_eqb (suc (length s)) 0 (λ z. omega arith)) at e))
    where
      go : (b : Bool) (o : Option Line) → (if b then Some CutShort else first_refusal (end_tests r o)) ≡ None → ⊥
      go true o e = none-some (sym e)
      go false None e = none-some (sym e)
      go false (Some l) e = T_not (not_due r [] l) (and_left (not (not_due r [] l)) true ((passes (end_tests r (Some l))).0 e)) (nothing-due l)

module _ (book : Rulebook) where
  module _ (g : Reading) (at : ℕ) (due : CaseDue) (ds : List CaseDue) (t : List ℕ) where
    tried : Option Line → Option Refusal
    tried o = first_refusal (due_tests (rules_in book) g due o)

    -- by whether the text is cut short, the line, and the refusal
    turn : Bool → Option Line → Option Refusal → CaseCall
    turn b o x =
        elim b [
          | true ↦ case_refused book CutShort at g.table
          | false ↦
              elim x [
                | None ↦ read_dues book (took g due o) (at + 1) ds (after_first (rules_in book) t)
                | Some x ↦ case_refused book x at g.table
              ]
        ]

    turns : read_dues book g at (due ∷ ds) t ≡ turn (is_cut (rules_in book) t) (first_line (rules_in book) t) (tried (first_line (rules_in book) t))
    unfolding turn tried
    turns = refl

    take-due : {l : Line} → is_cut (rules_in book) t ≡ false → first_line (rules_in book) t ≡ Some l
        → first_refusal (due_tests (rules_in book) g due (Some l)) ≡ None
        → read_dues book g at (due ∷ ds) t ≡ read_dues book (took g due (Some l)) (at + 1) ds (after_first (rules_in book) t)
    unfolding turn tried
    take-due {l} p q o = turns ∙ ap₂ (λ (b : Bool) (f : Option Line). turn b f (tried f)) p q ∙ ap (turn false (Some l)) o

    due-taken : {lines : ℕ} → (read_dues book g at (due ∷ ds) t).read.answer ≡ Ok lines
        → (is_cut (rules_in book) t ≡ false) × (l : Line) × (first_line (rules_in book) t ≡ Some l)
        × (first_refusal (due_tests (rules_in book) g due (Some l)) ≡ None)
    unfolding turn tried
    due-taken {lines} h = go (is_cut (rules_in book) t) refl (first_line (rules_in book) t) refl (tried (first_line (rules_in book) t)) refl
        (sym (ap (λ (x : CaseCall). x.read.answer) turns) ∙ h)
      where
        go : (b : Bool) → is_cut (rules_in book) t ≡ b → (o : Option Line) → first_line (rules_in book) t ≡ o → (x : Option Refusal) → tried o ≡ x
            → (turn b o x).read.answer ≡ Ok lines
            → (is_cut (rules_in book) t ≡ false) × (l : Line) × (first_line (rules_in book) t ≡ Some l) × (tried (Some l) ≡ None)
        go true p o q x e h = absurd (never (rules_in book) h)
        go false p o q (Some x) e h = absurd (never (rules_in book) h)
        go false p None q None e h = absurd (none-some (sym e))
        go false p (Some l) q None e h = (p, l, q, e)

  -- ---- the head
  module _ (t : List ℕ) (u : List ℤ) where
    -- by whether the text is cut short, the line, the refusal, and whether the lent table has the case's length
    opened : Bool → Option Line → Option Refusal → Bool → CaseCall
    opened b o x long =
        elim (if b then Some CutShort else x) [
          | None ↦
              if long
              then read_dues book (record { case = headed book o; table = u }) 1 (dues (headed book o)) (after_first (rules_in book) t)
              else case_refused book WrongLength 0 u
          | Some x ↦ case_refused book x 0 u
        ]

    lent_well : Option Line → Bool
    lent_well o = eqb (length u) (lent_length (rules_in book) (headed book o))

    opens : read_lines book t u ≡ opened (is_cut (rules_in book) t) (first_line (rules_in book) t) (first_refusal (head_tests (rules_in book) (first_line (rules_in book) t)))
        (lent_well (first_line (rules_in book) t))
    unfolding opened lent_well
    opens = refl

    pub take_head : {l : Line} → is_cut (rules_in book) t ≡ false → first_line (rules_in book) t ≡ Some l → first_refusal (head_tests (rules_in book) (Some l)) ≡ None
        → length u ≡ lent_length (rules_in book) (headed book (Some l))
        → read_lines book t u ≡ read_dues book (record { case = headed book (Some l); table = u }) 1 (dues (headed book (Some l))) (after_first (rules_in book) t)
    unfolding opened lent_well
    take_head {l} p q o e =
        opens ∙ ap₂ (λ (b : Bool) (f : Option Line). opened b f (first_refusal (head_tests (rules_in book) f)) (lent_well f)) p q
        ∙ ap₂ (opened false (Some l)) o (eq-eqb (length u) (lent_length (rules_in book) (headed book (Some l))) e)

    pub head-taken : {lines : ℕ} → (read_lines book t u).read.answer ≡ Ok lines
        → (is_cut (rules_in book) t ≡ false) × (l : Line) × (first_line (rules_in book) t ≡ Some l) × (first_refusal (head_tests (rules_in book) (Some l)) ≡ None)
        × (length u ≡ lent_length (rules_in book) (headed book (Some l)))
    unfolding opened lent_well
    head-taken {lines} h =
        go (is_cut (rules_in book) t) refl (first_line (rules_in book) t) refl (first_refusal (head_tests (rules_in book) (first_line (rules_in book) t))) refl
        (lent_well (first_line (rules_in book) t)) refl
        (sym (ap (λ (x : CaseCall). x.read.answer) opens) ∙ h)
      where
        go : (b : Bool) → is_cut (rules_in book) t ≡ b → (o : Option Line) → first_line (rules_in book) t ≡ o → (x : Option Refusal)
            → first_refusal (head_tests (rules_in book) o) ≡ x → (long : Bool) → lent_well o ≡ long
            → (opened b o x long).read.answer ≡ Ok lines
            → (is_cut (rules_in book) t ≡ false) × (l : Line) × (first_line (rules_in book) t ≡ Some l) × (first_refusal (head_tests (rules_in book) (Some l)) ≡ None)
            × (length u ≡ lent_length (rules_in book) (headed book (Some l)))
        go true p o q x e long k h = absurd (never (rules_in book) h)
        go false p None q None e long k h = absurd (none-some (sym e))
        go false p o q (Some x) e long k h = absurd (never (rules_in book) h)
        go false p (Some l) q None e false k h = absurd (never (rules_in book) h)
        go false p (Some l) q None e true k h = (p, l, q, e, eqb-true (length u) (lent_length (rules_in book) (headed book (Some l))) k)

  -- ---- the case that is read is under the reader's rulebook
  took-rulebook : (g : Reading) (due : CaseDue) (l : Line) → (took g due (Some l)).case.rulebook ≡ g.case.rulebook
  took-rulebook g (variable-weight i k) l = refl
  took-rulebook g (edge-ends f) l = refl
  took-rulebook g (edge-weight f k m) l = refl

  dues-rulebook : (g : Reading) → g.case.rulebook ≡ book → (at : ℕ) (ds : List CaseDue) (t : List ℕ) → (read_dues book g at ds t).read.case.rulebook ≡ book
  unfolding turn tried
  dues-rulebook g e at [] t = e
  dues-rulebook g e at (due ∷ ds) t =
      go (λ o. dues-rulebook (took g due o) (kept o) (at + 1) ds (after_first (rules_in book) t))
      (is_cut (rules_in book) t) (first_line (rules_in book) t) (tried g at due ds t (first_line (rules_in book) t))
    where
      kept : (o : Option Line) → (took g due o).case.rulebook ≡ book
      kept None = e
      kept (Some l) = took-rulebook g due l ∙ e

      go : ((o : Option Line) → (read_dues book (took g due o) (at + 1) ds (after_first (rules_in book) t)).read.case.rulebook ≡ book)
          → (b : Bool) (o : Option Line) (x : Option Refusal) → (turn g at due ds t b o x).read.case.rulebook ≡ book
      go more true o x = refl
      go more false o (Some x) = refl
      go more false o None = more o

  lines-rulebook : (t : List ℕ) (u : List ℤ) → (read_lines book t u).read.case.rulebook ≡ book
  unfolding opened lent_well
  lines-rulebook t u = go (is_cut (rules_in book) t) (first_line (rules_in book) t) (first_refusal (head_tests (rules_in book) (first_line (rules_in book) t)))
      (lent_well t u (first_line (rules_in book) t))
    where
      go : (b : Bool) (o : Option Line) (x : Option Refusal) (long : Bool) → (opened t u b o x long).read.case.rulebook ≡ book
      go true o x long = refl
      go false o (Some x) long = refl
      go false o None false = refl
      go false None None true = dues-rulebook (record { case = headed book None; table = u }) refl 1 (dues (headed book None)) (after_first (rules_in book) t)
      go false (Some l) None true = dues-rulebook (record { case = headed book (Some l); table = u }) refl 1 (dues (headed book (Some l)))
          (after_first (rules_in book) t)

  pub read-rulebook : (t : List ℕ) (u : List ℤ) → (read_case book t u).read.case.rulebook ≡ book
  read-rulebook t u = ap (λ (x : CaseRead). x.case.rulebook) (zeroed-read (read_lines book t u)) ∙ lines-rulebook t u

  -- ---- the end of a case that is read alone
  module _ (t : List ℕ) (call : CaseCall) (lines : ℕ) where
    after : Option Refusal → CaseCall
    after x =
        elim x [
          | None ↦ call
          | Some x ↦ case_refused book x lines call.table
        ]

    pub ended : drop (lines * line_length (rules_in book).amount_width) t ≡ [] → nothing_after book t call (Ok lines) ≡ call
    unfolding after
    ended e = ap (λ (s : List ℕ). after (rest_refusal (rules_in book) s)) e

    after_none : {k : ℕ} (x : Option Refusal) → (after x).read.answer ≡ Ok k → x ≡ None
    unfolding after
    after_none None h = refl
    after_none (Some x) h = absurd (never (rules_in book) h)

  pub alone-taken : (t : List ℕ) (u : List ℤ) {lines : ℕ} → (read_case_alone book t u).read.answer ≡ Ok lines
      → (read_case_alone book t u ≡ read_case book t u) × (drop (lines * line_length (rules_in book).amount_width) t ≡ [])
  unfolding after
  alone-taken t u {lines} p =
      let (same, z) = go (read_lines book t u) (read_lines book t u).read.answer refl
      (sym (ap (λ (x : CaseRead). x.answer) (zeroed-read (read_lines_alone book t u))) ∙ p) in
      (ap zeroed_call same, z)
    where
      go : (call : CaseCall) (x : Result ℕ RefusedAt) → call.read.answer ≡ x → (nothing_after book t call x).read.answer ≡ Ok lines
          → (nothing_after book t call x ≡ call) × (drop (lines * line_length (rules_in book).amount_width) t ≡ [])
      go call (Err x) p h = absurd (never (rules_in book) (sym p ∙ h))
      go call (Ok k) p h =
          let z = nothing_left (rules_in book) (drop (k * line_length (rules_in book).amount_width) t)
          (after_none t call k (rest_refusal (rules_in book) (drop (k * line_length (rules_in book).amount_width) t)) h) in
          let same : nothing_after book t call (Ok k) ≡ call = ended t call k z in (
            same,
            subst (λ (i : ℕ). drop (i * line_length (rules_in book).amount_width) t ≡ [])
                (read_same (rules_in book) (sym p ∙ sym (ap (λ (x : CaseCall). x.read.answer) same) ∙ h)) z,
          )

  pub alone-rulebook : (t : List ℕ) (u : List ℤ) → (read_case_alone book t u).read.case.rulebook ≡ book
  unfolding after
  alone-rulebook t u =
      ap (λ (x : CaseRead). x.case.rulebook) (zeroed-read (read_lines_alone book t u))
      ∙ go (read_lines book t u) (read_lines book t u).read.answer (lines-rulebook t u)
    where
      left : (call : CaseCall) (k : ℕ) → call.read.case.rulebook ≡ book → (x : Option Refusal) → (after t call k x).read.case.rulebook ≡ book
      left call k e None = e
      left call k e (Some x) = refl

      go : (call : CaseCall) (x : Result ℕ RefusedAt) → call.read.case.rulebook ≡ book → (nothing_after book t call x).read.case.rulebook ≡ book
      go call (Err x) e = e
      go call (Ok k) e = left call k e (rest_refusal (rules_in book) (drop (k * line_length (rules_in book).amount_width) t))

-- a property of the first and of the others
in-cons : (P : CaseDue → Type 0) {y : CaseDue} {ys : List CaseDue} → P y → ((x : CaseDue) → x ∈ ys → P x) → (x : CaseDue) → x ∈ (y ∷ ys) → P x
in-cons P p h x (Memᴰ.head e) = subst P (sym e) p
in-cons P p h x (Memᴰ.tail i) = h x i

-- ---- all lines after the head, of a case with sizes n, d and m
abbrev pub text_at : Rulebook → ℕ → ℕ → ℕ → State → List CaseDue → List ℕ
text_at book n d m f ds = joined (map (λ due. line_text (rules_in book).amount_width (line_at book n d m f due)) ds)

-- from s, these dues were read as the front of t
pub record Taken (book : Rulebook) (n d m : ℕ) (a at : ℕ) (s : State) (ds : List CaseDue) (t : List ℕ) : Type 0 where
  pub final : State
  pub sized : Sized book n d m final
  pub zeros : T (zeros_from (n * d + m * (d * d)) final.table)
  pub result : zeroed_call (read_dues book (reading book n d m s) at ds t) ≡ case_taken (reading book n d m final) (at + length ds)
  pub agree : Agree book n d m a s final
  pub good : (due : CaseDue) → due ∈ ds → Good (rules_in book) (reading book n d m final) due (line_at book n d m final due)
  pub text : text_at book n d m final ds ≡ take (length ds * line_length (rules_in book).amount_width) t

module _ (book : Rulebook) (n d m : ℕ) (few : m ≤ edge_places) where
  -- the tests ask only what stands up to the line
  scope-same : (s f : State) (x : ℕ) → x < n + m → ((k l : ℕ) → IsTuple (case_at book n d m s) x k l
      → weight (case_at book n d m s) s.table x k l ≡ weight (case_at book n d m f) f.table x k l)
      → T (not (wholly_barred (case_at book n d m s) s.table x)) → T (not (wholly_barred (case_at book n d m f) f.table x))
  scope-same s f x h same = subst (λ (bs : List Bool). T (not (all (λ b. b) bs))) (each-cong (case_at book n d m s) x h (λ k l t. ap is_barred (same k l t)))

  good-same : (s f : State) (due : CaseDue) → IsDue n d m due → Agree book n d m (suc (rank n d m due)) s f → (t : Line)
      → Good (rules_in book) (reading book n d m s) due t → Good (rules_in book) (reading book n d m f) due t
  good-same s f (variable-weight i k) (u, v) agree t (g, o) = (
    g,
    λ q. scope-same s f i (omega arith) (λ a b h.
        subst (λ (b : ℕ). weight (case_at book n d m s) s.table i a b ≡ weight (case_at book n d m f) f.table i a b) (sym (h.alone u))
        (same-variable book n d m s f i a (agree (variable-weight i a) (u, h.one) (omega (arith, h.one))))) (o q),
  )
  good-same s f (edge-weight e k l) (u, v, x) agree t (g, o) = (
    g,
    λ q. scope-same s f (n + e) (omega arith) (λ a b h.
        same-edge book n d m s f e a b (agree (edge-weight e a b) (u, h.one, h.two)
        (omega (arith, h.one, h.two, mul-le-mul_right {m = a} {n = k} d (omega (arith, h.one)))))) (o q),
  )
  good-same s f (edge-ends e) h agree t (u, v, o) =
      (u, v, λ x l p q. o x l (same-lower book n d m s f x (same x l) ∙ p) (same-upper book n d m s f x (same x l) ∙ q))
    where
      same : (x : ℕ) → x < e → line_at book n d m s (edge-ends x) ≡ line_at book n d m f (edge-ends x)
      same x l = agree (edge-ends x) (omega arith) (omega (arith, mul-le-mul_right {m = suc x} {n = e} (suc (d * d)) l))

module _ {book : Rulebook} (kinds : CaseKinds (rules_in book)) (n d m : ℕ) (few : m ≤ edge_places) where
  -- a line that is taken
  next-agrees : (s f : State) → Sized book n d m s → (due : CaseDue) → IsDue n d m due → (t : Line) → line_for due t ≡ line_at book n d m f due
      → Agree book n d m (rank n d m due) s f → Agree book n d m (suc (rank n d m due)) (next book n d m s due t) f
  next-agrees s f h due u t shape agree other v l = ⊎_elim
      (λ q. let e : rank n d m other ≡ rank n d m due = eqb→eq (rank n d m other) (rank n d m due) q in
      subst (λ (x : CaseDue). line_at book n d m (next book n d m s due t) x ≡ line_at book n d m f x) (rank-apart (case_at book n d m s) due other u v (sym e))
      (next-there book n d m s few h due u t ∙ shape))
      (λ q. let o : rank n d m other ≢ rank n d m due = (not-eqb-iff (rank n d m other) (rank n d m due)).0 q in
      next-other book n d m s due u t other v o ∙ agree other v (omega (arith, o)))
      (either (eqb (rank n d m other) (rank n d m due)))

  -- written and read
  module _ {f : State} (size : Sized book n d m f) (zeros : T (zeros_from (n * d + m * (d * d)) f.table)) (good : (due : CaseDue) → IsDue n d m due
      → Good (rules_in book) (reading book n d m f) due (line_at book n d m f due))
      (fits : (due : CaseDue) → IsDue n d m due → line_too_wide (rules_in book).amount_width (line_at book n d m f due) ≡ false) where
    pub dues-written : {a : ℕ} {ds : List CaseDue} → Run n d m a ds (n * d + m * suc (d * d)) → {s : State} → Sized book n d m s → Agree book n d m a s f
        → (at : ℕ) (rest : List ℕ)
        → zeroed_call (read_dues book (reading book n d m s) at ds (text_at book n d m f ds ++ rest)) ≡ case_taken (reading book n d m f) (at + length ds)
    dues-written (stop e) {s} h agree at rest = ap₂ (case_taken) (ap (reading book n d m)
        (same-state book n d m h size zeros (λ due u l. agree due u (omega arith)))) (omega arith)
    dues-written (step {due = due} {ds = ds} u e run) {s} h agree at rest =
        let l : Line = line_at book n d m f due in
        let after = next-agrees s f h due u l (line-for (case_at book n d m f) f.table due) (λ other v q. agree other v (omega arith)) in
        let p = good-passes kinds (reading book n d m s) (case_at book n d m f) f.table due
        (subst (λ (g : Reading). Good (rules_in book) g due l) (sym (took-next book n d m s due l))
        (good-same book n d m few f (next book n d m s due l) due u (λ other v q. sym (after other v q)) l (good due u))) in
        ap zeroed_call (ap (read_dues book (reading book n d m s) at (due ∷ ds)) (append_assoc (line_text (rules_in book).amount_width l) (text_at book n d m f ds) rest)
        ∙ take-due book (reading book n d m s) at due ds (line_text (rules_in book).amount_width l ++ (text_at book n d m f ds ++ rest))
        (front-whole (rules_in book) l (fits due u) (text_at book n d m f ds ++ rest))
        (front-line (rules_in book) l (fits due u) (text_at book n d m f ds ++ rest)) p
        ∙ ap₂ (λ (g : Reading) (t : List ℕ). read_dues book g (at + 1) ds t) (took-next book n d m s due l)
        (front-after (rules_in book) l (fits due u) (text_at book n d m f ds ++ rest)))
        ∙ dues-written run (next-sized book n d m h due u l) (λ other v q. after other v (omega arith)) (at + 1) rest
        ∙ ap (case_taken (reading book n d m f)) (omega arith)

  -- read and written
  pub dues-read : {a b : ℕ} {ds : List CaseDue} → Run n d m a ds b → {s : State} → Sized book n d m s → (at : ℕ) (t : List ℕ) {lines : ℕ}
      → (read_dues book (reading book n d m s) at ds t).read.answer ≡ Ok lines → Taken book n d m a at s ds t
  dues-read (stop e) {s} h at t p = record {
    final = zeroed book n d m s;
    sized = zeroed-sized book n d m h;
    zeros = zeroed-zeros (n * d + m * (d * d)) s.table;
    result = ap (case_taken (reading book n d m (zeroed book n d m s))) (omega arith);
    agree = λ due u l. zeroed-lines book n d m s due u;
    good = λ due i. absurd (Memᴰ.not-nil i);
    text = rw zero-mul;
  }
  dues-read (step {due = due} {ds = ds} u e run) {s} h at t p =
      let (whole, l, first, q) = due-taken book (reading book n d m s) at due ds t p in
      let (shape, good) = passed kinds (reading book n d m s) due l q in
      let next-read = take-due book (reading book n d m s) at due ds t whole first q
      ∙ ap (λ (g : Reading). read_dues book g (at + 1) ds (after_first (rules_in book) t)) (took-next book n d m s due l) in
      let o = dues-read run (next-sized book n d m h due u l) (at + 1) (after_first (rules_in book) t)
      (sym (ap (λ (x : CaseCall). x.read.answer) next-read) ∙ p) in
      let is : line_at book n d m o.final due ≡ l = sym (o.agree due u (omega arith)) ∙ next-there book n d m s few h due u l ∙ sym shape in
      record {
        final = o.final;
        sized = o.sized;
        zeros = o.zeros;
        result = ap zeroed_call next-read ∙ o.result ∙ ap (case_taken (reading book n d m o.final)) (omega arith);
        agree = λ other v i. sym (next-other book n d m s due u l other v (λ z. omega arith)) ∙ o.agree other v (omega arith);
        good = in-cons (λ x. Good (rules_in book) (reading book n d m o.final) x (line_at book n d m o.final x))
            (rw is (good-same book n d m few (next book n d m s due l) o.final due u (λ other v i. o.agree other v (omega arith)) l
            (subst (λ (g : Reading). Good (rules_in book) g due l) (took-next book n d m s due l) good))) o.good;
        text = ap (λ (x : Line). line_text (rules_in book).amount_width x ++ text_at book n d m o.final ds) is
            ∙ line-front (rules_in book) t first (length ds) (text_at book n d m o.final ds) o.text;
      }
