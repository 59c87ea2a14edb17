-- Document 01, "Lines": case files, written and read into a lent table, with barred tuples (document 02, change 2) and zeros past the case's own
-- places (change 5). Assumes nothing.
use Rattle.definitions.specs.declared.RefusedAt.{RefusedAt}
use Rattle.definitions.specs.Answers.{refused_at}
use Rattle.definitions.specs.Answers.{size_with}
use Rattle.std.specs.Prelude.{Bool, true, false, not, ◌&&◌, ◌||◌, List, [], ◌∷◌, ◌++◌, map, ℕ, ◌+◌, ◌*◌, ◌-◌, ℤ, pos, nat_abs, ltb, eqb, length, take, drop, set, replicate, if◌then◌else◌, Result, Ok, Err, Option, Some, None}
use Rattle.std.specs.Int.Signed.{lt_z}
use Rattle.integers.specs.Words.{below, any, joined, eq_z, within_z}
use Rattle.definitions.specs.declared.Rulebook.{Rulebook}
use Rattle.definitions.specs.declared.Case.{Case}
use Rattle.definitions.specs.declared.Line.{Line}
use Rattle.definitions.specs.declared.CaseRead.{CaseRead}
use Rattle.definitions.specs.declared.CaseSize.{CaseSize}
use Rattle.definitions.specs.declared.Refusal.{Refusal}
use Rattle.definitions.specs.declared.Refusal.TheVariants.{
  NotInColumns,
  NotDue,
  OutsideLimits,
  WrongLength,
  OutOfRange,
  EndsNotAscending,
  EdgeRepeated,
  WeightOutOfRange,
  CutShort,
  ScopeBarred,
}
use Rattle.definitions.specs.Rules.{Rules, rules_in, edge_places}
use Rattle.definitions.specs.Refusals.{Test, ◌when◌, first_refusal}
use Rattle.definitions.specs.Case.{values, lower_end, upper_end, each_tuple, weight, place, own_length, lent_length, barred_weight, is_barred, wholly_barred}
use Rattle.definitions.specs.Valid.{in_starting}
use Rattle.definitions.specs.Lines.{line, line_text, line_length, read_line, not_due, is_kind, outside}

-- ---- written: the head, all kind 11 lines, then each edge's kind 12 line and its kind 13 lines, all in table order; of a barred tuple kind 14 in
-- place of 11 and 15 in place of 13, amount 0

abbrev pub head_line : Case → Line
head_line c = line 10 (pos c.n) (pos c.d) (pos c.m) (pos 0)

abbrev pub weight_line : ℕ → ℕ → ℤ → ℤ → ℤ → ℤ → Line
weight_line kind barred_kind a b c z = if is_barred z then line barred_kind a b c (pos 0) else line kind a b c z

abbrev pub variable_lines : Case → List ℤ → ℕ → List Line
variable_lines c w i = each_tuple c i (λ k l. weight_line 11 14 (pos i) (pos k) (pos 0) (weight c w i k l))

abbrev pub edge_lines : Case → List ℤ → ℕ → List Line
edge_lines c w e =
    line 12 (pos e) (pos (lower_end c e)) (pos (upper_end c e)) (pos 0)
    ∷ each_tuple c (c.n + e) (λ k l. weight_line 13 15 (pos e) (pos k) (pos l) (weight c w (c.n + e) k l))

abbrev pub case_lines : Case → List ℤ → List Line
case_lines c w =
    head_line c ∷ joined (map (variable_lines c w) (below c.n)) ++ joined (map (edge_lines c w) (below c.m))

abbrev pub case_text : Rules → Case → List ℤ → List ℕ
case_text r c w = joined (map (line_text r.amount_width) (case_lines c w))

-- ---- read

-- what is due after the head: the weight of variable i's value k, the ends of edge e, the weight of its values k, l
pub data CaseDue : Type 0 where
  variable-weight : ℕ → ℕ → CaseDue
  edge-ends : ℕ → CaseDue
  edge-weight : ℕ → ℕ → ℕ → CaseDue

abbrev pub variable_dues : Case → ℕ → List CaseDue
variable_dues c i = map (variable-weight i) (values c)

abbrev pub edge_dues : Case → ℕ → List CaseDue
edge_dues c e = edge-ends e ∷ joined (map (λ k. map (edge-weight e k) (values c)) (values c))

abbrev pub dues : Case → List CaseDue
dues c = joined (map (variable_dues c) (below c.n)) ++ joined (map (edge_dues c) (below c.m))

-- a column names a place
abbrev pub names : ℕ → ℤ → Bool
names n z = eq_z z (pos n)

abbrev pub head_tests : Rules → Option Line → List Test
head_tests r None = NotInColumns when true ∷ []
head_tests r (Some t) =
    NotDue when (not_due r (10 ∷ []) t)
    ∷ OutsideLimits when
    (not (within_z (pos 1) (pos r.variables) t.a && within_z (pos 1) (pos r.values) t.b && within_z (pos 0) (pos r.edges) t.c))
    ∷ []

-- the two variables of an edge line are those of an edge before e
abbrev pub already_joined : Case → ℕ → ℕ → ℕ → Bool
already_joined c e i j = any (λ f. eqb (lower_end c f) i && eqb (upper_end c f) j) (below e)

-- the case so far and the lent table
pub record Reading : Type 0 where
  pub case : Case
  pub table : List ℤ

-- a case file does not say its rules: whoever reads it names the rulebook; the carry is in no file, and 0 at first
abbrev pub case_of : Rulebook → ℕ → ℕ → ℕ → Case
case_of b n d m = record { n = n; d = d; m = m; lower = replicate edge_places 0; upper = replicate edge_places 0; carry = pos 0; rulebook = b }

abbrev pub headed : Rulebook → Option Line → Case
headed b None = case_of b 0 0 0
headed b (Some t) = case_of b (nat_abs t.a) (nat_abs t.b) (nat_abs t.c)

abbrev pub with_weight : Reading → ℕ → ℕ → ℕ → ℤ → Reading
with_weight g x k l z = record { case = g.case; table = set g.table (place g.case x k l) z }

abbrev pub with_ends : Case → ℕ → ℕ → ℕ → Case
with_ends c e i j = record {
  n = c.n;
  d = c.d;
  m = c.m;
  lower = set c.lower e i;
  upper = set c.upper e j;
  carry = c.carry;
  rulebook = c.rulebook;
}

-- kinds 14 and 15 bar the tuple
abbrev pub bars : Line → Bool
bars t = is_kind 14 t || is_kind 15 t

abbrev pub weight_in : Line → ℤ
weight_in t = if bars t then barred_weight else t.amount

abbrev pub took : Reading → CaseDue → Option Line → Reading
took g due None = g
took g (variable-weight i k) (Some t) = with_weight g i k 0 (weight_in t)
took g (edge-ends e) (Some t) = record { case = with_ends g.case e (nat_abs t.b) (nat_abs t.c); table = g.table }
took g (edge-weight e k l) (Some t) = with_weight g (g.case.n + e) k l (weight_in t)

-- numbers 8 and 15 of a weight line; a scope is wholly barred at its last line
abbrev pub weight_tests : Rules → Reading → ℕ → Bool → Line → List Test
weight_tests r after x last_one t =
    WeightOutOfRange when (not (bars t) && not (in_starting r t.amount))
    ∷ ScopeBarred when (last_one && wholly_barred after.case after.table x)
    ∷ []

-- the numbers of an edge's line, where `out` says that its upper variable is outside its range
abbrev pub ends_tests : Rules → Reading → ℕ → Bool → Line → List Test
ends_tests r g e out t =
    NotDue when (not_due r (12 ∷ []) t)
    ∷ OutOfRange when (not (names e t.a) || outside g.case.n t.b || out)
    ∷ EndsNotAscending when (not (lt_z t.b t.c))
    ∷ EdgeRepeated when (already_joined g.case e (nat_abs t.b) (nat_abs t.c))
    ∷ []

-- g holds the edges and weights read so far
abbrev pub due_tests : Rules → Reading → CaseDue → Option Line → List Test
due_tests r g due None = NotInColumns when true ∷ []
due_tests r g (variable-weight i k) (Some t) =
    NotDue when (not_due r (11 ∷ 14 ∷ []) t)
    ∷ OutOfRange when (not (names i t.a && names k t.b))
    ∷ weight_tests r (took g (variable-weight i k) (Some t)) i (eqb (k + 1) g.case.d) t
due_tests r g (edge-ends e) (Some t) = ends_tests r g e (outside g.case.n t.c) t
due_tests r g (edge-weight e k l) (Some t) =
    NotDue when (not_due r (13 ∷ 15 ∷ []) t)
    ∷ OutOfRange when (not (names e t.a && names k t.b && names l t.c))
    ∷ weight_tests r (took g (edge-weight e k l) (Some t)) (g.case.n + e) (eqb (k + 1) g.case.d && eqb (l + 1) g.case.d) t

-- what the reader answers, and the lent table after it: on a refusal the case is all zero, and the weights are as after the last good line,
-- places not reached keeping what they held
pub record CaseCall : Type 0 where
  pub read : CaseRead
  pub table : List ℤ

module _ (r : Rules) where
  -- fewer bytes than a line are number 14 and not 1
  abbrev pub is_cut : List ℕ → Bool
  is_cut t = ltb (length t) (line_length r.amount_width)

  abbrev pub first_line : List ℕ → Option Line
  first_line t = read_line r.amount_width (take (line_length r.amount_width) t)

  abbrev pub after_first : List ℕ → List ℕ
  after_first t = drop (line_length r.amount_width) t

  abbrev pub head_refusal : List ℕ → Option Refusal
  head_refusal t = if is_cut t then Some CutShort else first_refusal (head_tests r (first_line t))

  -- nothing is due after the last line of a case that is read alone
  abbrev pub end_tests : Option Line → List Test
  end_tests None = NotInColumns when true ∷ []
  end_tests (Some t) = NotDue when (not_due r [] t) ∷ []

  abbrev pub rest_refusal : List ℕ → Option Refusal
  rest_refusal t =
      if eqb (length t) 0 then None
      else if is_cut t then Some CutShort
      else first_refusal (end_tests (first_line t))

abbrev pub case_taken : Reading → ℕ → CaseCall
case_taken g at = record { read = record { answer = Ok at; case = g.case }; table = g.table }

-- the table with 0 from place p on
abbrev pub zeroed_from : ℕ → List ℤ → List ℤ
zeroed_from p w = take p w ++ replicate (length w - p) (pos 0)

-- a reader writes 0 past the own places of a case that it takes
abbrev pub zeroed_past : CaseCall → Result ℕ RefusedAt → CaseCall
zeroed_past call (Err x) = call
zeroed_past call (Ok lines) = record { read = call.read; table = zeroed_from (own_length call.read.case) call.table }

module _ (b : Rulebook) where
  abbrev pub case_refused : Refusal → ℕ → List ℤ → CaseCall
  case_refused x at w = record { read = record { answer = Err (refused_at x at); case = case_of b 0 0 0 }; table = w }

  -- `at` is the line, counted from 0
  abbrev pub read_dues : Reading → ℕ → List CaseDue → List ℕ → CaseCall
  read_dues g at [] t = case_taken g at
  read_dues g at (due ∷ dues) t =
      elim (is_cut (rules_in b) t) [
        | true ↦ case_refused CutShort at g.table
        | false ↦
            elim (first_refusal (due_tests (rules_in b) g due (first_line (rules_in b) t))) [
              | None ↦ read_dues (took g due (first_line (rules_in b) t)) (at + 1) dues (after_first (rules_in b) t)
              | Some x ↦ case_refused x at g.table
            ]
      ]

  -- number 4 belongs to the head's line
  abbrev pub read_lines : List ℕ → List ℤ → CaseCall
  read_lines t w =
      elim (head_refusal (rules_in b) t) [
        | None ↦
            let c = headed b (first_line (rules_in b) t) in
            if eqb (length w) (lent_length (rules_in b) c)
            then read_dues (record { case = c; table = w }) 1 (dues c) (after_first (rules_in b) t)
            else case_refused WrongLength 0 w
        | Some x ↦ case_refused x 0 w
      ]

  abbrev pub nothing_after : List ℕ → CaseCall → Result ℕ RefusedAt → CaseCall
  nothing_after t call (Err x) = call
  nothing_after t call (Ok lines) =
      elim (rest_refusal (rules_in b) (drop (lines * line_length (rules_in b).amount_width) t)) [
        | None ↦ call
        | Some x ↦ case_refused x lines call.table
      ]

  -- a case as the front of a longer input
  abbrev pub read_case : List ℕ → List ℤ → CaseCall
  read_case t w = zeroed_past (read_lines t w) (read_lines t w).read.answer

  abbrev pub read_lines_alone : List ℕ → List ℤ → CaseCall
  read_lines_alone t w = nothing_after t (read_lines t w) (read_lines t w).read.answer

  abbrev pub read_case_alone : List ℕ → List ℤ → CaseCall
  read_case_alone t w = zeroed_past (read_lines_alone t w) (read_lines_alone t w).read.answer

  -- what the head says, with the length of the table to lend
  abbrev pub case_size : List ℕ → Result CaseSize Refusal
  case_size t =
      elim (head_refusal (rules_in b) t) [
        | None ↦
            let c = headed b (first_line (rules_in b) t) in
            Ok (size_with c.n c.d c.m (lent_length (rules_in b) c))
        | Some x ↦ Err x
      ]
