-- Case files: what is written of a case is read back, with carry 0, what is read is a valid case whose text was read, and how long the text is.
-- Assumes nothing.
use Rattle.definitions.specs.declared.RefusedAt.{RefusedAt}
use mathlib.Core.Path.{◌≡◌, refl, sym, ap, ap₂, subst, ◌∙◌}
use mathlib.Core.Bool.{false}
use mathlib.Core.Logic.{⊎_elim}
use mathlib.Core.List.Memᴰ
use mathlib.Core.List.{List, [], ◌∷◌, ◌++◌, map, append_assoc, append-nil}
use Prim.Native.Nat.{ℕ, ◌+◌, ◌*◌, ◌≤◌, ◌<◌}
use native.Mathlib.Nat.{mul_comm}
use native.Mathlib.Omega.{arith}
use lib.IntN.{ℤ, pos}
use lib.Dec.{T, ltb, ltb→lt, nltb→le}
use lib.ListN.{length, get_or, get_or-eq_default, take, replicate, length-map, take-append-drop, drop_of_length-le}
use borrow.Author.Tests.{lt-ltb, le-ltb}
use Rattle.std.specs.Prelude.{if◌then◌else◌, Result, Ok, Some}
use Rattle.integers.specs.Words.{below, joined}
use Rattle.integers.specs.Tests.{either}
use Rattle.integers.specs.Lists.{◌∈◌, map-map, map_same}
use Rattle.integers.specs.Tables.{Parts, length-joined, length-tab, get_d-tab}
use Rattle.definitions.specs.declared.Rulebook.{Rulebook}
use Rattle.definitions.specs.declared.Case.{Case}
use Rattle.definitions.specs.declared.Line.{Line}
use Rattle.definitions.specs.declared.CaseRead.{CaseRead}
use Rattle.definitions.specs.Rules.{Rules, rules_in, rules_of, edge_places, full_length, Coherent, coherent}
use Rattle.definitions.specs.Case.{lower_end, upper_end, weight, each_tuple, lent_length}
use Rattle.definitions.specs.Valid.{valid}
use Rattle.definitions.specs.Lines.{line, line_length, line_text, line_too_wide}
use Rattle.definitions.specs.CaseFiles.{head_line, weight_line, variable_lines, case_lines, CaseDue, dues}
use Rattle.definitions.specs.CaseFiles.{Reading, case_text, headed, CaseCall, case_taken, first_line, after_first, read_dues, read_lines, read_case, nothing_after}
use Rattle.definitions.specs.CaseFiles.{read_case_alone}
use Rattle.calls.specs.Calls.{file_bytes}
use Rattle.definitions.proofs.LineLaws.{line-length}
use Rattle.theory.proofs.Validity.{Valid, own-lent, facts-valid}
use Rattle.case_theory.proofs.Zeroed.{all_same}
use Rattle.case_theory.proofs.CaseDues.{line_of, case-lines, run_length, dues-run, due_in, in-dues, same_ends, case_at, reading, State, Sized}
use Rattle.case_theory.proofs.CaseTests.{valid-limits, valid-good, good-valid, due-fits, head-fits, remade, zero-carried, valid-remade}
use Rattle.case_theory.proofs.CaseTests.{head_passed, head-passes, CaseKinds, case-kinds, Limited}
use Rattle.case_theory.proofs.CaseReads.{zeroed_call, zeroed-read, front-whole, front-line, front-after, line-front, read_same, take_head}
use Rattle.case_theory.proofs.CaseReads.{head-taken, ended, alone-taken, dues-written, dues-read, Taken}

-- ---- a case as its file says it: with 0 at the places that belong to no edge, and carry 0
abbrev trim : ℕ → List ℕ → List ℕ
trim m xs = map (λ e. if ltb e m then get_or xs e 0 else 0) (below edge_places)

abbrev pub tidied : Case → Case
tidied c = remade c (trim c.m c.lower) (trim c.m c.upper) (pos 0)

module _ (m : ℕ) (xs : List ℕ) where
  trim-long : length (trim m xs) ≡ edge_places
  trim-long = length-tab (λ e. if ltb e m then get_or xs e 0 else 0) 0 edge_places

  trim-at : m ≤ edge_places → (e : ℕ) → e < m → get_or (trim m xs) e 0 ≡ get_or xs e 0
  trim-at few e h = get_d-tab (λ e. if ltb e m then get_or xs e 0 else 0) edge_places e 0 (omega arith) ∙ rw (lt-ltb e m h)

  trim-past : (e : ℕ) → m ≤ e → get_or (trim m xs) e 0 ≡ 0
  trim-past e h = ⊎_elim
      (λ t. get_d-tab (λ e. if ltb e m then get_or xs e 0 else 0) edge_places e 0 (ltb→lt e edge_places t) ∙ rw (le-ltb e m h))
      (λ t. get_or-eq_default (trim m xs) 0 {n = e} (omega (arith, trim-long, nltb→le e edge_places t)))
      (either (ltb e edge_places))

  trim-is : m ≤ edge_places → length xs ≡ edge_places → ((e : ℕ) → m ≤ e → get_or xs e 0 ≡ 0) → trim m xs ≡ xs
  trim-is few long past = same_ends m (trim m xs) xs (trim-long ∙ sym long) (trim-at few) (λ e h. trim-past e h ∙ sym (past e h))

pub tidied-lower : (c : Case) → c.m ≤ edge_places → (e : ℕ) → e < c.m → lower_end (tidied c) e ≡ lower_end c e
tidied-lower c = trim-at c.m c.lower

pub tidied-upper : (c : Case) → c.m ≤ edge_places → (e : ℕ) → e < c.m → upper_end (tidied c) e ≡ upper_end c e
tidied-upper c = trim-at c.m c.upper

pub tidied-past : (c : Case) (e : ℕ) → c.m ≤ e → (lower_end (tidied c) e ≡ 0) × (upper_end (tidied c) e ≡ 0)
tidied-past c e h = (trim-past c.m c.lower e h, trim-past c.m c.upper e h)

pub tidied-is : (c : Case) → c.m ≤ edge_places → length c.lower ≡ edge_places → length c.upper ≡ edge_places
    → ((e : ℕ) → c.m ≤ e → (lower_end c e ≡ 0) × (upper_end c e ≡ 0)) → c.carry ≡ pos 0 → tidied c ≡ c
tidied-is c few p q past none =
    ap₂ (λ (x y : List ℕ). remade c x y (pos 0))
    (trim-is c.m c.lower few p (λ e h. (past e h).0)) (trim-is c.m c.upper few q (λ e h. (past e h).1))
    ∙ ap (remade c c.lower c.upper) (sym none)

module _ (c : Case) (w : List ℤ) (few : c.m ≤ edge_places) where
  tidied-lines : case_lines (tidied c) w ≡ case_lines c w
  tidied-lines = ap (λ (ls : List (List Line)). head_line c ∷ joined (map (variable_lines c w) (below c.n)) ++ joined ls)
      (map_same c.m (λ e h. ap₂ (λ (i j : ℕ). line 12 (pos e) (pos i) (pos j) (pos 0)
      ∷ each_tuple c (c.n + e) (λ k l. weight_line 13 15 (pos e) (pos k) (pos l) (weight c w (c.n + e) k l)))
      (tidied-lower c few e h) (tidied-upper c few e h)))

-- ---- how many lines, and how long
abbrev pub line_count : Case → ℕ
line_count c = 1 + c.n * c.d + c.m * (1 + c.d * c.d)

dues-count : (c : Case) → 1 + length (dues c) ≡ line_count c
dues-count c = omega (arith, run_length (dues-run c))

pub case_count : (c : Case) (w : List ℤ) → length (case_lines c w) ≡ line_count c
case_count c w = ap length (case-lines c w) ∙ rw length-map (omega (arith, dues-count c))

case-text : (r : Rules) (c : Case) (w : List ℤ) → case_text r c w ≡ line_text r.amount_width (head_line c)
    ++ joined (map (λ due. line_text r.amount_width (line_of c w due)) (dues c))
case-text r c w =
    ap (λ (ls : List Line). joined (map (line_text r.amount_width) ls)) (case-lines c w)
    ∙ ap (λ (ts : List (List ℕ)). line_text r.amount_width (head_line c) ++ joined ts) (map-map (line_text r.amount_width) (line_of c w) (dues c))

module _ {r : Rules} (coherent : Coherent r) (c : Case) (w : List ℤ) (v : Valid r c w) where
  -- every line fits its columns
  pub lines_fit : (l : Line) → l ∈ case_lines c w → line_too_wide r.amount_width l ≡ false
  lines_fit l i = go (subst (λ (ls : List Line). l ∈ ls) (case-lines c w) i)
    where
      go : l ∈ (head_line c ∷ map (line_of c w) (dues c)) → line_too_wide r.amount_width l ≡ false
      go (Memᴰ.head e) = rw e (head-fits coherent v)
      go (Memᴰ.tail j) = let (due, k, e) = Memᴰ.of_map (line_of c w) (dues c) j in rw (← e) (due-fits coherent v due (in-dues c k))

  line-parts : Parts (line_length r.amount_width) (map (line_text r.amount_width) (case_lines c w))
  line-parts x i = let (l, j, e) = Memᴰ.of_map (line_text r.amount_width) (case_lines c w) i in ap length (sym e)
      ∙ line-length r.amount_width l (lines_fit l j)

  pub text-length : length (case_text r c w) ≡ file_bytes r c
  text-length =
      length-joined (line_length r.amount_width) (map (line_text r.amount_width) (case_lines c w)) line-parts
      ∙ rw (length-map, case_count c w) (mul_comm (line_count c) (line_length r.amount_width))

-- t is the text of a valid case, of so many lines, as its file says it
pub record IsText (c : Case) (w : List ℤ) (lines : ℕ) (t : List ℕ) : Type 0 where
  pub accepted : T (valid (rules_of c) c w)
  pub same_text : case_text (rules_of c) c w ≡ t
  pub same_count : lines ≡ line_count c
  pub plain : tidied c ≡ c

-- ---- before the first due
abbrev start : List ℤ → State
start u = record { lower = replicate edge_places 0; upper = replicate edge_places 0; table = u }

start-sized : (book : Rulebook) (n d m : ℕ) (u : List ℤ) → Limited (rules_in book) n d m → length u ≡ full_length (rules_in book) d
    → Sized book n d m (start u)
start-sized book n d m u h long = record {
  long = long;
  own-fits = omega (arith, own-lent (rules_in book) (case_at book n d m (start u)) h.variables-most h.edges_most);
  lower_long = refl;
  upper_long = refl;
  lower-past = λ e h. all_same edge_places e 0;
  upper-past =
      λ e h. all_same edge_places e 0;
}

module _ (book : Rulebook) where
  abbrev rules : Rules
  rules = rules_in book

  kinds : CaseKinds rules
  kinds = case-kinds (coherent book)

  -- ---- written and read
  read-state : (n d m : ℕ) (f : State) → Sized book n d m f → Valid rules (case_at book n d m f) f.table → (rest : List ℕ) (u : List ℤ)
      → length u ≡ length f.table
      → read_case book (case_text rules (case_at book n d m f) f.table ++ rest) u ≡ case_taken (reading book n d m f) (line_count (case_at book n d m f))
  read-state n d m f size v rest u long =
      let c : Case = case_at book n d m f in
      let tail : List ℕ = joined (map (λ due. line_text rules.amount_width (line_of c f.table due)) (dues c)) ++ rest in
      ap (λ (t : List ℕ). read_case book t u) (ap (λ (t : List ℕ). t ++ rest) (case-text rules c f.table)
      ∙ append_assoc (line_text rules.amount_width (head_line c)) _ rest)
      ∙ ap zeroed_call (take_head book (line_text rules.amount_width (head_line c) ++ tail) u (front-whole rules (head_line c) (head-fits (coherent book) v) tail)
      (front-line rules (head_line c) (head-fits (coherent book) v) tail)
      (head-passes kinds c (valid-limits v)) (long ∙ v.long)
      ∙ ap (read_dues book (reading book n d m (start u)) 1 (dues c)) (front-after rules (head_line c) (head-fits (coherent book) v) tail))
      ∙ dues-written kinds n d m (omega (arith, v.edges_most, (coherent book).edges_placed)) size v.past (valid-good v) (due-fits (coherent book) v) (dues-run c)
      (start-sized book n d m u (valid-limits v) (long ∙ v.long)) (λ due h l. absurd (omega arith)) 1 rest
      ∙ ap (case_taken (reading book n d m f)) (dues-count c)

  -- ---- read and written

  -- the lines after a head that was taken
  taken-text : (t : List ℕ) (u : List ℤ) (n d m : ℕ) → first_line rules t ≡ Some (line 10 (pos n) (pos d) (pos m) (pos 0)) → Limited rules n d m → m ≤ edge_places
      → (ds : List CaseDue) → ds ≡ dues (case_at book n d m (start u)) → (o : Taken book n d m 0 1 (start u) ds (after_first rules t))
      → IsText (case_at book n d m o.final) o.final.table (1 + length ds) (take ((1 + length ds) * line_length rules.amount_width) t)
  taken-text t u n d m first limits few ds e o =
      let c : Case = case_at book n d m o.final in
      let w : List ℤ = o.final.table in
      record {
        accepted = facts-valid rules c w (good-valid limits o.sized.long (zero-carried rules) o.zeros
            (λ due h. o.good due (rw e (due_in c due h)))) refl;
        same_text = case-text rules c w ∙ line-front rules t first (length ds) _ (rw (← e) o.text)
            ∙ ap (λ (i : ℕ). take (i * line_length rules.amount_width) t) (omega arith);
        same_count = rw e (dues-count c);
        plain = tidied-is c few o.sized.lower_long o.sized.upper_long (λ e h. (o.sized.lower-past e h, o.sized.upper-past e h)) refl;
      }

  pub written_read : (t : List ℕ) (u : List ℤ) {lines : ℕ} → (read_case book t u).read.answer ≡ Ok lines
      → IsText (read_case book t u).read.case (read_case book t u).table lines (take (lines * line_length rules.amount_width) t)
  written_read t u {lines} p =
      let r = sym (ap (λ (x : CaseRead). x.answer) (zeroed-read (read_lines book t u))) ∙ p in
      let (whole, l, first, q, long) = head-taken book t u r in
      let (shape, limits) = head_passed kinds l q in
      let c : Case = headed book (Some l) in
      let few : c.m ≤ edge_places = omega (arith, limits.edges_most, (coherent book).edges_placed) in
      let begun = take_head book t u whole first q long in
      let o = dues-read kinds c.n c.d c.m few (dues-run c) (start-sized book c.n c.d c.m u limits long) 1 (after_first rules t)
      (sym (ap (λ (x : CaseCall). x.read.answer) begun) ∙ r) in
      go (read_case book t u) _ (ap zeroed_call begun ∙ o.result) p (taken-text t u c.n c.d c.m (first ∙ ap Some shape) limits few (dues c) refl o)
    where
      go : (call : CaseCall) {g : Reading} (k : ℕ) → call ≡ case_taken g k → call.read.answer ≡ Ok lines
          → IsText g.case g.table k (take (k * line_length rules.amount_width) t)
          → IsText call.read.case call.table lines (take (lines * line_length rules.amount_width) t)
      go call {g} k e p h =
          subst (λ (i : ℕ). IsText call.read.case call.table i (take (i * line_length rules.amount_width) t))
          (read_same rules (sym (ap (λ (x : CaseCall). x.read.answer) e) ∙ p))
          (subst (λ (x : CaseCall). IsText x.read.case x.table k (take (k * line_length rules.amount_width) t)) (sym e) h)

  pub written-read-alone : (t : List ℕ) (u : List ℤ) {lines : ℕ} → (read_case_alone book t u).read.answer ≡ Ok lines
      → IsText (read_case_alone book t u).read.case (read_case_alone book t u).table lines t
  written-read-alone t u {lines} p =
      let (same, z) = alone-taken book t u p in
      let all : take (lines * line_length rules.amount_width) t ≡ t = rw (z, append-nil) at (take-append-drop (lines * line_length rules.amount_width) t) in
      subst (λ (x : CaseCall). IsText x.read.case x.table lines t) (sym same)
      (subst (IsText (read_case book t u).read.case (read_case book t u).table lines) all
      (written_read t u (sym (ap (λ (x : CaseCall). x.read.answer) same) ∙ p)))

-- ---- written and read, of any case to which no number applies
module _ (c : Case) (w : List ℤ) (v : Valid (rules_of c) c w) where
  pub read-written : (rest : List ℕ) (u : List ℤ) → length u ≡ lent_length (rules_of c) c
      → read_case c.rulebook (case_text (rules_of c) c w ++ rest) u ≡ case_taken (record { case = tidied c; table = w }) (line_count c)
  read-written rest u long =
      let few : c.m ≤ edge_places = omega (arith, v.edges_most, (coherent c.rulebook).edges_placed) in
      let f : State = record { lower = trim c.m c.lower; upper = trim c.m c.upper; table = w } in
      let size : Sized c.rulebook c.n c.d c.m f = record {
        long = v.long;
        own-fits = v.own-fits;
        lower_long = trim-long c.m c.lower;
        upper_long = trim-long c.m c.upper;
        lower-past = trim-past c.m c.lower;
        upper-past = trim-past c.m c.upper;
      } in
      ap (λ (ls : List Line). read_case c.rulebook (joined (map (line_text (rules_of c).amount_width) ls) ++ rest) u) (sym (tidied-lines c w few))
      ∙ read-state c.rulebook c.n c.d c.m f size
      (valid-remade v f.lower f.upper (tidied-lower c few) (tidied-upper c few) (zero-carried (rules_of c))) rest u (long ∙ sym v.long)

  pub read-written-alone : (u : List ℤ) → length u ≡ lent_length (rules_of c) c
      → read_case_alone c.rulebook (case_text (rules_of c) c w) u ≡ case_taken (record { case = tidied c; table = w }) (line_count c)
  read-written-alone u long =
      let end : length (case_text (rules_of c) c w) ≤ line_count c * line_length (rules_of c).amount_width =
      omega (arith, text-length (coherent c.rulebook) c w v, mul_comm (line_count c) (line_length (rules_of c).amount_width)) in
      let call : CaseCall = read_lines c.rulebook (case_text (rules_of c) c w) u in
      let read : zeroed_call call ≡ case_taken (record { case = tidied c; table = w }) (line_count c) = rw append-nil at (read-written [] u long) in
      ap (λ (x : Result ℕ RefusedAt). zeroed_call (nothing_after c.rulebook (case_text (rules_of c) c w) call x))
      (sym (ap (λ (x : CaseRead). x.answer) (zeroed-read call)) ∙ ap (λ (x : CaseCall). x.read.answer) read)
      ∙ ap zeroed_call (ended c.rulebook (case_text (rules_of c) c w) call (line_count c) (drop_of_length-le (case_text (rules_of c) c w) end))
      ∙ read
