-- What the bytes say in document 02's terms: over the marks of a table, the value found is the lowest active one that is not refuted with all
-- other scopes raised, what is left is its largest family, and the bytes of the partners are those of that family. Assumes nothing.
use mathlib.Core.Path.{◌≡◌, refl, sym, ap, ap₂, subst, ◌∙◌}
use mathlib.Core.Bool.{Bool, true, false, not, ◌&&◌, and-false}
use mathlib.Core.Logic.{◌⊎◌, inl, inr}
use mathlib.Core.List.{List, ◌++◌, append-nil}
use Prim.Native.Nat.{ℕ, zero, suc, ◌+◌, ◌*◌, ◌-◌, ◌≤◌, ◌<◌}
use native.Mathlib.Omega.{arith}
use borrow.Author.Tests.{lt-ltb, eq-eqb, ne_eqb}
use lib.IntN.{ℤ, pos}
use lib.Dec.{T, T_not, not_T, ltb, eqb, ltb→lt}
use lib.ListN.{length, get_or, take, replicate, length-set, length-replicate, get_or-replicate}
use lib.Seq.{length-take-le, get_or-take}
use Rattle.std.specs.Prelude.{if◌then◌else◌, Result, Ok, Err, Option, Some, None}
use Rattle.integers.specs.Words.{below, from, any, those, first, joined, is_in, bits_of}
use Rattle.integers.specs.Tests.{tests, is_true, is_false, true-is, either, and_left}
use Rattle.integers.specs.Lists.{any-in, in-from, those-same, those-append, those-none, from-split, map_same, first-least}
use Rattle.integers.specs.Tables.{get_d-tab}
use Rattle.definitions.specs.declared.Case.{Case}
use Rattle.definitions.specs.declared.Refusal.{Refusal}
use Rattle.definitions.specs.declared.Refusal.TheVariants.{OutOfRange}
use Rattle.definitions.specs.Rules.{rules_of, edge_places}
use Rattle.definitions.specs.Case.{lower_end, upper_end, active}
use Rattle.definitions.specs.Refusals.{first_refusal}
use Rattle.definitions.specs.Answers.{outcome_of}
use Rattle.definitions.specs.Valid.{working_weight, handed_over}
use Rattle.definitions.specs.Consistency.{Family, others, refuted}
use Rattle.definitions.specs.Moves.{end_variable}
use Rattle.definitions.specs.Lines.{overwritten}
use Rattle.definitions.specs.Families.{supported_value, largest_family, allowed_across, lowest_partner, family_bytes, outside, partner_byte, value_byte, partner_bytes}
use Rattle.definitions.proofs.Refutation.{others-in}
use Rattle.calls.specs.Calls.{family_short, family_found, FamilyIs, supported_value_call}
use Rattle.theory.proofs.Shape.{lower-below}
use Rattle.theory.proofs.Validity.{Handed}
use Rattle.tables.proofs.Order.{outcome-done, outcome-refused}
use Rattle.tables.proofs.Answered.{known, limits-known}
use Rattle.marks.specs.Marks.{mark, byte_of, full_of, only_of, in_both}
use Rattle.marks.proofs.Laws.{mark-bits_of, mark-byte_of, bits-byte}
use Rattle.arcs.specs.Active.{active_set, active_row}
use Rattle.arcs.specs.Fixed.{allowed_set, fixed_set}
use Rattle.arcs.specs.Closure.{is_malformed}
use Rattle.arcs.specs.Partners.{is_partner, lowest_in_both, byte_of_partner}
use Rattle.arcs.specs.declared.Closed.TheVariants.{Empty, Family as SomeFamily}
use Rattle.arcs.proofs.Fixed.{Edges, bytes-well, closure-left, closure-answer, above-mark, below-mark}
use Rattle.arcs.proofs.Steps.{after-set}
use Rattle.arcs.proofs.Trying.{only-own}
use Rattle.families.specs.Closing.{is_family, all_raised, fixed_in, left_answer, left_sets, leaves, lowest_left, partner_in, edge_bytes, all_bytes, Checked}

-- ---- the first value below d at which a test passes, looked for among more

those-short : (g : ℕ → Bool) (d n : ℕ) → d ≤ n → those (λ k. ltb k d && g k) (below n) ≡ those g (below d)
those-short g d n h =
    let f : ℕ → Bool = λ k. ltb k d && g k in
    let e : n ≡ d + (n - d) = omega arith in
    ap (λ (m : ℕ). those f (below m)) e ∙ ap (those f) (from-split 0 d (n - d)) ∙ those-append f (below d) (from (0 + d) (n - d))
    ∙ ap₂ (λ (xs ys : List ℕ). xs ++ ys) (those-same {f = f} {g = g} d (λ k l. ap (λ (b : Bool). b && g k) (lt-ltb k d l)))
    (those-none f (from (0 + d) (n - d)) (not_T (any f (from (0 + d) (n - d))) (λ t.
    let (x, m, p) = (any-in f (from (0 + d) (n - d))).0 t in
    let i = in-from (0 + d) (n - d) m in
    let o : x < d = ltb→lt x d (and_left (ltb x d) (g x) p) in
    omega arith)))
    ∙ append-nil (those g (below d))

-- ---- marks

module _ (d : ℕ) (few : d ≤ 8) where
  mark-bits : (f : ℕ → Bool) (u : ℕ) → u < 8 → mark (bits_of d f) u ≡ (ltb u d && f u)
  mark-bits f u l = ap (λ (s : ℕ). mark s u) (bits-byte d f few) ∙ mark-byte_of (λ k. ltb k d && f k) u l

  -- a row of partners and a set of values below d
  lowest-same : (row : ℕ) (f act : ℕ → Bool) → ((u : ℕ) → u < d → mark row u ≡ act u)
      → lowest_in_both row (bits_of d f) ≡ first (those (λ u. f u && act u) (below d))
  unfolding lowest_in_both
  lowest-same row f act same =
      ap first (those-same 8 (λ u l. by u l (either (ltb u d))) ∙ those-short (λ u. f u && act u) d 8 few)
    where
      turned : (a b : Bool) → (a && b) ≡ (b && a)
      turned true true = refl
      turned true false = refl
      turned false true = refl
      turned false false = refl

      by : (u : ℕ) → u < 8 → T (ltb u d) ⊎ T (not (ltb u d)) → is_partner row (bits_of d f) u ≡ (ltb u d && (f u && act u))
      by u l (inl t) =
          ap₂ (λ (a b : Bool). a && b) (same u (ltb→lt u d t)) (mark-bits f u l ∙ ap (λ (b : Bool). b && f u) (is_true (ltb u d) t))
          ∙ turned (act u) (f u) ∙ sym (ap (λ (b : Bool). b && (f u && act u)) (is_true (ltb u d) t))
      by u l (inr t) =
          ap (λ (b : Bool). mark row u && b) (mark-bits f u l ∙ ap (λ (b : Bool). b && f u) (is_false (ltb u d) t)) ∙ and-false (mark row u)
          ∙ sym (ap (λ (b : Bool). b && (f u && act u)) (is_false (ltb u d) t))

opened : (raised a : Bool) → raised ≡ true → a ≡ not (raised && not a)
opened true true e = refl
opened true false e = refl
opened false a e = absurd (T_not false tt (true-is false e))

byte-of : (o : Option ℕ) → byte_of_partner o ≡ partner_byte o
byte-of None = refl
byte-of (Some u) = refl

-- ---- over the marks of a table

-- the bytes hold the active values and partners of a table
pub record Marked (c : Case) (w : List ℤ) (rows sets : List ℕ) : Type 0 where
  pub lowers : c.m ≤ length c.lower
  pub uppers : c.m ≤ length c.upper
  pub room : 16 * c.m ≤ length rows
  pub places : c.n ≤ length sets
  pub sets-are : (j : ℕ) → j < c.n → get_or sets j 0 ≡ active_set c w j
  pub rows_are : (e p : ℕ) → e < c.m → p < 16 → get_or rows (16 * e + p) 0 ≡ active_row c w e p

module _ (c : Case) (w : List ℤ) (h : Handed (rules_of c) (working_weight (rules_of c)) c w) (i : ℕ) (g : i < c.n) (rows sets : List ℕ)
    (m : Marked c w rows sets) where
  abbrev R : ℕ → Bool
  R = is_in (others c i)

  few : c.d ≤ 8
  few = (limits-known h).values-few

  edge-raised : (e : ℕ) → e < c.m → R (c.n + e) ≡ true
  edge-raised e u = others-in c i (c.n + e) (omega arith) ∙ ap not (ne_eqb (c.n + e) i (λ q. omega arith))

  raised-length : length (all_raised c) ≡ c.m
  raised-length = length-take-le c.m (replicate edge_places 1) (omega (arith, length-replicate {A = ℕ} edge_places 1, (limits-known h).edges_placed))

  edges : Edges c w R rows (all_raised c)
  edges = record {
    count = raised-length;
    raised = λ e u. ap (λ (b : ℕ). eqb b 0) (get_or-take c.m (replicate edge_places 1) e 0 u ∙ get_or-replicate edge_places e 1 0 (omega (arith, (limits-known h).edges_placed)))
        ∙ sym (ap not (edge-raised e u));
    partners = λ e p u l t. m.rows_are e p u l;
  }

  -- one value alone
  module _ (k : ℕ) (l : k < c.d) where
    fixed-length : length (fixed_in c rows sets i k) ≡ c.n
    fixed-length = length-set (take c.n sets) i (only_of k) ∙ length-take-le c.n sets m.places

    fixed-sets : (j : ℕ) → j < c.n → get_or (fixed_in c rows sets i k) j 0 ≡ fixed_set c w R i k j
    fixed-sets j u = after-set (λ (s : ℕ). s ≡ fixed_set c w R i k j) (take c.n sets) i (only_of k) j (rw (length-take-le c.n sets m.places) g)
        (λ q.
        let full : allowed_set c w R j ≡ full_of c.d = ap (λ (b : Bool). if b then active_set c w j else full_of c.d) (others-in c i j (omega arith) ∙ ap not (eq-eqb j i q)) in
        let own : T (mark (full_of c.d) k) = true-is _ (mark-byte_of (λ v. ltb v c.d) k (omega (arith, few)) ∙ lt-ltb k c.d l) in
        sym (ap (λ (b : Bool). if b then in_both (allowed_set c w R j) (only_of k) else allowed_set c w R j) (eq-eqb j i q)
        ∙ ap (λ (s : ℕ). in_both s (only_of k)) full ∙ only-own (full_of c.d) k own))
        (λ ne.
        get_or-take c.n sets j 0 u ∙ m.sets-are j u
        ∙ sym (ap (λ (b : Bool). if b then in_both (allowed_set c w R j) (only_of k) else allowed_set c w R j) (ne_eqb j i ne)
        ∙ ap (λ (b : Bool). if b then active_set c w j else full_of c.d) (others-in c i j (omega arith) ∙ ap not (ne_eqb j i ne))))

    well : is_malformed (length (fixed_in c rows sets i k)) c.lower c.upper rows (all_raised c) ≡ false
    well = bytes-well c h.shape rows (all_raised c) (fixed_in c rows sets i k) fixed-length raised-length m.lowers m.uppers m.room

    left-family : left_sets c rows sets i k ≡ family_bytes c (largest_family c w R i k)
    unfolding left_sets
    left-family = closure-left c w h R i k rows (all_raised c) (fixed_in c rows sets i k) edges fixed-length fixed-sets g well

    leaves_kept : leaves c rows sets i k ≡ not (refuted c w R i k)
    unfolding left_answer
    leaves_kept = ap is_family (closure-answer c w h R i k rows (all_raised c) (fixed_in c rows sets i k) edges fixed-length fixed-sets g well)
        ∙ told (refuted c w R i k)
      where
        told : (b : Bool) → is_family (if b then Empty else SomeFamily) ≡ not b
        told true = refl
        told false = refl

  -- the value that is found
  found-value : lowest_left c rows sets i ≡ supported_value c w i
  unfolding lowest_in_both
  found-value =
      ap first
      (those-same 8 (λ k l. by k l (either (ltb k c.d)))
      ∙ those-short (λ k. active c w i k 0 && not (refuted c w R i k)) c.d 8 few)
    where
      own : (k : ℕ) → k < 8 → mark (get_or sets i 0) k ≡ (ltb k c.d && active c w i k 0)
      own k l = ap (λ (s : ℕ). mark s k) (m.sets-are i g) ∙ mark-byte_of (λ v. ltb v c.d && active c w i v 0) k l

      by : (k : ℕ) → k < 8 → T (ltb k c.d) ⊎ T (not (ltb k c.d))
          → is_partner (get_or sets i 0) (byte_of (leaves c rows sets i)) k ≡ (ltb k c.d && (active c w i k 0 && not (refuted c w R i k)))
      by k l (inl t) =
          ap₂ (λ (a b : Bool). a && b) (own k l ∙ ap (λ (b : Bool). b && active c w i k 0) (is_true (ltb k c.d) t))
          (mark-byte_of (leaves c rows sets i) k l ∙ leaves_kept k (ltb→lt k c.d t))
          ∙ sym (ap (λ (b : Bool). b && (active c w i k 0 && not (refuted c w R i k))) (is_true (ltb k c.d) t))
      by k l (inr t) =
          ap (λ (b : Bool). b && mark (byte_of (leaves c rows sets i)) k) (own k l ∙ ap (λ (b : Bool). b && active c w i k 0) (is_false (ltb k c.d) t))
          ∙ sym (ap (λ (b : Bool). b && (active c w i k 0 && not (refuted c w R i k))) (is_false (ltb k c.d) t))

  -- the bytes of a family's partners, where `left` holds the family
  module _ (S : Family) (left : List ℕ) (held : (j : ℕ) → j < c.n → get_or left j 0 ≡ bits_of c.d (S j)) where
    end-in : (e end : ℕ) → e < c.m → end_variable c e end < c.n
    end-in e end u = by (eqb end 0)
      where
        by : (b : Bool) → (if b then lower_end c e else upper_end c e) < c.n
        by true = lower-below h.shape e u
        by false = h.shape.below-n e u

    open-partner : (e end v u : ℕ) → e < c.m → end < 2 → v < c.d → u < c.d
        → mark (get_or rows (16 * e + 8 * end + v) 0) u ≡ allowed_across c w R e end v u
    open-partner e zero v u a b l o =
        let z : 16 * e + 8 * 0 + v ≡ 16 * e + v = omega arith in
        ap (λ (q : ℕ). mark (get_or rows q 0) u) z ∙ ap (λ (s : ℕ). mark s u) (m.rows_are e v a (omega (arith, few)))
        ∙ above-mark c w few e v u l o ∙ opened (R (c.n + e)) (active c w (c.n + e) v u) (edge-raised e a)
    open-partner e (suc zero) v u a b l o =
        let z : 16 * e + 8 * 1 + v ≡ 16 * e + (8 + v) = omega arith in
        ap (λ (q : ℕ). mark (get_or rows q 0) u) z ∙ ap (λ (s : ℕ). mark s u) (m.rows_are e (8 + v) a (omega (arith, few)))
        ∙ below-mark c w few e u v o l ∙ opened (R (c.n + e)) (active c w (c.n + e) u v) (edge-raised e a)
    open-partner e (suc (suc end)) v u a b l o = absurd (omega arith)

    byte-same : (e end v : ℕ) → e < c.m → end < 2 → v < c.d
        → partner_in rows (16 * e + 8 * end) (get_or left (end_variable c e end) 0) (get_or left (end_variable c e (1 - end)) 0)
        v ≡ value_byte c w R S e end v
    byte-same e end v a b l =
        ap₂ (λ (m : Bool) (p : Option ℕ). if m then byte_of_partner p else outside)
        (ap (λ (s : ℕ). mark s v) (held (end_variable c e end) (end-in e end a)) ∙ mark-bits_of c.d (S (end_variable c e end)) v l)
        (ap (lowest_in_both (get_or rows (16 * e + 8 * end + v) 0)) (held (end_variable c e (1 - end)) (end-in e (1 - end) a))
        ∙ lowest-same c.d few (get_or rows (16 * e + 8 * end + v) 0) (S (end_variable c e (1 - end))) (allowed_across c w R e end v)
        (λ u o. open-partner e end v u a b l o))
        ∙ ap (λ (p : ℕ). if S (end_variable c e end) v then p else outside) (byte-of (lowest_partner c w R S e end v))

    bytes_same : all_bytes c rows left ≡ partner_bytes c w R S
    unfolding all_bytes edge_bytes
    bytes_same = ap joined (map_same c.m (λ e a. ap joined (map_same 2 (λ end b. map_same c.d (λ v l. byte-same e end v a b l)))))

  -- the answers, by the value found
  module _ (family partners : List ℕ) where
    pub shown-none : lowest_left c rows sets i ≡ None
        → FamilyIs (family_found c w i family partners None (supported_value c w i)) (Err OutOfRange) family partners
    shown-none e =
        let f : supported_value c w i ≡ None = sym found-value ∙ e in
        subst (λ (o : Option ℕ). FamilyIs (family_found c w i family partners None o) (Err OutOfRange) family partners) (sym f) (refl, refl, refl)

    pub shown-some : (k : ℕ) → lowest_left c rows sets i ≡ Some k → (left family' partners' : List ℕ) → take c.n left ≡ left_sets c rows sets i k
        → family' ≡ overwritten (take c.n left) family → partners' ≡ overwritten (all_bytes c rows left) partners
        → FamilyIs (family_found c w i family partners None (supported_value c w i)) (Ok (pos k)) family' partners'
    shown-some k e left family' partners' held a b =
        let f : supported_value c w i ≡ Some k = sym found-value ∙ e in
        let kept : k < c.d = (first-least (λ k. active c w i k 0 && not (refuted c w R i k)) c.d f).0 in
        let S : Family = largest_family c w R i k in
        let whole = held ∙ left-family k kept in
        let at : (j : ℕ) → j < c.n → get_or left j 0 ≡ bits_of c.d (S j) = λ j u.
        sym (get_or-take c.n left j 0 u) ∙ ap (λ (l : List ℕ). get_or l j 0) whole ∙ get_d-tab (λ j. bits_of c.d (S j)) c.n j 0 u in
        subst (λ (o : Option ℕ). FamilyIs (family_found c w i family partners None o) (Ok (pos k)) family' partners') (sym f) (
          refl,
          a ∙ ap (λ (l : List ℕ). overwritten l family) whole,
          b ∙ ap (λ (l : List ℕ). overwritten l partners) (bytes_same S left at),
        )

-- ---- by what was asked

module _ (c : Case) (w : List ℤ) (i : ℕ) (family partners : List ℕ) where
  abbrev pub asked : Option Refusal
  asked = first_refusal (handed_over (rules_of c) (working_weight (rules_of c)) c w (family_short c family partners) (not (ltb i c.n)))

  pub call-refused : {x : Refusal} → Err x ≡ outcome_of asked
      → FamilyIs (supported_value_call (rules_of c) c w i family partners) (Err x) family partners
  unfolding supported_value_call
  call-refused {x} e = let d : asked ≡ Some x = outcome-refused e in rw d (refl, refl, refl)

  module _ (e : Ok tt ≡ outcome_of asked) where
    pub call-given : {answer : Result ℤ Refusal} {family' partners' : List ℕ}
        → FamilyIs (family_found c w i family partners None (supported_value c w i)) answer family' partners'
        → FamilyIs (supported_value_call (rules_of c) c w i family partners) answer family' partners'
    unfolding supported_value_call
    call-given p = let d : asked ≡ None = outcome-done e in rw d p

    pub call-checked : Checked c w i family partners
    call-checked =
        let (handed, right, in-range) = known c w (family_short c family partners) (not (ltb i c.n)) e in
        let rooms = simp tests at right in
        record { handed = handed; in-range = simp tests at in-range; family-room = omega (arith, rooms.0); partners-room = omega (arith, rooms.1) }
