-- What `none_supported` answers. The theorem that is cited: over the bytes of a table, `tried-active` and `tried-refuted` say that the answer is
-- refutation. Assumes nothing.
use mathlib.Core.Path.{◌≡◌, sym, ap, ◌∙◌}
use mathlib.Core.Bool.{Bool, true, false, not, ◌&&◌, ◌||◌}
use mathlib.Core.List.{List}
use Prim.Native.Nat.{ℕ, ◌*◌, ◌≤◌, ◌<◌}
use native.Mathlib.Omega.{arith}
use borrow.Author.Tests.{lt-ltb, le-ltb, eq-eqb, ne_eqb}
use lib.IntN.{ℤ}
use lib.Dec.{T, ltb, ltb→lt, lt→ltb}
use lib.ListN.{length, get_or, set, length-set}
use Rattle.std.specs.Prelude.{if◌then◌else◌}
use Rattle.integers.specs.Words.{◌⇒◌}
use Rattle.integers.specs.Tests.{if-true, if-false, true-is, false-is, or_left, or_right}
use Rattle.integers.specs.Tests.{and_left, and_right, and_intro, imp_intro, imp_elim, not-not-iff, same_test}
use Rattle.integers.specs.Lists.{all-at, all_of}
use Rattle.definitions.specs.declared.Case.{Case}
use Rattle.definitions.specs.Rules.{rules_of, variable_places}
use Rattle.definitions.specs.Case.{active}
use Rattle.definitions.specs.Valid.{working_weight}
use Rattle.definitions.specs.Consistency.{refuted, all_refuted}
use Rattle.definitions.specs.Moves.{active_values}
use Rattle.networks.specs.Network.{Network}
use Rattle.theory.proofs.Validity.{Handed}
use Rattle.tables.proofs.Answered.{limits-known}
use Rattle.marks.specs.Marks.{mark, only_of, in_both}
use Rattle.marks.proofs.Laws.{mark-byte_of}
use Rattle.arcs.specs.Closure.{network_of_bytes, sets_of, is_malformed, some_family}
use Rattle.arcs.specs.Active.{active_set}
use Rattle.arcs.specs.Fixed.{allowed_set, fixed_set}
use Rattle.arcs.specs.Tried.{has_family, none_has, tried_answer}
use Rattle.arcs.specs.declared.Tried.TheVariants.{Malformed, Unsupported, Supported}
use Rattle.arcs.proofs.Steps.{after-set}
use Rattle.arcs.proofs.Fixed.{Edges, bytes-well, some-family}

module _ (lower upper rows raised S : List ℕ) (i values : ℕ) where
  abbrev out : Bool
  out = is_malformed (length S) lower upper rows raised || not (ltb i (length S)) || ltb variable_places (length S)

  tried-malformed : T out → Malformed ≡ tried_answer lower upper rows raised S i values
  unfolding tried_answer
  tried-malformed t = sym (if-true _ _ out t)

  tried-answer : T (not out) → tried_answer lower upper rows raised S i values ≡ (if none_has
      (has_family (network_of_bytes (length S) lower upper rows raised) S i) values then Unsupported else Supported)
  unfolding tried_answer
  tried-answer t = if-false _ _ out t

  pub too_many : variable_places < length S → Malformed ≡ tried_answer lower upper rows raised S i values
  too_many h = tried-malformed (or_right (is_malformed (length S) lower upper rows raised || not (ltb i (length S))) _ (lt→ltb variable_places (length S) h))

  pub no-variable : length S ≤ i → Malformed ≡ tried_answer lower upper rows raised S i values
  no-variable h = tried-malformed (or_left (is_malformed (length S) lower upper rows raised || not (ltb i (length S))) (ltb variable_places (length S))
      (or_right (is_malformed (length S) lower upper rows raised) (not (ltb i (length S))) (false-is (ltb i (length S)) (le-ltb i (length S) h))))

  pub malformed : is_malformed (length S) lower upper rows raised ≡ true → Malformed ≡ tried_answer lower upper rows raised S i values
  malformed e = tried-malformed (or_left (is_malformed (length S) lower upper rows raised || not (ltb i (length S))) (ltb variable_places (length S))
      (or_left (is_malformed (length S) lower upper rows raised) (not (ltb i (length S))) (true-is _ e)))

  -- nothing is malformed
  pub tried-known : length S ≤ variable_places → i < length S → is_malformed (length S) lower upper rows raised ≡ false
      → tried_answer lower upper rows raised S i values ≡ (if none_has (has_family (network_of_bytes (length S) lower upper rows raised) S i) values then
      Unsupported else Supported)
  tried-known few h e = tried-answer (rw (e, lt-ltb i (length S) h, le-ltb variable_places (length S) few) tt)

-- ---- refutation over the bytes of a table

-- what the lent bytes hold, for the table w and the raised scopes R: the rows of the raised edges, which edges are raised, the allowed values
-- of each variable
pub record Bytes (c : Case) (w : List ℤ) (R : ℕ → Bool) (rows raised S : List ℕ) : Type 0 where
  pub lowers : c.m ≤ length c.lower
  pub uppers : c.m ≤ length c.upper
  pub room : 16 * c.m ≤ length rows
  pub edges : Edges c w R rows raised
  pub sets-length : length S ≡ c.n
  pub sets : (j : ℕ) → j < c.n → get_or S j 0 ≡ allowed_set c w R j

module _ (c : Case) (w : List ℤ) (h : Handed (rules_of c) (working_weight (rules_of c)) c w) (R : ℕ → Bool) (rows edges S : List ℕ)
    (bytes : Bytes c w R rows edges S)
    (i : ℕ) (g : i < c.n) where
  abbrev N : Network
  N = network_of_bytes (length S) c.lower c.upper rows edges

  well : is_malformed (length S) c.lower c.upper rows edges ≡ false
  well = bytes-well c h.shape rows edges S bytes.sets-length bytes.edges.count bytes.lowers bytes.uppers bytes.room

  -- a value has a family where it is not refuted
  pub has-family : (k : ℕ) → has_family N S i k ≡ not (refuted c w R i k)
  has-family k =
      let len = length-set S i (in_both (get_or S i 0) (only_of k)) in
      ap (λ (n : ℕ). some_family (network_of_bytes n c.lower c.upper rows edges) (sets_of (set S i (in_both (get_or S i 0) (only_of k))))) (sym len)
      ∙ some-family c w h R i k rows edges (set S i (in_both (get_or S i 0) (only_of k))) bytes.edges (len ∙ bytes.sets-length) (λ j u.
      after-set (λ (s : ℕ). s ≡ fixed_set c w R i k j) S i (in_both (get_or S i 0) (only_of k)) j (rw bytes.sets-length g)
      (λ q. sym (ap (λ (b : Bool). if b then in_both (allowed_set c w R j) (only_of k) else allowed_set c w R j) (eq-eqb j i q)
      ∙ ap (λ (s : ℕ). in_both s (only_of k)) (sym (bytes.sets j u) ∙ ap (λ (x : ℕ). get_or S x 0) q)))
      (λ ne. bytes.sets j u ∙ sym (ap (λ (b : Bool). if b then in_both (allowed_set c w R j) (only_of k) else allowed_set c w R j) (ne_eqb j i ne))))
      g (ap (λ (n : ℕ). is_malformed n c.lower c.upper rows edges) len ∙ well)

  none-has : (values : ℕ) (set : ℕ → Bool) → ((k : ℕ) → k < 8 → mark values k ≡ (ltb k c.d && set k))
      → none_has (has_family N S i) values ≡ all_refuted c w R i set
  unfolding none_has
  none-has values set same =
      same_test (none_has (has_family N S i) values) (all_refuted c w R i set)
      (λ t.
      all_of (λ k. set k ⇒ refuted c w R i k) c.d (λ k l.
      let small : k < 8 = omega (arith, (limits-known h).values-few) in
      imp_intro (set k) (refuted c w R i k) (λ s.
      (not-not-iff (refuted c w R i k)).0 (rw (has-family k) at
      (imp_elim (mark values k) (not (has_family N S i k)) (all-at (λ k. mark values k ⇒ not (has_family N S i k)) 8 t k small)
      (rw (same k small) (and_intro (ltb k c.d) (set k) (lt→ltb k c.d l) s)))))))
      (λ t.
      all_of (λ k. mark values k ⇒ not (has_family N S i k)) 8 (λ k l.
      imp_intro (mark values k) (not (has_family N S i k)) (λ s.
      let both = rw (same k l) at s in
      let in-range = ltb→lt k c.d (and_left (ltb k c.d) (set k) both) in
      rw (has-family k)
      ((not-not-iff (refuted c w R i k)).1
      (imp_elim (set k) (refuted c w R i k) (all-at (λ k. set k ⇒ refuted c w R i k) c.d t k in-range) (and_right (ltb k c.d) (set k) both))))))

  -- the values of a set below D
  pub tried-refuted : (values : ℕ) (set : ℕ → Bool) → ((k : ℕ) → k < 8 → mark values k ≡ (ltb k c.d && set k))
      → tried_answer c.lower c.upper rows edges S i values ≡ (if all_refuted c w R i set then Unsupported else Supported)
  tried-refuted values set same =
      tried-known c.lower c.upper rows edges S i values (rw bytes.sets-length (limits-known h).variables-placed) (rw bytes.sets-length g) well
      ∙ ap (λ (b : Bool). if b then Unsupported else Supported) (none-has values set same)

  pub tried-active : tried_answer c.lower c.upper rows edges S i (active_set c w i) ≡ (if all_refuted c w R i (active_values c w i) then Unsupported else
      Supported)
  tried-active = tried-refuted (active_set c w i) (active_values c w i) (λ k l. mark-byte_of (λ v. ltb v c.d && active c w i v 0) k l)
