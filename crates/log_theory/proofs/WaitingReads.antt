-- What a record in the middle of a join says where nothing is refused of it: the case and its tables, without what waits, are such as calls take, and
-- every line of the join that stands before the one due is read and good. Assumes nothing.
use Rattle.std.specs.Prelude.{None}
use mathlib.Core.Path.{◌≡◌, refl, sym, ap, subst, ◌∙◌}
use mathlib.Core.Bool.{Bool, false, not, ◌&&◌}
use mathlib.Core.Logic.{⊎_elim}
use mathlib.Core.List.{List, ◌++◌, map}
use Prim.Native.Nat.{ℕ, ◌+◌, ◌-◌, ◌≤◌, ◌<◌}
use native.Mathlib.Omega.{arith}
use lib.IntN.{ℤ, pos}
use lib.Dec.{T, ltb, ltb→lt, nltb→le}
use lib.ListN.{length, get_or, take, replicate, length-append, length-replicate, get_or-append}
use lib.Seq.{get_or-append-add, get_or-take, length-take-le, get_or-drop}
use Rattle.integers.specs.Words.{below, ◌⇒◌}
use Rattle.integers.specs.Tests.{tests, either, is_false}
use Rattle.integers.specs.Lists.{all_same}
use Rattle.integers.specs.Tables.{length-tab, get_d-tab, all_get_d}
use Rattle.definitions.specs.declared.Case.{Case}
use Rattle.definitions.specs.Rules.{rules_of, coherent, edge_places}
use Rattle.definitions.specs.Refusals.{first_refusal}
use Rattle.definitions.specs.Case.{lower_end, upper_end, place, own_length, lent_length, weight, is_barred, wholly_barred}
use Rattle.definitions.specs.Valid.{starting_weight, all_weights, zeros_from, within_limits, same_bars, both_handed_over}
use Rattle.definitions.specs.CaseFiles.{CaseDue, variable-weight, edge-ends, edge-weight, zeroed_from}
use Rattle.definitions.proofs.CaseLaws.{place-own}
use Rattle.logs.specs.Leave.{in_places}
use Rattle.logs.specs.Join.{grown_case}
use Rattle.logs.specs.Waiting.{small_case, renumbered, ends_read, weights_read, scopes_read, waiting_weights, read_so_far, not_in_join, waiting_tests}
use Rattle.theory.proofs.Words.{none_below}
use Rattle.theory.proofs.Places.{all-weights}
use Rattle.theory.proofs.Validity.{own-lent, none-applies, not-and-iff, BothHanded, both-handed}
use Rattle.case_theory.proofs.CaseDues.{line_of, IsDue, rank, State as Lists}
use Rattle.case_theory.proofs.CaseTests.{Good, passes, weight-range}
use Rattle.case_theory.proofs.JoinReads.{grown_at, grown_reading, JoinRead}
use Rattle.case_theory.proofs.Zeroed.{all_same as zeros-everywhere, zeroed-length, zeroed-before, zeroed-zeros, zeros_by}
use Rattle.log_theory.proofs.Waiting.{waiting_table, old-weight, waiting-past, waiting-long, fits}
use Rattle.log_theory.proofs.WaitingDues.{ends-few, weights-few, ends-before, variable-before, edge-before, variable-read, edge-read}
use Rattle.log_theory.proofs.WaitingTests.{lower-read, upper-read, variable-weight-is, edge-weight-is, variable-bars, edge-bars}

-- a line that can be due is one of the small case
in-join-due : (c : Case) (p : ℕ) (x : CaseDue) → T (not (not_in_join c p x)) → IsDue 1 c.d p x
in-join-due c p (variable-weight i k) t = let (a, b) = simp tests at t in (omega arith, b)
in-join-due c p (edge-ends e) t = simp tests at t
in-join-due c p (edge-weight e k l) t = let ((a, b), h) = simp tests at t in (a, b, h)

-- what is asked of a record, as plain facts
pub record WaitingFacts (c : Case) (w₀ w : List ℤ) (p : ℕ) (x : CaseDue) (lower : List ℕ) (out : Bool) : Type 0 where
  pub limits : T (within_limits (rules_of c) c.n c.d c.m)
  pub grown-limits : T (within_limits (rules_of c) (c.n + 1) c.d (c.m + p))
  pub most : c.n < (rules_of c).variables
  pub room : c.m + p ≤ (rules_of c).edges
  pub few : p ≤ c.n
  pub long : length w ≡ lent_length (rules_of c) c
  pub starting-long : length w₀ ≡ lent_length (rules_of c) c
  pub inside : out ≡ false
  pub in-join : T (not (not_in_join c p x))
  pub due : IsDue 1 c.d p x
  -- without what waits
  pub both : BothHanded (rules_of c) c (zeroed_from (own_length c) w₀) w
  -- what waits: the weights and scopes, and the lower ends
  pub range : (i : ℕ) → i < own_length c + weights_read c p x → T (starting_weight (rules_of c) (get_or w₀ i (pos 0)))
  pub zeros : T (zeros_from (own_length c + weights_read c p x) w₀)
  pub free : (y : ℕ) → y < scopes_read x → T (not (wholly_barred (small_case c p) (waiting_weights c w₀) y))
  pub ends : (e : ℕ) → e < ends_read x → get_or lower e 0 < c.n
  pub ends-apart : (e : ℕ) → e < ends_read x → (f : ℕ) → f < e → get_or lower e 0 ≡ get_or lower f 0 → ⊥

bars-own : (c : Case) (w₀ w : List ℤ) → same_bars c (zeroed_from (own_length c) w₀) w ≡ same_bars c w₀ w
bars-own c w₀ w = all_same (own_length c) (λ i h.
    ap (λ (z : ℤ). (is_barred z ⇒ is_barred (get_or w i (pos 0))) && (is_barred (get_or w i (pos 0)) ⇒ is_barred z)) (zeroed-before (own_length c) w₀ i h))

module _ (c : Case) (w₀ w : List ℤ) (p : ℕ) (x : CaseDue) (lower : List ℕ) (out : Bool) where
  pub quiet-place : first_refusal (waiting_tests (rules_of c) c w₀ w p x lower out) ≡ None → WaitingFacts c w₀ w p x lower out
  quiet-place quiet =
      let h = simp (tests, not-and-iff, none_below) at ((passes (waiting_tests (rules_of c) c w₀ w p x lower out)).0 quiet) in
      let ((limits, grown), (lengths, (inside, (ascending, (apart, (weights, (free, t))))))) = h in
      let (((((inside_of, few), in-join), ends), carry), edges) = inside in
      let ((((first, zeros), now), past), same) = weights in
      let due = in-join-due c p x in-join in
      let full : own_length (grown_case c p) ≤ length w₀ =
      omega (arith, lengths.1, own-lent (rules_of c) (grown_case c p) grown.0.0.1 grown.1.1) in
      let fits : own_length c + weights_read c p x ≤ length w₀ = omega (arith, weights-few c p x due) in
      let range : (i : ℕ) → i < own_length c + weights_read c p x → T (starting_weight (rules_of c) (get_or w₀ i (pos 0))) = λ i l.
      subst (λ (z : ℤ). T (starting_weight (rules_of c) z)) (get_or-take (own_length c + weights_read c p x) w₀ i (pos 0) l)
      ((all_get_d (starting_weight (rules_of c)) (take (own_length c + weights_read c p x) w₀) (pos 0)).0 first i
      (omega (arith, length-take-le (own_length c + weights_read c p x) w₀ fits))) in
      let own : List ℤ = zeroed_from (own_length c) w₀ in
      let own-long : length own ≡ length w₀ = zeroed-length (own_length c) w₀ in
      let own_range : T (all_weights (starting_weight (rules_of c)) c own) = (all-weights c (starting_weight (rules_of c)) own (omega arith)).1 (λ y k l i.
      let o = place-own c y k l i.scope i.one i.two in
      subst (λ (z : ℤ). T (starting_weight (rules_of c) z)) (sym (zeroed-before (own_length c) w₀ (place c y k l) o)) (range (place c y k l) (omega arith))) in
      record {
        limits = simp tests limits;
        grown-limits = simp tests grown;
        most = omega (arith, grown.0.0.1);
        room = grown.1.1;
        few = few;
        long = lengths.0;
        starting-long = lengths.1;
        inside = is_false out inside_of;
        in-join = in-join;
        due = due;
        both = ((both-handed (rules_of c) c own w false).0 ((none-applies (both_handed_over (rules_of c) c own w false)).1 (simp (tests, not-and-iff, none_below) (
          limits,
          (
            (lengths.0, own-long ∙ lengths.1),
            (
              ((tt, carry), edges),
              (
                ascending,
                (
                  apart.0,
                  (
                    ((((own_range, zeroed-zeros (own_length c) w₀), now), past), subst T (sym (bars-own c w₀ w)) same),
                    (free.0, tt),
                  ),
                ),
              ),
            ),
          ),
        )))
            ).0;
        range = range;
        zeros = zeros;
        free = free.1;
        ends = ends;
        ends-apart = apart.1;
      }

-- ---- what is read so far

-- ends in the places of a record
placed-long : (ends : List ℕ) → length ends ≤ edge_places → length (in_places ends) ≡ edge_places
placed-long ends h = length-append ends (replicate (edge_places - length ends) 0) ∙ omega (arith, length-replicate {A = ℕ} (edge_places - length ends) 0)

placed_past : (ends : List ℕ) (e : ℕ) → length ends ≤ e → get_or (in_places ends) e 0 ≡ 0
placed_past ends e h =
    let s : length ends + (e - length ends) ≡ e = omega arith in
    ap (λ (e : ℕ). get_or (in_places ends) e 0) (sym s) ∙ get_or-append-add ends (replicate (edge_places - length ends) 0) (e - length ends) 0
    ∙ zeros-everywhere (edge_places - length ends) (e - length ends) 0

module _ (c : Case) (f : ℕ → ℕ) (more : List ℕ) where
  ends-count : length (map f (below c.m) ++ more) ≡ c.m + length more
  ends-count = length-append (map f (below c.m)) more ∙ ap (λ (n : ℕ). n + length more) (length-tab f 0 c.m)

  ends-first : (e : ℕ) → e < c.m → get_or (in_places (map f (below c.m) ++ more)) e 0 ≡ f e
  ends-first e h =
      let l = length-tab f 0 c.m in
      get_or-append (map f (below c.m) ++ more) _ 0 e (omega (arith, ends-count)) ∙ get_or-append (map f (below c.m)) more 0 e (omega arith)
      ∙ get_d-tab f c.m e 0 h

abbrev pub lists_read : Case → List ℤ → ℕ → CaseDue → List ℕ → Lists
lists_read c w₀ p x lower = let g = read_so_far c w₀ p x lower in record { lower = g.case.lower; upper = g.case.upper; table = g.table }

module _ {c : Case} {w₀ w : List ℤ} {p : ℕ} {x : CaseDue} {lower : List ℕ} (h : WaitingFacts c w₀ w p x lower false) (many : length lower ≡ edge_places) where
  abbrev own : List ℤ
  own = zeroed_from (own_length c) w₀

  abbrev lists : Lists
  lists = lists_read c w₀ p x lower

  places : c.m + p ≤ edge_places
  places = omega (arith, h.room, (coherent c.rulebook).edges_placed)

  known : ends_read x ≤ length lower
  known = omega (arith, ends-few c p x h.due, places)

  abbrev ends : List ℕ
  ends = take (ends_read x) lower

  lower-count : length (map (lower_end c) (below c.m) ++ ends) ≤ c.m + p
  lower-count = omega (arith, ends-count c (lower_end c) ends, length-take-le (ends_read x) lower known, ends-few c p x h.due)

  upper-count : length (map (upper_end c) (below c.m) ++ replicate (length ends) c.n) ≤ c.m + p
  upper-count = omega (
    arith,
    ends-count c (upper_end c) (replicate (length ends) c.n),
    length-replicate (length ends) c.n,
    length-take-le (ends_read x) lower known,
    ends-few c p x h.due,
  )

  waiting-range : {i : ℕ} → i < weights_read c p x → T (starting_weight (rules_of c) (get_or (waiting_weights c w₀) i (pos 0)))
  waiting-range {i} l =
      subst (λ (z : ℤ). T (starting_weight (rules_of c) z)) (sym (get_or-drop (own_length c) w₀ i (pos 0))) (h.range (own_length c + i) (omega arith))

  lines-good : (y : CaseDue) → IsDue 1 c.d p y → rank 1 c.d p y < rank 1 c.d p x
      → Good (rules_of c) (grown_reading c p lists) (renumbered c y) (line_of (grown_at c p lists) lists.table (renumbered c y))
  lines-good (variable-weight i k) (u, v) l = (
    subst T (sym (weight-range 11 14 refl refl (rules_of c) (pos (c.n + i)) (pos k) (pos 0) (weight (grown_case c p) (waiting_table c p w₀) (c.n + i) k 0)))
        (subst (λ (z : ℤ). T (starting_weight (rules_of c) z)) (sym (variable-weight-is c p w₀ u v))
        (waiting-range (variable-before c p i k u v x h.due l))),
    λ o. subst (λ (b : Bool). T (not b)) (sym (variable-bars c p w₀ i u)) (h.free i (variable-read c p i k u o x h.due l)),
  )
  lines-good (edge-ends e) u l =
      let r = ends-before c p e x h.due l in
      let low = lower-read c p w₀ lower x known in
      let up = upper-read c p w₀ lower x known in (
        omega (arith, low e r, up e r, h.ends e r),
        omega (arith, up e r),
        λ f g a b. ⊎_elim
            (λ t. let o = ltb→lt f c.m t in
            absurd (omega (
              arith,
              up e r,
              ends-first c (upper_end c) (replicate (length ends) c.n) f o,
              h.both.first.shape.below-n f o,
            )))
            (λ t.
            let o = nltb→le f c.m t in
            let s : c.m + (f - c.m) ≡ f = omega arith in
            h.ends-apart e r (f - c.m) (omega arith)
            (sym (low e r) ∙ sym a ∙ ap (lower_end (grown_at c p lists)) (sym s) ∙ low (f - c.m) (omega arith)))
            (either (ltb f c.m)),
      )
  lines-good (edge-weight e k l) (u, v, g) o = (
    subst T (sym (weight-range 13 15 refl refl (rules_of c) (pos (c.m + e)) (pos k) (pos l)
        (weight (grown_case c p) (waiting_table c p w₀) (c.n + 1 + (c.m + e)) k l)))
        (subst (λ (z : ℤ). T (starting_weight (rules_of c) z)) (sym (edge-weight-is c p w₀ u v g))
        (waiting-range (edge-before c p e k l v g x h.due o))),
    λ (a, b). subst (λ (b : Bool). T (not b)) (sym (edge-bars c p w₀ e u)) (h.free (1 + e) (edge-read c p e k l a b x h.due o)),
  )

  pub waits-read : JoinRead c own p (rank 1 c.d p x) lists
  waits-read = record {
    sized = record {
      long = waiting-long c p w₀ (fits c w₀ p h.starting-long h.most h.room) ∙ h.starting-long;
      own-fits = omega (
        arith,
        waiting-long c p w₀ (fits c w₀ p h.starting-long h.most h.room),
        fits c w₀ p h.starting-long h.most h.room,
      );
      lower_long = placed-long (map (lower_end c) (below c.m) ++ ends) (omega (arith, lower-count, places));
      upper_long = placed-long (map (upper_end c) (below c.m) ++ replicate (length ends) c.n) (omega (arith, upper-count, places));
      lower-past = λ e l. placed_past (map (lower_end c) (below c.m) ++ ends) e (omega (arith, lower-count));
      upper-past = λ e l. placed_past (map (upper_end c) (below c.m) ++ replicate (length ends) c.n) e (omega (arith, upper-count));
    };
    lower = ends-first c (lower_end c) ends;
    upper = ends-first c (upper_end c) (replicate (length ends) c.n);
    weights = λ y k l i. old-weight c p w₀ i ∙ sym (zeroed-before (own_length c) w₀ (place c y k l) (place-own c y k l i.scope i.one i.two));
    past = zeros_by (own_length (grown_case c p)) lists.table (waiting-past c p w₀);
    good = lines-good;
  }
