-- Each scope's greatest weight, kept beside the table: what is written, and the sum of it. Assumes nothing.
use Rattle.std.specs.Prelude.{Result, Ok, Err, ⊤}
use Rattle.definitions.specs.declared.Refusal.{Refusal}
use mathlib.Core.Path.{◌≡◌, sym, ap, subst, ◌∙◌}
use mathlib.Core.Bool.{true, false, not}
use mathlib.Core.Logic.{◌⊎◌, inl, inr}
use mathlib.Core.List.{List, map}
use Prim.Native.Nat.{ℕ, ◌+◌, ◌-◌, ◌≤◌, ◌<◌}
use native.Mathlib.Omega.{arith}
use lib.IntN.{ℤ, pos}
use lib.Dec.{T, ltb, ltb→lt, nltb→le}
use lib.ListN.{length, drop, length-append, length-drop, get_or-append}
use lib.Seq.{ext_get_or, get_or-append-add, get_or-drop}
use borrow.Author.Tests.{le-ltb, lt-ltb, eq-eqb, ne_eqb}
use Rattle.integers.specs.Words.{below}
use Rattle.integers.specs.Tests.{either}
use Rattle.integers.specs.Tables.{length-tab, get_d-tab}
use Rattle.definitions.specs.declared.Case.{Case}
use Rattle.definitions.specs.declared.Refusal.TheVariants.{OutsideLimits, WrongLength}
use Rattle.definitions.specs.Rules.{rules_of}
use Rattle.definitions.specs.Case.{scope_count, scopes, lent_length, greatest, upper_bound}
use Rattle.definitions.specs.Valid.{working_weight, within_limits}
use Rattle.theory.proofs.Validity.{Handed}
use Rattle.tables.specs.Scopes.{best_at, BestOf, written_over, greatest_call, sum_in_range, best_sum}
use Rattle.tables.proofs.Bounds.{sum-given, sum_same}
use Rattle.tables.proofs.Answered.{limits-true, carry-known, greatest-working}

-- n numbers written over the first places
module _ (f : ℕ → ℤ) (n : ℕ) (out : List ℤ) (room : n ≤ length out) where
  over-long : length (map f (below n)) ≡ n
  over-long = length-tab f 0 n

  pub over-length : length (written_over (map f (below n)) out) ≡ length out
  over-length = simp (length-append, length-drop) (omega (arith, over-long))

  pub over-at : (x : ℕ) → x < n → best_at (written_over (map f (below n)) out) x ≡ f x
  over-at x h = get_or-append (map f (below n)) _ (pos 0) x (omega (arith, over-long)) ∙ get_d-tab f n x (pos 0) h

  pub over-past : (x : ℕ) → n ≤ x → best_at (written_over (map f (below n)) out) x ≡ best_at out x
  over-past x h =
      let e : x ≡ length (map f (below n)) + (x - n) = omega (arith, over-long) in
      let d : length (map f (below n)) + (x - n) ≡ x = omega (arith, over-long) in
      ap (best_at (written_over (map f (below n)) out)) e ∙ get_or-append-add (map f (below n)) (drop (length (map f (below n))) out) (x - n) (pos 0)
      ∙ get_or-drop (length (map f (below n))) out (x - n) (pos 0) ∙ ap (best_at out) d

  pub over-is : (u : List ℤ) → length u ≡ length out → ((x : ℕ) → x < n → best_at u x ≡ f x) → ((x : ℕ) → n ≤ x → best_at u x ≡ best_at out x)
      → u ≡ written_over (map f (below n)) out
  over-is u long here past = ext_get_or (pos 0) u (written_over (map f (below n)) out) (long ∙ sym over-length) (λ x h. go x (either (ltb x n)))
    where
      go : (x : ℕ) → T (ltb x n) ⊎ T (not (ltb x n)) → best_at u x ≡ best_at (written_over (map f (below n)) out) x
      go x (inl t) = let h = ltb→lt x n t in here x h ∙ sym (over-at x h)
      go x (inr t) = let h = nltb→le x n t in past x h ∙ sym (over-past x h)

-- what is written is the greatest weights
pub best-written : (c : Case) (w out : List ℤ) → scope_count c ≤ length out → BestOf c w (written_over (map (greatest c w) (scopes c)) out)
best-written c w out room = record {
  enough = omega (arith, over-length (greatest c w) (scope_count c) out room);
  holds = over-at (greatest c w) (scope_count c) out room;
}

-- on a table that was checked the sum of these is the upper bound
pub best-sum-known : {c : Case} {w best : List ℤ} → Handed (rules_of c) (working_weight (rules_of c)) c w → BestOf c w best
    → best_sum (rules_of c) c best ≡ Ok (upper_bound c w)
unfolding best_sum
best-sum-known {c} {w} {best} h b =
    rw (limits-true h, le-ltb (length best) (scope_count c) b.enough)
    (sum_same c (best_at best) (greatest c w) b.holds ∙ sym (sum-given c (greatest c w) (carry-known h) (greatest-working h)))

pub sum-written : (c : Case) (w out best : List ℤ) → scope_count c ≤ length out → best ≡ written_over (map (greatest c w) (scopes c)) out
    → sum_in_range (rules_of c) c (best_at best) ≡ sum_in_range (rules_of c) c (greatest c w)
sum-written c w out best room e =
    sum_same c (best_at best) (greatest c w)
    (λ x l. ap (λ (b : List ℤ). best_at b x) e ∙ over-at (greatest c w) (scope_count c) out room x l)

-- ---- the call, by what was asked
module _ (c : Case) (w best : List ℤ) where
  abbrev Gives : Result ⊤ Refusal → List ℤ → Type 0
  Gives o b = (o ≡ (greatest_call (rules_of c) c w best).answer) × (b ≡ (greatest_call (rules_of c) c w best).best)

  pub greatest-outside : within_limits (rules_of c) c.n c.d c.m ≡ false → Gives (Err OutsideLimits) best
  unfolding greatest_call
  greatest-outside e = (rw e, rw e)

  module _ (e : within_limits (rules_of c) c.n c.d c.m ≡ true) where
    pub greatest-other-length : (length w ≡ lent_length (rules_of c) c → ⊥) → Gives (Err WrongLength) best
    unfolding greatest_call
    greatest-other-length n = (rw (e, ne_eqb (length w) (lent_length (rules_of c) c) n), rw (e, ne_eqb (length w) (lent_length (rules_of c) c) n))

    module _ (long : length w ≡ lent_length (rules_of c) c) where
      pub greatest-short : length best < scope_count c → Gives (Err WrongLength) best
      unfolding greatest_call
      greatest-short h =
          let d = lt-ltb (length best) (scope_count c) h in (rw (e, eq-eqb (length w) (lent_length (rules_of c) c) long, d), rw (e, eq-eqb (length w) (lent_length (rules_of c) c) long, d))

      pub greatest-done : scope_count c ≤ length best → Gives (Ok tt) (written_over (map (greatest c w) (scopes c)) best)
      unfolding greatest_call
      greatest-done h =
          let d = le-ltb (length best) (scope_count c) h in (rw (e, eq-eqb (length w) (lent_length (rules_of c) c) long, d), rw (e, eq-eqb (length w) (lent_length (rules_of c) c) long, d))

-- on a table that was checked the call is done, and `best` holds the greatest weights
pub greatest-known : {c : Case} {w : List ℤ} (best : List ℤ) → Handed (rules_of c) (working_weight (rules_of c)) c w → scope_count c ≤ length best
    → ((greatest_call (rules_of c) c w best).answer ≡ Ok tt) × BestOf c w (greatest_call (rules_of c) c w best).best
greatest-known {c} {w} best h room =
    let d = greatest-done c w best (limits-true h) h.long room in
    (sym d.0, subst (λ (b : List ℤ). BestOf c w b) d.1 (best-written c w best room))
