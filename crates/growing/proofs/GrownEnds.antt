-- The ends of the edges before and behind them those of the new ones, in the places of a record. Assumes nothing.
use mathlib.Core.Path.{◌≡◌, sym, ap, ap₂, ◌∙◌}
use mathlib.Core.Logic.{⊎_elim}
use mathlib.Core.List.{List, ◌++◌, map}
use Prim.Native.Nat.{ℕ, ◌+◌, ◌-◌, ◌≤◌, ◌<◌}
use native.Mathlib.Nat.{zero-add}
use native.Mathlib.Omega.{arith}
use lib.Dec.{ltb, ltb→lt, nltb→le}
use lib.ListN.{length, get_or, take, replicate, length-append, length-replicate, replicate-append-replicate, get_or-append}
use lib.Seq.{ext_get_or, get_or-append-add, get_or-take, length-take-le, take_at}
use Rattle.integers.specs.Words.{below}
use Rattle.integers.specs.Tests.{either}
use Rattle.integers.specs.Tables.{length-tab, get_d-tab}
use Rattle.definitions.specs.Rules.{edge_places}
use Rattle.logs.specs.Leave.{in_places}
use Rattle.case_theory.proofs.Zeroed.{all_same}
use Rattle.growing.specs.Parts.{Written}

module _ (old new : List ℕ) (m p : ℕ) (few : m + p ≤ edge_places) (many : p ≤ length new) where
  before : List ℕ
  before = map (λ e. get_or old e 0) (below m)

  ends : List ℕ
  ends = before ++ take p new

  before-long : length before ≡ m
  unfolding before
  before-long = length-tab (λ e. get_or old e 0) 0 m

  ends-long : length ends ≡ m + p
  unfolding ends
  ends-long = length-append before (take p new) ∙ ap₂ ◌+◌ before-long (length-take-le p new many)

  end-old : (q : ℕ) → q < m → get_or (in_places ends) q 0 ≡ get_or old q 0
  unfolding before ends
  end-old q h =
      get_or-append ends (replicate (edge_places - length ends) 0) 0 q (omega (arith, ends-long))
      ∙ get_or-append before (take p new) 0 q (omega (arith, before-long)) ∙ get_d-tab (λ e. get_or old e 0) m q 0 h

  end-new : (e : ℕ) → e < p → get_or (in_places ends) (m + e) 0 ≡ get_or new e 0
  unfolding ends
  end-new e h =
      get_or-append ends (replicate (edge_places - length ends) 0) 0 (m + e) (omega (arith, ends-long))
      ∙ ap (λ (n : ℕ). get_or ends (n + e) 0) (sym before-long) ∙ get_or-append-add before (take p new) e 0 ∙ get_or-take p new e 0 h

  end_none : (q : ℕ) → m + p ≤ q → get_or (in_places ends) q 0 ≡ 0
  end_none q h =
      let e : q ≡ length ends + (q - (m + p)) = omega (arith, ends-long) in
      ap (λ (q : ℕ). get_or (in_places ends) q 0) e ∙ get_or-append-add ends (replicate (edge_places - length ends) 0) (q - (m + p)) 0
      ∙ all_same (edge_places - length ends) (q - (m + p)) 0

  pub ends-grown : (u v : List ℕ) → Written 0 (replicate edge_places 0) u 0 0 m (λ e. get_or old e 0) → Written 0 u v m 0 p (λ e. get_or new e 0)
      → v ≡ in_places (map (λ e. get_or old e 0) (below m) ++ take p new)
  unfolding before ends
  ends-grown u v a b = ext_get_or 0 v (in_places ends)
      (b.long ∙ a.long ∙ length-replicate {A = ℕ} edge_places 0 ∙ sym (length-append ends (replicate (edge_places - length ends) 0)
      ∙ ap (λ (n : ℕ). length ends + n) (length-replicate {A = ℕ} (edge_places - length ends) 0) ∙ omega (arith, ends-long)))
      (λ q h. ⊎_elim
      (λ t. let l = ltb→lt q m t in
      b.before q (omega arith) ∙ sym (ap (λ (q : ℕ). get_or u q 0) (zero-add q)) ∙ a.there q (omega arith) l ∙ sym (end-old q l))
      (λ t. let l : m ≤ q = nltb→le q m t in ⊎_elim
      (λ s.
      let k = ltb→lt q (m + p) s in
      let e : q ≡ m + (q - m) = omega arith in
      ap (λ (q : ℕ). get_or v q 0) e ∙ b.there (q - m) (omega arith) (omega arith) ∙ sym (end-new (q - m) (omega arith))
      ∙ sym (ap (λ (q : ℕ). get_or (in_places ends) q 0) e))
      (λ s. let k : m + p ≤ q = nltb→le q (m + p) s in
      b.past q k ∙ a.past q (omega arith) ∙ all_same edge_places q 0 ∙ sym (end_none q k))
      (either (ltb q (m + p))))
      (either (ltb q m)))

-- the new edges' upper end is the same for all
pub upper-same : (lower : List ℕ) (n p : ℕ) → p ≤ length lower → p ≤ edge_places
    → take p (replicate edge_places n) ≡ replicate (length (take p lower)) n
upper-same lower n p h k =
    let e : edge_places ≡ p + (edge_places - p) = omega arith in
    ap (λ (m : ℕ). take p (replicate m n)) e ∙ ap (take p) (sym (replicate-append-replicate p (edge_places - p) n))
    ∙ take_at (replicate p n) (replicate (edge_places - p) n) p (length-replicate p n)
    ∙ ap (λ (m : ℕ). replicate m n) (sym (length-take-le p lower h))
