-- The case lines that are due in a join, by rank: they are those of a small case, renumbered. Assumes nothing.
use mathlib.Core.Path.{◌≡◌, ap, ◌∙◌}
use mathlib.Core.List.{List, ◌∷◌, map, append-nil}
use Prim.Native.Nat.{ℕ, zero, suc, ◌+◌, ◌<◌}
use native.Mathlib.Nat.{add-zero}
use native.Mathlib.Omega.{arith}
use lib.ListN.{length, get_or, drop, length-map}
use lib.Seq.{drop-cons}
use Rattle.integers.specs.Words.{from, below}
use Rattle.integers.specs.Lists.{map-append, map-joined, map-map, from-shift}
use Rattle.integers.specs.Tables.{get_d_map}
use Rattle.definitions.specs.declared.Case.{Case}
use Rattle.definitions.specs.CaseFiles.{CaseDue, edge-ends, dues}
use Rattle.logs.specs.Join.{join_dues}
use Rattle.case_theory.proofs.CaseDues.{IsDue, rank, Run, stop, step, run_length, dues-run}
use Rattle.logs.specs.Waiting.{small_case, renumbered}
use Rattle.case_theory.proofs.JoinReads.{join_lines}

-- of a run the q-th due has the q-th rank
run-nth : {n d m a b : ℕ} {ds : List CaseDue} → Run n d m a ds b → (q : ℕ) → q < length ds
    → let x = get_or ds q (edge-ends 0) in IsDue n d m x × (rank n d m x ≡ a + q)
run-nth (stop e) q h = absurd (omega arith)
run-nth (step u e r) zero h = (u, omega arith)
run-nth (step u e r) (suc q) h = let p = run-nth r q (omega arith) in (p.0, omega (arith, p.1))

module _ (c : Case) (p : ℕ) where
  pub join-dues : join_dues c p ≡ map (renumbered c) (dues (small_case c p))
  join-dues =
      let e : from c.m p ≡ map (λ x. c.m + x) (below p) = rw add-zero at (from-shift c.m 0 p) in
      simp (e, map-append, map-joined, append-nil, add-zero, map-map)

  pub join-length : length (join_dues c p) ≡ join_lines c p
  join-length = ap length join-dues ∙ length-map (dues (small_case c p)) (renumbered c) ∙ omega (arith, run_length (dues-run (small_case c p)))

  -- the due after q lines
  pub join-due : (q : ℕ) → q < join_lines c p
      → (x : CaseDue) × IsDue 1 c.d p x × (rank 1 c.d p x ≡ q) × (drop q (join_dues c p) ≡ renumbered c x ∷ drop (suc q) (join_dues c p))
  join-due q h =
      let l : q < length (dues (small_case c p)) = omega (arith, run_length (dues-run (small_case c p))) in
      let (u, e) = run-nth (dues-run (small_case c p)) q l in (
        get_or (dues (small_case c p)) q (edge-ends 0),
        u,
        omega (arith, e),
        drop-cons (join_dues c p) q (edge-ends 0) (omega (arith, join-length))
            ∙ ap (λ (x : CaseDue). x ∷ drop (suc q) (join_dues c p)) (ap (λ (ds : List CaseDue). get_or ds q (edge-ends 0)) join-dues
            ∙ get_d_map (renumbered c) (dues (small_case c p)) q (edge-ends 0) (edge-ends 0) l),
      )
