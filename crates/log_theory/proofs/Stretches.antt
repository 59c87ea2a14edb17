-- The stretches of a log: which lines begin one, and what its lines keep. Assumes nothing.
use Rattle.std.specs.Prelude.{is_some}
use mathlib.Core.Path.{◌≡◌, refl, ◌∙◌}
use mathlib.Core.Bool.{Bool, not, ◌&&◌, ◌||◌}
use mathlib.Core.List.{List, [], ◌∷◌}
use Prim.Native.Nat.{ℕ}
use lib.IntN.{pos, ◌+ℤ◌}
use lib.Dec.{T, T_not}
use lib.Signed.{◌≤ℤ◌}
use Rattle.integers.specs.Tests.{and-iff, and_intro, and_left, and_right, or_left, or_right}
use Rattle.integers.specs.Linear.{flat, zs, ≤ℤ-trans}
use Rattle.definitions.specs.Rules.{Rules}
use Rattle.definitions.specs.Lines.{read_line, has_kind}
use Rattle.definitions.specs.Replay.{State}
use Rattle.logs.specs.Logs.{LogState, between_rounds, step_log, after_log, begins_stretch, one_stretch}
use Rattle.theory.proofs.Replays.{Stepped, stays, refuses, stepped, stepped_same, counted}
use Rattle.log_theory.proofs.LogSteps.{LogStepped, unchanged, numbered, in-stretch, link-leaves, join-begins, join-reads, join-ends, log-stepped}

module _ (r : Rules) where
  -- a line begins one only in a join begun, or as a leave between rounds
  abbrev may_begin : LogState → List ℕ → Bool
  may_begin s t = is_some s.joining || (between_rounds s.stretch && has_kind 7 (read_line r.amount_width t))

  -- after a line that begins a stretch no round is begun
  pub begins-between : (s : LogState) (t : List ℕ) → T (begins_stretch r s t) → T (between_rounds (step_log r s t).stretch)
  begins-between s t b = let ((n, m), o) = simp and-iff at b in go (log-stepped r s t) n m o
    where
      go : {u : LogState} → LogStepped r s t u → T (not (is_some u.stretch.refusal)) → T (not (is_some u.joining)) → T (may_begin s t)
          → T (between_rounds u.stretch)
      go (unchanged x e) n m o = absurd (rw e at n)
      go (numbered x) n m o = absurd n
      go (in-stretch e k) n m o = absurd (T_not (between_rounds s.stretch && has_kind 7 (read_line r.amount_width t)) k (rw e at o))
      go (link-leaves i d k f l) n m o = tt
      go (join-begins p d k f l) n m o = d
      go (join-reads j due later dues l d e f) n m o = absurd m
      go (join-ends j due l d e f) n m o = tt

  -- a line that begins no stretch does to a stretch's state what its lines can do
  pub stretch-stepped : (s : LogState) (t : List ℕ) → T (not (begins_stretch r s t)) → Stepped r s.stretch (step_log r s t).stretch
  stretch-stepped s t = go (log-stepped r s t)
    where
      go : {u : LogState} → LogStepped r s t u → T (not (not (is_some u.stretch.refusal) && not (is_some u.joining) && may_begin s t))
          → Stepped r s.stretch u.stretch
      go (unchanged x e) n = stays
      go (numbered x) n = refuses x
      go (in-stretch e o) n = stepped r s.stretch t
      go (link-leaves i b k m l) n = absurd (T_not (may_begin s t) n (or_right (is_some s.joining) _
          (and_intro (between_rounds s.stretch) (has_kind 7 (read_line r.amount_width t)) b k)))
      go (join-begins p b m f l) n = stays
      go (join-reads j due later dues l d e f) n = stays
      go (join-ends j due l d e f) n = absurd (T_not (may_begin s t) n (or_left (is_some s.joining) _ (rw d tt)))

  -- what its lines keep, a stretch keeps
  pub stretch-keeps : (P : State → Type 0) → ((u v : State) → Stepped r u v → P u → P v) → (s : LogState) (ts : List (List ℕ)) → T (one_stretch r s ts)
      → P s.stretch → P (after_log r s ts).stretch
  stretch-keeps P one s [] o p = p
  stretch-keeps P one s (t ∷ ts) o p =
      let n = and_left (not (begins_stretch r s t)) (one_stretch r (step_log r s t) ts) o in
      let m = and_right (not (begins_stretch r s t)) (one_stretch r (step_log r s t) ts) o in
      stretch-keeps P one (step_log r s t) ts m (one s.stretch (step_log r s t).stretch (stretch-stepped s t n) p)

  module _ (s : LogState) (ts : List (List ℕ)) (o : T (one_stretch r s ts)) where
    pub stretch-same : ((after_log r s ts).stretch.case ≡ s.stretch.case) × ((after_log r s ts).stretch.starting ≡ s.stretch.starting)
    stretch-same = stretch-keeps (λ u. (u.case ≡ s.stretch.case) × (u.starting ≡ s.stretch.starting))
        (λ u v k e. let d = stepped_same k in (d.0 ∙ e.0, d.1 ∙ e.1)) s ts o (refl, refl)

    pub stretch-counted : (pos (after_log r s ts).stretch.rounds +ℤ (after_log r s ts).stretch.start) ≤ℤ (pos s.stretch.rounds +ℤ s.stretch.start)
    stretch-counted = stretch-keeps (λ u. (pos u.rounds +ℤ u.start) ≤ℤ (pos s.stretch.rounds +ℤ s.stretch.start))
        (λ u v k h. ≤ℤ-trans (counted r k) h) s ts o (simp flat (omega zs))
