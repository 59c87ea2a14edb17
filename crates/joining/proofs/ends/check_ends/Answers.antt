use mathlib.Core.Path.{◌≡◌, sym, ap, ◌∙◌}
use mathlib.Core.Bool.{Bool, true, false, ◌||◌}
use mathlib.Core.List.{List, [], ◌∷◌}
use Prim.Native.Nat.{ℕ}
use native.Mathlib.Omega.{arith}
use lib.IntN.{ℤ, nat_abs}
use mir.Syntax.{w64}
use borrow.Author.Tests.{not-false}
use Rattle.integers.specs.Linear.{read_back}
use Rattle.definitions.specs.declared.Refusal.TheVariants.{EdgeRepeated}
use Rattle.definitions.specs.Refusals.{◌when◌, first_refusal}
use Rattle.definitions.specs.Answers.{outcome_of}
use Rattle.definitions.specs.CaseFiles.{edge-ends}
use Rattle.joining.specs.Steps.{rest_tests, joined_before, end_before}
use Rattle.joining.proofs.Rooms.{edges_fit}
use Rattle.joining.proofs.Lines.{ends-joined}
use Rattle.joining.proofs.ends.check_ends.Goals as goal
use Rattle.joining.proofs.ends.check_ends.Goals.{After-is_joined}

joined : (j : After-is_joined) (b : Bool) → j.is_joined.result ≡ b → let a = j.args in
    (joined_before a.case.lower a.case.upper a.case.m (nat_abs a.line.b) a.case.n
    || end_before a.lower.now a.e (nat_abs a.line.b)) ≡ b
joined j b q = let a = j.args in
    ap (λ (i : ℕ). joined_before a.case.lower a.case.upper a.case.m i a.case.n || end_before a.lower.now a.e i)
    (sym (j.end_of.ensures ∙ ap nat_abs (read_back w64 a.line.b j.struct_told-1.given.1.1.0.1)))
    ∙ sym j.is_joined.ensures.0 ∙ q

closed : (w₀ : List ℤ) (j : After-is_joined) (b : Bool) → j.is_joined.result ≡ b → let a = j.args in
    outcome_of (first_refusal (EdgeRepeated when b ∷ [])) ≡ outcome_of (first_refusal (rest_tests a.case w₀ a.edges (edge-ends a.e) a.lower.now a.line))
closed w₀ j b q = let a = j.args in
    ap outcome_of (ends-joined a.case w₀ a.edges a.e a.lower.now a.line
    (omega (arith, edges_fit j.requires.placed, j.requires.e_lt_edges, j.is_joined.ensures.1))
    (sym j.ends_out.ensures ∙ j.if-ends_out.false) (sym j.ascending.ensures ∙ not-false _ j.if-not-ascending.false-raw)
    b (joined j b q))

pub returns-then-is_joined : goal.returns-then-is_joined
returns-then-is_joined c = λ w₀. closed w₀ (goal.at.returns-then-is_joined c).After-is_joined true c.if-is_joined.true

pub returns : goal.returns
returns c = λ w₀. closed w₀ (goal.at.returns c).After-is_joined false c.if-is_joined.false
