-- Which variable is chosen: the lowest whose active values are refuted with all scopes raised. Assumes nothing.
use Rattle.std.specs.Prelude.{Option, Some, None}
use mathlib.Core.Path.{◌≡◌, refl, sym, ap, subst, ◌∙◌}
use mathlib.Core.Bool.{Bool, false, not}
use mathlib.Core.Logic.{⊎_elim}
use mathlib.Core.List.{List}
use Prim.Native.Nat.{ℕ, ◌≤◌, ◌<◌}
use native.Mathlib.Omega.{arith}
use borrow.Author.Tests.{ne_eqb}
use lib.IntN.{ℤ}
use lib.Dec.{eqb, eqb→eq}
use lib.ListN.{length, get_or, set, take}
use lib.Seq.{length-take-le}
use Rattle.integers.specs.Words.{below, those, first, is_in}
use Rattle.integers.specs.Tests.{either, is_true, is_false, not-eqb-iff}
use Rattle.integers.specs.Lists.{those-same, first-least}
use Rattle.definitions.specs.declared.Case.{Case}
use Rattle.definitions.specs.Rules.{edge_places}
use Rattle.definitions.specs.Case.{scope_count}
use Rattle.definitions.specs.Moves.{active_refuted}
use Rattle.definitions.specs.Consistency.{others}
use Rattle.definitions.specs.Engine.{chosen}
use Rattle.definitions.proofs.Refutation.{others-in}
use Rattle.calls.specs.Calls.{is_raised}
use Rattle.theory.proofs.Shape.{Shape}
use Rattle.press_theory.proofs.Raised.{own-scope}
use Rattle.arcs.specs.Tried.{tried_answer}
use Rattle.choice.specs.Choice.{says_unsupported, lowest_unsupported}
use Rattle.engine.specs.Search.{Prepared, refutes_in, AllRaised, OthersRaised, ChosenIn, ChosenIs}
use Rattle.engine.proofs.Asking.{edges_of, asked-says}
use Rattle.engine.proofs.Raising.{raised-here, raised-elsewhere, refutes-alike, allowing-all}

-- ---- what was chosen

pub chosen-in : (c : Case) (f : ℕ → Bool) (n : ℕ) → n ≡ c.n → ChosenIn c (first (those f (below n)))
chosen-in c f n e = by (first (those f (below n))) refl
  where
    by : (o : Option ℕ) → first (those f (below n)) ≡ o → ChosenIn c o
    by None q = tt
    by (Some i) q = let h = (first-least f n q).0 in omega arith

pub chosen-says : (c : Case) (w : List ℤ) (o : Option ℕ) → chosen c w ≡ o → ChosenIs c w o
chosen-says c w None e = e
chosen-says c w (Some i) e = e

module _ (c : Case) (w : List ℤ) where
  -- all other scopes raised
  pub others-refuted : (i : ℕ) (raised : List ℕ) → OthersRaised c i raised → refutes_in c w i raised ≡ active_refuted c w i (others c i)
  others-refuted i raised o = refutes-alike c w (λ y h. o y h ∙ sym (others-in c i y h)) i

  -- all scopes raised
  all-refuted : Shape c → (raised : List ℕ) → AllRaised c raised → (i : ℕ) → i < c.n → refutes_in c w i raised ≡ active_refuted c w i (others c i)
  all-refuted shape raised all i h =
      own-scope c w i h shape (is_raised raised) (is_in (others c i)) (λ x g ne. all x g ∙ sym (others-in c i x g ∙ ap not (ne_eqb x i ne)))

  pub lowest-chosen : {acts rows : List ℕ} (raised sets : List ℕ) → Prepared c w acts rows → AllRaised c raised
      → ((j : ℕ) → j < c.n → get_or sets j 0 ≡ get_or acts j 0)
      → length c.lower ≡ edge_places → length c.upper ≡ edge_places → scope_count c ≤ length raised → c.n ≤ length sets
      → lowest_unsupported c.lower c.upper acts rows (edges_of c raised) (take c.n sets) ≡ chosen c w
  lowest-chosen {acts} {rows} raised sets p all same lowers uppers long room =
      ap (λ (n : ℕ). first (those (λ i. says_unsupported (tried_answer c.lower c.upper rows (edges_of c raised) (take c.n sets) i (get_or acts i 0)))
      (below n))) (length-take-le c.n sets room)
      ∙ ap first (those-same c.n (λ i h.
      asked-says c w raised sets (is_raised raised) p (allowing-all c w acts raised sets p.acts-are same all) (λ e g. refl) lowers uppers long room i h
      ∙ all-refuted p.handed.shape raised all i h))

module _ (c : Case) (raised : List ℕ) (all : AllRaised c raised) (i : ℕ) (h : i < length raised) where
  lowered : OthersRaised c i (set raised i 0)
  lowered y g = ⊎_elim
      (λ t. rw (is_true (eqb y i) t) (subst (λ (k : ℕ). is_raised (set raised i 0) k ≡ false) (sym (eqb→eq y i t)) (raised-here raised i 0 h)))
      (λ t. rw (is_false (eqb y i) t) (raised-elsewhere raised i 0 y ((not-eqb-iff y i).0 t) ∙ all y g))
      (either (eqb y i))

  pub lowered-one : {after : List ℕ} → after ≡ set raised i 0 → OthersRaised c i after
  lowered-one e = subst (λ (l : List ℕ). OthersRaised c i l) (sym e) lowered
