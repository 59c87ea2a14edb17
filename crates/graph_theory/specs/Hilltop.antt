-- Document 02, change 4, "Hilltop chains", as a statement about states: a case and a table, reached by whatever moves. Assumes nothing.
use Rattle.std.specs.Prelude.{◌≡◌, List, ℕ, ◌<◌, ℤ, ◌+ℤ◌, T, ◌≤ℤ◌}
use Rattle.definitions.specs.declared.Case.{Case}
use Rattle.definitions.specs.Case.{scope_count, is_assignment, at_used, objective, upper_bound, active, is_lawful}
use Rattle.definitions.specs.Graph.{Acyclic}
use Rattle.definitions.specs.Engine.{NoPress}

-- assignment p meets the upper bound
pub record Meets (c : Case) (w : List ℤ) (p : List ℕ) : Type 0 where
  -- it "uses active combinations only,"
  pub active-only : (x : ℕ) → x < scope_count c → T (at_used c p x (active c w x))
  -- "so the ceiling equals the greatest working total", to which the carry is added (document 02, change 5)
  pub total : upper_bound c w ≡ objective c w p +ℤ c.carry
  pub none-greater : (q : List ℕ) → T (is_assignment c q) → objective c w q ≤ℤ objective c w p
  -- "It holds with barred channels too, and such a plan is lawful."
  pub lawful : T (is_lawful c w p)

-- "Where the pairs form no loop," "in a state where the engine has no press and no void line left some plan" does; pair rounds may be left
abbrev pub Hilltop : Case → List ℤ → Type 0
Hilltop c w = Acyclic c → NoPress c w → (p : List ℕ) × Meets c w p

-- assignment p has the greatest objective of all lawful ones
pub record Best (c : Case) (w : List ℤ) (p : List ℕ) : Type 0 where
  pub lawful : T (is_lawful c w p)
  pub none-greater : (q : List ℕ) → T (is_lawful c w q) → objective c w q ≤ℤ objective c w p
