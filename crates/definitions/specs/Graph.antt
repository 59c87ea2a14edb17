-- Document 02, change 4, "Hilltop chains": where the pairs form no loop. Assumes nothing.
use Rattle.std.specs.Prelude.{Bool, not, List, [], ◌∷◌, map, ℕ, ◌<◌, T, eqb, get_or, if◌then◌else◌}
use Rattle.integers.specs.Words.{below, is_in, all, those}
use Rattle.definitions.specs.declared.Case.{Case}
use Rattle.definitions.specs.Case.{lower_end, upper_end}

-- variables i and j are connected by some edges: a walk leads from i to j, each step from one end of such an edge to its other end
pub data Connected (c : Case) (edges : List ℕ) : ℕ → ℕ → Type 0 where
  here : {i : ℕ} → Connected c edges i i
  up : {j : ℕ} (e : ℕ) → T (is_in edges e) → Connected c edges (upper_end c e) j → Connected c edges (lower_end c e) j
  down : {j : ℕ} (e : ℕ) → T (is_in edges e) → Connected c edges (lower_end c e) j → Connected c edges (upper_end c e) j

-- all edges but e
abbrev pub other_edges : Case → ℕ → List ℕ
other_edges c e = those (λ f. not (eqb f e)) (below c.m)

-- the edges form no cycle (the pairs form no loop): no edge's two ends are connected by the other edges
abbrev pub Acyclic : Case → Type 0
Acyclic c = (e : ℕ) → e < c.m → Connected c (other_edges c e) (lower_end c e) (upper_end c e) → ⊥

-- ---- the same as tests: in a case that numbers 3, 5 and 6 do not refuse, `connected` decides `Connected`, of its own edges and variables, and
-- `is_acyclic` decides `Acyclic` (graph_theory, Walks)

abbrev pub renamed : ℕ → ℕ → ℕ → ℕ
renamed from to label = if eqb label from then to else label

-- an edge joins the two parts that its ends lie in: all variables with the label of its upper end get that of its lower end
abbrev pub relabelled : Case → ℕ → List ℕ → List ℕ
relabelled c e labels = map (renamed (get_or labels (upper_end c e) 0) (get_or labels (lower_end c e) 0)) labels

-- each variable's label: at first its own number, then edge after edge
abbrev pub labelled : Case → List ℕ → List ℕ
labelled c [] = below c.n
labelled c (e ∷ edges) = relabelled c e (labelled c edges)

abbrev pub connected : Case → List ℕ → ℕ → ℕ → Bool
connected c edges i j = let labels = labelled c edges in eqb (get_or labels i 0) (get_or labels j 0)

abbrev pub is_acyclic : Case → Bool
is_acyclic c = all (λ e. not (connected c (other_edges c e) (lower_end c e) (upper_end c e))) (below c.m)
