-- The closure of given sets: the largest supported family inside them. Sets are bytes, a mark for each value. Assumes nothing.
use Rattle.std.specs.Prelude.{Bool, not, ◌&&◌, ◌||◌, List, map, ℕ, ◌+◌, ◌*◌, ltb, eqb, length, get_or, if◌then◌else◌}
use Rattle.integers.specs.Words.{below, any}
use Rattle.definitions.specs.Rules.{edge_places}
use Rattle.definitions.specs.Consistency.{Family, marks}
use Rattle.networks.specs.Network.{Network, supported_in, families_of, largest}
use Rattle.marks.specs.Marks.{mark, byte_of}
use Rattle.arcs.specs.declared.Closed.{Closed}
use Rattle.arcs.specs.declared.Closed.TheVariants.{Malformed, Empty, Family as SomeFamily}

-- the places of arrays: two arcs for each edge, eight rows for each arc
abbrev pub arc_places : ℕ
arc_places = 2 * edge_places

abbrev pub row_places : ℕ
row_places = 8 * arc_places

-- the sets of a list of bytes, a byte for each variable
abbrev pub sets_of : List ℕ → Family
sets_of sets j v = mark (get_or sets j 0) v

-- n variables with eight values, and an edge for each byte of `raised`, which joins `lower` e and `upper` e. Sixteen bytes of `rows` for each
-- edge: the partners of value k of the lower end, then those of value l of the upper end. An edge whose byte is 0 allows everything.
abbrev pub network_of_bytes : ℕ → List ℕ → List ℕ → List ℕ → List ℕ → Network
network_of_bytes n lower upper rows raised = record {
  variables = n;
  values = 8;
  edges = length raised;
  lower = λ e. get_or lower e 0;
  upper = λ e. get_or upper e 0;
  above = λ e k l. eqb (get_or raised e 0) 0 || mark (get_or rows (16 * e + k) 0) l;
  below = λ e k l. eqb (get_or raised e 0) 0 || mark (get_or rows (16 * e + 8 + l) 0) k;
}

abbrev pub end_missing : ℕ → List ℕ → List ℕ → ℕ → Bool
end_missing n lower upper e = not (ltb (get_or lower e 0) n && ltb (get_or upper e 0) n)

-- too few ends or rows for the edges, or an end that is no variable
abbrev pub is_malformed : ℕ → List ℕ → List ℕ → List ℕ → List ℕ → Bool
is_malformed n lower upper rows raised =
    ltb (length lower) (length raised) || ltb (length upper) (length raised) || ltb (length rows) (16 * length raised)
    || any (end_missing n lower upper) (below (length raised))

-- some family is supported inside G
abbrev pub some_family : Network → Family → Bool
some_family N G = any (λ F. supported_in N G (marks F)) (families_of N)

unfoldable pub closure_answer : List ℕ → List ℕ → List ℕ → List ℕ → List ℕ → Closed
closure_answer lower upper rows raised sets =
    if is_malformed (length sets) lower upper rows raised
    then Malformed
    else if some_family (network_of_bytes (length sets) lower upper rows raised) (sets_of sets)
    then SomeFamily
    else Empty

-- the largest supported family inside the given sets; nothing changes where the call is malformed
unfoldable pub closure_sets : List ℕ → List ℕ → List ℕ → List ℕ → List ℕ → List ℕ
closure_sets lower upper rows raised sets =
    if is_malformed (length sets) lower upper rows raised
    then sets
    else map (λ j. byte_of (largest (network_of_bytes (length sets) lower upper rows raised) (sets_of sets) j)) (below (length sets))
