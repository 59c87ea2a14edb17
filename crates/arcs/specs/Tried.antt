-- Values that are tried one by one: each alone in the set of a variable, inside given sets. Assumes nothing.
use Rattle.std.specs.Prelude.{Bool, not, ◌||◌, List, ℕ, ltb, length, get_or, set, if◌then◌else◌}
use Rattle.integers.specs.Words.{below, all, ◌⇒◌}
use Rattle.definitions.specs.Rules.{variable_places}
use Rattle.networks.specs.Network.{Network}
use Rattle.marks.specs.Marks.{mark, only_of, in_both}
use Rattle.arcs.specs.Closure.{network_of_bytes, sets_of, is_malformed, some_family}
use Rattle.arcs.specs.declared.Tried.{Tried}
use Rattle.arcs.specs.declared.Tried.TheVariants.{Malformed, Unsupported, Supported}

-- some family is supported inside the sets with value k alone for variable i
abbrev pub has_family : Network → List ℕ → ℕ → ℕ → Bool
has_family N sets i k = some_family N (sets_of (set sets i (in_both (get_or sets i 0) (only_of k))))

-- no value of a set has a family
unfoldable pub none_has : (ℕ → Bool) → ℕ → Bool
none_has has values = all (λ k. mark values k ⇒ not (has k)) (below 8)

unfoldable pub tried_answer : List ℕ → List ℕ → List ℕ → List ℕ → List ℕ → ℕ → ℕ → Tried
tried_answer lower upper rows raised sets i values =
    if is_malformed (length sets) lower upper rows raised || not (ltb i (length sets)) || ltb variable_places (length sets)
    then Malformed
    else if none_has (has_family (network_of_bytes (length sets) lower upper rows raised) sets i) values
    then Unsupported
    else Supported
