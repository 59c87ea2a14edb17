-- What the closure's private functions do to the sets: values without a partner are struck, edge by edge. Assumes nothing.
use Rattle.std.specs.Prelude.{◌≡◌, Bool, true, false, List, [], ◌∷◌, ℕ, ◌+◌, ◌*◌, ◌≤◌, ◌<◌, T, eqb, length, get_or, if◌then◌else◌}
use Rattle.definitions.specs.Consistency.{Family}
use Rattle.networks.specs.Network.{Network, SupportedIn}
use Rattle.networks.proofs.Networks.{Within, NoFamily}
use Rattle.arcs.specs.Partners.{supported_values}
use Rattle.arcs.specs.Closure.{sets_of}
use Rattle.arcs.specs.declared.Change.{Change}
use Rattle.arcs.specs.declared.Change.TheVariants.{Still, Struck, Emptied}

-- the ends and rows of the edges are there, and each end is a variable
pub record WellFormed (n : ℕ) (lower upper rows raised : List ℕ) : Type 0 where
  pub lowers : length raised ≤ length lower
  pub uppers : length raised ≤ length upper
  pub room : 16 * length raised ≤ length rows
  pub ends : (e : ℕ) → e < length raised → (get_or lower e 0 < n) × (get_or upper e 0 < n)

-- what is left of a set says what was done
abbrev pub change_of : ℕ → ℕ → Change
change_of own kept = if eqb kept 0 then Emptied else if eqb kept own then Still else Struck

abbrev pub both_of : Change → Change → Change
both_of Emptied q = Emptied
both_of Still q = q
both_of Struck Still = Struck
both_of Struck Struck = Struck
both_of Struck Emptied = Emptied

-- variable i keeps the values that have a partner in variable j's set
abbrev pub kept_of : List ℕ → ℕ → ℕ → ℕ → List ℕ → ℕ
kept_of rows at i j S = supported_values rows at (get_or S i 0) (get_or S j 0)

-- the sum of the bytes, which falls with every strike
unfoldable pub total : List ℕ → ℕ
total [] = 0
total (s ∷ S) = s + total S

-- every variable has a value
abbrev pub Filled : List ℕ → Type 0
Filled S = (j : ℕ) → j < length S → get_or S j 0 ≡ 0 → ⊥

-- an edge seen from one of its ends: from the upper one if `up`
module _ (N : Network) where
  abbrev pub own : Bool → ℕ → ℕ
  own false e = N.lower e
  own true e = N.upper e

  abbrev pub other : Bool → ℕ → ℕ
  other false e = N.upper e
  other true e = N.lower e

  abbrev pub partner : Bool → ℕ → ℕ → ℕ → Bool
  partner false e v u = N.above e v u
  partner true e v u = N.below e u v

  -- every value at that end has a partner
  abbrev pub ClosedAt : Family → Bool → ℕ → Type 0
  ClosedAt F up e = (v : ℕ) → v < N.values → T (F (own up e) v) → (u : ℕ) × (u < N.values) × T (F (other up e) u) × T (partner up e v u)

  -- S' is S without values that no supported family has
  pub record Fewer (S S' : List ℕ) : Type 0 where
    pub same_length : length S' ≡ length S
    pub inside : Within N (sets_of S') (sets_of S)
    pub keeps : (G F : Family) → SupportedIn N G F → Within N F (sets_of S) → Within N F (sets_of S')
    pub less : total S' ≤ total S

  -- nothing was struck, and the ends of edges that were visited are closed; something was struck; a set is empty
  abbrev pub Said : (ℕ → Bool → Type 0) → List ℕ → List ℕ → Change → Type 0
  Said visited S S' Still = (S' ≡ S) × (Filled S → (e : ℕ) (up : Bool) → visited e up → ClosedAt (sets_of S) up e)
  Said visited S S' Struck = (total S' < total S) × (Filled S → Filled S')
  Said visited S S' Emptied = (j : ℕ) × (j < N.variables) × ((v : ℕ) → v < N.values → T (sets_of S' j v) → ⊥)

  pub record Swept (visited : ℕ → Bool → Type 0) (S S' : List ℕ) (change : Change) : Type 0 where
    pub fewer : Fewer S S'
    pub said : Said visited S S' change

  -- the largest supported family inside G is left, or there is none
  abbrev pub SettledSets : Family → List ℕ → Bool → Type 0
  SettledSets G S true = SupportedIn N G (sets_of S) × ((F : Family) → SupportedIn N G F → Within N F (sets_of S))
  SettledSets G S false = NoFamily N G
