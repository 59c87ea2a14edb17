-- Parts of a list, by what stands at each place. Assumes nothing.
use Rattle.std.specs.Prelude.{◌≡◌, List, ℕ, ◌+◌, ◌≤◌, ◌<◌, ℤ, pos, length, get_or}

-- v is u with the numbers f j, .. , f (count − 1) written at places to + j, .. ; `none` stands past a list's end
pub record Written {A : Type 0} (none : A) (u v : List A) (to j count : ℕ) (f : ℕ → A) : Type 0 where
  pub long : length v ≡ length u
  pub before : (q : ℕ) → q < to + j → get_or v q none ≡ get_or u q none
  pub there : (i : ℕ) → j ≤ i → i < count → get_or v (to + i) none ≡ f i
  pub past : (q : ℕ) → to + count ≤ q → get_or v q none ≡ get_or u q none

-- v is u with `count` weights from place `first` on moved up by `wide` places, and the weights f 0, .. put in there
pub record PutIn (u v : List ℤ) (first wide count : ℕ) (f : ℕ → ℤ) : Type 0 where
  pub long : length v ≡ length u
  pub before : (q : ℕ) → q < first → get_or v q (pos 0) ≡ get_or u q (pos 0)
  pub there : (i : ℕ) → i < wide → get_or v (first + i) (pos 0) ≡ f i
  pub moved : (i : ℕ) → i < count → get_or v (first + wide + i) (pos 0) ≡ get_or u (first + i) (pos 0)
  pub past : (q : ℕ) → first + wide + count ≤ q → get_or v q (pos 0) ≡ get_or u q (pos 0)
