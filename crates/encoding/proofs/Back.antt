-- What was written is read back, for every case and every record that the types can hold. Assumes nothing.
use Rattle.definitions.specs.Answers.{outcome_of, outcome_says}
use Rattle.std.specs.Prelude.{Result, Ok, Err, Option, Some, None, ⊤}
use Rattle.definitions.specs.declared.Refusal.{Refusal}
use mathlib.Core.Path.{◌≡◌, refl, ap, ◌∙◌}
use mathlib.Core.Bool.{Bool, true, false}
use mathlib.Core.List.{List, ◌++◌, append_assoc}
use Prim.Native.Nat.{ℕ, ◌+◌, ◌^◌, ◌<◌}
use native.Mathlib.Omega.{arith}
use lib.Dec.{leb, eqb}
use lib.IntN.{ℤ}
use lib.ListN.{length, take, drop, get_or, length-append}
use lib.Seq.{take_at, drop_at, take_all}
use mir.Syntax.{w64}
use mir.Val.{SFits}
use Rattle.definitions.specs.declared.Rulebook.TheVariants.{Desk}
use Rattle.definitions.specs.Rules.{edge_places, scope_places}
use Rattle.definitions.specs.declared.Case.{Case}
use Rattle.definitions.proofs.AnswerLaws.{numbered, same-said}
use Rattle.checker.specs.declared.Target.{Target}
use Rattle.checker.specs.declared.Due.{Due}
use Rattle.checker.specs.declared.Replay.{Replay}
use Rattle.encoding.specs.declared.Begun.{Begun}
use Rattle.encoding.specs.Numbers.{value_of_bytes, number_bytes, number_at, word_of, signed_of}
use Rattle.encoding.specs.CaseBytes.{bytes_of_case, case_in}
use Rattle.encoding.specs.RecordBytes.{
  last_recorded,
  begun_recorded,
  due_recorded,
  standing_at,
  flag,
  record_numbers,
  record_tags,
  record_bytes,
  is_record,
  begun_at,
  record_in,
}
use Rattle.encoding.proofs.Signed.{signed_back, bits_fit}
use Rattle.encoding.proofs.Values.{number-back}

-- ---- the case

pub record CaseHeld (c : Case) : Type 0 where
  pub n : c.n < 2 ^ 64
  pub d : c.d < 2 ^ 64
  pub m : c.m < 2 ^ 64
  pub lower : length c.lower ≡ edge_places
  pub upper : length c.upper ≡ edge_places
  pub carry : SFits w64 c.carry
  pub desk : c.rulebook ≡ Desk

module _ (c : Case) (h : CaseHeld c) where
  n-is : number_at (bytes_of_case c) 0 ≡ c.n
  unfolding number_at number_bytes bytes_of_case
  n-is = number-back c.n h.n

  d-is : number_at (bytes_of_case c) 8 ≡ c.d
  unfolding number_at number_bytes bytes_of_case
  d-is = number-back c.d h.d

  m-is : number_at (bytes_of_case c) 16 ≡ c.m
  unfolding number_at number_bytes bytes_of_case
  m-is = number-back c.m h.m

  abbrev carried : List ℕ
  carried = number_bytes (word_of c.carry)

  lower-is : take edge_places (drop 24 (bytes_of_case c)) ≡ c.lower
  unfolding number_bytes bytes_of_case
  lower-is = ap (take edge_places) (append_assoc c.lower c.upper carried) ∙ take_at c.lower (c.upper ++ carried) edge_places h.lower

  upper_is : take edge_places (drop (24 + edge_places) (bytes_of_case c)) ≡ c.upper
  unfolding number_bytes bytes_of_case
  upper_is =
      ap (λ (l : List ℕ). take edge_places (drop edge_places l)) (append_assoc c.lower c.upper carried)
      ∙ ap (take edge_places) (drop_at c.lower (c.upper ++ carried) edge_places h.lower) ∙ take_at c.upper carried edge_places h.upper

  carry-is : number_at (bytes_of_case c) (24 + (edge_places + edge_places)) ≡ word_of c.carry
  unfolding number_at number_bytes bytes_of_case
  carry-is =
      let k : length (c.lower ++ c.upper) ≡ edge_places + edge_places = rw (length-append, h.lower, h.upper) in
      ap (λ (l : List ℕ). value_of_bytes (take 8 l)) (drop_at (c.lower ++ c.upper) carried (edge_places + edge_places) k)
      ∙ number-back (word_of c.carry) (bits_fit c.carry h.carry)

  pub case-back : case_in (bytes_of_case c) ≡ c
  unfolding case_in
  case-back = rw (n-is, d-is, m-is, lower-is, upper_is, carry-is, signed_back c.carry h.carry, ← h.desk)

-- ---- what is due and what stands

due-back : (due : Due) → due_recorded (begun_recorded due) ≡ due
due-back Due.MoveOrBound = refl
due-back (Due.Raise i (Target.Press a) left None) = refl
due-back (Due.Raise i (Target.Press a) left (Some x)) = refl
due-back (Due.Raise i Target.Void left None) = refl
due-back (Due.Raise i Target.Void left (Some x)) = refl
due-back Due.Nothing = refl

flag-back : (b : Bool) → eqb (flag b) 1 ≡ b
flag-back true = refl
flag-back false = refl

standing-back : (s : Result ⊤ Refusal) → standing_at (outcome_says s).number ≡ s
standing-back (Ok tt) = refl
standing-back (Err x) = ap outcome_of (numbered x).back

flag-most : (b : Bool) → leb (flag b) 1 ≡ true
flag-most true = refl
flag-most false = refl

last-most : (x : Option ℕ) → leb (last_recorded x).known 1 ≡ true
last-most None = refl
last-most (Some x) = refl

kind-most : (due : Due) → leb (begun_recorded due).kind 3 ≡ true
kind-most Due.MoveOrBound = refl
kind-most (Due.Raise i (Target.Press a) left last_one) = refl
kind-most (Due.Raise i Target.Void left last_one) = refl
kind-most Due.Nothing = refl

known-most : (due : Due) → leb (begun_recorded due).last.known 1 ≡ true
known-most Due.MoveOrBound = refl
known-most (Due.Raise i target left last_one) = last-most last_one
known-most Due.Nothing = refl

standing-most : (s : Result ⊤ Refusal) → leb (outcome_says s).number 16 ≡ true
standing-most (Ok tt) = refl
standing-most (Err x) = (numbered x).most

-- standings that say the same are equal, as answers are (definitions' AnswerLaws)
pub standing-same : (a b : Result ⊤ Refusal) → outcome_says a ≡ outcome_says b → a ≡ b
standing-same = same-said outcome_says (λ s. standing_at s.number) standing-back

-- ---- the record

pub record RecordHeld (p : Replay) : Type 0 where
  pub rounds : p.rounds < 2 ^ 64
  pub start : SFits w64 p.start
  pub raised : length p.raised ≡ scope_places
  pub variable : (begun_recorded p.due).variable < 2 ^ 64
  pub amount : SFits w64 (begun_recorded p.due).amount
  pub left : (begun_recorded p.due).left < 2 ^ 64
  pub scope : (begun_recorded p.due).last.scope < 2 ^ 64

signed : (z : ℤ) → SFits w64 z → {x : ℕ} → x ≡ word_of z → signed_of x ≡ z
signed z f e = ap signed_of e ∙ signed_back z f

same-begun :
    (q : Begun) {b v l k s : ℕ} {a : ℤ}
    → b ≡ q.kind
    → v ≡ q.variable
    → a ≡ q.amount
    → l ≡ q.left
    → k ≡ q.last.known
    → s ≡ q.last.scope
    → ◌≡◌ {A = Begun} (record { kind = b; variable = v; amount = a; left = l; last = record { known = k; scope = s } }) q
same-begun q e f g i j k = rw (e, f, g, i, j, k)

same-record :
    (p : Replay) {n : ℕ} {z : ℤ} {b : Bool} {l : List ℕ} {d : Due} {s : Result ⊤ Refusal}
    → n ≡ p.rounds
    → z ≡ p.start
    → b ≡ p.moved
    → l ≡ p.raised
    → d ≡ p.due
    → s ≡ p.standing
    → ◌≡◌ {A = Replay} (record { rounds = n; start = z; moved = b; raised = l; due = d; standing = s }) p
same-record p e f g i j k = rw (e, f, g, i, j, k)

module _ (p : Replay) where
  moved_at : get_or (record_bytes p) 48 0 ≡ flag p.moved
  unfolding number_bytes record_numbers record_tags record_bytes
  moved_at = refl

  kind_at : get_or (record_bytes p) 49 0 ≡ (begun_recorded p.due).kind
  unfolding number_bytes record_numbers record_tags record_bytes
  kind_at = refl

  known_at : get_or (record_bytes p) 50 0 ≡ (begun_recorded p.due).last.known
  unfolding number_bytes record_numbers record_tags record_bytes
  known_at = refl

  standing-at : get_or (record_bytes p) 51 0 ≡ (outcome_says p.standing).number
  unfolding number_bytes record_numbers record_tags record_bytes
  standing-at = refl

  -- what is written says a record
  pub is-record : is_record (record_bytes p) ≡ true
  unfolding is_record
  is-record =
      rw (moved_at, kind_at, known_at, standing-at, flag-most p.moved, kind-most p.due, known-most p.due, standing-most p.standing)

  module _ (h : RecordHeld p) where
    rounds-is : number_at (record_bytes p) 0 ≡ p.rounds
    unfolding number_at number_bytes record_numbers record_tags record_bytes
    rounds-is = number-back p.rounds h.rounds

    start_is : number_at (record_bytes p) 8 ≡ word_of p.start
    unfolding number_at number_bytes record_numbers record_tags record_bytes
    start_is = number-back (word_of p.start) (bits_fit p.start h.start)

    variable-is : number_at (record_bytes p) 16 ≡ (begun_recorded p.due).variable
    unfolding number_at number_bytes record_numbers record_tags record_bytes
    variable-is = number-back (begun_recorded p.due).variable h.variable

    amount-is : number_at (record_bytes p) 24 ≡ word_of (begun_recorded p.due).amount
    unfolding number_at number_bytes record_numbers record_tags record_bytes
    amount-is = number-back (word_of (begun_recorded p.due).amount) (bits_fit (begun_recorded p.due).amount h.amount)

    left_is : number_at (record_bytes p) 32 ≡ (begun_recorded p.due).left
    unfolding number_at number_bytes record_numbers record_tags record_bytes
    left_is = number-back (begun_recorded p.due).left h.left

    scope-is : number_at (record_bytes p) 40 ≡ (begun_recorded p.due).last.scope
    unfolding number_at number_bytes record_numbers record_tags record_bytes
    scope-is = number-back (begun_recorded p.due).last.scope h.scope

    raised_is : take scope_places (drop 52 (record_bytes p)) ≡ p.raised
    unfolding number_bytes record_numbers record_tags record_bytes
    raised_is = take_all scope_places p.raised (omega (arith, h.raised))

    begun-is : begun_at (record_bytes p) ≡ begun_recorded p.due
    begun-is =
        same-begun (begun_recorded p.due) kind_at variable-is (signed (begun_recorded p.due).amount h.amount amount-is) left_is known_at scope-is

    pub record-back : record_in (record_bytes p) ≡ p
    unfolding record_in
    record-back =
        same-record p rounds-is (signed p.start h.start start_is) (ap (λ (b : ℕ). eqb b 1) moved_at ∙ flag-back p.moved) raised_is
        (ap due_recorded begun-is ∙ due-back p.due) (ap standing_at standing-at ∙ standing-back p.standing)
