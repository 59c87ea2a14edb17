-- The table that a program lends: zeros, as many as the head of the case asks for. Assumes nothing.
use Rattle.definitions.specs.Answers.{size_with}
use mathlib.Core.Path.{◌≡◌, refl, sym, ap, ◌∙◌}
use mathlib.Core.Bool.{Bool, true, false}
use mathlib.Core.List.{List, ◌∷◌}
use Prim.Native.Nat.{ℕ, zero, suc, ◌*◌, ◌≤◌}
use native.Mathlib.Nat.{mul-le-mul, mul-le-mul_left}
use native.Mathlib.Omega.{arith}
use lib.IntN.{ℤ, pos}
use lib.ListN.{length, take, replicate, length-replicate}
use Rattle.std.specs.Prelude.{if◌then◌else◌, Result, Ok, Err, Option, Some, None}
use Rattle.integers.specs.Options.{none-some}
use Rattle.definitions.specs.declared.Case.{Case}
use Rattle.definitions.specs.declared.Rulebook.{Rulebook}
use Rattle.definitions.specs.declared.Line.{Line}
use Rattle.definitions.specs.declared.CaseSize.{CaseSize}
use Rattle.definitions.specs.declared.Refusal.{Refusal}
use Rattle.definitions.specs.declared.Refusal.TheVariants.{CutShort}
use Rattle.definitions.specs.Rules.{Rules, rules_in, coherent}
use Rattle.definitions.specs.Places.{longest_table, table_places, placed}
use Rattle.definitions.specs.Refusals.{first_refusal}
use Rattle.definitions.specs.Case.{lent_length}
use Rattle.definitions.specs.CaseFiles.{head_tests, headed, is_cut, first_line, head_refusal, case_size}
use Rattle.definitions.specs.Programs.{table_for}
use Rattle.case_theory.proofs.CaseTests.{case-kinds, head_passed}
use Rattle.judging.proofs.Fronts.{front-sized}

module _ (book : Rulebook) where
  abbrev r : Rules
  r = rules_in book

  -- a head that is taken asks for no longer one
  head-long : (b : Bool) (l : Option Line) → (if b then Some CutShort else first_refusal (head_tests r l)) ≡ None → lent_length r (headed book l) ≤ longest_table r
  head-long true l e = absurd (none-some (sym e))
  head-long false None e = absurd (none-some (sym e))
  head-long false (Some l) e =
      let (same, limits) = head_passed (case-kinds (coherent book)) l e in
      let d : ℕ = (headed book (Some l)).d in
      let p : r.variables * d ≤ r.variables * r.values = mul-le-mul_left r.variables limits.values-most in
      let q : d * d ≤ r.values * r.values = mul-le-mul limits.values-most limits.values-most in
      let u : r.edges * (d * d) ≤ r.edges * (r.values * r.values) = mul-le-mul_left r.edges q in
      omega arith

  table-long : (t : List ℕ) → length (table_for (case_size book t)) ≤ longest_table r
  unfolding front-sized
  table-long t = go (head_refusal r t) refl
    where
      go : (o : Option Refusal) → head_refusal r t ≡ o → length (table_for (front-sized book o (first_line r t))) ≤ longest_table r
      go None e = let c : Case = headed book (first_line r t) in omega (arith, length-replicate (lent_length r c) (pos 0), head-long (is_cut r t) (first_line r t) e)
      go (Some x) e = omega arith

  -- the programs' tables have places for it
  pub table-most : (t : List ℕ) → length (table_for (case_size book t)) ≤ table_places
  table-most t = omega (arith, table-long t, (placed book).table)

-- its length by what the head says
pub size-refused : {s : Result CaseSize Refusal} {x : Refusal} → s ≡ Err x → 0 ≡ length (table_for s)
size-refused e = rw e

pub size-given : {s : Result CaseSize Refusal} {n d m long : ℕ} → s ≡ Ok (size_with n d m long) → long ≡ length (table_for s)
size-given {long = long} e = rw e (sym (length-replicate long (pos 0)))

-- so many of the zeros
zeros : (k n : ℕ) → k ≤ n → take k (replicate n (pos 0)) ≡ replicate k (pos 0)
zeros zero n h = refl
zeros (suc k) zero h = absurd (omega arith)
zeros (suc k) (suc n) h = ap (λ (l : List ℤ). pos 0 ∷ l) (zeros k n (omega arith))

table-zeros : (s : Result CaseSize Refusal) → replicate (length (table_for s)) (pos 0) ≡ table_for s
table-zeros (Err x) = refl
table-zeros (Ok s) = ap (λ (k : ℕ). replicate k (pos 0)) (length-replicate s.table (pos 0))

pub table-lent : (s : Result CaseSize Refusal) (most : ℕ) → length (table_for s) ≤ most → take (length (table_for s)) (replicate most (pos 0)) ≡ table_for s
table-lent s most h = zeros (length (table_for s)) most h ∙ table-zeros s
