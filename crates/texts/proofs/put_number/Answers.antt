use Rattle.std.specs.Prelude.{Result, Ok, Err}
use mathlib.Core.Path.{◌≡◌, ap, ◌∙◌}
use Prim.Native.Nat.{ℕ, ◌+◌, ◌≤◌}
use native.Mathlib.Omega.{arith}
use lib.ListN.{length, drop, length-drop}
use Rattle.definitions.specs.declared.Refusal.{Refusal}
use Rattle.definitions.specs.Lines.{number_text, overwritten}
use Rattle.lines.proofs.Answers.{number-done}
use Rattle.lines.proofs.Signs.{same}
use Rattle.texts.proofs.Placed.{part-is, part_placed}
use Rattle.texts.proofs.put_number.Goals as goal
use Rattle.texts.proofs.put_number.Goals.{After-write_number-written}

-- The number is written into the part from `at` on, which has room for it. Assumes nothing.
filled : (c : After-write_number-written) → (c.write_number-written.result ≡ Ok (length (number_text c.args.z)))
    × (c.write_number-written.new.out ≡ overwritten (number_text c.args.z) (drop c.args.at c.args.out.now))
filled c =
    let at = c.args.at in
    let out = c.args.out.now in
    let z = c.args.z in
    let room : length (number_text z) ≤ length (drop at out) = omega (arith, length-drop at out) in
    let e = number-done (drop at out) z room in
    let (p, q) = c.write_number-written.ensures in
    (p ∙ rw (part-is at out, same z c.ranges.z) (ap (λ r. r.answer) e), q ∙ rw (part-is at out, same z c.ranges.z) (ap (λ r. r.out) e))

bytes_same : {r : Result ℕ Refusal} {m n : ℕ} → r ≡ Ok m → r ≡ Ok n → m ≡ n
bytes_same p q = cc

never : {r : Result ℕ Refusal} {x : Refusal} {n : ℕ} → r ≡ Err x → r ≡ Ok n → ⊥
never p q = cc

pub overflow_add-result : goal.overflow_add-result
overflow_add-result c =
    let e = bytes_same c.in-Ok.is (filled (goal.at.overflow_add-result c).After-write_number-written).0 in omega arith

pub returns-in-Ok : goal.returns-in-Ok
returns-in-Ok c =
    let f = filled (goal.at.returns-in-Ok c).After-write_number-written in (
      ap (λ (n : ℕ). c.args.at + n) (bytes_same c.in-Ok.is f.0),
      part_placed c.args.at c.args.out.now (number_text c.args.z) c.write_number-written.new.out f.1 (omega arith),
    )

pub returns-in-Err : goal.returns-in-Err
returns-in-Err c = absurd (never c.in-Err.is (filled (goal.at.returns-in-Err c).After-write_number-written).0)
