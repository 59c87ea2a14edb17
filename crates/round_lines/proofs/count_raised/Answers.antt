use mathlib.Core.Path.{◌≡◌, refl, sym, ap, subst, ◌∙◌}
use mathlib.Core.Bool.{Bool, true, false, not}
use mathlib.Core.List.{List}
use Prim.Native.Nat.{ℕ, zero, suc, ◌+◌, ◌≤◌, ◌<◌}
use native.Mathlib.Omega.{arith}
use borrow.Author.Rules.{rules}
use lib.Dec.{eqb}
use lib.ListN.{length, take, length-append}
use lib.Seq.{take_all}
use Rattle.std.specs.List.{count_by}
use Rattle.std.proofs.lemmas.List.Sums.{count_by_more_yes, count_by_more_no}
use Rattle.calls.specs.Calls.{is_raised}
use Rattle.round_lines.specs.Press.{raised_below, raised_from}
use Rattle.round_lines.proofs.Texts.{raised-next, none-raised, one-raised}
use Rattle.round_lines.proofs.count_raised.Goals as goal

abbrev marked : ℕ → Bool
marked x = not (eqb x 0)

one_more : (r : List ℕ) (n : ℕ) (b : Bool) → n < length r → is_raised r n ≡ b → count_by marked (take n r) ≡ length (raised_below r n)
    → count_by marked (take (n + 1) r) ≡ length (raised_below r (n + 1))
one_more r n true h e before =
    omega (
      arith,
      before,
      count_by_more_yes marked r n 0 h e,
      ap length (raised-next r n),
      length-append (raised_below r n) (raised_from r n 1),
      ap length (one-raised r n e),
    )
one_more r n false h e before =
    omega (
      arith,
      before,
      count_by_more_no marked r n 0 h e,
      ap length (raised-next r n),
      length-append (raised_below r n) (raised_from r n 1),
      ap length (none-raised r n e),
    )

counted : (r : List ℕ) (n : ℕ) → n ≤ length r → count_by marked (take n r) ≡ length (raised_below r n)
counted r zero h = refl
counted r (suc n) h =
    let next : n + 1 ≡ suc n = omega arith in
    subst (λ (k : ℕ). count_by marked (take k r) ≡ length (raised_below r k)) next
    (one_more r n (is_raised r n) (omega arith) refl (counted r n (omega arith)))

pub returns : goal.returns
returns c =
    let r = c.args.raised.now in
    let told : c.count.result ≡ count_by marked r = search rules in
    told ∙ ap (count_by marked) (sym (take_all (length r) r (omega arith))) ∙ counted r (length r) (omega arith)
