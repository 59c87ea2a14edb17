use mathlib.Core.Path.{refl, sym, ap, ◌∙◌}
use mathlib.Core.List.{List}
use Prim.Native.Nat.{ℕ}
use lib.IntN.{ℤ}
use lib.Dec.{lit≤}
use lib.ListN.{replicate}
use Rattle.definitions.specs.declared.Rulebook.TheVariants.{Desk}
use Rattle.definitions.specs.Places.{round_places}
use Rattle.pressing.specs.Pressing.{start_pressing}
use Rattle.press.proofs.Calls.{same-call, rounds-press}
use Rattle.press.proofs.run.Goals as goal

pub returns : goal.returns
returns g c =
    let front = c.args.input.now in
    let out : List ℕ = replicate round_places 0 in
    let (lent, enough) = c.requires in
    let (p, q, x) = c.start-begun.ensures in
    let same = same-call (start_pressing Desk front c.args.table.now out) (c.print-first.ensures.0 ∙ p) q x
    ∙ ap (λ (w : List ℤ). start_pressing Desk front w out) lent in
    rounds-press front out c.args.filled enough (lit≤ tt) (rw same at c.print_rounds-last.ensures)
    (sym c.is_failed.ensures ∙ c.if-is_failed.false) refl refl
