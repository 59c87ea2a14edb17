use Rattle.std.proofs.Common.{rules, tests, refl, ltb, ◌||◌, ◌∙◌}
use Rattle.std.specs.List.{list_any}
use Rattle.std.proofs.lemmas.Iterator.{YieldsList-from_slice}
use Rattle.std.proofs.lemmas.Iterator.Search.{any_from_yields_List}
use Rattle.std.proofs.lemmas.List.Recursion.{same_from_clauses}
use Rattle.integers.specs.Words.{any}
use Rattle.consistency.proofs.has_other_mark.Goals as goal

pub returns : goal.returns
returns c =
    let xs = c.args.raised.now in
    any_from_yields_List (ltb 1) _ _ _ c.any.ensures.ran (YieldsList-from_slice xs cc) (λ x b q k. search (rules, tests))
    ∙ same_from_clauses (list_any (ltb 1)) (any (ltb 1)) (λ x b. ltb 1 x || b) refl (λ _ _. refl) (λ _ _. refl) xs
