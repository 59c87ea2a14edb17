use Rattle.growing.proofs.grow_checked.Goals as goal

pub returns : goal.returns
returns c = let a = c.args in
    let (x, y) = c.grow_tables.ensures a.lower.now in
    (c.grown_case.ensures, x, y)
