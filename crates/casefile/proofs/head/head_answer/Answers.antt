use mathlib.Core.Path.{sym, ◌∙◌}
use Rattle.casefile.proofs.Heads.{limits-few}
use Rattle.integers.specs.Tests.{true-is}
use Rattle.casefile.specs.Reads.{limits_z}
use Rattle.casefile.proofs.head.head_answer.Goals as goal

pub head_size-requires : goal.head_size-requires
head_size-requires c =
    let a = c.args in
    let l = a.line in
    limits-few a.rulebook l.a l.b l.c (true-is (limits_z a.rulebook l.a l.b l.c)
    (sym c.head_limited.ensures ∙ c.if-not-head_limited.false))
