use mathlib.Core.Path.{◌≡◌, sym, ap, subst, ◌∙◌}
use mathlib.Core.List.{[]}
use native.Mathlib.Omega.{arith}
use Rattle.integers.specs.Words.{below}
use Rattle.graph_theory.proofs.Walks.{Decides, InTurn, first-labels}
use Rattle.graphs.proofs.Labels.{edge-joined, none-closes, one-closes}
use Rattle.graphs.proofs.join_edges.Goals as goal

pub loop-e-init : goal.loop-e-init
loop-e-init c =
    let a = c.args in
    let first = c.label_apart.ensures ∙ ap below c.requires.labels_len in
    (subst (Decides a.case []) (sym first) (first-labels a.case), λ e h w. omega arith)

pub returns-then-to-from : goal.returns-then-to-from
returns-then-to-from c =
    let l = c.loop-e in
    one-closes _ c.requires.shape l.e l.invariant.0 (omega arith) c.if-to-from.true

pub loop-e-preserved : goal.loop-e-preserved
loop-e-preserved c =
    let l = c.loop-e in
    let (decides, turn) = edge-joined _ c.requires.shape l.invariant.0 l.invariant.1 (omega arith) c.if-to-from.false c.relabel.ensures in
    (decides, turn)

pub returns : goal.returns
returns c =
    let l = c.loop-e in
    let a = c.args in
    let all : l.e ≡ a.case.m = omega arith in
    none-closes _ c.requires.shape (subst (InTurn a.case) all l.invariant.1)
