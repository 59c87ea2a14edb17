use mathlib.Core.Path.{◌≡◌, sym, ap, ◌∙◌}
use Prim.Native.Nat.{◌≤◌}
use native.Mathlib.Omega.{arith}
use lib.ListN.{length}
use Rattle.case_theory.proofs.Zeroed.{zeroed-length}
use Rattle.growing.proofs.Joined.{end, end-lent, both-joined}
use Rattle.growing.proofs.grow_tables.Goals as goal
use Rattle.growing.proofs.grow_tables.Goals.{Start}

-- What each call leaves, and what that makes of both tables. Assumes nothing.
room : (s : Start) → end s.args.case s.args.edges ≤ length s.args.starting.now
room s = let a = s.args in omega (arith, end-lent a.case a.edges s.requires.n_bound.0 s.requires.n_bound.1, s.requires.starting_len.0)

same : (s : Start) → length s.args.table.now ≡ length s.args.starting.now
same s = s.requires.starting_len.1 ∙ sym s.requires.starting_len.0

pub overflow_sub-table : goal.overflow_sub-table
overflow_sub-table c = omega (arith, room (goal.at.overflow_sub-table c).Start, same (goal.at.overflow_sub-table c).Start, c.put_in.ensures.long)

pub copy_part-requires : goal.copy_part-requires
copy_part-requires c = let long = c.put_in.ensures.long in
    let p = c.put_in-2 in
    let long₀ = ap length c.zero_from.ensures ∙ zeroed-length (end c.args.case c.args.edges) p.new.table ∙ p.ensures.long in
    (omega (arith, room (goal.at.copy_part-requires c).Start, same (goal.at.copy_part-requires c).Start, long, long₀), omega (arith, room (goal.at.copy_part-requires c).Start, same (goal.at.copy_part-requires c).Start, long))

pub returns : goal.returns
returns c = let a = c.args in
    both-joined a.case a.edges a.starting.now a.table.now c.put_in-2.new.table c.put_in.new.table c.zero_from.new.table
    c.copy_part.new.table (room (goal.at.returns c).Start) (same (goal.at.returns c).Start) c.put_in.ensures c.put_in-2.ensures c.zero_from.ensures c.copy_part.ensures
