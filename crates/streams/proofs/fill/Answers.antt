use Rattle.std.proofs.Common.{arith}
use Rattle.std.proofs.lemmas.Grind.{common_steps}
use Rattle.streams.proofs.Stretches.{kept_on, reads_next}
use Rattle.streams.proofs.fill.Goals as goal

pub loop-filled-preserved : goal.loop-filled-preserved
loop-filled-preserved g c =
    let i = c.loop-filled.invariant in
    let r = c.read_to-filled in
    record {
      onward = omega (arith, r.ensures.counts.0);
      within = grind (arith, common_steps);
      kept = kept_on c.args.from c.loop-filled.filled.to c.args.buf.now c.loop-filled.buf r.new.buf i.onward r.ensures.counts.1 i.kept;
      unread = λ h. absurd (omega arith);
      reads = reads_next _ _ _ c.args.from c.loop-filled.filled.to r.result.to c.loop-filled.buf r.new.buf i.onward (omega (arith, r.ensures.counts.0)) (omega arith)
          r.ensures.counts.1 i.reads r.ensures.reads;
      ends = λ e. r.ensures.ends c.loop-filled-test.true e;
    }
