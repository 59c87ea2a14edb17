use Rattle.std.proofs.lemmas.Result.{err_from_is_err_and}
use Rattle.judging.proofs.Ends.{finish-refused, end-part, end_none}
use Rattle.judging.proofs.finish_good.Goals as goal

pub returns-in_err-check_working : goal.returns-in_err-check_working
returns-in_err-check_working c =
    let p = err_from_is_err_and c.from_residual.result c.from_residual.ensures.1 in
    rw (p.1, p.2)
    (finish-refused c.args.case c.args.table.now c.args.replay c.requires c.end-ended.ensures c.is_out.result
    c.is_out.ensures c.check_working.ensures c.args.part c.in_err-check_working.was)

pub returns-then-part : goal.returns-then-part
returns-then-part c =
    end-part c.args.case c.args.table.now c.args.replay c.requires c.end-ended.ensures c.is_out.result
    c.is_out.ensures c.check_working.ensures c.in_ok-check_working.was c.args.part c.if-part.true

pub returns : goal.returns
returns c =
    end_none c.args.case c.args.table.now c.args.replay c.requires c.end-ended.ensures c.is_out.result
    c.is_out.ensures c.check_working.ensures c.in_ok-check_working.was c.args.part c.if-part.false
