use Rattle.std.proofs.Common.{◌<◌, length, arith}
use Rattle.tcm_session.proofs.log_files.MendLemmas.{lines_more}
use Rattle.tcm_session.proofs.files.mend.add_entries.Goals as goal

pub loop-before-preserved : goal.loop-before-preserved
loop-before-preserved c =
    let within : c.loop-before.before < length c.args.log.now = omega (arith, c.loop-before-test.true, c.last_epoch-before-end.ensures.last) in
    lines_more c.args.log.now c.loop-before.before c.in-Some.entry.now within c.in-Some.ensures.entry c.args.out.now c.loop-before.out c.add_entry.new.out c.loop-before.invariant c.in_ok-add_entry-in-Some.ensures
