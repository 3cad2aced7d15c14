use Rattle.std.proofs.Common.{◌<◌, length, arith}
use Rattle.catch_up.proofs.ReplyLemmas.{one_more}
use Rattle.catch_up.proofs.replies.entries_after.Goals as goal

pub loop-before-preserved : goal.loop-before-preserved
loop-before-preserved c =
    let within : c.loop-before.before < length c.args.log.now = omega (arith, c.requires) in
    one_more c.args.log.now c.args.epoch c.loop-before.before c.in-Some.entry.now c.in_ok-copy-in-Some.field-0 _ _ (omega arith) within c.in-Some.ensures.entry
    c.in_ok-copy-in-Some.ensures c.loop-before.invariant c.in_ok-push-in-Some.ensures
