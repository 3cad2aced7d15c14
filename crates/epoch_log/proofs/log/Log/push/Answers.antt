use Rattle.std.proofs.Common.{arith}
use Rattle.epoch_log.specs.Epochs.{AreUpTo}
use Rattle.epoch_log.proofs.StoredLemmas.{stored_push, up_to_push}
use Rattle.epoch_log.proofs.log.Log.push.Goals as goal

pub invariant_of-self : goal.invariant_of-self
invariant_of-self c =
    let stored = stored_push c.self.inside.entries c.insert.new.self c.args.self.now c.args.entry c.self.invariant.0 c.self.view_is c.requires.epoch c.requires.id c.in-Ok.ensures.entries in
    let before : AreUpTo c.self.inside.greatest_id c.args.self.now = rw (← c.self.view_is) c.self.invariant.1 in
    (stored.stored, rw stored.shows (up_to_push c.args.self.now c.args.entry c.self.inside.greatest_id c.max-self-inside.result before (omega arith) (omega arith)))

pub returns-in-Ok-clause-ok : goal.returns-in-Ok-clause-ok
returns-in-Ok-clause-ok c =
    (stored_push c.self.inside.entries c.insert.new.self c.args.self.now c.args.entry c.self.invariant.0 c.self.view_is c.requires.epoch c.requires.id c.in-Ok.ensures.entries).shows
