use Rattle.std.proofs.Common.{Ok}
use Rattle.follower_log.proofs.AdvanceLemmas.{advances_on, ends_if, leads_if}
use Rattle.follower_log.specs.declared.took.Took.TheVariants.{At}
use Rattle.follower_log.proofs.follower.Follower.apply_waiting.Goals as goal

pub loop-self-preserved : goal.loop-self-preserved
loop-self-preserved c result end goes =
    c.loop-self.invariant result end (advances_on c.loop-self.self c.apply_first.new.self result end (leads_if c.loop-self.self c.apply_first.new.self c.in-Ok-true.field-0 c.in-Ok-true.field-0-test c.in-Ok-true.ensures) goes)

pub returns-in-Ok-false : goal.returns-in-Ok-false
returns-in-Ok-false c =
    c.loop-self.invariant (Ok (At c.epoch.result)) c.apply_first.new.self (ends_if c.loop-self.self c.apply_first.new.self c.in-Ok-false.field-0 c.epoch.result c.in-Ok-false.field-0-test c.epoch.ensures c.in-Ok-false.ensures)
