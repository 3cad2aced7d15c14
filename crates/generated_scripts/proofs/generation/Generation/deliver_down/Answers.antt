use Rattle.std.proofs.Common.{◌-◌, ◌∙◌}
use Rattle.generated_scripts.specs.GeneratedLines.{delivers}
use Rattle.generated_scripts.proofs.GeneratedLemmas.{after_last, after_next, delivers-next, delivers-none}
use Rattle.generated_scripts.proofs.generation.Generation.deliver_down.Goals as goal

pub loop-epoch-preserved : goal.loop-epoch-preserved
loop-epoch-preserved c =
    c.loop-epoch.invariant ∙ after_next c.loop-epoch.self c.deliver.new.self _ _ _ (delivers-next c.args.after c.loop-epoch.epoch c.loop-epoch-test.true) c.in_ok-deliver.ensures

pub returns : goal.returns
returns c = after_last c.args.self.now c.loop-epoch.self (delivers c.args.after (c.args.last - c.args.after)) _ c.loop-epoch.invariant (delivers-none c.args.after c.loop-epoch.epoch c.loop-epoch-test.false)
