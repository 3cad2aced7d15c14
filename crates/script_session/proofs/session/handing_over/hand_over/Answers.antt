use Rattle.std.proofs.Common.{ℕ, Ok, sym, subst}
use Rattle.follower_log.proofs.ShowsLemmas.{entry_shows}
use Rattle.follower_log.specs.Follower.{Performs, hand_entry}
use Rattle.follower_log.specs.Prefix.{StandsFor, Taken}
use Rattle.follower_log.specs.declared.took.Took.TheVariants.{At}
use Rattle.script_session.proofs.steps.KeptImageLemmas.{at_end}
use Rattle.script_session.proofs.session.handing_over.hand_over.Goals as goal

-- a follower that came to the end performed the step
ends : (c : goal.After-epoch) (taken : Taken) → StandsFor c.args.log.now taken c.args.follower.now → Performs c.args.follower.now (hand_entry c.args.follower.now c.args.entry.now) (Ok (At c.epoch.result)) c.end_at.new.self
ends c taken stands =
    subst (λ (e : ℕ). Performs c.args.follower.now (hand_entry c.args.follower.now c.args.entry.now) (Ok (At e)) c.end_at.new.self) (sym c.epoch.ensures)
    (c.in-Ok-true.ensures.step c.in-Ok-true.field-0-test c.args.log.now taken c.args.entry.now c.requires.log c.requires.among stands (c.may_end.ensures c.if-not-may_end.false)
    (at_end c.args.log.now c.args.metadata.now c.requires.last))

pub returns-in-Ok-true-clause-step : goal.returns-in-Ok-true-clause-step
returns-in-Ok-true-clause-step c = ends c c.requires.follows.taken c.requires.follows.stands

pub returns-in-Ok-true-clause-shows : goal.returns-in-Ok-true-clause-shows
returns-in-Ok-true-clause-shows c taken stands =
    entry_shows c.args.log.now taken c.args.follower.now c.end_at.new.self c.args.entry.now (Ok (At c.epoch.result)) c.requires.log c.requires.among stands (ends c taken stands)
