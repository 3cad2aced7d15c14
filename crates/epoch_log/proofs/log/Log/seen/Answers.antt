use Rattle.std.proofs.Common.{ap, sym, ◌∙◌}
use Rattle.transformations.specs.Log.{entry_with_id}
use Rattle.epoch_log.proofs.StoredLemmas.{lookup-by_id, none_above}
use Rattle.epoch_log.proofs.log.Log.seen.Goals as goal

pub returns-then-id-self-clause-entry : goal.returns-then-id-self-clause-entry
returns-then-id-self-clause-entry c =
    sym (none_above c.args.self.now c.self.inside.greatest_id c.args.id (rw (← c.self.view_is) c.self.invariant.1) c.if-id-self.true)

pub returns-clause-entry : goal.returns-clause-entry
returns-clause-entry c =
    c.get.ensures.value ∙ lookup-by_id c.self.inside.entries.entries c.self.invariant.0.0 c.args.id ∙ ap (λ log. entry_with_id log c.args.id) c.self.view_is
