use Rattle.std.proofs.Common.{true≢false, sym, ◌∙◌}
use Rattle.script_session.proofs.steps.StepEndLemmas.{repeated_other, repeated_same}
use Rattle.script_session.proofs.session.answer_again.Goals as goal

pub returns-then-same : goal.returns-then-same
returns-then-same c = record { only = repeated_same c.args.entry.now c.args.command.now _ _ _ (c.same.ensures.0 c.if-same.true) c.accepted.ensures.only }

pub returns-else-same : goal.returns-else-same
returns-else-same c =
    record { only = repeated_other c.args.entry.now c.args.command.now _ _ _ (λ e. true≢false (sym (c.same.ensures.1 e) ∙ c.if-same.false)) c.refuse.ensures.only }
