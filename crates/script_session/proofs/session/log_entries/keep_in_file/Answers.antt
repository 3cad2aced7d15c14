use Rattle.std.proofs.Common.{◌∙◌}
use Rattle.script_session.proofs.steps.StepEndLemmas.{gained_line}
use Rattle.script_session.proofs.session.log_entries.keep_in_file.Goals as goal

pub returns-in-Ok-clause-file : goal.returns-in-Ok-clause-file
returns-in-Ok-clause-file g c =
    gained_line _ c.args.entry c.as_slice.result.now _ _ (c.as_slice.ensures ∙ c.in_ok-line.ensures) c.in-Ok.ensures.ok c.in-Ok.ensures.others c.in-Ok.ensures.told
