use Rattle.script_session.proofs.steps.GainLemmas.{replaced_is}
use Rattle.tcm_session.proofs.files.written.write_file.Goals as goal

pub returns-in-Ok-clause-written : goal.returns-in-Ok-clause-written
returns-in-Ok-clause-written g c = replaced_is c.args.name.now c.args.bytes.now _ _ c.in-Ok.ensures.ok c.in-Ok.ensures.others c.in-Ok.ensures.told
