use Rattle.tcm_session.proofs.log_files.ReplayLemmas.{replayed-bad, replayed-read}
use Rattle.tcm_session.proofs.files.replay.Replay.hand_line.Goals as goal

pub returns-in-Ok-clause-leads : goal.returns-in-Ok-clause-leads
returns-in-Ok-clause-leads c = rw (replayed-read c.args.number c.args.self.now c.args.line.now c.in-Ok.content c.in-Ok.ensures.meaning) c.hand_content.ensures.leads

pub returns-in-Err-Bad-clause-leads : goal.returns-in-Err-Bad-clause-leads
returns-in-Err-Bad-clause-leads c = replayed-bad c.args.number c.args.self.now c.args.line.now c.in-Err-Bad.field-0 c.in-Err-Bad.rule c.in-Err-Bad.field-0-is c.in-Err-Bad.ensures.meaning
