use Rattle.std.proofs.Common.{rules, append_assoc}
use Rattle.std.proofs.lemmas.Result.{IfOk-equal}
use Rattle.tcm_session.proofs.files.plan_lines.add_row.Goals as goal

pub returns : goal.returns
returns c = search (rules, IfOk-equal, append_assoc)
