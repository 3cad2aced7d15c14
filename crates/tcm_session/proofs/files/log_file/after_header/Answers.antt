use Rattle.std.proofs.Common.{sym, ◌∙◌}
use Rattle.tcm_session.proofs.log_files.LoadLemmas.{header_good, header_none, header_refused}
use Rattle.tcm_session.proofs.files.log_file.after_header.Goals as goal

pub returns-in_default-clause-lines : goal.returns-in_default-clause-lines
returns-in_default-clause-lines c = header_none _ c.args.file.now c.in_default.ensures.none

pub returns-in-None-clause-lines : goal.returns-in-None-clause-lines
returns-in-None-clause-lines c =
    header_good _ c.args.file.now c.in-Some.line.now c.in-Some.rest.now c.in-Some.ensures.some.1 c.in-Some.ensures.some.0 (sym c.in-None.is ∙ c.in_ok-header_cause.ensures)

pub returns-in-Some-2-clause-fault : goal.returns-in-Some-2-clause-fault
returns-in-Some-2-clause-fault c =
    header_refused _ c.args.file.now c.in-Some.line.now c.in-Some.rest.now c.in-Some.ensures.some.1 c.in-Some.ensures.some.0 c.in-Some-2.cause (sym c.in-Some-2.is ∙ c.in_ok-header_cause.ensures) c.refused_at.result c.refused_at.ensures
