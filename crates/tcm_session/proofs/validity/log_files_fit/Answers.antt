use Rattle.wire_json.proofs.entries.EntrySizes.{log_fits}
use Rattle.tcm_session.proofs.log_files.LogLines.{entries_stay}
use Rattle.tcm_session.proofs.validity.log_files_fit.Goals as goal

pub returns-clause-fits : goal.returns-clause-fits
returns-clause-fits c = log_fits

pub returns-clause-lines : goal.returns-clause-lines
returns-clause-lines c = entries_stay
