use Rattle.std.proofs.Common.{arith}
use Rattle.tcm_edges.proofs.FileLemmas.{IsLoad-too_large}
use Rattle.file_runs.proofs.large_files.LargeFilesStore.load.Goals as goal

pub returns-then-limit-lt-TOO_MANY_BYTES-clause-found : goal.returns-then-limit-lt-TOO_MANY_BYTES-clause-found
returns-then-limit-lt-TOO_MANY_BYTES-clause-found c = IsLoad-too_large c.args._name.now c.args.limit _ (omega arith)
