use Rattle.std.proofs.Common.{ap, arith, length}
use Rattle.tcm_edges.proofs.FileLemmas.{IsLoad-bytes, IsLoad-too_large}
use Rattle.tcm_edges.proofs.file_store.load_file.Goals as goal

pub returns-then-limit-size : goal.returns-then-limit-size
returns-then-limit-size g c = IsLoad-too_large c.args.name.now c.args.limit _ (omega arith)

pub returns-then-limit-size-2 : goal.returns-then-limit-size-2
returns-then-limit-size-2 g c = IsLoad-too_large c.args.name.now c.args.limit _ (omega arith)

pub returns : goal.returns
returns g c = IsLoad-bytes c.args.name.now _ c.args.limit (omega (arith, ap length c.from_vec.ensures))
