use Rattle.std.proofs.Common.{true, sym, ◌∙◌}
use Rattle.node_directory.proofs.SameRows.{same_beside}
use Rattle.node_directory.proofs.directory.Directory.has_rows.Goals as goal

pub returns-then-len-rows : goal.returns-then-len-rows
returns-then-len-rows c = same_beside c.args.self.now.rows c.args.rows.now c.has_beside.result (sym c.len.ensures.len ∙ c.if-len-rows.true) c.has_beside.ensures
