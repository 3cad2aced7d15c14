use Rattle.std.proofs.Common.{◌-◌, arith}
use Rattle.placement_deltas.proofs.SoFar.{last_ends}
use Rattle.placement_deltas.proofs.joined_rows.end_at.Goals as goal

pub returns : goal.returns
returns c = last_ends c.args.rows.now.items (c.len-last.result - 1) c.index_mut.result.now c.args.right (omega (arith, c.requires, c.len-last.ensures)) c.index_mut.ensures.value
