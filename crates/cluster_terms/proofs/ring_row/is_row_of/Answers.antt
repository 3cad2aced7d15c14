use Rattle.std.proofs.Common.{◌≡◌, ◌-◌, ◌<◌, ◌≤◌, true, false, int_lt, length, rules, arith}
use Rattle.cluster_terms.specs.Row.{last_token}
use Rattle.cluster_terms.proofs.rows.RingRows.{climb_high, climb_low}
use Rattle.cluster_terms.proofs.ring_row.is_row_of.Goals as goal

pub returns-then-at-eq0-clause-row : goal.returns-then-at-eq0-clause-row
returns-then-at-eq0-clause-row g c is =
    let within : c.args.at < length c.args.rows.now = search rules in
    let high : int_lt (last_token (g.R.RingRow.right c.index-rows-at.result)) c.args.t ≡ false = search rules in
    let first : c.args.at ≤ 0 = search rules in (
      λ j d from below. absurd (omega arith),
      climb_high g.R.RingRow.right c.args.rows.now c.args.t c.requires c.args.at c.index-rows-at.result within c.index-rows-at.is high,
    )

pub returns-clause-row : goal.returns-clause-row
returns-clause-row g c is =
    let within : c.args.at < length c.args.rows.now = search rules in
    let high : int_lt (last_token (g.R.RingRow.right c.index-rows-at.result)) c.args.t ≡ false = search rules in
    let low : int_lt (last_token (g.R.RingRow.right c.index-rows-at-2.result)) c.args.t ≡ true = search rules in (
      λ j d from below. climb_low g.R.RingRow.right c.args.rows.now c.args.t c.requires (c.args.at - 1) c.index-rows-at-2.result (omega arith) c.index-rows-at-2.is low j d (omega arith),
      climb_high g.R.RingRow.right c.args.rows.now c.args.t c.requires c.args.at c.index-rows-at.result within c.index-rows-at.is high,
    )
