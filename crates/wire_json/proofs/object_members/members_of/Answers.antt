use Rattle.std.proofs.Common.{sym, ◌∙◌}
use Rattle.serde_json.specs.View.{view}
use Rattle.wire_json.proofs.json_values.MembersLemmas.{are_members, has_other_keys}
use Rattle.wire_json.proofs.object_members.members_of.Goals as goal

pub returns-then-len-count-clause-found : goal.returns-then-len-count-clause-found
returns-then-len-count-clause-found c =
    rw c.iter.ensures.rest (sym c.len.ensures.len ∙ c.if-len-count.true, are_members (view c.args.value.now) c.in_ok-members.members.now c.in_ok-members.ensures c.iter.ensures.found)

pub returns-else-len-count-clause-other : goal.returns-else-len-count-clause-other
returns-else-len-count-clause-other c =
    has_other_keys (view c.args.value.now) c.in_ok-members.members.now.entries c.args.count c.in_ok-members.ensures (λ same. c.if-len-count.false (c.len.ensures.len ∙ same))
