use Rattle.serde_json.specs.View.{view}
use Rattle.wire_json.proofs.json_values.MembersLemmas.{has_one}
use Rattle.wire_json.proofs.object_members.one_at.Goals as goal

pub returns-clause-keys : goal.returns-clause-keys
returns-clause-keys c = has_one (view c.args.value.now) c.in_ok-members.members c.args.key.now c.next_at.result c.in_ok-members.ensures.found c.next_at.ensures.value
