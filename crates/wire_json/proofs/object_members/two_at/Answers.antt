use Rattle.std.proofs.Common.{[], ◌∷◌, arith, sym}
use Rattle.serde_json.specs.View.{view}
use Rattle.wire_json.proofs.json_values.MembersLemmas.{has_taken, AreTaken}
use Rattle.wire_json.proofs.object_members.two_at.Goals as goal

pub returns-clause-keys : goal.returns-clause-keys
returns-clause-keys c =
    let keys = c.args.first.now ∷ c.args.second.now ∷ [] in
    let taken : AreTaken keys c.in_ok-members.members = (grind arith, (grind arith, tt)) in
    sym (has_taken (view c.args.value.now) c.in_ok-members.members keys c.in_ok-members.ensures.found taken)
