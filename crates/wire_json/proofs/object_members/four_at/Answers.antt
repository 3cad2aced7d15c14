use Rattle.std.proofs.Common.{[], ◌∷◌, arith, sym}
use Rattle.serde_json.specs.View.{view}
use Rattle.wire_json.proofs.json_values.MembersLemmas.{found_first, found_next, has_taken, AreTaken}
use Rattle.wire_json.proofs.object_members.four_at.Goals as goal

pub returns-clause-keys : goal.returns-clause-keys
returns-clause-keys c =
    let keys = c.args.first.now ∷ c.args.second.now ∷ c.args.third.now ∷ c.args.fourth.now ∷ [] in
    let taken : AreTaken keys c.in_ok-members.members = (grind arith, (grind arith, (grind arith, (grind arith, tt)))) in
    sym (has_taken (view c.args.value.now) c.in_ok-members.members keys c.in_ok-members.ensures.found taken)

pub returns-clause-first : goal.returns-clause-first
returns-clause-first c = found_first (view c.args.value.now) c.args.first.now c.in_ok-members.members c.in_ok-next_at.field-0.now c.in_ok-members.ensures.found.1.found c.in_ok-next_at.ensures.value

pub returns-clause-second : goal.returns-clause-second
returns-clause-second c =
    found_next (view c.args.value.now) c.args.second.now c.in_ok-members.members c.next_at.new.members c.in_ok-next_at-2.field-0.now c.in_ok-members.ensures.found.1.found c.next_at.ensures.rest c.in_ok-next_at-2.ensures.value
