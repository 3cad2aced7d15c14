use Rattle.std.proofs.Common.{subst, List}
use Rattle.std.specs.List.{Contains}
use Rattle.transformations.specs.declared.entry.Entry.{Entry}
use Rattle.catch_up_laws.proofs.PartLemmas.{part_of}
use Rattle.catch_up_laws.specs.Given.{given_entries, given_reply}
use Rattle.script_session.proofs.followers.WayLemmas.{hands_err, image_stops, image_then, ok_of}
use Rattle.script_session.specs.code.StepParts.{Hands}
use Rattle.script_session.proofs.session.handing_over.give_reply.Goals as goal

pub hand_start-requires-clause-of : goal.hand_start-requires-clause-of
hand_start-requires-clause-of c = (part_of c.args.log.now c.args.reply.now c.requires.from).image

pub returns-in_err-hand_start : goal.returns-in_err-hand_start
returns-in_err-hand_start c =
    hands_err c.args.log.now (given_reply c.args.follower.now c.args.reply.now) c.args.follower.now c.hand_start.new.follower c.from_residual.result c.from_residual.ensures.0
    (image_stops c.args.log.now c.args.reply.now c.args.follower.now c.hand_start.new.follower c.hand_start.result c.hand_start.ensures)

pub hand_entries-requires-clause-among : goal.hand_entries-requires-clause-among
hand_entries-requires-clause-among c = λ x in_it. (part_of c.args.log.now c.args.reply.now c.requires.from).among x (subst (λ (l : List Entry). Contains l x) c.as_slice.ensures in_it)

pub returns : goal.returns
returns c =
    image_then c.args.log.now c.args.reply.now c.args.follower.now c.hand_start.new.follower c.hand_entries.new.follower c.hand_start.result c.hand_entries.result (ok_of c.hand_start.result c.in_ok-hand_start.field-0 c.in_ok-hand_start.was) c.hand_start.ensures
    (subst (λ (l : List Entry). Hands c.args.log.now (given_entries c.hand_start.new.follower l) c.hand_start.new.follower c.hand_entries.new.follower c.hand_entries.result) c.as_slice.ensures c.hand_entries.ensures)
