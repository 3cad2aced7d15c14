use Rattle.catch_up_laws.specs.Given.{given_image}
use Rattle.script_session.proofs.followers.WayLemmas.{hands_err, image_stays, start_hands, start_way}
use Rattle.script_session.proofs.session.handing_over.hand_start.Goals as goal

pub returns-in_err-copy-in-Some : goal.returns-in_err-copy-in-Some
returns-in_err-copy-in-Some c =
    hands_err c.args._log.now (given_image c.args.follower.now c.args.image.now) c.args.follower.now c.args.follower.now c.from_residual.result c.from_residual.ensures.0
    (image_stays c.args._log.now c.args.follower.now c.args.image.now c.requires.follows)

pub returns-in_err-_took-in-Some : goal.returns-in_err-_took-in-Some
returns-in_err-_took-in-Some c =
    hands_err c.args._log.now (given_image c.args.follower.now c.args.image.now) c.args.follower.now c.snapshot.new.self c.from_residual-in_err-_took-in-Some.result c.from_residual-in_err-_took-in-Some.ensures.0
    (start_way c.args._log.now c.args.follower.now c.snapshot.new.self c.args.image.now c.in-Some.image c.in_ok-copy-in-Some.field-0 c.snapshot.result c.in-Some.is c.in_ok-copy-in-Some.ensures c.requires.log c.requires.of c.requires.follows c.snapshot.ensures.step
    (λ taken of stands. c.snapshot.ensures.shows c.args._log.now taken c.requires.log of stands))

pub returns-in_ok-_took-in-Some : goal.returns-in_ok-_took-in-Some
returns-in_ok-_took-in-Some c =
    start_hands c.args._log.now c.args.follower.now c.snapshot.new.self c.args.image.now c.in-Some.image c.in_ok-copy-in-Some.field-0 c.snapshot.result c.in-Some.is c.in_ok-copy-in-Some.ensures c.requires.log c.requires.of c.requires.follows c.snapshot.ensures.step
    (λ taken of stands. c.snapshot.ensures.shows c.args._log.now taken c.requires.log of stands) c.in_ok-_took-in-Some._took _ c.in_ok-_took-in-Some.ensures
