use Rattle.std.proofs.Common.{◌≡◌, ◌%◌, ◌<◌, ◌≤◌, length, refl, sym, subst, ◌∙◌, arith, ◌+◌, ◌-◌}
use Rattle.std.specs.List.{slice_get}
use Rattle.transformations.proofs.histories.LogLemmas.{length-commands_of}
use Rattle.transformations.specs.History.{empty_image, image_after}
use Rattle.transformations.specs.Log.{commands_of}
use Rattle.snapshot_store.specs.Images.{epoch_of}
use Rattle.script_session.specs.code.KeptImages.{AreKept}
use Rattle.script_session.proofs.steps.KeptImageLemmas.{above_last, kept_already, kept_between, kept_with}
use Rattle.script_session.proofs.session.kept_images.keep_image.Goals as goal
use Rattle.script_session.proofs.session.kept_images.keep_image.Goals.{then-epoch-ne0-via-then-epoch-ne0, then-epoch-ne0-via-else-epoch-ne0+then-epoch-last_epoch}

pub returns-then-epoch-ne0 : goal.returns-then-epoch-ne0
returns-then-epoch-ne0 c =
    let log = c.args.log.now in
    let last = c.last_epoch-epoch.ensures.last in
    elim c.then-epoch-ne0.branch [
      | then-epoch-ne0-via-then-epoch-ne0 w ↦ kept_between log c.args.snapshots.now (length log) (λ zero. (let apart = w.if-epoch-ne0.true in let is = subst (λ n. n % 256 ≡ 0) (sym last) zero in omega (arith, apart, is))) c.requires.kept
      | then-epoch-ne0-via-else-epoch-ne0+then-epoch-last_epoch w ↦
          let upto : length log ≤ epoch_of (slice_get c.args.snapshots.now (length c.args.snapshots.now - 1)) = omega (arith, w.if-epoch-last_epoch.true, last, w.last_epoch.ensures.last) in
          kept_already log c.args.snapshots.now (length log) refl upto c.requires.kept
    ]

pub keep-requires : goal.keep-requires
keep-requires c =
    let history = commands_of c.args.log.now in
    let is : c.in_ok-image.image ≡ image_after empty_image history = c.in_ok-image.ensures.image ∙ c.requires.state in
    let below : c.last_epoch.result < length history = omega (arith, c.if-epoch-last_epoch.false, c.last_epoch-epoch.ensures.last, length-commands_of c.args.log.now) in
    above_last history c.in_ok-image.image is c.args.snapshots.now c.last_epoch.result c.last_epoch.ensures.greatest below

pub returns-in-Ok : goal.returns-in-Ok
returns-in-Ok c =
    let is : c.in_ok-image.image ≡ image_after empty_image (commands_of c.args.log.now) = c.in_ok-image.ensures.image ∙ c.requires.state in
    subst (AreKept c.args.log.now (length c.args.log.now + 1)) (sym c.in-Ok.ensures) (kept_with c.args.log.now c.args.snapshots.now c.in_ok-image.image is (subst (λ n. n % 256 ≡ 0) c.last_epoch-epoch.ensures.last c.if-epoch-ne0.false) c.requires.kept)
