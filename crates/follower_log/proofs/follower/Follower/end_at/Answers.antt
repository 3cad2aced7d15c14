use Rattle.std.proofs.Common.{◌≡◌, Bool, true, if◌then◌else◌, [], subst}
use Rattle.transformations.specs.declared.image.Image.{Image}
use Rattle.follower_log.proofs.EndLemmas.{comes_to_end}
use Rattle.follower_log.specs.Follower.{FollowerState}
use Rattle.follower_log.proofs.follower.Follower.end_at.Goals as goal

-- metadata that followed others are these
followed_there : (new last old : Image) (b : Bool) → b ≡ true → new ≡ (if b then last else old) → new ≡ last
followed_there new last old b is = subst (λ a. new ≡ (if b then last else old) → new ≡ (if a then last else old)) is (λ same. same)

pub returns-clause-step : goal.returns-clause-step
returns-clause-step c _ log taken entry is there stands lacks at =
    let g : FollowerState = record { image = c.follow.new.self; waiting = c.clear.new.self } in
    let image = followed_there c.follow.new.self c.args.last.now c.self.inside.metadata c.in_ok-follow.field-0 c.if-not-branch.false c.in_ok-follow.ensures.followed in
    let ends : g ≡ record { image = c.args.last.now; waiting = [] } = λ i. record { image = image i; waiting = c.clear.ensures i } in
    comes_to_end log taken c.args.self.now entry is there stands lacks g c.args.last.now at ends
