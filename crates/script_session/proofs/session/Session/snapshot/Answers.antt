use Rattle.std.proofs.Common.{◌≡◌, ℕ, ◌≤◌, List, length, sym, ◌∙◌, ap, subst, arith}
use Rattle.transformations.specs.History.{state_after}
use Rattle.transformations.specs.Log.{commands_of}
use Rattle.follower_log.proofs.ShowsLemmas.{as_valid}
use Rattle.follower_log.proofs.StepsCutShort.{valid_from}
use Rattle.follower_log.specs.Follower.{FollowerState, Performs}
use Rattle.script_session.specs.Machine.{Reply, SessionState, image_at, snapshot_to}
use Rattle.script_session.proofs.followers.HandedLemmas.{IsHanded, alone_missing, alone_moved, alone_past, alone_unhanded, image_come, image_handed, image_of_log, image_past}
use Rattle.script_session.proofs.session.Session.snapshot.Goals as goal
use Rattle.script_session.proofs.session.Session.snapshot.Goals.{After-snapshot}

abbrev reply : List ℕ → ℕ → SessionState → FollowerState → Reply
reply name epoch s f = snapshot_to s name f (image_at (commands_of s.log) epoch)

pub returns-in_default : goal.returns-in_default
returns-in_default c = record { steps = alone_missing (reply c.args.name.now c.args.epoch) _ _ c.args.name.now _ _ c.refuse_line.result c.self.view_is _ c.deref.ensures.value c.in_default.ensures c.refuse_line.ensures.only }

pub returns-then-epoch-last : goal.returns-then-epoch-last
returns-then-epoch-last c =
    let s : SessionState = record { log = c.self.inside.log; followers = c.self.inside.followers.items; replies = c.self.inside.replies.items } in
    let past = image_past s.log c.args.epoch (omega (arith, c.if-epoch-last.true, c.last_epoch-last.ensures.last)) in
    record {
      steps = alone_past (reply c.args.name.now c.args.epoch) s _ c.args.name.now _ _ c.past_last.result c.self.view_is _ _ _ c.self.invariant.2 c.deref.ensures.value c.in-Some.ensures c.last_epoch-last.ensures.last
          (λ f. ap (snapshot_to s c.args.name.now f) past) c.past_last.ensures.only;
    }

pub returns-in_err-image : goal.returns-in_err-image
returns-in_err-image c =
    let within : c.args.epoch ≤ length c.self.inside.log = omega (arith, c.if-epoch-last.false, c.last_epoch-last.ensures.last) in
    record { steps = alone_unhanded _ _ c.args.name.now _ _ _ c.from_residual.result _ c.self.view_is c.self.invariant.2 c.deref.ensures.value c.in-Some.ensures within c.from_residual.ensures.1 }

within : (c : After-snapshot) → c.args.epoch ≤ length c.self.inside.log
within c = omega (arith, c.if-epoch-last.false, c.last_epoch-last.ensures.last)

is_state : (c : After-snapshot) → c.in_ok-image.image ≡ state_after (commands_of c.self.inside.log) c.args.epoch
is_state c = c.in_ok-image.ensures ∙ ap (λ (t : SessionState). state_after (commands_of t.log) c.args.epoch) (sym c.self.view_is)

-- the follower was handed the image
handed : (c : After-snapshot)
    → IsHanded (record { log = c.self.inside.log; followers = c.self.inside.followers.items; replies = c.self.inside.replies.items }) c.args.name.now c.in-Some.place c.index_mut-named.result.now c.snapshot.new.self c.snapshot.result
handed c =
    let image = image_of_log c.self.inside.log c.args.epoch c.in_ok-image.image (within c) (is_state c) in
    image_handed _ _ _ _ _ _ _ _ c.self.invariant.2 c.deref.ensures.value c.in-Some.ensures c.index_mut-named.ensures.value c.in_ok-image.image.epoch (λ taken stands. c.snapshot.ensures.shows _ taken c.self.invariant.1 image stands)

pub answer_handed-requires : goal.answer_handed-requires
answer_handed-requires c = (handed (goal.at.answer_handed-requires c).After-snapshot).of_log

pub invariant_of-self : goal.invariant_of-self
invariant_of-self c = (c.self.invariant.0, c.self.invariant.1, (handed (goal.at.invariant_of-self c).After-snapshot).all, c.self.invariant.3, c.self.invariant.4)

pub returns : goal.returns
returns c =
    let s : SessionState = record { log = c.self.inside.log; followers = c.self.inside.followers.items; replies = c.self.inside.replies.items } in
    let f = c.index_mut-named.result.now in
    let there = (goal.at.returns c).After-snapshot in
    record {
      steps = alone_moved (reply c.args.name.now c.args.epoch) s _ c.args.name.now _ _ c.answer_handed.result c.self.view_is c.in-Some.place f _ _ c.snapshot.result (handed there)
          (ap (snapshot_to s c.args.name.now f.follower) (image_come s.log c.args.epoch c.in_ok-image.image (within there) (is_state there))) (valid_from f.follower c.in_ok-image.image)
          (subst (λ h. Performs f.follower h c.snapshot.result c.snapshot.new.self) (as_valid c.self.inside.log f.follower c.in_ok-image.image c.self.invariant.1 (image_of_log c.self.inside.log c.args.epoch c.in_ok-image.image (within there) (is_state there))) c.snapshot.ensures.step) c.answer_handed.ensures;
    }
