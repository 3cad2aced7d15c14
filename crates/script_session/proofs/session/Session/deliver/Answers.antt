use Rattle.std.proofs.Common.{ℕ, List, sym, ap}
use Rattle.epoch_log.specs.Epochs.{entry_at}
use Rattle.follower_log.proofs.StepsCutShort.{entry_from}
use Rattle.follower_log.specs.Follower.{FollowerState}
use Rattle.script_session.specs.Machine.{Reply, SessionState, deliver_to}
use Rattle.script_session.proofs.followers.HandedLemmas.{IsHanded, IsLogEntry, alone_missing, alone_moved, alone_past, entry_handed, entry_of, has_follower}
use Rattle.script_session.proofs.session.Session.deliver.Goals as goal
use Rattle.script_session.proofs.session.Session.deliver.Goals.{After-hand_over, In-Some-entry}

abbrev reply : List ℕ → ℕ → SessionState → FollowerState → Reply
reply name epoch s f = deliver_to s name f (entry_at s.log epoch)

pub returns-in_default : goal.returns-in_default
returns-in_default c = record { steps = alone_missing (reply c.args.name.now c.args.epoch) _ _ c.args.name.now _ _ c.refuse_line.result c.self.view_is _ c.deref.ensures.value c.in_default.ensures c.refuse_line.ensures.only }

pub returns-in_default-entry : goal.returns-in_default-entry
returns-in_default-entry c =
    let s : SessionState = record { log = c.self.inside.log; followers = c.self.inside.followers.items; replies = c.self.inside.replies.items } in
    record {
      steps = alone_past (reply c.args.name.now c.args.epoch) s _ c.args.name.now _ _ c.past_last.result c.self.view_is _ _ _ c.self.invariant.2 c.deref.ensures.value c.in-Some.ensures c.last_epoch.ensures.last
          (λ f. ap (deliver_to s c.args.name.now f) (sym c.in_default-entry.ensures.entry)) c.past_last.ensures.only;
    }

of_log : (c : In-Some-entry) → IsLogEntry c.self.inside.log c.in-Some-entry.entry.now
of_log c = entry_of c.self.inside.log c.args.epoch c.in-Some-entry.entry.now c.self.invariant.1 (sym c.in-Some-entry.ensures.entry)

pub hand_over-requires-clause-formed : goal.hand_over-requires-clause-formed
hand_over-requires-clause-formed c = (of_log (goal.at.hand_over-requires-clause-formed c).In-Some-entry).formed

pub hand_over-requires-clause-epoch : goal.hand_over-requires-clause-epoch
hand_over-requires-clause-epoch c = (of_log (goal.at.hand_over-requires-clause-epoch c).In-Some-entry).epoch

pub hand_over-requires-clause-log : goal.hand_over-requires-clause-log
hand_over-requires-clause-log c = c.self.invariant.1

pub hand_over-requires-clause-last : goal.hand_over-requires-clause-last
hand_over-requires-clause-last c = c.self.invariant.0

pub hand_over-requires-clause-among : goal.hand_over-requires-clause-among
hand_over-requires-clause-among c = (of_log (goal.at.hand_over-requires-clause-among c).In-Some-entry).among

pub hand_over-requires-clause-follows : goal.hand_over-requires-clause-follows
hand_over-requires-clause-follows c =
    let s : SessionState = record { log = c.self.inside.log; followers = c.self.inside.followers.items; replies = c.self.inside.replies.items } in
    (has_follower s c.args.name.now c.in-Some.place c.index_mut-named.result.now _ _ c.self.invariant.2 c.deref.ensures.value c.in-Some.ensures c.index_mut-named.ensures.value).follows

-- the follower was handed the entry
handed : (c : After-hand_over)
    → IsHanded (record { log = c.self.inside.log; followers = c.self.inside.followers.items; replies = c.self.inside.replies.items }) c.args.name.now c.in-Some.place c.index_mut-named.result.now c.hand_over.new.follower c.hand_over.result
handed c = entry_handed _ _ _ _ _ _ _ _ c.self.invariant.2 c.deref.ensures.value c.in-Some.ensures c.index_mut-named.ensures.value c.in-Some-entry.entry.now.epoch c.hand_over.ensures.shows

pub answer_handed-requires : goal.answer_handed-requires
answer_handed-requires c = (handed (goal.at.answer_handed-requires c).After-hand_over).of_log

pub invariant_of-self : goal.invariant_of-self
invariant_of-self c = (c.self.invariant.0, c.self.invariant.1, (handed (goal.at.invariant_of-self c).After-hand_over).all, c.self.invariant.3, c.self.invariant.4)

pub returns : goal.returns
returns c =
    let s : SessionState = record { log = c.self.inside.log; followers = c.self.inside.followers.items; replies = c.self.inside.replies.items } in
    let f = c.index_mut-named.result.now in
    record {
      steps = alone_moved (reply c.args.name.now c.args.epoch) s _ c.args.name.now _ _ c.answer_handed.result c.self.view_is c.in-Some.place f _ _ c.hand_over.result (handed (goal.at.returns c).After-hand_over)
          (ap (deliver_to s c.args.name.now f.follower) (sym c.in-Some-entry.ensures.entry)) (entry_from f.follower c.in-Some-entry.entry.now) c.hand_over.ensures.step c.answer_handed.ensures;
    }
