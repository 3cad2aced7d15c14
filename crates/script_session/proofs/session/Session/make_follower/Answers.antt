use Rattle.std.proofs.Common.{◌≡◌, is_some, sym, ◌∙◌, arith}
use Rattle.script_session.specs.Machine.{SessionState, follower_named}
use Rattle.script_session.proofs.followers.HandedLemmas.{alone_made, alone_unmade, made_follows, reply_full, reply_made, reply_taken}
use Rattle.script_session.proofs.session.Session.make_follower.Goals as goal
use Rattle.script_session.proofs.session.Session.make_follower.Goals.{After-is_taken}

tells : (c : After-is_taken) → is_some (follower_named c.self.inside.followers.items c.args.name) ≡ c.is_taken.result
tells c = sym (c.is_taken.ensures ∙ (λ i. is_some (follower_named (c.deref.ensures.value i) (c.as_str.ensures.text i))))

pub returns-then-is_taken : goal.returns-then-is_taken
returns-then-is_taken c =
    let s : SessionState = record { log = c.self.inside.log; followers = c.self.inside.followers.items; replies = c.self.inside.replies.items } in
    let at = tells (goal.at.returns-then-is_taken c).After-is_taken ∙ c.if-is_taken.true in
    record { steps = alone_unmade s _ _ _ _ _ c.refuse_line.result c.self.view_is (reply_taken s c.args.name at) c.refuse_line.ensures.only }

pub returns-then-len-ge-MOST_FOLLOWERS : goal.returns-then-len-ge-MOST_FOLLOWERS
returns-then-len-ge-MOST_FOLLOWERS c =
    let s : SessionState = record { log = c.self.inside.log; followers = c.self.inside.followers.items; replies = c.self.inside.replies.items } in
    let at = tells (goal.at.returns-then-len-ge-MOST_FOLLOWERS c).After-is_taken ∙ c.if-is_taken.false in
    let full = reply_full s c.args.name at (omega (arith, c.len.ensures, c.if-len-ge-MOST_FOLLOWERS.true)) in
    record { steps = alone_unmade s _ _ _ _ _ c.refuse_line-then-len-ge-MOST_FOLLOWERS.result c.self.view_is full c.refuse_line-then-len-ge-MOST_FOLLOWERS.ensures.only }

pub invariant_of-self-2 : goal.invariant_of-self-2
invariant_of-self-2 c =
    (c.self.invariant.0, c.self.invariant.1, made_follows c.self.inside.log c.args.name c.self.inside.followers.items c.add_follower.new.followers.items c.self.invariant.2 c.in_ok-add_follower.ensures.ok, c.self.invariant.3, c.self.invariant.4)

pub returns : goal.returns
returns c =
    let s : SessionState = record { log = c.self.inside.log; followers = c.self.inside.followers.items; replies = c.self.inside.replies.items } in
    let at = tells (goal.at.returns c).After-is_taken ∙ c.if-is_taken.false in
    let made = reply_made s c.args.name at (omega (arith, c.len.ensures, c.if-len-ge-MOST_FOLLOWERS.false)) in
    record { steps = alone_made s _ c.args.name c.add_follower.new.followers.items _ _ tt c.self.view_is made c.in_ok-add_follower.ensures.ok c.in_ok-epoch_text.ensures.added }
