use Rattle.std.proofs.Common.{◌≤◌, length, sym, ap, ◌∙◌, subst, arith}
use Rattle.catch_up.specs.Replies.{catch_up_reply}
use Rattle.script_session.specs.Machine.{SessionState, follower_named}
use Rattle.script_session.proofs.followers.FollowerLemmas.{named_within}
use Rattle.script_session.proofs.replies.KeptReplyLemmas.{all_from_kept}
use Rattle.script_session.proofs.replies.ReplyLines.{ask_refused, asked_full, asked_none}
use Rattle.script_session.proofs.session.Session.ask.Goals as goal

pub returns-in_default : goal.returns-in_default
returns-in_default c =
    let s : SessionState = record { log = c.self.inside.log; followers = c.self.inside.followers.items; replies = c.self.inside.replies.items } in
    let none = sym (c.in_default.ensures ∙ (λ i. follower_named (c.deref.ensures.value i) (c.as_str.ensures.text i))) in
    record { steps = ask_refused s _ c.args.name.now c.args.max _ _ c.refuse_line.result c.self.view_is _ (asked_none s c.args.name.now c.args.max none) c.refuse_line.ensures.only }

pub returns-then-len-ge-MOST_REPLIES : goal.returns-then-len-ge-MOST_REPLIES
returns-then-len-ge-MOST_REPLIES c =
    let s : SessionState = record { log = c.self.inside.log; followers = c.self.inside.followers.items; replies = c.self.inside.replies.items } in
    let there = sym (c.in-Some.ensures ∙ (λ i. follower_named (c.deref.ensures.value i) (c.as_str.ensures.text i))) in
    let full = asked_full s c.args.name.now c.args.max c.in-Some.named.now there (omega (arith, c.len.ensures, c.if-len-ge-MOST_REPLIES.true)) in
    record { steps = ask_refused s _ c.args.name.now c.args.max _ _ c.refuse_line-then-len-ge-MOST_REPLIES.result c.self.view_is _ full c.refuse_line-then-len-ge-MOST_REPLIES.ensures.only }

pub reply_since-requires-clause-since : goal.reply_since-requires-clause-since
reply_since-requires-clause-since c =
    let there = sym (c.in-Some.ensures ∙ (λ i. follower_named (c.deref.ensures.value i) (c.as_str.ensures.text i))) in
    subst (λ (s : SessionState). c.epoch-since.result ≤ length s.log) c.self.view_is
    (named_within c.self.inside.log c.self.inside.followers.items c.args.name.now c.in-Some.named.now c.epoch-since.result c.self.invariant.2 there c.epoch-since.ensures)

pub invariant_of-self-2 : goal.invariant_of-self-2
invariant_of-self-2 c =
    let there = sym (c.in-Some.ensures ∙ (λ i. follower_named (c.deref.ensures.value i) (c.as_str.ensures.text i))) in
    let within = named_within c.self.inside.log c.self.inside.followers.items c.args.name.now c.in-Some.named.now c.epoch-since.result c.self.invariant.2 there c.epoch-since.ensures in
    let made = c.in_ok-made.ensures ∙ ap (λ (s : SessionState). catch_up_reply s.log c.epoch-since.result c.args.max) (sym c.self.view_is) in
    let kept = all_from_kept c.self.inside.log c.epoch-since.result c.args.max c.in_ok-made.made c.self.inside.replies.items c.keep_reply.new.replies.items within made c.in_ok-keep_reply.ensures c.self.invariant.4 in
    (c.self.invariant.0, c.self.invariant.1, c.self.invariant.2, c.self.invariant.3, kept)
