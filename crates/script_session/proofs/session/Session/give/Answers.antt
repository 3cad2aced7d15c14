use Rattle.std.proofs.Common.{◌++◌, codes, length, refl, sym, ap, ◌∙◌, arith}
use Rattle.std.proofs.lemmas.List.{take_all}
use Rattle.follower_log.specs.Follower.{FollowerState}
use Rattle.script_lang.specs.AnswerTexts.{epoch_text}
use Rattle.script_session.specs.Machine.{SessionState, reply_numbered}
use Rattle.script_session.proofs.followers.HandedLemmas.{alone_missing}
use Rattle.script_session.proofs.replies.KeptReplyLemmas.{numbered_from}
use Rattle.script_session.proofs.replies.ReplyLines.{give, give_past, give_there, never, only_failed}
use Rattle.script_session.proofs.session.Session.give.Goals as goal

pub returns-in_default : goal.returns-in_default
returns-in_default c = record { steps = alone_missing (give c.args.name.now c.args.number) _ _ c.args.name.now _ _ c.refuse_line.result c.self.view_is _ c.deref.ensures.value c.in_default.ensures c.refuse_line.ensures.only }

pub returns-in_default-reply_numbered : goal.returns-in_default-reply_numbered
returns-in_default-reply_numbered c =
    let s : SessionState = record { log = c.self.inside.log; followers = c.self.inside.followers.items; replies = c.self.inside.replies.items } in
    record {
      steps = give_past s _ c.args.name.now c.args.number _ _ c.past_last_reply.result c.self.view_is _ _ c.self.invariant.2 c.deref.ensures.value c.in-Some.ensures s.replies refl c.len.result
          (c.in_default-reply_numbered.ensures ∙ ap (λ rs. reply_numbered rs c.args.number) c.deref-2.ensures.value) (omega (arith, c.len.ensures)) c.past_last_reply.ensures.only;
    }

pub give_reply-requires-clause-from : goal.give_reply-requires-clause-from
give_reply-requires-clause-from c =
    numbered_from c.self.inside.log c.self.inside.replies.items c.args.number c.in-Some-reply_numbered.given.now c.self.invariant.4
    (sym (c.in-Some-reply_numbered.ensures ∙ ap (λ rs. reply_numbered rs c.args.number) c.deref-2.ensures.value))

pub returns-in_err-give_reply : goal.returns-in_err-give_reply
returns-in_err-give_reply c =
    let s : SessionState = record { log = c.self.inside.log; followers = c.self.inside.followers.items; replies = c.self.inside.replies.items } in
    let out = c.args.out.now in
    record {
      steps = give_there s _ c.args.name.now c.args.number out out c.from_residual.result c.self.view_is _ _ c.self.invariant.2 c.deref.ensures.value c.in-Some.ensures _ c.deref-2.ensures.value
          c.index_mut-named.result.now _ c.give_reply.new.follower c.in-Some-reply_numbered.given.now c.in-Some-reply_numbered.ensures c.index_mut-named.ensures.value c.give_reply.ensures.way
          (never c.from_residual.result _ c.from_residual.ensures.1) (only_failed _ out out c.from_residual.result c.from_residual.ensures.1 (take_all (length out) out (omega arith)));
    }

pub returns-in_err-epoch_text : goal.returns-in_err-epoch_text
returns-in_err-epoch_text c =
    let s : SessionState = record { log = c.self.inside.log; followers = c.self.inside.followers.items; replies = c.self.inside.replies.items } in
    let fault = c.from_residual-in_err-epoch_text in
    record {
      steps = give_there s _ c.args.name.now c.args.number _ _ fault.result c.self.view_is _ _ c.self.invariant.2 c.deref.ensures.value c.in-Some.ensures _ c.deref-2.ensures.value
          c.index_mut-named.result.now _ c.give_reply.new.follower c.in-Some-reply_numbered.given.now c.in-Some-reply_numbered.ensures c.index_mut-named.ensures.value c.give_reply.ensures.way
          (never fault.result _ fault.ensures.1) (only_failed _ _ _ fault.result fault.ensures.1 c.epoch_text.ensures.kept);
    }

pub returns : goal.returns
returns c =
    let s : SessionState = record { log = c.self.inside.log; followers = c.self.inside.followers.items; replies = c.self.inside.replies.items } in
    let reached = ap (λ (f : FollowerState). f.image.epoch) c.in_ok-give_reply.ensures.comes in
    record {
      steps = give_there s _ c.args.name.now c.args.number _ _ _ c.self.view_is _ _ c.self.invariant.2 c.deref.ensures.value c.in-Some.ensures _ c.deref-2.ensures.value
          c.index_mut-named.result.now _ c.give_reply.new.follower c.in-Some-reply_numbered.given.now c.in-Some-reply_numbered.ensures c.index_mut-named.ensures.value c.give_reply.ensures.way
          c.in_ok-give_reply.ensures.comes
          (record { answered = c.in_ok-epoch_text.ensures.added ∙ ap (λ epoch. c.args.out.now ++ epoch_text (codes "AT") epoch) (c.epoch.ensures ∙ reached); kept = c.epoch_text.ensures.kept; memory = tt });
    }
