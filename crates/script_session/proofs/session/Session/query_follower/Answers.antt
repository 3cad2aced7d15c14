use Rattle.std.proofs.Common.{◌≡◌, ◌++◌, OnOk, ap, subst, ◌∙◌}
use Rattle.script_session.specs.Machine.{SessionState, follower_named, image_named, query_text}
use Rattle.script_session.proofs.session.Session.query_follower.Goals as goal

pub returns-in-None-clause-text : goal.returns-in-None-clause-text
returns-in-None-clause-text c =
    let followers = c.deref.ensures.value ∙ ap (λ (s : SessionState). s.followers) c.self.view_is in
    subst (λ o. OnOk c.no_text.result (c.no_text.new.out ≡ c.args.out.now ++ query_text (image_named o) c.args.query))
    (c.in-None.ensures ∙ (λ i. follower_named (followers i) (c.as_str.ensures.text i))) c.no_text.ensures.added

pub returns-in-Some-clause-text : goal.returns-in-Some-clause-text
returns-in-Some-clause-text c =
    let followers = c.deref.ensures.value ∙ ap (λ (s : SessionState). s.followers) c.self.view_is in
    let added = rw c.metadata.ensures at c.answer_from.ensures.added in
    subst (λ o. OnOk c.answer_from.result (c.answer_from.new.out ≡ c.args.out.now ++ query_text (image_named o) c.args.query))
    (c.in-Some.ensures ∙ (λ i. follower_named (followers i) (c.as_str.ensures.text i))) added
