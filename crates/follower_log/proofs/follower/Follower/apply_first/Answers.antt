use Rattle.std.proofs.Common.{◌≡◌, ◌+◌, ap, ◌∙◌, subst, arith}
use Rattle.transformations.proofs.histories.HistoryLemmas.{next-epoch}
use Rattle.transformations.specs.declared.image.Image.{Image}
use Rattle.follower_log.proofs.AdvanceLemmas.{leads_from}
use Rattle.follower_log.proofs.EntriesByEpoch.{applied_waits}
use Rattle.follower_log.specs.code.WaitingEntries.{Leads}
use Rattle.follower_log.proofs.follower.Follower.apply_first.Goals as goal

-- the first entry is the next one
next : (c : goal.After-drop_first) → c.in-Some.entry.now.epoch ≡ c.self.inside.metadata.epoch + 1
next c =
    let one = c.if-entry-epoch-eq1.true in
    let at = c.epoch-epoch.ensures in
    omega (arith, one, at)

pub invariant_of-self : goal.invariant_of-self
invariant_of-self c =
    let up = ap (λ (i : Image). i.epoch) c.in-Ok.ensures.ok ∙ next-epoch c.self.inside.metadata c.in-Some.entry.now.cmd in
    applied_waits c.self.inside.metadata.epoch _ c.in-Some.entry.now c.self.inside.waiting _ c.in-Some.ensures c.drop_first.ensures.others c.drop_first.ensures.above c.self.invariant (next c) up

pub returns-in-Ok : goal.returns-in-Ok
returns-in-Ok c =
    let leads = leads_from (record { image = c.self.inside.metadata; waiting = c.self.inside.waiting }) (record { image = c.apply.new.self; waiting = c.drop_first.new.self })
    c.in-Some.entry.now c.in-Some.ensures c.drop_first.ensures.others (next c) c.in-Ok.ensures.refusal c.in-Ok.ensures.ok in
    subst (λ f. Leads f (record { image = c.apply.new.self; waiting = c.drop_first.new.self })) c.self.view_is leads
