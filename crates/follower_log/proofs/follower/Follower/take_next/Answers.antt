use Rattle.std.proofs.Common.{◌≡◌, ◌+◌, ◌<◌, List, ◌∷◌, Some, None, Result, Err, refl, eq-eqb, sym, ap, ◌∙◌, subst}
use Rattle.std.specs.List.{AllByRecursion}
use Rattle.transformations.proofs.histories.HistoryLemmas.{next-epoch}
use Rattle.transformations.specs.History.{next_image}
use Rattle.transformations.specs.Refusals.{refusal_of}
use Rattle.transformations.specs.declared.entry.Entry.{Entry}
use Rattle.transformations.specs.declared.image.Image.{Image}
use Rattle.transformations.specs.declared.refusal.Refusal.{Refusal}
use Rattle.cluster_metadata.specs.Permission.{ShowsRefusal}
use Rattle.cluster_terms.specs.Ascending.{put}
use Rattle.follower_log.proofs.AdvanceLemmas.{advanced_refused, advances_on, any_before}
use Rattle.follower_log.proofs.StepsCutShort.{advanced_from, cut_low}
use Rattle.follower_log.proofs.EntriesByEpoch.{can_wait_on, put_first, waits_past}
use Rattle.follower_log.specs.Follower.{Performs, FollowerState, Handed, IsCutFrom, advanced, by_epoch, cut_first, stays, waiting_at}
use Rattle.follower_log.specs.code.WaitingEntries.{Advances, CanWait, Leads}
use Rattle.follower_log.specs.declared.fault.FollowerFault.{FollowerFault}
use Rattle.follower_log.specs.declared.fault.FollowerFault.TheVariants.{Refused}
use Rattle.follower_log.specs.declared.took.Took.{Took}
use Rattle.follower_log.proofs.follower.Follower.take_next.Goals as goal

-- no other entry waits up to the next epoch, so the one that came is put before them
module _ (image : Image) (waiting : List Entry) (before : FollowerState) (entry : Entry) (is : record { image = image; waiting = waiting } ≡ before) (waits : CanWait image.epoch waiting)
    (at : entry.epoch ≡ before.image.epoch + 1) (free : waiting_at before.waiting entry.epoch ≡ None) where
  next : entry.epoch ≡ image.epoch + 1
  next = at ∙ ap (λ (f : FollowerState). f.image.epoch + 1) (sym is)

  past : AllByRecursion (λ (e : Entry). entry.epoch < e.epoch) waiting
  past = waits_past image.epoch entry.epoch waiting next waits (ap (λ (f : FollowerState). waiting_at f.waiting entry.epoch) is ∙ free)

  first : advanced before.image (put by_epoch entry before.waiting) ≡ advanced image (entry ∷ waiting)
  first = ap (λ (f : FollowerState). advanced f.image (put by_epoch entry f.waiting)) (sym is) ∙ ap (advanced image) (put_first entry waiting past)

  up : (after : Image) → after ≡ next_image image entry.cmd → after.epoch ≡ image.epoch + 1
  up after applied = ap (λ (i : Image). i.epoch) applied ∙ next-epoch image entry.cmd

  waits_after : (after : Image) → after ≡ next_image image entry.cmd → CanWait after.epoch waiting
  waits_after after applied =
      let same : entry.epoch ≡ after.epoch = next ∙ sym (up after applied) in
      can_wait_on image.epoch after.epoch waiting (subst (λ m. AllByRecursion (λ (e : Entry). m < e.epoch) waiting) same past) waits

  -- the whole advance, with the entry that came before the waiting ones
  whole : (after : Image) (result : Result Took FollowerFault) (end : FollowerState) → after ≡ next_image image entry.cmd → refusal_of image entry.cmd ≡ None → Advances (record { image = after; waiting = waiting }) result end
      → Advances (record { image = image; waiting = entry ∷ waiting }) result end
  whole after result end applied accepted goes =
      let leads : Leads (record { image = image; waiting = entry ∷ waiting }) (record { image = after; waiting = waiting }) = record {
        entry = entry;
        waiting = refl;
        next = eq-eqb entry.epoch (image.epoch + 1) next;
        accepted = accepted;
        image = applied;
      } in
      advances_on (record { image = image; waiting = entry ∷ waiting }) (record { image = after; waiting = waiting }) result end leads goes

  comes : (after : Image) (result : Result Took FollowerFault) (end : FollowerState) → after ≡ next_image image entry.cmd → refusal_of image entry.cmd ≡ None → Advances (record { image = after; waiting = waiting }) result end
      → Performs before (advanced before.image (put by_epoch entry before.waiting)) result end
  comes after result end applied accepted goes =
      subst (λ step. Performs before step result end) (sym first) (any_before (record { image = image; waiting = entry ∷ waiting }) before end result (whole after result end applied accepted goes))

  not_before : (after : Image) (result : Result Took FollowerFault) (end : FollowerState) → after ≡ next_image image entry.cmd → Advances (record { image = after; waiting = waiting }) result end → IsCutFrom (before.image.epoch + 1) result
  not_before after result end applied goes =
      subst (λ e. IsCutFrom e result) (up after applied ∙ ap (λ (f : FollowerState). f.image.epoch + 1) is)
      (cut_low after.epoch (record { image = after; waiting = waiting }) end (advanced after waiting) result (advanced_from after waiting) goes.0)

  refused : (refusal : Refusal) → refusal_of image entry.cmd ≡ Some refusal → advanced before.image (put by_epoch entry before.waiting) ≡ cut_first image (entry ∷ waiting) (stays (record { image = image; waiting = waiting }) (Err (Refused entry.epoch refusal)))
  refused refusal e = first ∙ advanced_refused image entry waiting refusal (eq-eqb entry.epoch (image.epoch + 1) next) e

pub invariant_of-self : goal.invariant_of-self
invariant_of-self c = waits_after c.self.inside.metadata c.self.inside.waiting c.args.self.now c.args.entry.now c.self.view_is c.self.invariant c.requires.next c.requires.none c.apply.new.self c.in-Ok.ensures.ok

pub returns-in-Ok-clause-step : goal.returns-in-Ok-clause-step
returns-in-Ok-clause-step c =
    comes c.self.inside.metadata c.self.inside.waiting c.args.self.now c.args.entry.now c.self.view_is c.self.invariant c.requires.next c.requires.none
    c.apply.new.self c.apply_waiting.result c.apply_waiting.new.self c.in-Ok.ensures.ok c.in-Ok.ensures.refusal c.apply_waiting.ensures

pub returns-in-Ok-clause-past : goal.returns-in-Ok-clause-past
returns-in-Ok-clause-past c =
    not_before c.self.inside.metadata c.self.inside.waiting c.args.self.now c.args.entry.now c.self.view_is c.self.invariant c.requires.next c.requires.none
    c.apply.new.self c.apply_waiting.result c.apply_waiting.new.self c.in-Ok.ensures.ok c.apply_waiting.ensures

pub returns-in-Err-Refused-clause-step : goal.returns-in-Err-Refused-clause-step
returns-in-Err-Refused-clause-step c =
    let shown = subst (ShowsRefusal (refusal_of c.self.inside.metadata c.args.entry.now.cmd)) c.in-Err-Refused.field-0-is c.in-Err-Refused.ensures.refusal in
    let step = refused c.self.inside.metadata c.self.inside.waiting c.args.self.now c.args.entry.now c.self.view_is c.self.invariant c.requires.next c.requires.none c.in-Err-Refused.refusal shown in
    (sym (ap (λ (h : Handed). h.answer) step), ap (λ i. record { image = i; waiting = c.self.inside.waiting }) c.in-Err-Refused.ensures.err ∙ sym (ap (λ (h : Handed). h.after) step))
