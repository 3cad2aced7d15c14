use Rattle.std.proofs.Common.{◌≡◌, ℕ, ◌<◌, false, List, filter, Result, nat_le, nat_lt, refl, ap, ◌∙◌, subst, arith}
use Rattle.std.proofs.lemmas.Bool.Decides.{nat_tests}
use Rattle.transformations.specs.declared.entry.Entry.{Entry}
use Rattle.transformations.specs.declared.image.Image.{Image}
use Rattle.follower_log.proofs.AdvanceLemmas.{any_before}
use Rattle.follower_log.proofs.EntriesByEpoch.{can_wait-filter}
use Rattle.follower_log.specs.Follower.{Performs, FollowerState, advanced, hand_valid}
use Rattle.follower_log.specs.code.WaitingEntries.{Advances, CanWait}
use Rattle.follower_log.specs.declared.fault.FollowerFault.{FollowerFault}
use Rattle.follower_log.specs.declared.took.Took.{Took}
use Rattle.follower_log.proofs.follower.Follower.take_image.Goals as goal

-- the entries once the image is taken
module _ (image after : Image) (epoch : ℕ) (waiting left : List Entry) (taken : after ≡ image) (at : epoch ≡ after.epoch) (dropped : left ≡ filter (λ (entry : Entry). nat_lt epoch entry.epoch) waiting) where
  left_is : left ≡ filter (λ (entry : Entry). nat_lt image.epoch entry.epoch) waiting
  left_is = dropped ∙ ap (λ b. filter (λ (entry : Entry). nat_lt b entry.epoch) waiting) (at ∙ ap (λ (i : Image). i.epoch) taken)

  left_waits : (other : Image) (low : ℕ) → other ≡ after → CanWait low waiting → CanWait other.epoch left
  left_waits other low same waits = rw (left_is, same, taken) (can_wait-filter low image.epoch waiting waits)

  goes_on : (before end : FollowerState) (result : Result Took FollowerFault) (other : Image) (inside : Image) → record { image = inside; waiting = waiting } ≡ before → other ≡ after → before.image.epoch < image.epoch
      → Advances (record { image = other; waiting = left }) result end → Performs before (hand_valid before image) result end
  goes_on before end result other inside is same past goes =
      let high : nat_le image.epoch before.image.epoch ≡ false = grind (arith, nat_tests) in
      let whole : Performs before (advanced other left) result end = any_before (record { image = other; waiting = left }) before end result goes in
      let kept : left ≡ filter (λ (entry : Entry). nat_lt image.epoch entry.epoch) before.waiting = left_is ∙ ap (λ (f : FollowerState). filter (λ (entry : Entry). nat_lt image.epoch entry.epoch) f.waiting) is in
      let steps : advanced other left ≡ advanced image (filter (λ (entry : Entry). nat_lt image.epoch entry.epoch) before.waiting) =
      ap (λ i. advanced i left) (same ∙ taken) ∙ ap (advanced image) kept in
      rw high (subst (λ step. Performs before step result end) steps whole)

pub invariant_of-self : goal.invariant_of-self
invariant_of-self c =
    left_waits c.args.metadata c.args.metadata c.epoch-2.result c.self.inside.waiting c.drop_to.new.self refl c.epoch-2.ensures c.drop_to.ensures
    c.replace.new.dest c.self.inside.metadata.epoch c.replace.ensures.after c.self.invariant

pub returns : goal.returns
returns c =
    let past : c.args.self.now.image.epoch < c.args.metadata.epoch = omega (arith, c.if-epoch.false, c.epoch.ensures, c.epoch-epoch.ensures) in
    goes_on c.args.metadata c.args.metadata c.epoch-2.result c.self.inside.waiting c.drop_to.new.self refl c.epoch-2.ensures c.drop_to.ensures
    c.args.self.now c.apply_waiting.new.self c.apply_waiting.result c.replace.new.dest c.self.inside.metadata c.self.view_is c.replace.ensures.after past c.apply_waiting.ensures
