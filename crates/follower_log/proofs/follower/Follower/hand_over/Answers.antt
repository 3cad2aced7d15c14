use Rattle.std.proofs.Common.{◌≡◌, ◌+◌, ◌==◌, Some, nat_le, false, ap, sym, ◌∙◌, arith}
use Rattle.std.proofs.lemmas.Bool.{eqb-true}
use Rattle.std.proofs.lemmas.Bool.Decides.{nat_tests}
use Rattle.transformations.proofs.lists.ListLemmas.{found_passes}
use Rattle.transformations.specs.declared.entry.Entry.{Entry}
use Rattle.follower_log.specs.Follower.{FollowerState, waiting_at}
use Rattle.follower_log.proofs.follower.Follower.hand_over.Goals as goal

pub returns-in-Some-clause-step : goal.returns-in-Some-clause-step
returns-in-Some-clause-step c =
    let f = c.args.self.now in
    let came = c.args.entry.now in
    let held = c.in-Some.held.now in
    let there : waiting_at f.waiting came.epoch ≡ Some held = ap (λ (f : FollowerState). waiting_at f.waiting came.epoch) (sym c.self.view_is) ∙ sym c.in-Some.ensures in
    let above : nat_le came.epoch f.image.epoch ≡ false = grind (arith, nat_tests, c.if-entry-epoch.false, c.epoch-epoch.ensures) in
    let same = eqb-true came.epoch held.epoch (found_passes (λ (e : Entry). came.epoch == e.epoch) f.waiting held there) in
    rw (above, there) (c.compared.ensures.step f (sym c.epoch-epoch.ensures) (sym same))

pub returns-in-Some-clause-next : goal.returns-in-Some-clause-next
returns-in-Some-clause-next c next = c.compared.ensures.uncut (c.args.self.now.image.epoch + 1)
