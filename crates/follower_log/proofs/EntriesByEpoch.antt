-- The entries that wait, kept by epoch.
use Rattle.std.proofs.Common.{◌≡◌, ℕ, ◌+◌, ◌<◌, true, false, ◌==◌, List, [], ◌∷◌, filter, drop, nat_lt, Some, None, refl, sym, ap, subst, arith}
use Rattle.std.proofs.lemmas.Option.{none-some}
use Rattle.std.proofs.lemmas.Bool.{eqb-false}
use Rattle.std.proofs.lemmas.Bool.Decides.{nat_tests}
use Rattle.std.specs.List.{AllByRecursion}
use Rattle.std.specs.Cmp.{nat_cmp_is}
use Rattle.std.specs.Ordering.{nat_cmp}
use Rattle.std.specs.declared.cmp.Ordering.TheVariants.{Less}
use Rattle.cluster_terms.specs.Ascending.{put}
use Rattle.transformations.proofs.lists.ListLemmas.{all_both, all_filter, all_weaker, none_found}
use Rattle.transformations.specs.declared.entry.Entry.{Entry}
use Rattle.follower_log.specs.Follower.{by_epoch, waiting_at}
use Rattle.follower_log.specs.code.WaitingEntries.{AreAbove, CanWait, CanWaitAt, first_entry}

-- what can wait at an epoch and is past another one can wait there
pub can_wait_on : (epoch m : ℕ) (waiting : List Entry) → AllByRecursion (λ (e : Entry). m < e.epoch) waiting → CanWait epoch waiting → CanWait m waiting
can_wait_on epoch m waiting past all =
    all_both (λ (e : Entry). m < e.epoch) (CanWaitAt epoch) (CanWaitAt m) (λ e above can. record { above = above; within = can.within; formed = can.formed }) waiting past all

-- the first one is the next entry, and is applied: the others can wait at its epoch
pub applied_waits : (epoch next : ℕ) (entry : Entry) (waiting others : List Entry) → Some entry ≡ first_entry waiting → others ≡ drop 1 waiting → AreAbove (first_entry waiting) others → CanWait epoch waiting
    → entry.epoch ≡ epoch + 1 → next ≡ epoch + 1 → CanWait next others
applied_waits epoch next entry [] others first rest above all is same = absurd (none-some entry (sym first))
applied_waits epoch next entry (e ∷ waiting) others first rest above all is same =
    let own : entry ≡ e = cc first in
    let at : next ≡ e.epoch = omega (arith, same, is, ap (λ (x : Entry). x.epoch) own) in
    can_wait_on epoch next others (rw at above) (subst (CanWait epoch) (sym rest) all.1)

-- no entry waits at the next epoch, so all that wait are past it
pub waits_past : (epoch m : ℕ) (waiting : List Entry) → m ≡ epoch + 1 → CanWait epoch waiting → waiting_at waiting m ≡ None → AllByRecursion (λ (e : Entry). m < e.epoch) waiting
waits_past epoch m waiting next all none =
    all_both (CanWaitAt epoch) (λ (e : Entry). (m == e.epoch) ≡ false) (λ (e : Entry). m < e.epoch) (λ e can other. omega (arith, next, can.above, eqb-false m e.epoch other)) waiting all
    (none_found (λ (e : Entry). m == e.epoch) waiting none)

-- an entry that is below all that wait is put before them
pub put_first : (entry : Entry) (waiting : List Entry) → AllByRecursion (λ (e : Entry). entry.epoch < e.epoch) waiting → put by_epoch entry waiting ≡ entry ∷ waiting
put_first entry [] below = refl
put_first entry (e ∷ waiting) below = (let less : nat_cmp entry.epoch e.epoch ≡ Less = sym (nat_cmp_is entry.epoch e.epoch Less below.0) in rw less refl)

pub can_wait-filter : (epoch m : ℕ) (waiting : List Entry) → CanWait epoch waiting → CanWait m (filter (λ (e : Entry). nat_lt m e.epoch) waiting)
can_wait-filter epoch m waiting all =
    all_filter (λ (e : Entry). nat_lt m e.epoch) (CanWaitAt m) waiting
    (all_weaker (CanWaitAt epoch) (λ (e : Entry). nat_lt m e.epoch ≡ true → CanWaitAt m e) (λ e can up. record { above = grind (arith, nat_tests, up); within = can.within; formed = can.formed }) waiting all)
