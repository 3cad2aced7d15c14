-- How a follower keeps the entries that wait.
use Rattle.std.specs.Prelude.{◌≡◌, ℕ, ◌≤◌, ◌<◌, Bool, true, false, List, [], ◌∷◌, Option, Some, None, Result, Ok, Err}
use Rattle.std.specs.List.{AllByRecursion}
use Rattle.transformations.specs.History.{is_command, most_epochs, next_image}
use Rattle.transformations.specs.Refusals.{refusal_of}
use Rattle.transformations.specs.declared.entry.Entry.{Entry}
use Rattle.follower_log.specs.Follower.{Performs, FollowerState, IsAdvance, advanced, is_next}
use Rattle.follower_log.specs.declared.fault.FollowerFault.{FollowerFault}
use Rattle.follower_log.specs.declared.took.Took.{Took}
use Rattle.follower_log.specs.declared.took.Took.TheVariants.{At}

-- each entry stands at its epoch
abbrev pub AreKeyed : List (ℕ × Entry) → Type 0
AreKeyed pairs = AllByRecursion (λ pair. pair.0 ≡ pair.1.epoch) pairs

-- the first entry
abbrev pub first_entry : List Entry → Option Entry
first_entry [] = None
first_entry (entry ∷ entries) = Some entry

-- entries are above the first one, if there is one
abbrev pub AreAbove : Option Entry → List Entry → Type 0
AreAbove None entries = Unit {0}
AreAbove (Some first) entries = AllByRecursion (λ entry. first.epoch < entry.epoch) entries

-- an entry that can wait at an epoch: it is above it, and its command is formed
pub record CanWaitAt (epoch : ℕ) (entry : Entry) : Type 0 where
  pub above : epoch < entry.epoch
  pub within : entry.epoch ≤ most_epochs
  pub formed : is_command entry.cmd ≡ true

-- all entries can wait at an epoch
abbrev pub CanWait : ℕ → List Entry → Type 0
CanWait epoch waiting = AllByRecursion (CanWaitAt epoch) waiting

-- an advance from a follower comes to this result and this follower
abbrev pub Advances : FollowerState → Result Took FollowerFault → FollowerState → Type 0
Advances before result after = Performs before (advanced before.image before.waiting) result after × IsAdvance before.image.epoch result

-- the first waiting entry was the next one, and was applied
pub record Leads (before after : FollowerState) : Type 0 where
  pub entry : Entry
  pub waiting : before.waiting ≡ entry ∷ after.waiting
  pub next : is_next before.image entry ≡ true
  pub accepted : refusal_of before.image entry.cmd ≡ None
  pub image : after.image ≡ next_image before.image entry.cmd

-- the first waiting entry was applied; it isn't the next one; or the advance ends there
abbrev pub ComesFirst : FollowerState → Result Bool FollowerFault → FollowerState → Type 0
ComesFirst before (Ok true) after = Leads before after
ComesFirst before (Ok false) after = (after ≡ before) × Advances before (Ok (At before.image.epoch)) after
ComesFirst before (Err fault) after = Advances before (Err fault) after
