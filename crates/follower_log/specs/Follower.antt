-- The follower machine: what a follower shows, and what it makes of each entry and image that it is handed.
use Rattle.std.specs.Prelude.{◌≡◌, ℕ, ◌+◌, ◌<◌, ◌≤◌, Bool, ◌&&◌, ◌==◌, if◌then◌else◌, List, [], ◌∷◌, filter, find, is_none, length, Option, Some, None, Result, Ok, Err, nat_le, nat_lt}
use Rattle.std.specs.Ordering.{nat_cmp}
use Rattle.std.specs.declared.cmp.Ordering.{Ordering}
use Rattle.cluster_terms.specs.Ascending.{put}
use Rattle.transformations.specs.History.{empty_image, next_image}
use Rattle.transformations.specs.ImageRules.{bad_of}
use Rattle.transformations.specs.Refusals.{refusal_of}
use Rattle.transformations.specs.Same.{same_command}
use Rattle.transformations.specs.declared.image_rules.BadImage.{BadImage as BadRule}
use Rattle.transformations.specs.declared.entry.Entry.{Entry}
use Rattle.transformations.specs.declared.image.Image.{Image}
use Rattle.transformations.specs.declared.refusal.Refusal.{Refusal}
use Rattle.follower_log.specs.declared.fault.FollowerFault.{FollowerFault}
use Rattle.follower_log.specs.declared.fault.FollowerFault.TheVariants.{Fork, Refused, BadImage, Memory, MemoryAt}
use Rattle.follower_log.specs.declared.took.Took.{Took}
use Rattle.follower_log.specs.declared.took.Took.TheVariants.{At, Old, Held, Full}

-- a follower: its image, and the entries that wait, ascending by epoch
pub record FollowerState : Type 0 where
  pub image : Image
  pub waiting : List Entry

-- entries by epoch
abbrev pub by_epoch : Entry → Entry → Ordering
by_epoch one other = nat_cmp one.epoch other.epoch

-- the follower before it is handed anything
abbrev pub empty_follower : FollowerState
empty_follower = record { image = empty_image; waiting = [] }

-- what a step comes to: the follower after it, and its answer. `cut` has each epoch at which lack of memory may end the
-- step, with the follower there; only `Performs` reads it
pub record Handed : Type 0 where
  pub after : FollowerState
  pub answer : Result Took FollowerFault
  pub cut : ℕ → Option FollowerState

-- a step that changes nothing, and that lack of memory doesn't cut
abbrev pub stays : FollowerState → Result Took FollowerFault → Handed
stays follower answer = record { after = follower; answer = answer; cut = λ _. None }

-- whether an entry is the next one of an image
abbrev pub is_next : Image → Entry → Bool
is_next image entry = entry.epoch == image.epoch + 1

-- the step at the next entry, the first that waits. If the entry is refused, it is dropped, and the step ends; else the
-- step is `applied`, which applies it and goes on
abbrev pub unless_dropped : Option Refusal → Image → Entry → List Entry → Handed → Handed
unless_dropped None image entry waiting applied = applied
unless_dropped (Some refusal) image entry waiting applied = stays (record { image = image; waiting = waiting }) (Err (Refused entry.epoch refusal))

-- this step, which lack of memory may also end where it begins
abbrev pub cut_first : Image → List Entry → Handed → Handed
cut_first image waiting step =
    record step { cut = λ epoch. if image.epoch == epoch then Some (record { image = image; waiting = waiting }) else step.cut epoch }

-- the waiting entries are applied, one after another, as long as the first of them is the next one; lack of memory may
-- end the step before each of these
abbrev pub advanced : Image → List Entry → Handed
advanced image [] = stays (record { image = image; waiting = [] }) (Ok (At image.epoch))
advanced image (entry ∷ waiting) =
    if is_next image entry
    then cut_first image (entry ∷ waiting)
    (unless_dropped (refusal_of image entry.cmd) image entry waiting (advanced (next_image image entry.cmd) waiting))
    else stays (record { image = image; waiting = entry ∷ waiting }) (Ok (At image.epoch))

-- the waiting entry of an epoch
abbrev pub waiting_at : List Entry → ℕ → Option Entry
waiting_at waiting epoch = find (λ entry. epoch == entry.epoch) waiting

-- whether a follower lacks the entry of this epoch alone, of all up to an epoch: it is the next one, it doesn't wait,
-- and as many wait as there are epochs after it
abbrev pub lacks_only : FollowerState → ℕ → ℕ → Bool
lacks_only follower epoch last =
    (epoch == follower.image.epoch + 1) && (is_none (waiting_at follower.waiting epoch) && (epoch + length follower.waiting == last))

-- the most entries that wait
abbrev pub most_waiting : ℕ
most_waiting = 1024

-- whether there is no room for an entry at whose epoch none waits: it is past the next epoch, and 1,024 entries wait
abbrev pub is_full : FollowerState → Entry → Bool
is_full follower entry = nat_lt (follower.image.epoch + 1) entry.epoch && nat_le most_waiting (length follower.waiting)

-- an entry above the follower's epoch, at whose epoch none waits: if there is room, it waits with the others, and those
-- that are next are applied
abbrev pub hand_new : FollowerState → Entry → Handed
hand_new follower entry =
    if is_full follower entry then stays follower (Ok (Full follower.image.epoch))
    else advanced follower.image (put by_epoch entry follower.waiting)

-- two entries of one epoch are the same if their ids and commands are equal
abbrev pub is_same : Entry → Entry → Bool
is_same one other = (one.id == other.id) && same_command one.cmd other.cmd

-- an entry above the follower's epoch, by the entry that waits at its epoch: the same entry is held already, and
-- another one is a fork
abbrev pub hand_above : FollowerState → Entry → Option Entry → Handed
hand_above follower entry None = hand_new follower entry
hand_above follower entry (Some held) =
    stays follower (if is_same held entry then Ok (Held follower.image.epoch) else Err (Fork entry.epoch held entry))

-- an entry is handed over: at the follower's epoch or below, it is old
abbrev pub hand_entry : FollowerState → Entry → Handed
hand_entry follower entry =
    if nat_le entry.epoch follower.image.epoch then stays follower (Ok (Old follower.image.epoch))
    else hand_above follower entry (waiting_at follower.waiting entry.epoch)

-- a valid image is handed over: above the follower's epoch it replaces the image, the waiting entries that it contains
-- are dropped, and those that are next are applied
abbrev pub hand_valid : FollowerState → Image → Handed
hand_valid follower image =
    if nat_le image.epoch follower.image.epoch then stays follower (Ok (Old follower.image.epoch))
    else advanced image (filter (λ entry. nat_lt image.epoch entry.epoch) follower.waiting)

-- a step with an image, which is refused with the first rule of valid images that it breaks, if it breaks one
abbrev pub unless_bad : Option BadRule → FollowerState → Handed → Handed
unless_bad None follower taken = taken
unless_bad (Some bad) follower taken = stays follower (Err (BadImage bad))

-- an image is handed over, valid or not
abbrev pub hand_image : FollowerState → Image → Handed
hand_image follower image = unless_bad (bad_of image) follower (hand_valid follower image)

-- a call comes to a step: to its answer and its follower. If memory runs out, it comes to the follower where the step
-- is cut, or changes nothing
abbrev pub Performs : FollowerState → Handed → Result Took FollowerFault → FollowerState → Type 0
Performs before step (Err Memory) after = after ≡ before
Performs before step (Err (MemoryAt epoch)) after = step.cut epoch ≡ Some after
Performs before step result after = (result ≡ step.answer) × (after ≡ step.after)

-- the answers of an advance from an epoch: it comes no further back. If memory runs out, it tells where the advance is
-- cut
abbrev pub IsAdvance : ℕ → Result Took FollowerFault → Type 0
IsAdvance epoch (Ok (At reached)) = epoch ≤ reached
IsAdvance epoch (Err (Refused next refusal)) = epoch < next
IsAdvance epoch (Err (MemoryAt reached)) = epoch ≤ reached
IsAdvance epoch result = ⊥

-- if memory runs out on the way, the follower is at this epoch or a later one
abbrev pub IsCutFrom : ℕ → Result Took FollowerFault → Type 0
IsCutFrom epoch (Err (MemoryAt cut)) = epoch ≤ cut
IsCutFrom epoch result = Unit {0}
