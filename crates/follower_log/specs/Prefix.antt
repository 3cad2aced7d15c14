-- The longest gapless prefix of what a follower took from one log.
use Rattle.std.specs.Prelude.{◌≡◌, ℕ, ◌≤◌, ◌<◌, Bool, true, List, [], ◌∷◌, drop, filter, length, nat_eq, Result, Ok, Err}
use Rattle.std.specs.List.{AllByRecursion, Contains}
use Rattle.std.specs.Set.{is_member}
use Rattle.transformations.specs.History.{state_after}
use Rattle.transformations.specs.Log.{commands_of}
use Rattle.transformations.specs.declared.entry.Entry.{Entry}
use Rattle.transformations.specs.declared.image.Image.{Image}
use Rattle.follower_log.specs.Follower.{FollowerState}
use Rattle.follower_log.specs.declared.fault.FollowerFault.{FollowerFault}
use Rattle.follower_log.specs.declared.fault.FollowerFault.TheVariants.{Fork, Refused, BadImage, Memory, MemoryAt}
use Rattle.follower_log.specs.declared.took.Took.{Took}
use Rattle.follower_log.specs.declared.took.Took.TheVariants.{At, Old, Held, Full}

-- what was taken from a log: entries and images, each by its epoch
pub record Taken : Type 0 where
  pub entries : List ℕ
  pub images : List ℕ

-- nothing was taken
abbrev pub nothing_taken : Taken
nothing_taken = record { entries = []; images = [] }

-- the entry of this epoch was taken, too
abbrev pub with_entry : Taken → ℕ → Taken
with_entry taken epoch = record taken { entries = epoch ∷ taken.entries }

-- the image of this epoch was taken, too
abbrev pub with_image : Taken → ℕ → Taken
with_image taken epoch = record taken { images = epoch ∷ taken.images }

-- whether the entry of an epoch was taken
abbrev pub has_entry : Taken → ℕ → Bool
has_entry taken epoch = is_member nat_eq taken.entries epoch

-- whether a prefix may begin at an epoch: at 0, or at that of an image that was taken
abbrev pub is_base : Taken → ℕ → Bool
is_base taken epoch = is_member nat_eq (0 ∷ taken.images) epoch

-- what was taken reaches an epoch without a gap: each entry after the base, up to this epoch, was taken
pub record Reaches (taken : Taken) (epoch : ℕ) : Type 0 where
  pub base : ℕ
  pub begins : is_base taken base ≡ true
  pub within : base ≤ epoch
  pub gapless : (e : ℕ) → base < e → e ≤ epoch → has_entry taken e ≡ true

-- the longest gapless prefix ends at this epoch
pub record IsPrefix (taken : Taken) (epoch : ℕ) : Type 0 where
  pub reached : Reaches taken epoch
  pub longest : (e : ℕ) → Reaches taken e → e ≤ epoch

-- a follower stands for a log and for what it took from it: it shows a state of the log, which is no earlier than any
-- image that was taken and is reached without a gap; the entries that wait are those taken after it
pub record StandsFor (log : List Entry) (taken : Taken) (follower : FollowerState) : Type 0 where
  pub within : follower.image.epoch ≤ length log
  pub image : follower.image ≡ state_after (commands_of log) follower.image.epoch
  pub entries : AllByRecursion (λ e. e ≤ length log) taken.entries
  pub images : AllByRecursion (λ e. e ≤ follower.image.epoch) taken.images
  pub reached : Reaches taken follower.image.epoch
  pub waiting : follower.waiting ≡ filter (λ entry. has_entry taken entry.epoch) (drop follower.image.epoch log)

-- an entry is the log's of its epoch
abbrev pub IsEntryOf : List Entry → Entry → Type 0
IsEntryOf log entry = Contains log entry

-- an image is the state of the log at its epoch
pub record IsImageOf (log : List Entry) (image : Image) : Type 0 where
  pub within : image.epoch ≤ length log
  pub state : image ≡ state_after (commands_of log) image.epoch

-- what a call leaves that was handed something of the log, so that `after` was taken: a fork, a refusal and a bad image
-- don't come; where memory is found the follower shows the longest gapless prefix
abbrev pub StandsAfter : List Entry → Taken → Taken → Result Took FollowerFault → FollowerState → Type 0
StandsAfter log before after (Ok (At epoch)) follower = StandsFor log after follower × IsPrefix after follower.image.epoch
StandsAfter log before after (Ok (Old epoch)) follower = StandsFor log after follower
StandsAfter log before after (Ok (Held epoch)) follower = StandsFor log after follower
StandsAfter log before after (Ok (Full epoch)) follower = StandsFor log before follower
StandsAfter log before after (Err (MemoryAt epoch)) follower = StandsFor log after follower
StandsAfter log before after (Err Memory) follower = StandsFor log before follower
StandsAfter log before after (Err (Fork epoch held came)) follower = ⊥
StandsAfter log before after (Err (Refused epoch refusal)) follower = ⊥
StandsAfter log before after (Err (BadImage bad)) follower = ⊥
