-- Followers of one log: what a step leaves of a follower.
use Rattle.std.proofs.Common.{◌≡◌, ℕ, ◌+◌, ◌-◌, ◌≤◌, ◌==◌, Bool, true, false, if◌then◌else◌, List, [], ◌∷◌, filter, take, length, Option, Some, None, is_some, Result, Ok, Err, IsOk, nat_le, nat_lt, codes, refl, sym, ap, ◌∙◌, subst, arith, length-take-le}
use Rattle.std.specs.List.{Contains, slice_get}
use Rattle.std.proofs.lemmas.Bool.Decides.{nat_tests}
use Rattle.std.proofs.lemmas.Option.{get_or_from_slice_get, none-some, slice_get_within}
use Rattle.cluster_terms.specs.Ascending.{put}
use Rattle.transformations.proofs.histories.HistoryLemmas.{epoch_after}
use Rattle.transformations.proofs.histories.LogLemmas.{length-commands_of}
use Rattle.transformations.specs.History.{next_image, state_after}
use Rattle.transformations.specs.Log.{IsLog, commands_of}
use Rattle.transformations.specs.Refusals.{refusal_of}
use Rattle.transformations.specs.declared.command.Command.{Command}
use Rattle.transformations.specs.declared.entry.Entry.{Entry}
use Rattle.transformations.specs.declared.image.Image.{Image}
use Rattle.transformations.specs.declared.refusal.Refusal.{Refusal}
use Rattle.epoch_log.specs.Epochs.{entry_at}
use Rattle.follower_log.proofs.ShowsLemmas.{entry_shows, prefix_ends, valid_shows}
use Rattle.follower_log.specs.Follower.{Performs, FollowerState, Handed, advanced, by_epoch, cut_first, hand_above, hand_entry, hand_image, hand_valid, is_full, is_next, is_same, stays, unless_bad, unless_dropped, waiting_at}
use Rattle.follower_log.specs.Prefix.{IsImageOf, IsPrefix, StandsAfter, StandsFor, Taken, with_entry, with_image}
use Rattle.transformations.specs.ImageRules.{bad_of}
use Rattle.transformations.specs.declared.image_rules.BadImage.{BadImage as BadRule}
use Rattle.follower_log.specs.declared.fault.FollowerFault.{FollowerFault}
use Rattle.follower_log.specs.declared.fault.FollowerFault.TheVariants.{Fork, Refused, BadImage, Memory, MemoryAt}
use Rattle.follower_log.specs.declared.took.Took.{Took}
use Rattle.follower_log.specs.declared.took.Took.TheVariants.{At, Old, Held, Full}
use Rattle.script_lang.specs.AnswerTexts.{no_text}
use Rattle.script_session.specs.Machine.{Reply, SessionState, follower_named, follower_reply, image_at, made_reply, most_followers, no_epoch, only_answers}
use Rattle.script_session.specs.StepEnds.{FollowsLog}
use Rattle.script_session.specs.Taken.{ShowsPrefix, unless_full}

-- ---- a step of a follower

-- what its answer tells of the follower after it: no answer is that memory ran out
abbrev pub Tells : FollowerState → Result Took FollowerFault → FollowerState → Type 0
Tells f (Ok (At epoch)) g = g.image.epoch ≡ epoch
Tells f (Ok (Old epoch)) g = g ≡ f
Tells f (Ok (Held epoch)) g = g ≡ f
Tells f (Ok (Full epoch)) g = g ≡ f
Tells f (Err (Fork epoch held came)) g = Unit {0}
Tells f (Err (Refused epoch refusal)) g = Unit {0}
Tells f (Err (BadImage bad)) g = Unit {0}
Tells f (Err Memory) g = ⊥
Tells f (Err (MemoryAt epoch)) g = ⊥

abbrev StepTells : FollowerState → Handed → Type 0
StepTells f step = Tells f step.answer step.after

advanced_tells : (f : FollowerState) (image : Image) (waiting : List Entry) → StepTells f (advanced image waiting)
advanced_tells f image [] = refl
advanced_tells f image (entry ∷ waiting) = by (advanced_tells f (next_image image entry.cmd) waiting) (is_next image entry) (refusal_of image entry.cmd)
  where
    by : StepTells f (advanced (next_image image entry.cmd) waiting) → (b : Bool) (o : Option Refusal)
        → StepTells f (if b then cut_first image (entry ∷ waiting) (unless_dropped o image entry waiting (advanced (next_image image entry.cmd) waiting)) else stays (record { image = image; waiting = entry ∷ waiting }) (Ok (At image.epoch)))
    by rest true None = rest
    by rest true (Some r) = tt
    by rest false o = refl

pub entry_tells : (f : FollowerState) (entry : Entry) → Tells f (hand_entry f entry).answer (hand_entry f entry).after
entry_tells f entry = by (nat_le entry.epoch f.image.epoch)
  where
    new : (b : Bool) → StepTells f (if b then stays f (Ok (Full f.image.epoch)) else advanced f.image (put by_epoch entry f.waiting))
    new true = refl
    new false = advanced_tells f f.image (put by_epoch entry f.waiting)

    same : (held : Entry) (b : Bool) → Tells f (if b then Ok (Held f.image.epoch) else Err (Fork entry.epoch held entry)) f
    same held true = refl
    same held false = tt

    above : (o : Option Entry) → StepTells f (hand_above f entry o)
    above None = new (is_full f entry)
    above (Some held) = same held (is_same held entry)

    by : (b : Bool) → StepTells f (if b then stays f (Ok (Old f.image.epoch)) else hand_above f entry (waiting_at f.waiting entry.epoch))
    by true = refl
    by false = above (waiting_at f.waiting entry.epoch)

pub valid_tells : (f : FollowerState) (image : Image) → StepTells f (hand_valid f image)
valid_tells f image = by (nat_le image.epoch f.image.epoch)
  where
    by : (b : Bool) → StepTells f (if b then stays f (Ok (Old f.image.epoch)) else advanced image (filter (λ (entry : Entry). nat_lt image.epoch entry.epoch) f.waiting))
    by true = refl
    by false = advanced_tells f image (filter (λ (entry : Entry). nat_lt image.epoch entry.epoch) f.waiting)

pub image_tells : (f : FollowerState) (image : Image) → Tells f (hand_image f image).answer (hand_image f image).after
image_tells f image = by (bad_of image)
  where
    by : (bad : Option BadRule) → StepTells f (unless_bad bad f (hand_valid f image))
    by None = valid_tells f image
    by (Some bad) = tt

comes_to : (f : FollowerState) (step : Handed) → StepTells f step → Performs f step step.answer step.after
comes_to f step tells = by step.answer refl tells
  where
    by : (r : Result Took FollowerFault) → r ≡ step.answer → Tells f r step.after → Performs f step r step.after
    by (Ok took) same tells = (same, refl)
    by (Err (Fork epoch held came)) same tells = (same, refl)
    by (Err (Refused epoch refusal)) same tells = (same, refl)
    by (Err (BadImage bad)) same tells = (same, refl)
    by (Err Memory) same tells = absurd tells
    by (Err (MemoryAt epoch)) same tells = absurd tells

-- the follower stands for what it took, and shows the prefix of it
stands_after : (log : List Entry) (before after : Taken) (f g : FollowerState) (r : Result Took FollowerFault) → StandsAfter log before after r g → Tells f r g → StandsFor log (unless_full r before after) g
stands_after log before after f g (Ok (At epoch)) shows tells = shows.0
stands_after log before after f g (Ok (Old epoch)) shows tells = shows
stands_after log before after f g (Ok (Held epoch)) shows tells = shows
stands_after log before after f g (Ok (Full epoch)) shows tells = shows
stands_after log before after f g (Err (Fork epoch held came)) shows tells = absurd shows
stands_after log before after f g (Err (Refused epoch refusal)) shows tells = absurd shows
stands_after log before after f g (Err (BadImage bad)) shows tells = absurd shows
stands_after log before after f g (Err Memory) shows tells = absurd tells
stands_after log before after f g (Err (MemoryAt epoch)) shows tells = absurd tells

prefix_after : (log : List Entry) (before after : Taken) (f g : FollowerState) (r : Result Took FollowerFault) → IsLog log → ShowsPrefix log before f → StandsAfter log before after r g → Tells f r g
    → IsPrefix (unless_full r before after) g.image.epoch
prefix_after log before after f g r is at shows tells = by r shows tells
  where
    stays_prefix : StandsFor log after g → g ≡ f → IsPrefix after g.image.epoch
    stays_prefix stands same =
        let none : waiting_at f.waiting (f.image.epoch + 1) ≡ None = (prefix_ends log before f is at.stands).0 at.longest in
        (prefix_ends log after g is stands).1 (subst (λ (h : FollowerState). waiting_at h.waiting (h.image.epoch + 1) ≡ None) (sym same) none)

    by : (r : Result Took FollowerFault) → StandsAfter log before after r g → Tells f r g → IsPrefix (unless_full r before after) g.image.epoch
    by (Ok (At epoch)) shows tells = shows.1
    by (Ok (Old epoch)) shows tells = stays_prefix shows tells
    by (Ok (Held epoch)) shows tells = stays_prefix shows tells
    by (Ok (Full epoch)) shows tells = subst (λ (h : FollowerState). IsPrefix before h.image.epoch) (sym tells) at.longest
    by (Err (Fork epoch held came)) shows tells = absurd shows
    by (Err (Refused epoch refusal)) shows tells = absurd shows
    by (Err (BadImage bad)) shows tells = absurd shows
    by (Err Memory) shows tells = absurd tells
    by (Err (MemoryAt epoch)) shows tells = absurd tells

-- a follower of a log that is handed an entry or an image of the log
entry_leaves : (log : List Entry) (taken : Taken) (f : FollowerState) (entry : Entry) → IsLog log → Contains log entry → StandsFor log taken f
    → StandsAfter log taken (with_entry taken entry.epoch) (hand_entry f entry).answer (hand_entry f entry).after
entry_leaves log taken f entry is there stands =
    entry_shows log taken f (hand_entry f entry).after entry (hand_entry f entry).answer is there stands (comes_to f (hand_entry f entry) (entry_tells f entry))

image_leaves : (log : List Entry) (taken : Taken) (f : FollowerState) (image : Image) → IsLog log → IsImageOf log image → StandsFor log taken f
    → StandsAfter log taken (with_image taken image.epoch) (hand_valid f image).answer (hand_valid f image).after
image_leaves log taken f image is of stands =
    valid_shows log taken f (hand_valid f image).after image (hand_valid f image).answer is of stands (comes_to f (hand_valid f image) (valid_tells f image))

-- no fork, no refusal and no bad image comes
ok_after : (log : List Entry) (before after : Taken) (f g : FollowerState) (r : Result Took FollowerFault) → StandsAfter log before after r g → Tells f r g → IsOk r
ok_after log before after f g (Ok t) shows tells = refl
ok_after log before after f g (Err (Fork epoch held came)) shows tells = absurd shows
ok_after log before after f g (Err (Refused epoch refusal)) shows tells = absurd shows
ok_after log before after f g (Err (BadImage bad)) shows tells = absurd shows
ok_after log before after f g (Err Memory) shows tells = absurd tells
ok_after log before after f g (Err (MemoryAt epoch)) shows tells = absurd tells

pub entry_ok : (log : List Entry) (taken : Taken) (f : FollowerState) (entry : Entry) → IsLog log → Contains log entry → StandsFor log taken f → IsOk (hand_entry f entry).answer
entry_ok log taken f entry is there stands =
    ok_after log taken (with_entry taken entry.epoch) f (hand_entry f entry).after (hand_entry f entry).answer (entry_leaves log taken f entry is there stands) (entry_tells f entry)

pub image_ok : (log : List Entry) (taken : Taken) (f : FollowerState) (image : Image) → IsLog log → IsImageOf log image → StandsFor log taken f → IsOk (hand_valid f image).answer
image_ok log taken f image is of stands =
    ok_after log taken (with_image taken image.epoch) f (hand_valid f image).after (hand_valid f image).answer (image_leaves log taken f image is of stands) (valid_tells f image)

-- what it shows, it shows with what it was handed
shown_after : (log : List Entry) (before after : Taken) (f : FollowerState) (step : Handed) → IsLog log → ShowsPrefix log before f → StandsAfter log before after step.answer step.after → Tells f step.answer step.after → ShowsPrefix log (unless_full step.answer before after) step.after
shown_after log before after f step is at shows tells =
    record { stands = stands_after log before after f step.after step.answer shows tells; longest = prefix_after log before after f step.after step.answer is at shows tells }

pub entry_shown : (log : List Entry) (taken : Taken) (f : FollowerState) (entry : Entry) → IsLog log → Contains log entry → ShowsPrefix log taken f
    → ShowsPrefix log (unless_full (hand_entry f entry).answer taken (with_entry taken entry.epoch)) (hand_entry f entry).after
entry_shown log taken f entry is there at = shown_after log taken (with_entry taken entry.epoch) f (hand_entry f entry) is at (entry_leaves log taken f entry is there at.stands) (entry_tells f entry)

pub image_shown : (log : List Entry) (taken : Taken) (f : FollowerState) (image : Image) → IsLog log → IsImageOf log image → ShowsPrefix log taken f
    → ShowsPrefix log (unless_full (hand_valid f image).answer taken (with_image taken image.epoch)) (hand_valid f image).after
image_shown log taken f image is of at = shown_after log taken (with_image taken image.epoch) f (hand_valid f image) is at (image_leaves log taken f image is of at.stands) (valid_tells f image)

-- it follows the log on
pub entry_followed : (log : List Entry) (f : FollowerState) (entry : Entry) → IsLog log → Contains log entry → FollowsLog log f → FollowsLog log (hand_entry f entry).after
entry_followed log f entry is there follows = record {
  taken = unless_full (hand_entry f entry).answer follows.taken (with_entry follows.taken entry.epoch);
  stands = stands_after log follows.taken (with_entry follows.taken entry.epoch) f (hand_entry f entry).after (hand_entry f entry).answer (entry_leaves log follows.taken f entry is there follows.stands) (entry_tells f entry);
}

pub image_followed : (log : List Entry) (f : FollowerState) (image : Image) → IsLog log → IsImageOf log image → FollowsLog log f → FollowsLog log (hand_valid f image).after
image_followed log f image is of follows = record {
  taken = unless_full (hand_valid f image).answer follows.taken (with_image follows.taken image.epoch);
  stands = stands_after log follows.taken (with_image follows.taken image.epoch) f (hand_valid f image).after (hand_valid f image).answer (image_leaves log follows.taken f image is of follows.stands) (valid_tells f image);
}

-- an answer `At` tells the epoch of the follower
told_at : (f g : FollowerState) (r : Result Took FollowerFault) (epoch : ℕ) → Tells f r g → r ≡ Ok (At epoch) → g.image.epoch ≡ epoch
told_at f g r epoch tells same = subst (λ r. Tells f r g) same tells

pub entry_at_epoch : (f : FollowerState) (entry : Entry) (epoch : ℕ) → (hand_entry f entry).answer ≡ Ok (At epoch) → (hand_entry f entry).after.image.epoch ≡ epoch
entry_at_epoch f entry epoch same = told_at f (hand_entry f entry).after (hand_entry f entry).answer epoch (entry_tells f entry) same

pub image_at_epoch : (f : FollowerState) (image : Image) (epoch : ℕ) → (hand_image f image).answer ≡ Ok (At epoch) → (hand_image f image).after.image.epoch ≡ epoch
image_at_epoch f image epoch same = told_at f (hand_image f image).after (hand_image f image).answer epoch (image_tells f image) same

-- ---- what a log has at an epoch

pub entry_there : (log : List Entry) (epoch : ℕ) (entry : Entry) → entry_at log epoch ≡ Some entry → Contains log entry
entry_there log epoch entry is = by (epoch == 0) is
  where
    by : (b : Bool) → (if b then None else slice_get log (epoch - 1)) ≡ Some entry → Contains log entry
    by true e = absurd (none-some entry e)
    by false e = (epoch - 1, slice_get_within log (epoch - 1) entry e, get_or_from_slice_get log (epoch - 1) entry entry e)

pub epoch_at : (h : List Command) (e : ℕ) → e ≤ length h → (state_after h e).epoch ≡ e
epoch_at h e within = epoch_after (take e h) ∙ length-take-le e h within

pub image_there : (log : List Entry) (epoch : ℕ) (image : Image) → image_at (commands_of log) epoch ≡ Ok image → IsImageOf log image
image_there log epoch image is = by (nat_le epoch (length h)) refl is
  where
    h : List Command
    h = commands_of log

    by : (b : Bool) → nat_le epoch (length h) ≡ b → (if b then Ok (state_after h epoch) else Err (no_epoch h)) ≡ Ok image → IsImageOf log image
    by false short e = absurd (cc)
    by true short e =
        let within : epoch ≤ length h = grind (arith, nat_tests) in
        let same : state_after h epoch ≡ image = cc in
        let at : (state_after h epoch).epoch ≡ epoch = epoch_at h epoch within in
        subst (IsImageOf log) same
        (record { within = omega (arith, at, within, length-commands_of log); state = ap (state_after h) (sym at) })

-- ---- the reply to a line that makes a follower

pub follower_cases : (session : SessionState) (name : List ℕ) (P : Reply → Type 0) → P (only_answers session (no_text (codes "FOLLOWER-TAKEN"))) → P (only_answers session (no_text (codes "FOLLOWERS-FULL"))) → P (made_reply session name)
    → P (follower_reply session name)
follower_cases session name P taken full made = by (is_some (follower_named session.followers name)) (nat_le most_followers (length session.followers))
  where
    by : (a b : Bool) → P (if a then only_answers session (no_text (codes "FOLLOWER-TAKEN")) else if b then only_answers session (no_text (codes "FOLLOWERS-FULL")) else made_reply session name)
    by true b = taken
    by false true = full
    by false false = made

-- a follower's image is the log's of its epoch
pub shows_log : (log : List Entry) (f : FollowerState) → FollowsLog log f → IsImageOf log f.image
shows_log log f follows = record { within = follows.stands.within; state = follows.stands.image }
