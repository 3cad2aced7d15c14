-- What one entry or image of a log makes of a follower for which no entry of its next epoch waits.
use Rattle.std.proofs.Common.{◌≡◌, ℕ, ◌+◌, ◌<◌, ◌≤◌, Bool, true, false, ◌||◌, List, [], ◌∷◌, filter, nat_eq, nat_le, nat_lt, Option, Some, None, Result, Ok, Err, refl, sym, ap, ◌∙◌, subst, arith}
use Rattle.std.proofs.lemmas.Bool.Decides.{nat_tests}
use Rattle.std.specs.List.{Contains}
use Rattle.cluster_terms.specs.Ascending.{put}
use Rattle.transformations.specs.History.{next_image}
use Rattle.transformations.specs.Log.{IsLog}
use Rattle.transformations.specs.Refusals.{refusal_of}
use Rattle.transformations.specs.declared.entry.Entry.{Entry}
use Rattle.transformations.specs.declared.image.Image.{Image}
use Rattle.transformations.specs.declared.refusal.Refusal.{Refusal}
use Rattle.follower_log.proofs.AdvanceLemmas.{advanced_on, advanced_refused, advanced_stays}
use Rattle.follower_log.proofs.ShowsLemmas.{entry_shows, prefix_ends, valid_shows}
use Rattle.follower_log.specs.Follower.{FollowerState, Handed, Performs, advanced, by_epoch, hand_entry, hand_valid, is_next, waiting_at}
use Rattle.follower_log.specs.Prefix.{IsImageOf, IsPrefix, Reaches, StandsAfter, StandsFor, Taken, has_entry, with_entry, with_image}
use Rattle.follower_log.specs.declared.fault.FollowerFault.{FollowerFault}
use Rattle.follower_log.specs.declared.fault.FollowerFault.TheVariants.{Fork, Refused, BadImage, Memory, MemoryAt}
use Rattle.follower_log.specs.declared.took.Took.{Took}
use Rattle.follower_log.specs.declared.took.Took.TheVariants.{At, Old, Held, Full}
use Rattle.catch_up_laws.specs.Ready.{IsReadyAt}

-- ---- an advance over what is of one log ends at the longest prefix

-- an advance answers an epoch or a refusal
abbrev TellsEnd : Result Took FollowerFault → Type 0
TellsEnd (Ok (At epoch)) = Unit {0}
TellsEnd (Err (Refused epoch refusal)) = Unit {0}
TellsEnd answer = ⊥

tells_end : (image : Image) (waiting : List Entry) → TellsEnd (advanced image waiting).answer
tells_end image [] = tt
tells_end image (entry ∷ waiting) = by (tells_end (next_image image entry.cmd) waiting) (is_next image entry) refl (refusal_of image entry.cmd) refl
  where
    by : TellsEnd (advanced (next_image image entry.cmd) waiting).answer → (b : Bool) → is_next image entry ≡ b → (o : Option Refusal) → refusal_of image entry.cmd ≡ o → TellsEnd (advanced image (entry ∷ waiting)).answer
    by later false gap o is = subst (λ (h : Handed). TellsEnd h.answer) (sym (advanced_stays image entry waiting gap)) tt
    by later true next (Some refusal) is = subst (λ (h : Handed). TellsEnd h.answer) (sym (advanced_refused image entry waiting refusal next is)) tt
    by later true next None is = subst (λ (h : Handed). TellsEnd h.answer) (sym (advanced_on image entry waiting next is)) later

-- so a call that hands over something of a log, and comes to an advance, leaves a follower at the longest prefix
advance_ends : (log : List Entry) (before after : Taken) (f : FollowerState) (image : Image) (waiting : List Entry)
    → ((result : Result Took FollowerFault) → Performs f (advanced image waiting) result (advanced image waiting).after → StandsAfter log before after result (advanced image waiting).after)
    → StandsFor log after (advanced image waiting).after × IsPrefix after (advanced image waiting).after.image.epoch
advance_ends log before after f image waiting shows = by (advanced image waiting).answer refl (tells_end image waiting)
  where
    step : Handed
    step = advanced image waiting

    by : (result : Result Took FollowerFault) → result ≡ step.answer → TellsEnd result → StandsFor log after step.after × IsPrefix after step.after.image.epoch
    by (Ok (At epoch)) is told = shows (Ok (At epoch)) (is, refl)
    by (Err (Refused epoch refusal)) is told = absurd (shows (Err (Refused epoch refusal)) (is, refl))
    by (Ok (Old epoch)) is told = absurd told
    by (Ok (Held epoch)) is told = absurd told
    by (Ok (Full epoch)) is told = absurd told
    by (Err Memory) is told = absurd told
    by (Err (MemoryAt epoch)) is told = absurd told
    by (Err (Fork epoch held came)) is told = absurd told
    by (Err (BadImage bad)) is told = absurd told

-- and no entry of its next epoch waits
ready_from : (log : List Entry) (taken : Taken) (epoch : ℕ) (f : FollowerState) → IsLog log → StandsFor log taken f × IsPrefix taken f.image.epoch → epoch ≤ f.image.epoch → IsReadyAt log epoch f
ready_from log taken epoch f is (stands, prefix) reached = record {
  taken = taken;
  stands = stands;
  reached = reached;
  none = (prefix_ends log taken f is stands).0 prefix;
}

-- a ready follower is ready at each epoch that it has reached
pub ready_to : (log : List Entry) (from to : ℕ) (f : FollowerState) → IsReadyAt log from f → to ≤ f.image.epoch → IsReadyAt log to f
ready_to log from to f ready reached = record { taken = ready.taken; stands = ready.stands; reached = reached; none = ready.none }

-- ---- an entry or an image that isn't above the follower's epoch

pub entry_old : (f : FollowerState) (entry : Entry) → entry.epoch ≤ f.image.epoch → (hand_entry f entry).after ≡ f
entry_old f entry low = (let is : nat_le entry.epoch f.image.epoch ≡ true = grind (arith, nat_tests, low) in rw is refl)

pub image_old : (f : FollowerState) (image : Image) → image.epoch ≤ f.image.epoch → (hand_valid f image).after ≡ f
image_old f image low = (let old : nat_le image.epoch f.image.epoch ≡ true = grind (arith, nat_tests, low) in rw old refl)

-- ---- the next entry

next_is : (f : FollowerState) (entry : Entry) → entry.epoch ≡ f.image.epoch + 1 → waiting_at f.waiting (f.image.epoch + 1) ≡ None → hand_entry f entry ≡ advanced f.image (put by_epoch entry f.waiting)
next_is f entry epoch none =
    let above : nat_le entry.epoch f.image.epoch ≡ false = grind (arith, nat_tests, epoch) in
    let near : nat_lt (f.image.epoch + 1) entry.epoch ≡ false = grind (arith, nat_tests, epoch) in
    let free : waiting_at f.waiting entry.epoch ≡ None = ap (waiting_at f.waiting) epoch ∙ none in
    rw (above, free, near) refl

-- what is reached without a gap goes one further with the next entry
reaches_next : (taken : Taken) (k : ℕ) → Reaches taken k → Reaches (with_entry taken (k + 1)) (k + 1)
reaches_next taken k reached = record {
  base = reached.base;
  begins = reached.begins;
  within = omega (arith, reached.within);
  gapless = λ e above up. by e above up (nat_eq e (k + 1)) refl;
}
  where
    by : (e : ℕ) → reached.base < e → e ≤ k + 1 → (b : Bool) → nat_eq e (k + 1) ≡ b → (nat_eq e (k + 1) || has_entry taken e) ≡ true
    by e above up true same = rw same refl
    by e above up false other = (let low : e ≤ k = grind (arith, nat_tests, up, other) in rw other (reached.gapless e above low))

entry_next : (log : List Entry) (f : FollowerState) (entry : Entry) → IsLog log → Contains log entry → (ready : IsReadyAt log f.image.epoch f) → entry.epoch ≡ f.image.epoch + 1
    → IsReadyAt log entry.epoch (hand_entry f entry).after
entry_next log f entry is there ready epoch = subst (λ (h : Handed). IsReadyAt log entry.epoch h.after) (sym goes) (ready_from log more entry.epoch step.after is ends far)
  where
    step : Handed
    step = advanced f.image (put by_epoch entry f.waiting)

    goes : hand_entry f entry ≡ step
    goes = next_is f entry epoch ready.none

    more : Taken
    more = with_entry ready.taken entry.epoch

    ends : StandsFor log more step.after × IsPrefix more step.after.image.epoch
    ends = advance_ends log ready.taken more f f.image (put by_epoch entry f.waiting)
        (λ result comes. entry_shows log ready.taken f step.after entry result is there ready.stands (subst (λ h. Performs f h result step.after) (sym goes) comes))

    far : entry.epoch ≤ step.after.image.epoch
    far = ends.1.longest entry.epoch (subst (λ e. Reaches (with_entry ready.taken e) e) (sym epoch) (reaches_next ready.taken f.image.epoch ready.stands.reached))

-- the entry after an epoch brings a follower there that has reached this epoch
pub entry_ready : (log : List Entry) (epoch : ℕ) (entry : Entry) (f : FollowerState) → IsLog log → entry.epoch ≡ epoch + 1 → Contains log entry → IsReadyAt log epoch f → IsReadyAt log (epoch + 1) (hand_entry f entry).after
entry_ready log epoch entry f is at there ready = by (nat_le entry.epoch f.image.epoch) refl
  where
    by : (old : Bool) → nat_le entry.epoch f.image.epoch ≡ old → IsReadyAt log (epoch + 1) (hand_entry f entry).after
    by true old =
        let below : entry.epoch ≤ f.image.epoch = grind (arith, nat_tests) in
        subst (IsReadyAt log (epoch + 1)) (sym (entry_old f entry below)) (ready_to log epoch (epoch + 1) f ready (omega (arith, below, at)))
    by false new =
        let past : f.image.epoch < entry.epoch = grind (arith, nat_tests) in
        let next : entry.epoch ≡ f.image.epoch + 1 = omega (arith, past, at, ready.reached) in
        subst (λ e. IsReadyAt log e (hand_entry f entry).after) at (entry_next log f entry is there (ready_to log epoch f.image.epoch f ready (omega arith)) next)

-- ---- a later image

later_is : (f : FollowerState) (image : Image) → f.image.epoch < image.epoch → hand_valid f image ≡ advanced image (filter (λ (entry : Entry). nat_lt image.epoch entry.epoch) f.waiting)
later_is f image past = (let above : nat_le image.epoch f.image.epoch ≡ false = grind (arith, nat_tests, past) in rw above refl)

image_later : (log : List Entry) (f : FollowerState) (taken : Taken) (image : Image) → IsLog log → IsImageOf log image → StandsFor log taken f → f.image.epoch < image.epoch
    → IsReadyAt log image.epoch (hand_valid f image).after
image_later log f taken image is of stands past = subst (λ (h : Handed). IsReadyAt log image.epoch h.after) (sym goes) (ready_from log more image.epoch step.after is ends ends.0.images.0)
  where
    left : List Entry
    left = filter (λ (entry : Entry). nat_lt image.epoch entry.epoch) f.waiting

    step : Handed
    step = advanced image left

    goes : hand_valid f image ≡ step
    goes = later_is f image past

    more : Taken
    more = with_image taken image.epoch

    ends : StandsFor log more step.after × IsPrefix more step.after.image.epoch
    ends = advance_ends log taken more f image left
        (λ result comes. valid_shows log taken f step.after image result is of stands (subst (λ h. Performs f h result step.after) (sym goes) comes))

-- an image brings a follower to its epoch
pub image_ready : (log : List Entry) (epoch : ℕ) (image : Image) (f : FollowerState) → IsLog log → IsImageOf log image → IsReadyAt log epoch f → IsReadyAt log image.epoch (hand_valid f image).after
image_ready log epoch image f is of ready = by (nat_le image.epoch f.image.epoch) refl
  where
    by : (old : Bool) → nat_le image.epoch f.image.epoch ≡ old → IsReadyAt log image.epoch (hand_valid f image).after
    by true old =
        let below : image.epoch ≤ f.image.epoch = grind (arith, nat_tests) in
        subst (IsReadyAt log image.epoch) (sym (image_old f image below)) (ready_to log epoch image.epoch f ready below)
    by false new = image_later log f ready.taken image is of ready.stands (grind (arith, nat_tests))
