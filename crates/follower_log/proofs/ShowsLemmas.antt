-- A follower that is handed entries and images of one log shows its longest gapless prefix.
use Rattle.std.proofs.Common.{◌≡◌, ℕ, ◌+◌, ◌-◌, ◌<◌, ◌≤◌, Bool, true, false, ◌==◌, ◌||◌, List, [], ◌∷◌, length, filter, take, drop, nat_eq, nat_lt, nat_le, Result, Ok, Err, true≢false, inl, inr, ◌⊎◌, ◌↔◌, refl, sym, ap, ◌∙◌, subst, eq-eqb, length-drop, length-take, arith, None}
use Rattle.std.proofs.lemmas.Bool.{and_parts, eqb-true, ne_eqb}
use Rattle.std.proofs.lemmas.Bool.Decides.{nat_tests}
use Rattle.std.proofs.lemmas.List.{drop-drop}
use Rattle.std.proofs.lemmas.Option.{none-some}
use Rattle.std.specs.List.{AllByRecursion, Contains, list_any}
use Rattle.cluster_terms.specs.Ascending.{put}
use Rattle.transformations.proofs.commands.SameLemmas.{same_command_tells}
use Rattle.transformations.proofs.histories.HistoryLemmas.{epoch_after, valid_at}
use Rattle.transformation_laws.proofs.images.ValidLaws.{valid_to}
use Rattle.transformations.proofs.histories.LogLemmas.{length-commands_of}
use Rattle.transformations.specs.History.{state_after}
use Rattle.transformations.specs.ImageRules.{bad_of}
use Rattle.transformations.specs.Valid.{IsValid}
use Rattle.transformations.specs.Log.{IsLog, are_numbered, commands_of, have_own_ids}
use Rattle.transformations.specs.declared.entry.Entry.{Entry}
use Rattle.transformations.specs.declared.image.Image.{Image}
use Rattle.follower_log.proofs.AmongLemmas.{OneMore, among_alike, contains_drop, epoch_within, filter_above, found, found_among, put_among}
use Rattle.follower_log.proofs.PrefixLemmas.{Ends, GoesOn, among, goes_on, log_follows, state_plus}
use Rattle.follower_log.specs.Follower.{Performs, FollowerState, Handed, advanced, by_epoch, empty_follower, hand_above, hand_entry, hand_image, hand_valid, is_full, is_same, stays, unless_bad, waiting_at}
use Rattle.follower_log.specs.Prefix.{IsImageOf, IsPrefix, Reaches, StandsAfter, StandsFor, Taken, has_entry, is_base, nothing_taken, with_entry, with_image}
use Rattle.follower_log.specs.declared.fault.FollowerFault.{FollowerFault}
use Rattle.follower_log.specs.declared.fault.FollowerFault.TheVariants.{Fork, Refused, BadImage, Memory, MemoryAt}
use Rattle.follower_log.specs.declared.took.Took.{Took}
use Rattle.follower_log.specs.declared.took.Took.TheVariants.{At, Old, Held, Full}

-- ---- the states of a log

pub epoch_of_state : (log : List Entry) (k : ℕ) → k ≤ length log → (state_after (commands_of log) k).epoch ≡ k
epoch_of_state log k within = omega (arith, epoch_after (take k (commands_of log)), length-take k (commands_of log), length-commands_of log)

pub numbers_of : (log : List Entry) → IsLog log → are_numbered 1 log ≡ true
numbers_of log is = (and_parts (are_numbered 1 log) (have_own_ids log) is.entries).0

pub numbers_after : (log : List Entry) (k : ℕ) → IsLog log → k ≤ length log → are_numbered (k + 1) (drop k log) ≡ true
numbers_after log k is within = subst (λ m. are_numbered (m + 1) (drop k log) ≡ true) (epoch_of_state log k within) (log_follows log k is).numbered

-- ---- what is reached without a gap

-- it stays reached when more is taken
reaches_more : (one other : Taken) (k : ℕ) → ((e : ℕ) → has_entry one e ≡ true → has_entry other e ≡ true) → ((e : ℕ) → is_base one e ≡ true → is_base other e ≡ true) → Reaches one k → Reaches other k
reaches_more one other k entries images reached = record {
  base = reached.base;
  begins = images reached.base reached.begins;
  within = reached.within;
  gapless = λ e above up. entries e (reached.gapless e above up);
}

or_right : (a b : Bool) → b ≡ true → (a || b) ≡ true
or_right true b is = refl
or_right false b is = is

has_more : (taken : Taken) (epoch e : ℕ) → has_entry taken e ≡ true → has_entry (with_entry taken epoch) e ≡ true
has_more taken epoch e is = or_right (nat_eq e epoch) (has_entry taken e) is

more_entries : (taken : Taken) (epoch k : ℕ) → Reaches taken k → Reaches (with_entry taken epoch) k
more_entries taken epoch k reached = reaches_more taken (with_entry taken epoch) k (has_more taken epoch) (λ e is. is) reached

base_more : (taken : Taken) (epoch e : ℕ) → is_base taken e ≡ true → is_base (with_image taken epoch) e ≡ true
base_more taken epoch e is = by (nat_eq e 0) refl
  where
    by : (b : Bool) → nat_eq e 0 ≡ b → is_base (with_image taken epoch) e ≡ true
    by true zero = rw zero refl
    by false other = (let rest = rw other at is in rw other (or_right (nat_eq e epoch) _ rest))

more_images : (taken : Taken) (epoch k : ℕ) → Reaches taken k → Reaches (with_image taken epoch) k
more_images taken epoch k reached = reaches_more taken (with_image taken epoch) k (λ e is. is) (base_more taken epoch) reached

one_more : (taken : Taken) (epoch : ℕ) → OneMore (has_entry taken) (has_entry (with_entry taken epoch)) epoch
one_more taken epoch = record {
  has = (let same : nat_eq epoch epoch ≡ true = grind (arith, nat_tests) in rw same refl);
  keeps = λ e other. (let untaken : nat_eq e epoch ≡ false = grind (arith, nat_tests) in rw untaken refl);
}

-- ---- where a follower may begin an advance: at a state of the log that is reached

record Base (log : List Entry) (taken : Taken) (k : ℕ) : Type 0 where
  within : k ≤ length log
  entries : AllByRecursion (λ e. e ≤ length log) taken.entries
  images : AllByRecursion (λ e. e ≤ k) taken.images
  reached : Reaches taken k

all_up : (es : List ℕ) (k l : ℕ) → k ≤ l → AllByRecursion (λ e. e ≤ k) es → AllByRecursion (λ e. e ≤ l) es
all_up [] k l up all = tt
all_up (e ∷ es) k l up all = (omega (arith, up, all.0), all_up es k l up all.1)

-- the follower stands where the advance ends
ends_stand : (log : List Entry) (taken : Taken) (k : ℕ) (after : FollowerState) → IsLog log → Base log taken k
    → (ends : Ends (has_entry taken) (state_after (commands_of log) k) (drop k log) after) → StandsFor log taken after × (after.image.epoch ≡ k + ends.applied)
ends_stand log taken k after is base ends = (stands, epoch)
  where
    at : (state_after (commands_of log) k).epoch ≡ k
    at = epoch_of_state log k base.within

    within : k + ends.applied ≤ length log
    within = omega (arith, ends.within, length-drop k log, base.within)

    state : after.image ≡ state_after (commands_of log) (k + ends.applied)
    state = ends.state ∙ state_plus log k ends.applied

    epoch : after.image.epoch ≡ k + ends.applied
    epoch = ap (λ (i : Image). i.epoch) state ∙ epoch_of_state log (k + ends.applied) within

    reached : Reaches taken (k + ends.applied)
    reached = record {
      base = base.reached.base;
      begins = base.reached.begins;
      within = omega (arith, base.reached.within);
      gapless = λ e above up. by e above up (nat_le e k) refl;
    }
      where
        by : (e : ℕ) → base.reached.base < e → e ≤ k + ends.applied → (b : Bool) → nat_le e k ≡ b → has_entry taken e ≡ true
        by e above up true low = base.reached.gapless e above (grind (arith, nat_tests))
        by e above up false high = ends.all e (let past : k < e = grind (arith, nat_tests) in omega (arith, at, past)) (omega (arith, at, up))

    stands : StandsFor log taken after
    stands = record {
      within = omega (arith, epoch, within);
      image = state ∙ ap (state_after (commands_of log)) (sym epoch);
      entries = base.entries;
      images = all_up taken.images k after.image.epoch (omega (arith, epoch)) base.images;
      reached = subst (Reaches taken) (sym epoch) reached;
      waiting = ends.waiting ∙ ap (among (has_entry taken)) (drop-drop ends.applied k log ∙ ap (λ n. drop n log) (sym epoch));
    }

-- a member of a list has what all its items have
member_all : (es : List ℕ) (l e : ℕ) → AllByRecursion (λ e. e ≤ l) es → list_any (nat_eq e) es ≡ true → e ≤ l
member_all [] l e all is = absurd (true≢false (sym is))
member_all (first ∷ es) l e all is = by (member_all es l e all.1) (nat_eq e first) refl
  where
    by : (list_any (nat_eq e) es ≡ true → e ≤ l) → (b : Bool) → nat_eq e first ≡ b → e ≤ l
    by others true same = (let low : first ≤ l = all.0 in let at : e ≡ first = grind (arith, nat_tests) in omega (arith, low, at))
    by others false other = others (rw other at is)

base_low : (taken : Taken) (k e : ℕ) → AllByRecursion (λ e. e ≤ k) taken.images → is_base taken e ≡ true → e ≤ k
base_low taken k e all is = member_all (0 ∷ taken.images) k e (omega arith, all) is

-- an epoch whose next entry wasn't taken is the longest prefix
longest : (log : List Entry) (taken : Taken) (f : FollowerState) → StandsFor log taken f → has_entry taken (f.image.epoch + 1) ≡ false → IsPrefix taken f.image.epoch
longest log taken f stands none = record { reached = stands.reached; longest = most }
  where
    most : (e : ℕ) → Reaches taken e → e ≤ f.image.epoch
    most e reached = by (nat_le e f.image.epoch) refl
      where
        by : (b : Bool) → nat_le e f.image.epoch ≡ b → e ≤ f.image.epoch
        by true low = grind (arith, nat_tests)
        by false high =
            let past : f.image.epoch < e = grind (arith, nat_tests) in
            let low = base_low taken f.image.epoch reached.base stands.images reached.begins in
            let taken_so = reached.gapless (f.image.epoch + 1) (omega (arith, low)) (omega (arith, past)) in
            absurd (true≢false (sym taken_so ∙ none))

-- no entry past the log was taken
pub none_past : (log : List Entry) (taken : Taken) (e : ℕ) → AllByRecursion (λ e. e ≤ length log) taken.entries → length log < e → has_entry taken e ≡ false
none_past log taken e all past = by (has_entry taken e) refl
  where
    by : (b : Bool) → has_entry taken e ≡ b → b ≡ false
    by true is = (let low = member_all taken.entries (length log) e all is in absurd (omega (arith, low, past)))
    by false is = refl

goes_prefix : (log : List Entry) (taken : Taken) (k : ℕ) (step : Handed) → IsLog log → Base log taken k → GoesOn (has_entry taken) (state_after (commands_of log) k) (drop k log) step
    → StandsFor log taken step.after × IsPrefix taken step.after.image.epoch
goes_prefix log taken k step is base goes =
    let both = ends_stand log taken k step.after is base goes.ends in
    (both.0, longest log taken step.after both.0 (stop both.1 goes.stops))
  where
    at : (state_after (commands_of log) k).epoch ≡ k
    at = epoch_of_state log k base.within

    stop : step.after.image.epoch ≡ k + goes.ends.applied → (has_entry taken ((state_after (commands_of log) k).epoch + goes.ends.applied + 1) ≡ false) ⊎ (goes.ends.applied ≡ length (drop k log))
        → has_entry taken (step.after.image.epoch + 1) ≡ false
    stop epoch (inl none) = (let same : step.after.image.epoch + 1 ≡ (state_after (commands_of log) k).epoch + goes.ends.applied + 1 = omega (arith, epoch, at) in ap (has_entry taken) same ∙ none)
    stop epoch (inr all) = none_past log taken (step.after.image.epoch + 1) base.entries (omega (arith, epoch, all, length-drop k log, base.within))

-- ---- calls

-- a call that comes to a step that changes nothing
shows_stay : (log : List Entry) (before after : Taken) (f g : FollowerState) (took : Took) (result : Result Took FollowerFault) → StandsAfter log before after (Ok took) f → StandsFor log before f
    → Performs f (stays f (Ok took)) result g → StandsAfter log before after result g
shows_stay log before after f g took (Ok t) shows stands (is, same) = subst (λ r. StandsAfter log before after r g) (sym is) (subst (StandsAfter log before after (Ok took)) (sym same) shows)
shows_stay log before after f g took (Err Memory) shows stands same = subst (StandsFor log before) (sym same) stands
shows_stay log before after f g took (Err (MemoryAt e)) shows stands same = absurd (none-some g same)
shows_stay log before after f g took (Err (Fork e held came)) shows stands (is, same) = (let clash : Err (Fork e held came) ≡ Ok took = is in absurd cc)
shows_stay log before after f g took (Err (Refused e r)) shows stands (is, same) = (let clash : Err (Refused e r) ≡ Ok took = is in absurd cc)
shows_stay log before after f g took (Err (BadImage bad)) shows stands (is, same) = (let clash : Err (BadImage bad) ≡ Ok took = is in absurd cc)

-- a call that comes to an advance from a state of the log
shows_advance : (log : List Entry) (before after : Taken) (f g : FollowerState) (k : ℕ) (result : Result Took FollowerFault) → IsLog log → Base log after k → StandsFor log before f
    → Performs f (advanced (state_after (commands_of log) k) (among (has_entry after) (drop k log))) result g → StandsAfter log before after result g
shows_advance log before after f g k result is base stands comes = by result comes
  where
    step : Handed
    step = advanced (state_after (commands_of log) k) (among (has_entry after) (drop k log))

    goes : GoesOn (has_entry after) (state_after (commands_of log) k) (drop k log) step
    goes = goes_on (has_entry after) (state_after (commands_of log) k) (drop k log) (log_follows log k is)

    both : StandsFor log after step.after × IsPrefix after step.after.image.epoch
    both = goes_prefix log after k step is base goes

    by : (result : Result Took FollowerFault) → Performs f step result g → StandsAfter log before after result g
    by (Ok (At e)) (same, there) = subst (λ h. StandsFor log after h × IsPrefix after h.image.epoch) (sym there) both
    by (Ok (Old e)) (same, there) = (let clash : Ok (Old e) ≡ Ok (At step.after.image.epoch) = same ∙ goes.answer in absurd cc)
    by (Ok (Held e)) (same, there) = (let clash : Ok (Held e) ≡ Ok (At step.after.image.epoch) = same ∙ goes.answer in absurd cc)
    by (Ok (Full e)) (same, there) = (let clash : Ok (Full e) ≡ Ok (At step.after.image.epoch) = same ∙ goes.answer in absurd cc)
    by (Err Memory) same = subst (StandsFor log before) (sym same) stands
    by (Err (MemoryAt e)) cut = (ends_stand log after k g is base (goes.cuts e g cut)).0
    by (Err (Fork e held came)) (same, there) = (let clash : Err (Fork e held came) ≡ Ok (At step.after.image.epoch) = same ∙ goes.answer in absurd cc)
    by (Err (Refused e r)) (same, there) = (let clash : Err (Refused e r) ≡ Ok (At step.after.image.epoch) = same ∙ goes.answer in absurd cc)
    by (Err (BadImage bad)) (same, there) = (let clash : Err (BadImage bad) ≡ Ok (At step.after.image.epoch) = same ∙ goes.answer in absurd cc)

base_of : (log : List Entry) (taken : Taken) (f : FollowerState) → StandsFor log taken f → Base log taken f.image.epoch
base_of log taken f stands = record { within = stands.within; entries = stands.entries; images = stands.images; reached = stands.reached }

-- an advance without anything handed
pub advance_shows : (log : List Entry) (taken : Taken) (f g : FollowerState) (result : Result Took FollowerFault) → IsLog log → StandsFor log taken f
    → Performs f (advanced f.image f.waiting) result g → StandsAfter log taken taken result g
advance_shows log taken f g result is stands comes =
    shows_advance log taken taken f g f.image.epoch result is (base_of log taken f stands) stands
    (subst (λ i. Performs f (advanced i (among (has_entry taken) (drop f.image.epoch log))) result g) stands.image (subst (λ w. Performs f (advanced f.image w) result g) stands.waiting comes))

-- a valid image of the log is handed over
pub valid_shows : (log : List Entry) (taken : Taken) (f g : FollowerState) (image : Image) (result : Result Took FollowerFault) → IsLog log → IsImageOf log image → StandsFor log taken f
    → Performs f (hand_valid f image) result g → StandsAfter log taken (with_image taken image.epoch) result g
valid_shows log taken f g image result is of stands comes = by (nat_le image.epoch f.image.epoch) refl
  where
    b : ℕ
    b = image.epoch

    by : (low : Bool) → nat_le image.epoch f.image.epoch ≡ low → StandsAfter log taken (with_image taken image.epoch) result g
    by true e =
        let old : StandsFor log (with_image taken b) f = record {
          within = stands.within;
          image = stands.image;
          entries = stands.entries;
          images = (grind (arith, nat_tests), stands.images);
          reached = more_images taken b f.image.epoch stands.reached;
          waiting = stands.waiting;
        } in
        shows_stay log taken (with_image taken b) f g (Old f.image.epoch) result old stands (rw e at comes)
    by false e =
        let past : f.image.epoch < b = grind (arith, nat_tests) in
        let base : Base log (with_image taken b) b = record {
          within = of.within;
          entries = stands.entries;
          images = (omega arith, all_up taken.images f.image.epoch b (omega (arith, past)) stands.images);
          reached = record {
            base = b;
            begins = or_right (nat_eq b 0) _ (let same : nat_eq b b ≡ true = grind (arith, nat_tests) in rw same refl);
            within = omega arith;
            gapless = λ e above up. absurd (omega (arith, above, up));
          };
        } in
        let n = b - f.image.epoch in
        let left : filter (λ (entry : Entry). nat_lt b entry.epoch) f.waiting ≡ among (has_entry taken) (drop b log) =
        ap (filter (λ (entry : Entry). nat_lt b entry.epoch)) stands.waiting
        ∙ filter_above (has_entry taken) n b (f.image.epoch + 1) (drop f.image.epoch log) (numbers_after log f.image.epoch is stands.within) (omega (arith, past))
        ∙ ap (among (has_entry taken)) (drop-drop n f.image.epoch log ∙ ap (λ m. drop m log) (omega (arith, past))) in
        let step = rw e at comes in
        shows_advance log taken (with_image taken b) f g b result is base stands
        (subst (λ i. Performs f (advanced i (among (has_entry taken) (drop b log))) result g) of.state (subst (λ w. Performs f (advanced image w) result g) left step))

-- an image of the log is valid, so it is taken as such
pub as_valid : (log : List Entry) (f : FollowerState) (image : Image) → IsLog log → IsImageOf log image → hand_image f image ≡ hand_valid f image
as_valid log f image is of =
    let good : bad_of image ≡ None = valid_to image (subst IsValid (sym of.state) (valid_at (commands_of log) image.epoch is.history)) in
    ap (λ bad. unless_bad bad f (hand_valid f image)) good

pub image_shows : (log : List Entry) (taken : Taken) (f g : FollowerState) (image : Image) (result : Result Took FollowerFault) → IsLog log → IsImageOf log image → StandsFor log taken f
    → Performs f (hand_image f image) result g → StandsAfter log taken (with_image taken image.epoch) result g
image_shows log taken f g image result is of stands comes =
    valid_shows log taken f g image result is of stands (subst (λ (h : Handed). Performs f h result g) (as_valid log f image is of) comes)

-- an entry of the log is handed over
pub entry_shows : (log : List Entry) (taken : Taken) (f g : FollowerState) (entry : Entry) (result : Result Took FollowerFault) → IsLog log → Contains log entry → StandsFor log taken f
    → Performs f (hand_entry f entry) result g → StandsAfter log taken (with_entry taken entry.epoch) result g
entry_shows log taken f g entry result is in_it stands comes = by (nat_le entry.epoch k) refl
  where
    k : ℕ
    k = f.image.epoch

    more : Taken
    more = with_entry taken entry.epoch

    one : OneMore (has_entry taken) (has_entry more) entry.epoch
    one = one_more taken entry.epoch

    numbered : are_numbered (k + 1) (drop k log) ≡ true
    numbered = numbers_after log k is stands.within

    entries : AllByRecursion (λ e. e ≤ length log) more.entries
    entries = (let low = epoch_within 1 log entry (numbers_of log is) in_it in (omega (arith, low.1), stands.entries))

    reached : Reaches more k
    reached = more_entries taken entry.epoch k stands.reached

    -- nothing new waits
    still : among (has_entry taken) (drop k log) ≡ among (has_entry more) (drop k log) → StandsFor log more f
    still same = record {
      within = stands.within;
      image = stands.image;
      entries = entries;
      images = stands.images;
      reached = reached;
      waiting = stands.waiting ∙ same;
    }

    by : (low : Bool) → nat_le entry.epoch k ≡ low → StandsAfter log taken more result g
    by true e =
        let below : entry.epoch ≤ k = grind (arith, nat_tests) in
        let alike = among_alike (has_entry taken) (has_entry more) (k + 1) (drop k log) numbered (λ x up. sym (one.keeps x (ne_eqb x entry.epoch (λ at. omega (arith, at, up, below))))) in
        shows_stay log taken more f g (Old k) result (still alike) stands (rw e at comes)
    by false e = above (grind (arith, nat_tests)) (rw e at comes)
      where
        above : k < entry.epoch → Performs f (hand_above f entry (waiting_at f.waiting entry.epoch)) result g → StandsAfter log taken more result g
        above past next =
            let in_rest : Contains (drop k log) entry = contains_drop k 1 log entry (numbers_of log is) in_it (omega (arith, past)) in
            let there : waiting_at f.waiting entry.epoch ≡ found (has_entry taken entry.epoch) entry =
            ap (λ w. waiting_at w entry.epoch) stands.waiting ∙ found_among (has_entry taken) (k + 1) (drop k log) entry numbered in_rest in
            waits (has_entry taken entry.epoch) refl in_rest (subst (λ o. Performs f (hand_above f entry o) result g) there next)
          where
            waits : (b : Bool) → has_entry taken entry.epoch ≡ b → Contains (drop k log) entry → Performs f (hand_above f entry (found b entry)) result g → StandsAfter log taken more result g
            waits true taken_so in_rest step =
                let self : is_same entry entry ≡ true = rw (eq-eqb entry.id entry.id refl) ((same_command_tells entry.cmd entry.cmd).1 refl) in
                let alike = among_alike (has_entry taken) (has_entry more) (k + 1) (drop k log) numbered (λ x up. same_test x (x == entry.epoch) refl) in
                shows_stay log taken more f g (Held k) result (still alike) stands (rw self at step)
              where
                same_test : (x : ℕ) (b : Bool) → (x == entry.epoch) ≡ b → has_entry taken x ≡ has_entry more x
                same_test x true at = (let same : x ≡ entry.epoch = eqb-true x entry.epoch at in ap (has_entry taken) same ∙ taken_so ∙ sym (ap (has_entry more) same ∙ one.has))
                same_test x false at = sym (one.keeps x at)
            waits false untaken in_rest step = full (is_full f entry) refl
              where
                full : (b : Bool) → is_full f entry ≡ b → StandsAfter log taken more result g
                full true e = shows_stay log taken more f g (Full k) result stands stands (rw e at step)
                full false e =
                    let put_in : put by_epoch entry f.waiting ≡ among (has_entry more) (drop k log) =
                    ap (put by_epoch entry) stands.waiting ∙ put_among (has_entry taken) (has_entry more) (k + 1) (drop k log) entry numbered in_rest one untaken in
                    let base : Base log more k = record { within = stands.within; entries = entries; images = stands.images; reached = reached } in
                    let go = rw e at step in
                    shows_advance log taken more f g k result is base stands
                    (subst (λ i. Performs f (advanced i (among (has_entry more) (drop k log))) result g) stands.image (subst (λ w. Performs f (advanced f.image w) result g) put_in go))

-- the follower before it is handed anything stands for every log
pub empty_stands : (log : List Entry) → StandsFor log nothing_taken empty_follower
empty_stands log = record {
  within = omega arith;
  image = refl;
  entries = tt;
  images = tt;
  reached = record { base = 0; begins = refl; within = omega arith; gapless = λ e above up. absurd (omega (arith, above, up)) };
  waiting = nothing log;
}
  where
    nothing : (rest : List Entry) → [] ≡ filter (λ (entry : Entry). has_entry nothing_taken entry.epoch) rest
    nothing [] = refl
    nothing (entry ∷ rest) = nothing rest

-- ---- the entry of the next epoch

-- it waits if and only if it was taken
pub next_waits : (log : List Entry) (taken : Taken) (f : FollowerState) → IsLog log → StandsFor log taken f → (waiting_at f.waiting (f.image.epoch + 1) ≡ None) ↔ (has_entry taken (f.image.epoch + 1) ≡ false)
next_waits log taken f is stands = by (drop f.image.epoch log) refl
  where
    k : ℕ
    k = f.image.epoch

    by : (rest : List Entry) → drop k log ≡ rest → (waiting_at f.waiting (k + 1) ≡ None) ↔ (has_entry taken (k + 1) ≡ false)
    by [] end =
        let at : length log ≤ k = omega (arith, length-drop k log, ap length end, stands.within) in
        let none : waiting_at f.waiting (k + 1) ≡ None = ap (λ w. waiting_at w (k + 1)) (stands.waiting ∙ ap (among (has_entry taken)) end) in
        (λ e. none_past log taken (k + 1) stands.entries (omega (arith, at)), λ e. none)
    by (first ∷ rest) more = (λ e. (says (has_entry taken (k + 1)) refl).0 e, λ e. (says (has_entry taken (k + 1)) refl).1 e)
      where
        numbered : are_numbered (k + 1) (first ∷ rest) ≡ true
        numbered = subst (λ l. are_numbered (k + 1) l ≡ true) more (numbers_after log k is stands.within)

        epoch : first.epoch ≡ k + 1
        epoch = eqb-true first.epoch (k + 1) (and_parts (first.epoch == k + 1) (are_numbered (k + 1 + 1) rest) numbered).0

        there : waiting_at f.waiting (k + 1) ≡ found (has_entry taken (k + 1)) first
        there =
            ap (λ w. waiting_at w (k + 1)) (stands.waiting ∙ ap (among (has_entry taken)) more)
            ∙ subst (λ e. waiting_at (among (has_entry taken) (first ∷ rest)) e ≡ found (has_entry taken e) first) epoch (found_among (has_entry taken) (k + 1) (first ∷ rest) first numbered (0, omega arith, refl))

        says : (b : Bool) → has_entry taken (k + 1) ≡ b → (waiting_at f.waiting (k + 1) ≡ None) ↔ (b ≡ false)
        says true e = (λ none. absurd (none-some first (sym none ∙ there ∙ ap (λ b. found b first) e)), λ f. absurd (true≢false f))
        says false e = (λ none. refl, λ f. there ∙ ap (λ b. found b first) e)

-- a follower shows the longest prefix exactly where no entry of the next epoch waits
pub prefix_ends : (log : List Entry) (taken : Taken) (f : FollowerState) → IsLog log → StandsFor log taken f → IsPrefix taken f.image.epoch ↔ (waiting_at f.waiting (f.image.epoch + 1) ≡ None)
prefix_ends log taken f is stands = (λ prefix. waits.1 (untaken prefix (has_entry taken (k + 1)) refl), λ none. longest log taken f stands (waits.0 none))
  where
    k : ℕ
    k = f.image.epoch

    waits : (waiting_at f.waiting (k + 1) ≡ None) ↔ (has_entry taken (k + 1) ≡ false)
    waits = next_waits log taken f is stands

    one_further : has_entry taken (k + 1) ≡ true → Reaches taken (k + 1)
    one_further next = record {
      base = stands.reached.base;
      begins = stands.reached.begins;
      within = omega (arith, stands.reached.within);
      gapless = λ e above up. by e above up (nat_le e k) refl;
    }
      where
        by : (e : ℕ) → stands.reached.base < e → e ≤ k + 1 → (b : Bool) → nat_le e k ≡ b → has_entry taken e ≡ true
        by e above up true low = stands.reached.gapless e above (grind (arith, nat_tests))
        by e above up false high = (let past : k < e = grind (arith, nat_tests) in let at : k + 1 ≡ e = omega (arith, past, up) in subst (λ x. has_entry taken x ≡ true) at next)

    untaken : IsPrefix taken k → (b : Bool) → has_entry taken (k + 1) ≡ b → has_entry taken (k + 1) ≡ false
    untaken prefix false none = none
    untaken prefix true next = (let low : k + 1 ≤ k = prefix.longest (k + 1) (one_further next) in absurd (omega (arith, low)))
