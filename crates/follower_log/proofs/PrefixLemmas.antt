-- Where an advance ends among the entries of a log.
use Rattle.std.proofs.Common.{◌≡◌, ℕ, zero, suc, if◌then◌else◌, ◌+◌, ◌<◌, ◌≤◌, Bool, true, false, ◌==◌, ◌&&◌, List, [], ◌∷◌, length, filter, take, drop, Option, Some, None, is_none, Ok, true≢false, inl, inr, ◌⊎◌, refl, sym, ap, ◌∙◌, subst, eq-eqb, arith}
use Rattle.std.proofs.lemmas.Bool.{and_parts, eqb-true, eqb-false, ne_eqb}
use Rattle.std.proofs.lemmas.Option.{none-some}
use Rattle.std.specs.List.{AllByRecursion}
use Rattle.transformations.proofs.histories.HistoryLemmas.{next-epoch}
use Rattle.transformations.specs.History.{are_accepted, empty_image, image_after, is_command, next_image, state_after}
use Rattle.transformations.specs.Log.{IsLog, are_numbered, commands_of, have_own_ids}
use Rattle.transformations.specs.Refusals.{refusal_of}
use Rattle.transformations.specs.declared.entry.Entry.{Entry}
use Rattle.transformations.specs.declared.image.Image.{Image}
use Rattle.transformations.specs.declared.refusal.Refusal.{Refusal}
use Rattle.follower_log.proofs.AdvanceLemmas.{advanced_on, advanced_stays}
use Rattle.follower_log.specs.Follower.{FollowerState, Handed, advanced, cut_first, is_next, stays}
use Rattle.follower_log.specs.declared.took.Took.TheVariants.{At}

-- ---- entries that follow an image: their epochs count up from its own, and their commands are accepted

pub record Follow (image : Image) (rest : List Entry) : Type 0 where
  pub numbered : are_numbered (image.epoch + 1) rest ≡ true
  pub accepted : are_accepted image (commands_of rest) ≡ true

-- the first of them is the next entry, and the others follow the image after it
pub record IsFirst (image : Image) (entry : Entry) (rest : List Entry) : Type 0 where
  pub epoch : entry.epoch ≡ image.epoch + 1
  pub accepted : refusal_of image entry.cmd ≡ None
  pub follow : Follow (next_image image entry.cmd) rest

none_is : (o : Option Refusal) → is_none o ≡ true → o ≡ None
none_is None e = refl
none_is (Some r) e = absurd (true≢false (sym e))

pub follow_first : (image : Image) (entry : Entry) (rest : List Entry) → Follow image (entry ∷ rest) → IsFirst image entry rest
follow_first image entry rest follow =
    let numbers = and_parts (entry.epoch == image.epoch + 1) (are_numbered (image.epoch + 1 + 1) rest) follow.numbered in
    let all = and_parts (is_command entry.cmd && is_none (refusal_of image entry.cmd)) (are_accepted (next_image image entry.cmd) (commands_of rest)) follow.accepted in
    let own = and_parts (is_command entry.cmd) (is_none (refusal_of image entry.cmd)) all.0 in
    record {
      epoch = eqb-true entry.epoch (image.epoch + 1) numbers.0;
      accepted = none_is (refusal_of image entry.cmd) own.1;
      follow = record {
        numbered = subst (λ m. are_numbered (m + 1) rest ≡ true) (sym (next-epoch image entry.cmd)) numbers.1;
        accepted = all.1;
      };
    }

pub first_is_next : (image : Image) (entry : Entry) (rest : List Entry) → Follow image (entry ∷ rest) → is_next image entry ≡ true
first_is_next image entry rest follow = eq-eqb entry.epoch (image.epoch + 1) (follow_first image entry rest follow).epoch

-- no entry that follows is below the next epoch
pub numbered_from : (m : ℕ) (rest : List Entry) → are_numbered m rest ≡ true → AllByRecursion (λ (e : Entry). m ≤ e.epoch) rest
numbered_from m rest numbered = from m m rest numbered (omega arith)
  where
    from : (l m : ℕ) (rest : List Entry) → are_numbered m rest ≡ true → l ≤ m → AllByRecursion (λ (e : Entry). l ≤ e.epoch) rest
    from l m [] numbered less = tt
    from l m (e ∷ rest) numbered less =
        let parts = and_parts (e.epoch == m) (are_numbered (m + 1) rest) numbered in
        (omega (arith, less, eqb-true e.epoch m parts.0), from l (m + 1) rest parts.1 (omega (arith, less)))

-- ---- the entries of some epochs

abbrev pub among : (ℕ → Bool) → List Entry → List Entry
among test rest = filter (λ entry. test entry.epoch) rest

-- past a gap an advance stays where it is
stays_past : (test : ℕ → Bool) (image : Image) (rest : List Entry) → AllByRecursion (λ (e : Entry). image.epoch + 1 + 1 ≤ e.epoch) rest
    → advanced image (among test rest) ≡ stays (record { image = image; waiting = among test rest }) (Ok (At image.epoch))
stays_past test image [] past = refl
stays_past test image (e ∷ rest) past = by (stays_past test image rest past.1) (test e.epoch) refl
  where
    gap : is_next image e ≡ false
    gap = ne_eqb e.epoch (image.epoch + 1) (λ same. omega (arith, past.0, same))

    by : advanced image (among test rest) ≡ stays (record { image = image; waiting = among test rest }) (Ok (At image.epoch)) → (b : Bool) → test e.epoch ≡ b → advanced image (among test (e ∷ rest)) ≡ stays (record { image = image; waiting = among test (e ∷ rest) }) (Ok (At image.epoch))
    by others true is = rw is (advanced_stays image e (among test rest) gap)
    by others false is = rw is others

-- some of the entries that follow were applied, each of them among the tested epochs; the others wait
pub record Ends (test : ℕ → Bool) (image : Image) (rest : List Entry) (after : FollowerState) : Type 0 where
  pub applied : ℕ
  pub within : applied ≤ length rest
  pub state : after.image ≡ image_after image (commands_of (take applied rest))
  pub waiting : after.waiting ≡ among test (drop applied rest)
  pub all : (e : ℕ) → image.epoch < e → e ≤ image.epoch + applied → test e ≡ true

pub ends_here : (test : ℕ → Bool) (image : Image) (rest : List Entry) → Ends test image rest (record { image = image; waiting = among test rest })
ends_here test image rest = record {
  applied = 0;
  within = omega arith;
  state = refl;
  waiting = refl;
  all = λ e above up. absurd (omega (arith, above, up));
}

ends_later : (test : ℕ → Bool) (image : Image) (entry : Entry) (rest : List Entry) (after : FollowerState) → entry.epoch ≡ image.epoch + 1 → test entry.epoch ≡ true
    → Ends test (next_image image entry.cmd) rest after → Ends test image (entry ∷ rest) after
ends_later test image entry rest after epoch is ends = record {
  applied = suc ends.applied;
  within = omega (arith, ends.within);
  state = ends.state;
  waiting = ends.waiting;
  all = all;
}
  where
    all : (e : ℕ) → image.epoch < e → e ≤ image.epoch + suc ends.applied → test e ≡ true
    all e above up = by (e == image.epoch + 1) refl
      where
        by : (b : Bool) → (e == image.epoch + 1) ≡ b → test e ≡ true
        by true same = ap test (eqb-true e (image.epoch + 1) same ∙ sym epoch) ∙ is
        by false other = ends.all e (omega (arith, above, next-epoch image entry.cmd, eqb-false e (image.epoch + 1) other)) (omega (arith, up, next-epoch image entry.cmd))

-- an advance from an image over those of the entries that follow it
pub record GoesOn (test : ℕ → Bool) (image : Image) (rest : List Entry) (step : Handed) : Type 0 where
  pub ends : Ends test image rest step.after
  pub answer : step.answer ≡ Ok (At step.after.image.epoch)
  pub stops : (test (image.epoch + ends.applied + 1) ≡ false) ⊎ (ends.applied ≡ length rest)
  pub cuts : (epoch : ℕ) (after : FollowerState) → step.cut epoch ≡ Some after → Ends test image rest after

goes_nowhere : (test : ℕ → Bool) (image : Image) (rest : List Entry) → (test (image.epoch + 0 + 1) ≡ false) ⊎ (0 ≡ length rest)
    → GoesOn test image rest (stays (record { image = image; waiting = among test rest }) (Ok (At image.epoch)))
unfolding ends_here
goes_nowhere test image rest stops = record {
  ends = ends_here test image rest;
  answer = refl;
  stops = stops;
  cuts = λ epoch after e. absurd (none-some after e);
}

goes_first : (test : ℕ → Bool) (image : Image) (entry : Entry) (rest : List Entry) → Follow image (entry ∷ rest) → GoesOn test (next_image image entry.cmd) rest (advanced (next_image image entry.cmd) (among test rest))
    → GoesOn test image (entry ∷ rest) (advanced image (among test (entry ∷ rest)))
unfolding ends_later
goes_first test image entry rest follow further = by (test entry.epoch) refl
  where
    is : IsFirst image entry rest
    is = follow_first image entry rest follow

    after_it : Image
    after_it = next_image image entry.cmd

    past : AllByRecursion (λ (e : Entry). image.epoch + 1 + 1 ≤ e.epoch) rest
    past = numbered_from (image.epoch + 1 + 1) rest ((and_parts (entry.epoch == image.epoch + 1) (are_numbered (image.epoch + 1 + 1) rest) follow.numbered).1)

    cuts : test entry.epoch ≡ true → (epoch : ℕ) (after : FollowerState) → (b : Bool) → (image.epoch == epoch) ≡ b
        → (if b then Some (record { image = image; waiting = entry ∷ among test rest }) else (advanced after_it (among test rest)).cut epoch) ≡ Some after → Ends test image (entry ∷ rest) after
    cuts taken_so epoch after true e same =
        let here : Ends test image (entry ∷ rest) (record { image = image; waiting = entry ∷ among test rest }) = rw taken_so at (ends_here test image (entry ∷ rest)) in
        subst (Ends test image (entry ∷ rest)) (cc same) here
    cuts taken_so epoch after false e same = ends_later test image entry rest after is.epoch taken_so (further.cuts epoch after same)

    by : (b : Bool) → test entry.epoch ≡ b → GoesOn test image (entry ∷ rest) (advanced image (among test (entry ∷ rest)))
    by true taken_so =
        let on : advanced image (entry ∷ among test rest) ≡ cut_first image (entry ∷ among test rest) (advanced after_it (among test rest)) =
        advanced_on image entry (among test rest) (first_is_next image entry rest follow) is.accepted in
        let step : GoesOn test image (entry ∷ rest) (cut_first image (entry ∷ among test rest) (advanced after_it (among test rest))) = record {
          ends = ends_later test image entry rest _ is.epoch taken_so further.ends;
          answer = further.answer;
          stops = stops further.stops;
          cuts = λ epoch after same. cuts taken_so epoch after (image.epoch == epoch) refl same;
        } in
        rw taken_so (subst (GoesOn test image (entry ∷ rest)) (sym on) step)
      where
        stops : (test (after_it.epoch + further.ends.applied + 1) ≡ false) ⊎ (further.ends.applied ≡ length rest) → (test (image.epoch + suc further.ends.applied + 1) ≡ false) ⊎ (suc further.ends.applied ≡ length (entry ∷ rest))
        stops (inl untaken) = inl (ap test (omega (arith, next-epoch image entry.cmd)) ∙ untaken)
        stops (inr all) = inr (ap suc all)
    by false untaken =
        let stay : advanced image (among test rest) ≡ stays (record { image = image; waiting = among test rest }) (Ok (At image.epoch)) = stays_past test image rest past in
        let here : GoesOn test image (entry ∷ rest) (stays (record { image = image; waiting = among test (entry ∷ rest) }) (Ok (At image.epoch))) =
        goes_nowhere test image (entry ∷ rest) (inl (ap test (omega (arith, is.epoch)) ∙ untaken)) in
        rw untaken (subst (GoesOn test image (entry ∷ rest)) (sym stay) (rw untaken at here))

pub goes_on : (test : ℕ → Bool) (image : Image) (rest : List Entry) → Follow image rest → GoesOn test image rest (advanced image (among test rest))
goes_on test image [] follow = goes_nowhere test image [] (inr refl)
goes_on test image (entry ∷ rest) follow =
    let is = follow_first image entry rest follow in
    goes_first test image entry rest follow (goes_on test (next_image image entry.cmd) rest is.follow)

-- ---- the entries of a log after an epoch

pub commands_of-take : (n : ℕ) (log : List Entry) → commands_of (take n log) ≡ take n (commands_of log)
commands_of-take zero log = refl
commands_of-take (suc n) [] = refl
commands_of-take (suc n) (entry ∷ log) = ap (λ l. entry.cmd ∷ l) (commands_of-take n log)

follow_drop : (image : Image) (log : List Entry) (k : ℕ) → Follow image log → Follow (image_after image (commands_of (take k log))) (drop k log)
follow_drop image log zero follow = follow
follow_drop image [] (suc k) follow = follow
follow_drop image (entry ∷ log) (suc k) follow = follow_drop (next_image image entry.cmd) log k (follow_first image entry log follow).follow

pub log_follows : (log : List Entry) (k : ℕ) → IsLog log → Follow (state_after (commands_of log) k) (drop k log)
log_follows log k is =
    let entries = and_parts (are_numbered 1 log) (have_own_ids log) is.entries in
    let all = and_parts _ (are_accepted empty_image (commands_of log)) is.history in
    let follow : Follow empty_image log = record { numbered = entries.0; accepted = all.1 } in
    subst (λ c. Follow (image_after empty_image c) (drop k log)) (commands_of-take k log) (follow_drop empty_image log k follow)

image_plus : (image : Image) (log : List Entry) (k n : ℕ) → image_after (image_after image (commands_of (take k log))) (commands_of (take n (drop k log))) ≡ image_after image (commands_of (take (k + n) log))
image_plus image log zero n = (let none : n ≡ 0 + n = omega arith in ap (λ m. image_after image (commands_of (take m log))) none)
image_plus image [] (suc k) n = nothing n ∙ sym (nothing (suc k + n))
  where
    nothing : (m : ℕ) → image_after image (commands_of (take m [])) ≡ image
    nothing zero = refl
    nothing (suc m) = refl
image_plus image (entry ∷ log) (suc k) n =
    let more : suc (k + n) ≡ suc k + n = omega arith in
    image_plus (next_image image entry.cmd) log k n ∙ ap (λ m. image_after image (commands_of (take m (entry ∷ log)))) more

pub state_plus : (log : List Entry) (k n : ℕ) → image_after (state_after (commands_of log) k) (commands_of (take n (drop k log))) ≡ state_after (commands_of log) (k + n)
state_plus log k n =
    ap (λ c. image_after (image_after empty_image c) (commands_of (take n (drop k log)))) (sym (commands_of-take k log))
    ∙ image_plus empty_image log k n ∙ ap (image_after empty_image) (commands_of-take (k + n) log)
