-- How far a part of a log brings a follower that is given it, and that it then changes nothing.
use Rattle.std.proofs.Common.{◌≡◌, ℕ, zero, suc, ◌+◌, ◌≤◌, true, ◌==◌, List, [], ◌∷◌, drop, take, length, Option, Some, None, refl, sym, ap, ◌∙◌, subst, length-drop, arith}
use Rattle.std.proofs.lemmas.Bool.{and_parts, eqb-true}
use Rattle.std.proofs.lemmas.List.{drop-drop, take-append-drop}
use Rattle.std.proofs.lemmas.List.Elements.{Contains-append_right}
use Rattle.std.specs.List.{Contains}
use Rattle.std.specs.Option.{IfSome, option_map_or}
use Rattle.transformations.specs.Log.{IsLog, are_numbered}
use Rattle.transformations.specs.declared.entry.Entry.{Entry}
use Rattle.transformations.specs.declared.image.Image.{Image}
use Rattle.catch_up.specs.Replies.{end_epoch, start_epoch}
use Rattle.catch_up.specs.declared.message.Reply.{Reply}
use Rattle.follower_log.proofs.ShowsLemmas.{numbers_after}
use Rattle.follower_log.proofs.StepsCutShort.{entry_from, valid_from}
use Rattle.follower_log.specs.Follower.{FollowerState, hand_entry}
use Rattle.follower_log.specs.Prefix.{IsImageOf}
use Rattle.catch_up_laws.proofs.ReadySteps.{entry_old, entry_ready, image_old, image_ready, ready_to}
use Rattle.catch_up_laws.specs.Given.{given_entries, given_image, given_reply}
use Rattle.catch_up_laws.specs.Parts.{IsPartOf}
use Rattle.catch_up_laws.specs.Ready.{IsReadyAt}

-- ---- entries of a log, one after another

-- an entry, and the entries of the log after it
record IsLed (log : List Entry) (epoch : ℕ) (entry : Entry) (rest : List Entry) : Type 0 where
  at : entry.epoch ≡ epoch + 1
  there : Contains log entry
  within : epoch + 1 ≤ length log
  others : drop (epoch + 1) log ≡ rest

led_by : (log : List Entry) (epoch : ℕ) (entry : Entry) (rest : List Entry) → IsLog log → epoch ≤ length log → drop epoch log ≡ entry ∷ rest → IsLed log epoch entry rest
led_by log epoch entry rest is low all =
    let numbered : are_numbered (epoch + 1) (entry ∷ rest) ≡ true = subst (λ l. are_numbered (epoch + 1) l ≡ true) all (numbers_after log epoch is low) in
    let first : Contains (drop epoch log) entry = subst (λ l. Contains l entry) (sym all) (0, omega arith, refl) in
    record {
      at = eqb-true entry.epoch (epoch + 1) (and_parts (entry.epoch == epoch + 1) (are_numbered (epoch + 1 + 1) rest) numbered).0;
      there = subst (λ l. Contains l entry) (take-append-drop epoch log) (Contains-append_right (take epoch log) (drop epoch log) entry first);
      within = omega (arith, length-drop epoch log, ap length all);
      others = sym (drop-drop 1 epoch log) ∙ ap (drop 1) all;
    }

-- each of them brings the follower one epoch further, if it isn't there
entries_ready : (log : List Entry) (n epoch : ℕ) (rest : List Entry) (f : FollowerState) → IsLog log → epoch ≤ length log → drop epoch log ≡ rest → IsReadyAt log epoch f
    → IsReadyAt log (epoch + length (take n rest)) (given_entries f (take n rest))
entries_ready log zero epoch rest f is low all ready = ready_to log epoch _ f ready (omega (arith, ready.reached))
entries_ready log (suc n) epoch [] f is low all ready = ready_to log epoch _ f ready (omega (arith, ready.reached))
entries_ready log (suc n) epoch (entry ∷ rest) f is low all ready =
    let led = led_by log epoch entry rest is low all in
    let g : FollowerState = (hand_entry f entry).after in
    let there : IsReadyAt log (epoch + 1 + length (take n rest)) (given_entries g (take n rest)) = entries_ready log n (epoch + 1) rest g is led.within led.others (entry_ready log epoch entry f is led.at led.there ready) in
    ready_to log _ _ (given_entries g (take n rest)) there (omega (arith, there.reached))

-- none of them changes a follower that is past them
entries_old : (log : List Entry) (n epoch : ℕ) (rest : List Entry) (f : FollowerState) → IsLog log → epoch ≤ length log → drop epoch log ≡ rest → epoch + length (take n rest) ≤ f.image.epoch
    → given_entries f (take n rest) ≡ f
entries_old log zero epoch rest f is low all past = refl
entries_old log (suc n) epoch [] f is low all past = refl
entries_old log (suc n) epoch (entry ∷ rest) f is low all past =
    let led = led_by log epoch entry rest is low all in
    ap (λ (g : FollowerState). given_entries g (take n rest)) (entry_old f entry (omega (arith, led.at, past)))
    ∙ entries_old log n (epoch + 1) rest f is led.within led.others (omega (arith, past))

-- ---- an image, if there is one

start_ready : (log : List Entry) (since : ℕ) (o : Option Image) (f : FollowerState) → IsLog log → IfSome o (IsImageOf log) → IsReadyAt log since f
    → IsReadyAt log (option_map_or (λ (image : Image). image.epoch) o since) (given_image f o)
start_ready log since None f is of ready = ready
start_ready log since (Some image) f is of ready = image_ready log since image f is of ready

start_old : (log : List Entry) (since : ℕ) (o : Option Image) (f : FollowerState) → IsLog log → IfSome o (IsImageOf log) → option_map_or (λ (image : Image). image.epoch) o since ≤ f.image.epoch
    → given_image f o ≡ f
start_old log since None f is of past = refl
start_old log since (Some image) f is of past = image_old f image past

-- ---- a reply

-- a follower's epoch never falls
pub entries_rise : (f : FollowerState) (entries : List Entry) → f.image.epoch ≤ (given_entries f entries).image.epoch
entries_rise f [] = omega arith
entries_rise f (entry ∷ entries) = omega (arith, (entry_from f entry).up, entries_rise (hand_entry f entry).after entries)

pub image_rises : (f : FollowerState) (o : Option Image) → f.image.epoch ≤ (given_image f o).image.epoch
image_rises f None = omega arith
image_rises f (Some image) = (valid_from f image).up

pub reply_rises : (f : FollowerState) (reply : Reply) → f.image.epoch ≤ (given_reply f reply).image.epoch
reply_rises f reply = omega (arith, image_rises f reply.image, entries_rise (given_image f reply.image) reply.entries)

module _ (log : List Entry) (reply : Reply) (f : FollowerState) (is : IsLog log) (part : IsPartOf log reply) (ready : IsReadyAt log reply.since f) where
  abbrev n : ℕ
  n = length reply.entries

  abbrev start : ℕ
  start = start_epoch reply

  -- a ready follower comes to where the entries of a reply lead
  pub reply_ready : IsReadyAt log (end_epoch reply) (given_reply f reply)
  reply_ready =
      subst (λ (es : List Entry). IsReadyAt log (start + length es) (given_entries (given_image f reply.image) es)) (sym part.entries)
      (entries_ready log n start (drop start log) (given_image f reply.image) is part.within refl (start_ready log reply.since reply.image f is part.image ready))

  -- and the same reply then changes nothing
  pub reply_again : given_reply (given_reply f reply) reply ≡ given_reply f reply
  reply_again =
      let g : FollowerState = given_reply f reply in
      let past : start + n ≤ g.image.epoch = reply_ready.reached in
      ap (λ (h : FollowerState). given_entries h reply.entries) (start_old log reply.since reply.image g is part.image (omega (arith, past)))
      ∙ ap (given_entries g) part.entries
      ∙ entries_old log n start (drop start log) g is part.within refl (omega (arith, past, ap length part.entries))
