-- A follower of a log follows the log that goes on.
use Rattle.std.proofs.Common.{◌≡◌, ℕ, ◌+◌, ◌≤◌, Bool, false, if◌then◌else◌, List, [], ◌∷◌, ◌++◌, filter, take, drop, length, sym, ap, ◌∙◌, append-nil, length-append, arith}
use Rattle.std.proofs.lemmas.List.{drop-append-le, take-append-le}
use Rattle.std.proofs.lemmas.List.Elements.{filter-append}
use Rattle.transformations.proofs.histories.LogLemmas.{commands_of-push, length-commands_of}
use Rattle.transformations.proofs.lists.ListLemmas.{all_weaker}
use Rattle.transformations.specs.History.{empty_image, image_after, state_after}
use Rattle.transformations.specs.Log.{commands_of}
use Rattle.transformations.specs.declared.entry.Entry.{Entry}
use Rattle.follower_log.specs.Follower.{FollowerState}
use Rattle.follower_log.specs.Prefix.{StandsFor, Taken, has_entry}
use Rattle.follower_log.proofs.ShowsLemmas.{none_past}

pub state_stays : (log : List Entry) (entry : Entry) (k : ℕ) → k ≤ length log → state_after (commands_of (log ++ entry ∷ [])) k ≡ state_after (commands_of log) k
state_stays log entry k within =
    ap (image_after empty_image) (ap (take k) (commands_of-push log entry) ∙ take-append-le k (commands_of log) (entry.cmd ∷ []) (omega (arith, within, length-commands_of log)))

pub stands_on : (log : List Entry) (entry : Entry) (taken : Taken) (f : FollowerState) → entry.epoch ≡ length log + 1 → StandsFor log taken f → StandsFor (log ++ entry ∷ []) taken f
stands_on log entry taken f next stands = record {
  within = omega (arith, stands.within, length-append log (entry ∷ []));
  image = stands.image ∙ sym (state_stays log entry f.image.epoch stands.within);
  entries = all_weaker (λ e. e ≤ length log) (λ e. e ≤ length (log ++ entry ∷ [])) (λ e le. omega (arith, le, length-append log (entry ∷ []))) taken.entries stands.entries;
  images = stands.images;
  reached = stands.reached;
  waiting = stands.waiting ∙ sym (
      ap (filter test) (drop-append-le f.image.epoch log (entry ∷ []) stands.within) ∙ filter-append test (drop f.image.epoch log) (entry ∷ [])
      ∙ ap (λ b. filter test (drop f.image.epoch log) ++ (if b then entry ∷ [] else [])) untaken ∙ append-nil _);
}
  where
    test : Entry → Bool
    test e = has_entry taken e.epoch

    untaken : has_entry taken entry.epoch ≡ false
    untaken = none_past log taken entry.epoch stands.entries (omega (arith, next))
