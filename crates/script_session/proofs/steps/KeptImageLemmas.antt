-- The images that a session keeps are those of its log.
use Rattle.std.proofs.Common.{◌≡◌, ℕ, ◌+◌, ◌-◌, ◌*◌, ◌%◌, ◌<◌, ◌≤◌, List, [], ◌∷◌, ◌++◌, length, option_map, Option, None, Some, ◌⊎◌, inl, inr, refl, sym, ap, ◌∙◌, subst, length-append, arith}
use Rattle.std.proofs.Math.Nat.{mul-mod_right}
use Rattle.std.proofs.lemmas.Bool.{cases_lt}
use Rattle.std.proofs.lemmas.List.{length-map, map-append, take-append-le, take_all}
use Rattle.std.proofs.lemmas.List.Elements.{All-contains, All-from_recursion, Contains-append_left, Contains-push}
use Rattle.std.proofs.lemmas.Option.{get_or_from_slice_get, slice_get-map, slice_get_within}
use Rattle.std.specs.List.{AllByRecursion, Contains, slice_get}
use Rattle.transformations.proofs.histories.HistoryLemmas.{epoch_after}
use Rattle.transformations.proofs.histories.LogLemmas.{commands_of-push, length-commands_of}
use Rattle.transformations.proofs.lists.ListLemmas.{all_append, all_weaker}
use Rattle.transformations.specs.History.{empty_image, image_after, state_after}
use Rattle.transformations.specs.Log.{commands_of}
use Rattle.transformations.specs.declared.command.Command.{Command}
use Rattle.transformations.specs.declared.entry.Entry.{Entry}
use Rattle.transformations.specs.declared.image.Image.{Image}
use Rattle.snapshot_store.specs.Images.{AreOf, epoch_of}
use Rattle.script_session.specs.code.KeptImages.{AreKept, HasEach, epochs_of}

-- a log that goes on has them too
one_on : (history : List Command) (c : Command) (image : Image) → (image.epoch ≤ length history) × (image ≡ state_after history image.epoch)
    → (image.epoch ≤ length (history ++ c ∷ [])) × (image ≡ state_after (history ++ c ∷ []) image.epoch)
one_on history c image (within, is) = (
  omega (arith, within, length-append history (c ∷ [])),
  is ∙ ap (image_after empty_image) (sym (take-append-le image.epoch history (c ∷ []) within)),
)

pub images_on : (log : List Entry) (entry : Entry) (images : List Image) → AreOf (commands_of log) images → AreOf (commands_of (log ++ entry ∷ [])) images
images_on log entry images are =
    subst (λ history. AreOf history images) (sym (commands_of-push log entry)) (all_weaker _ _ (one_on (commands_of log) entry.cmd) images are)

-- the image of the last epoch is kept: it is above those below that epoch
module _ (history : List Command) (image : Image) (is : image ≡ image_after empty_image history) where
  at_last : image.epoch ≡ length history
  at_last = ap (λ (i : Image). i.epoch) is ∙ epoch_after history

  pub above_last : (images : List Image) (last : ℕ) → AllByRecursion (λ kept. kept.epoch ≤ last) images → last < length history → AllByRecursion (λ kept. kept.epoch < image.epoch) images
  above_last images last upto below =
      all_weaker (λ (i : Image). i.epoch ≤ last) (λ (i : Image). i.epoch < image.epoch) (λ i le. omega (arith, le, at_last)) images upto

  pub images_with : (images : List Image) → AreOf history images → AreOf history (images ++ image ∷ [])
  images_with images are =
      let state : image ≡ state_after history image.epoch =
      is ∙ ap (image_after empty_image) (sym (take_all image.epoch history (omega (arith, at_last)))) in
      all_append (λ (i : Image). (i.epoch ≤ length history) × (i ≡ state_after history i.epoch)) images (image ∷ []) are ((omega (arith, at_last), state), tt)

-- ---- the images of every 256th epoch

-- where an epoch that is a multiple has its image, too
each_to : (images : List Image) (last : ℕ) → HasEach last images → ((k : ℕ) → 0 < k → 256 * k ≡ last → Contains (epochs_of images) (256 * k)) → HasEach (last + 1) images
each_to images last each at k above below = by (cases_lt (256 * k) last)
  where
    by : (256 * k < last) ⊎ (last ≤ 256 * k) → Contains (epochs_of images) (256 * k)
    by (inl lt) = each k above lt
    by (inr ge) = at k above (omega (arith, ge, below))

-- no image is to be kept of an epoch between two multiples
pub kept_between : (log : List Entry) (images : List Image) (last : ℕ) → (last % 256 ≡ 0 → ⊥) → AreKept log last images → AreKept log (last + 1) images
kept_between log images last apart kept = record {
  rare = kept.rare;
  states = kept.states;
  each = each_to images last kept.each (λ k above is. absurd (apart (ap (λ n. n % 256) (sym is) ∙ mul-mod_right 256 k)));
}

-- the last image is that of the last epoch
pub kept_already : (log : List Entry) (images : List Image) (last : ℕ) → last ≡ length log → last ≤ epoch_of (slice_get images (length images - 1)) → AreKept log last images → AreKept log (last + 1) images
kept_already log images last is upto kept = record {
  rare = kept.rare;
  states = kept.states;
  each = each_to images last kept.each (λ k above same. at (slice_get images (length images - 1)) refl upto (256 * k) (omega (arith, above)) same);
}
  where
    at : (found : Option Image) → slice_get images (length images - 1) ≡ found → last ≤ epoch_of found → (e : ℕ) → 0 < e → e ≡ last → Contains (epochs_of images) e
    at None found upto e above same = absurd (omega (arith, upto, above, same))
    at (Some image) found upto e above same =
        let within = slice_get_within images (length images - 1) image found in
        let among : Contains images image = (length images - 1, within, get_or_from_slice_get images (length images - 1) image image found) in
        let state = All-contains (λ (i : Image). (i.epoch ≤ length (commands_of log)) × (i ≡ state_after (commands_of log) i.epoch)) images image (All-from_recursion _ images kept.states) among in
        let epoch : image.epoch ≡ e = omega (arith, state.0, length-commands_of log, upto, is, same) in
        let read : slice_get (epochs_of images) (length images - 1) ≡ Some image.epoch = slice_get-map (λ (i : Image). i.epoch) images (length images - 1) ∙ ap (option_map (λ (i : Image). i.epoch)) found in
        (length images - 1, omega (arith, within, length-map images (λ (i : Image). i.epoch)), get_or_from_slice_get (epochs_of images) (length images - 1) image.epoch e read ∙ epoch)

-- the image of the last epoch is added
pub kept_with : (log : List Entry) (images : List Image) (image : Image) → image ≡ image_after empty_image (commands_of log) → length log % 256 ≡ 0 → AreKept log (length log) images → AreKept log (length log + 1) (images ++ image ∷ [])
kept_with log images image is due kept = record {
  rare = all_append (λ (i : Image). i.epoch % 256 ≡ 0) images (image ∷ []) kept.rare (subst (λ n. n % 256 ≡ 0) (sym at) due, tt);
  states = images_with (commands_of log) image is images kept.states;
  each = each_to (images ++ image ∷ []) (length log) (λ k above below. among (256 * k) (Contains-append_left (epochs_of images) (image.epoch ∷ []) (256 * k) (kept.each k above below)))
      (λ k above same. among (256 * k) (subst (Contains (epochs_of images ++ image.epoch ∷ [])) (at ∙ sym same) (Contains-push (epochs_of images) image.epoch)));
}
  where
    at : image.epoch ≡ length log
    at = at_last (commands_of log) image is ∙ length-commands_of log

    among : (e : ℕ) → Contains (epochs_of images ++ image.epoch ∷ []) e → Contains (epochs_of (images ++ image ∷ [])) e
    among e has = subst (λ es. Contains es e) (sym (map-append (λ (i : Image). i.epoch) images (image ∷ []))) has

-- the log goes on
pub kept_on : (log : List Entry) (entry : Entry) (images : List Image) → AreKept log (length log + 1) images → AreKept (log ++ entry ∷ []) (length (log ++ entry ∷ [])) images
kept_on log entry images kept = record {
  rare = kept.rare;
  states = images_on log entry images kept.states;
  each = subst (λ n. HasEach n images) (sym (length-append log (entry ∷ []))) kept.each;
}

-- the metadata after all entries is the state of the last epoch
pub at_end : (log : List Entry) (metadata : Image) → metadata ≡ image_after empty_image (commands_of log) → metadata ≡ state_after (commands_of log) (length log)
at_end log metadata last = last ∙ ap (image_after empty_image) (sym (take_all (length log) (commands_of log) (omega (arith, length-commands_of log))))
