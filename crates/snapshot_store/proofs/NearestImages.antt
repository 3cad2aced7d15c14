-- Images that are kept, and the nearest of them.
use Rattle.std.proofs.Common.{◌≡◌, ℕ, suc, ◌+◌, ◌-◌, ◌<◌, ◌≤◌, List, [], ◌∷◌, ◌++◌, length, get_or, Some, true, false, sym, subst, ◌∙◌, ◌⊎◌, inl, inr, arith}
use Rattle.std.proofs.Math.Dec.{leb}
use Rattle.std.specs.List.{AllByRecursion, slice_get}
use Rattle.std.specs.List.Sorted.{IsNonDecreasingBy, IsPartitionPoint}
use Rattle.std.proofs.lemmas.Bool.{cases_lt, leb-false, leb-true}
use Rattle.std.proofs.lemmas.List.{get_or_default}
use Rattle.std.proofs.lemmas.List.Elements.{All-from_recursion, All-head, All-tail}
use Rattle.std.proofs.lemmas.List.Quantifiers.{all_pairs_push}
use Rattle.std.proofs.lemmas.Option.{get_or_from_slice_get, none-some}
use Rattle.transformation_laws.proofs.images.ValidLaws.{valid_to}
use Rattle.transformations.specs.ImageRules.{bad_of}
use Rattle.transformations.specs.Valid.{IsValid}
use Rattle.transformations.specs.declared.image_rules.BadImage.{BadImage}
use Rattle.transformations.specs.declared.image.Image.{Image}
use Rattle.snapshot_store.specs.Images.{Ascend}
use Rattle.snapshot_store.specs.code.NearestImage.{IsNearest}

from_all : (P : Image → Type 0) (images : List Image) → ((k : ℕ) (d : Image) → k < length images → P (get_or images k d)) → AllByRecursion P images
from_all P [] all = tt
from_all P (image ∷ images) all = (All-head P image images all, from_all P images (All-tail P image images all))

to_all : (P : Image → Type 0) (images : List Image) → AllByRecursion P images → (k : ℕ) (d : Image) → k < length images → P (get_or images k d)
to_all P images all = All-from_recursion P images all

-- ---- one image more

pub kept_push : (images : List Image) (image : Image) → Ascend images → AllByRecursion (λ kept. kept.epoch < image.epoch) images → Ascend (images ++ image ∷ [])
kept_push images image kept past = all_pairs_push (λ (one later : Image). one.epoch < later.epoch) images image kept (to_all (λ (one : Image). one.epoch < image.epoch) images past)

-- ---- valid images

-- a valid image isn't bad
pub not_bad : (image : Image) (bad : BadImage) → IsValid image → bad_of image ≡ Some bad → ⊥
not_bad image bad valid is = none-some bad (sym (valid_to image valid) ∙ is)

-- ---- the order of the epochs

epochs_rise : (images : List Image) → Ascend images → (i j : ℕ) (d e : Image) → i ≤ j → j < length images → (get_or images i d).epoch ≤ (get_or images j e).epoch
epochs_rise images kept i j d e le in_j = by (cases_lt i j)
  where
    by : (i < j) ⊎ (j ≤ i) → (get_or images i d).epoch ≤ (get_or images j e).epoch
    by (inl before) = rw (get_or_default images j e d in_j) (omega (arith, kept i j d before in_j))
    by (inr after) = let same : i ≡ j = omega arith in rw (same, get_or_default images j d e in_j) (omega arith)

pub epochs_ascend : (images : List Image) → Ascend images → IsNonDecreasingBy (λ image. image.epoch) images
epochs_ascend images kept i j d le in_j = epochs_rise images kept i j d d le in_j

-- none is past the last
pub none_past_last : (images : List Image) (last : Image) → Ascend images → Some last ≡ slice_get images (length images - 1) → AllByRecursion (λ kept. kept.epoch ≤ last.epoch) images
none_past_last images last kept is = from_all (λ (image : Image). image.epoch ≤ last.epoch) images upto
  where
    at : get_or images (length images - 1) last ≡ last
    at = get_or_from_slice_get images (length images - 1) last last (sym is)

    upto : (k : ℕ) (d : Image) → k < length images → (get_or images k d).epoch ≤ last.epoch
    upto k d in_k =
        subst (λ (image : Image). (get_or images k d).epoch ≤ image.epoch) at
        (epochs_rise images kept k (length images - 1) d last (omega arith) (omega arith))

-- ---- the nearest image

-- the search for an epoch divides the images
pub split_from_tests : (images : List Image) (e n : ℕ) → IsPartitionPoint (λ image. leb image.epoch e ≡ true) (λ image. leb image.epoch e ≡ false) images n → IsPartitionPoint (λ image. image.epoch ≤ e) (λ image. e < image.epoch) images n
split_from_tests images e n split =
    (λ k d low in_k. leb-true _ _ (split.0 k d low in_k), λ k d low in_k. leb-false _ _ (split.1 k d low in_k))

module _ (images : List Image) (e n : ℕ) (kept : Ascend images) (split : IsPartitionPoint (λ image. image.epoch ≤ e) (λ image. e < image.epoch) images n) where
  -- the last of those at or below the epoch
  pub nearest_found : (k : ℕ) (image : Image) → k < length images → n ≡ k + 1 → image ≡ get_or images k image → IsNearest images e image
  nearest_found k image in_k next at = record {
    among = (suc k, omega arith, sym at);
    below = subst (λ (i : Image). i.epoch ≤ e) (sym at) (split.0 k image (omega arith) (omega arith));
    greatest = from_all (λ (one : Image). one.epoch ≤ e → one.epoch ≤ image.epoch) images greatest;
  }
    where
      greatest : (j : ℕ) (d : Image) → j < length images → (get_or images j d).epoch ≤ e → (get_or images j d).epoch ≤ image.epoch
      greatest j d in_j upto = by (cases_lt k j)
        where
          by : (k < j) ⊎ (j ≤ k) → (get_or images j d).epoch ≤ image.epoch
          by (inl past) = absurd (omega (arith, split.1 j d (omega arith) in_j))
          by (inr le) =
              subst (λ (i : Image). (get_or images j d).epoch ≤ i.epoch) (sym at) (epochs_rise images kept j k d image le in_k)
