-- The rules of valid images, those of the lists first and then the last.
use Rattle.std.proofs.Common.{◌≡◌, None, ap, ◌∙◌}
use Rattle.std.specs.Option.{option_or}
use Rattle.transformations.specs.ImageRules.{bad_of, broken_rule}
use Rattle.transformations.specs.declared.image.Image.{Image}
use Rattle.cluster_metadata.specs.ImageFaults.{IsCause}
use Rattle.cluster_metadata.specs.code.Overlaps.{overlap_of}
use Rattle.cluster_metadata.specs.declared.image_fault.ImageFault.{ImageFault}
use Rattle.cluster_metadata.specs.declared.image_fault.ImageFault.TheVariants.{Bad, Memory}

-- if it breaks none of the rules of the lists, the last rule decides
last_rule : (image : Image) → broken_rule image ≡ None → bad_of image ≡ overlap_of image
unfolding bad_of
last_rule image none = ap (λ o. option_or o (overlap_of image)) none

pub good_image : (image : Image) → broken_rule image ≡ None → overlap_of image ≡ None → bad_of image ≡ None
good_image image lists none = last_rule image lists ∙ none

-- the cause of the lists is that of the image, and so is that of the last rule after them
pub bad_first : (image : Image) (e : ImageFault) → IsCause (broken_rule image) e → IsCause (bad_of image) e
unfolding bad_of
bad_first image (Bad bad) is = ap (λ o. option_or o (overlap_of image)) is
bad_first image Memory is = tt

pub bad_later : (image : Image) (e : ImageFault) → broken_rule image ≡ None → IsCause (overlap_of image) e → IsCause (bad_of image) e
bad_later image (Bad bad) lists is = last_rule image lists ∙ is
bad_later image Memory lists is = tt
