use Rattle.transformation_laws.proofs.images.SoundLaws.{sound_from, sound_to}
use Rattle.transformation_laws.proofs.images.ValidLaws.{valid_from, valid_to}
use Rattle.transformation_laws.proofs.validity.valid_images_break_no_rule.Goals as goal

pub returns-clause-sound : goal.returns-clause-sound
returns-clause-sound c = λ image. (sound_to image, sound_from image)

pub returns-clause-valid : goal.returns-clause-valid
returns-clause-valid c = λ image. (valid_to image, valid_from image)
