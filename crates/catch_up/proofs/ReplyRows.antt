-- What the definitions say of a few logs, computed.
use Rattle.std.proofs.Common.{◌≡◌, [], ◌∷◌, Some, None, refl}
use Rattle.transformations.specs.declared.entry.Entry.{Entry}
use Rattle.catch_up.specs.Replies.{base_epoch, catch_up_reply}

-- the entries up to the last one are few enough: 4 of 4, 7 of 20, and none
pub few_enough : (base_epoch 4 0 4 ≡ None) × (base_epoch 11 4 20 ≡ None) × (base_epoch 1030 1030 10 ≡ None)
few_enough = (refl, refl, refl)

-- they are too many: the image is that of the last multiple of 256
pub too_many : (base_epoch 1030 0 10 ≡ Some 1024) × (base_epoch 512 255 256 ≡ Some 512)
too_many = (refl, refl)

-- but no image leads past the epoch asked from
pub no_image : (base_epoch 1100 1024 10 ≡ None) × (base_epoch 200 0 10 ≡ None)
no_image = (refl, refl)

-- a reply begins with the entry after the epoch asked from, and ends with the last one or once it has `max` entries
pub one_entry : (a b c : Entry) → catch_up_reply (a ∷ b ∷ c ∷ []) 1 1 ≡ record { since = 1; image = None; entries = b ∷ [] }
one_entry a b c = refl

pub all_entries : (a b c : Entry) → catch_up_reply (a ∷ b ∷ c ∷ []) 1 5 ≡ record { since = 1; image = None; entries = b ∷ c ∷ [] }
all_entries a b c = refl
