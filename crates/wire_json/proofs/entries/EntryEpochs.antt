-- The epochs of the entries in lines.
use Rattle.std.proofs.Common.{◌≡◌, ℕ, ◌≤◌, Bool, true, false, ◌&&◌, if◌then◌else◌, List, Some, None, Ok, codes, nat_le, refl, subst, arith}
use Rattle.std.specs.Option.{IfSome}
use Rattle.std.proofs.lemmas.Bool.{and_parts}
use Rattle.std.proofs.lemmas.Bool.Decides.{nat_tests}
use Rattle.serde_json.specs.Data.{Data}
use Rattle.transformations.specs.History.{most_epochs}
use Rattle.transformations.specs.declared.entry.Entry.{Entry}
use Rattle.wire_json.proofs.entries.EntryCommands.{IfSome-option_and_then}
use Rattle.wire_json.proofs.entries.EntryParts.{entry_parts}
use Rattle.wire_json.specs.Reading.{entry_of, epoch_at}
use Rattle.wire_json.specs.Values.{number_at}

abbrev IsEpoch : ℕ → Type 0
IsEpoch epoch = epoch ≤ most_epochs

few : (n : ℕ) → (nat_le 1 n && nat_le n 65536) ≡ true → IsEpoch n
few n is = (let most = (and_parts (nat_le 1 n) (nat_le n 65536) is).1 in grind (arith, nat_tests, most))

epoch_few : (key : List ℕ) (value : Data) → IfSome (epoch_at key value) IsEpoch
epoch_few key value = IfSome-option_and_then _ IsEpoch (λ n. by n (nat_le 1 n && nat_le n 65536) refl) (number_at key value)
  where
    by : (n : ℕ) (b : Bool) → (nat_le 1 n && nat_le n 65536) ≡ b → IfSome (if b then Some n else None) IsEpoch
    by n true is = few n is
    by n false is = tt

pub entry_epoch : (value : Data) (entry : Entry) → entry_of value ≡ Ok entry → entry.epoch ≤ most_epochs
entry_epoch value entry is = subst (λ o. IfSome o IsEpoch) (entry_parts value entry is).epoch_is (epoch_few (codes "epoch") value)
