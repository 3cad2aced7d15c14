-- The parts of an entry that is in a JSON value.
use Rattle.std.proofs.Common.{◌≡◌, ℕ, Bool, true, false, Option, Some, None, Result, Ok, codes, ap}
use Rattle.serde_json.specs.Data.{Data}
use Rattle.transformations.specs.declared.command.Command.{Command}
use Rattle.transformations.specs.declared.entry.Entry.{Entry}
use Rattle.wire_json.specs.Kinds.{command_at}
use Rattle.wire_json.specs.Reading.{◌>>=◌, entry_keys, entry_of, epoch_at, found, holds}
use Rattle.wire_json.specs.Values.{has_keys, number_at}
use Rattle.wire_json.specs.declared.line.ReadLineFault.{ReadLineFault}

-- its epoch and its command are those under their keys
pub record HasParts (value : Data) (entry : Entry) : Type 0 where
  pub epoch_is : epoch_at (codes "epoch") value ≡ Some entry.epoch
  pub command_is : command_at (codes "command") value ≡ Some entry.cmd

-- what is made of the parts of an entry
abbrev entry_by : Bool → Option ℕ → Option ℕ → Option Command → Result Entry ReadLineFault
entry_by keys id epoch command = do
  keys ← holds 3 keys
  id ← found 4 id
  epoch ← found 4 epoch
  command ← found 5 command
  Ok (record { id = id; epoch = epoch; cmd = command })

pub entry_parts : (value : Data) (entry : Entry) → entry_of value ≡ Ok entry → HasParts value entry
unfolding entry_of
entry_parts value entry is =
    let both = by (has_keys entry_keys value) (number_at (codes "entry") value) (epoch_at (codes "epoch") value) (command_at (codes "command") value) is in
    record { epoch_is = both.0; command_is = both.1 }
  where
    by : (keys : Bool) (id epoch : Option ℕ) (command : Option Command) → entry_by keys id epoch command ≡ Ok entry → (epoch ≡ Some entry.epoch) × (command ≡ Some entry.cmd)
    by false id epoch command is = absurd (cc)
    by true None epoch command is = absurd (cc)
    by true (Some n) None command is = absurd (cc)
    by true (Some n) (Some e) None is = absurd (cc)
    by true (Some n) (Some e) (Some command) is =
        let same_epoch : e ≡ entry.epoch = cc in
        let same_command : command ≡ entry.cmd = cc in
        (ap Some same_epoch, ap Some same_command)
