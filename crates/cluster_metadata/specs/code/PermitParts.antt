-- What the parts of a `Permit` are to one another.
use Rattle.std.specs.Prelude.{◌≡◌, ◌<◌, true, None}
use Rattle.transformations.specs.History.{is_command, most_epochs}
use Rattle.transformations.specs.Meeting.{HasReplication}
use Rattle.transformations.specs.Refusals.{refusal_of}
use Rattle.transformations.specs.declared.command.Command.{Command}
use Rattle.transformations.specs.declared.image.Image.{Image}
use Rattle.cluster_metadata.specs.code.Change.{IsChange}
use Rattle.cluster_metadata.specs.declared.changes.change.Change.{Change}

-- a command is accepted in an image, and makes this change in it
pub record IsPermitted (image : Image) (command : Command) (change : Change) : Type 0 where
  pub below_limit : image.epoch < most_epochs
  pub formed : is_command command ≡ true
  pub accepted : refusal_of image command ≡ None
  pub makes : IsChange image command change
  pub replicated : HasReplication command
