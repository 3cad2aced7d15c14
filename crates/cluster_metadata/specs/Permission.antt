-- Permits, and the commands that they allow.
use Rattle.std.specs.Prelude.{◌≡◌, MatchResult, Option, Some, None, Result}
use Rattle.transformations.specs.declared.command.Command.{Command}
use Rattle.transformations.specs.declared.image.Image.{Image}
use Rattle.transformations.specs.declared.refusal.Refusal.{Refusal}
use Rattle.cluster_metadata.specs.declared.admit_fault.AdmitFault.{AdmitFault}
use Rattle.cluster_metadata.specs.declared.admit_fault.AdmitFault.TheVariants.{Refused, Memory}

-- an image, and a command that it accepts
pub record Permission : Type 0 where
  pub image : Image
  pub command : Command

-- a fault that shows the first refusal, if there is one; or memory ran out
abbrev pub ShowsRefusal : Option Refusal → AdmitFault → Type 0
ShowsRefusal first (Refused refusal) = first ≡ Some refusal
ShowsRefusal first Memory = Unit {0}

-- the call succeeds only without a first refusal, and a fault shows the first refusal, or memory ran out
abbrev pub AdmitsUnless : {T : Type 0} → Option Refusal → Result T AdmitFault → Type 0
AdmitsUnless first result = MatchResult result (λ _. first ≡ None) (ShowsRefusal first)
