use Rattle.transformation_laws.proofs.cut_changes.CutsFollowed.{cuts_followed, same_across}
use Rattle.transformation_laws.proofs.validity.cuts_follow_movements.Goals as goal

pub returns-clause-follow : goal.returns-clause-follow
returns-clause-follow c = cuts_followed

pub returns-clause-across : goal.returns-clause-across
returns-clause-across c = same_across
