use Rattle.cluster_metadata.proofs.metadata.Metadata.permit.Given as goal

abbrev pub ghosts-counted : goal.ghosts-counted
ghosts-counted a = record { name = a.blank.name; parts = a.blank.parts }
