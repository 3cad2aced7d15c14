use Rattle.cluster_metadata.proofs.movements.running.resume_all.Given as goal

abbrev pub ghosts-push_all : goal.ghosts-push_all
ghosts-push_all a = record { name = a.blank.name; parts = a.blank.parts }
