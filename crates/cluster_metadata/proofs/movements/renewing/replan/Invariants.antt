use Rattle.cluster_metadata.proofs.movements.renewing.replan.Given as goal

abbrev pub ghosts-plan_all : goal.ghosts-plan_all
ghosts-plan_all a = record { name = a.blank.name; parts = a.blank.parts }
