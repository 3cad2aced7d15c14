use Rattle.placement_maps.proofs.keyspace_maps.arrangement_of.Given as goal

abbrev pub ghosts-slots_of : goal.ghosts-slots_of
ghosts-slots_of a = record { name = a.blank.name; parts = a.blank.parts }
