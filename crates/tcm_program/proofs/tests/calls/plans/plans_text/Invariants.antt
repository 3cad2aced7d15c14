use Rattle.tcm_program.proofs.tests.calls.plans.plans_text.Given as goal

abbrev pub ghosts-planned : goal.ghosts-planned
ghosts-planned a = record { name = a.blank.name; parts = a.blank.parts }
