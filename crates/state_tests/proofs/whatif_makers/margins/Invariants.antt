use Rattle.state_tests.proofs.whatif_makers.margins.Given as goal

abbrev pub ghosts-margins_counted : goal.ghosts-margins_counted
ghosts-margins_counted g a = record { name = a.blank.name; parts = a.blank.parts }
