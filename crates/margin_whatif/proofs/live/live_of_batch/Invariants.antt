use Rattle.margin_whatif.proofs.live.live_of_batch.Given as goal

abbrev pub ghosts-ask_once : goal.ghosts-ask_once
ghosts-ask_once a = record { name = a.blank.name; parts = a.blank.parts }
