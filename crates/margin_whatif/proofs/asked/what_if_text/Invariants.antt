use Rattle.margin_whatif.proofs.asked.what_if_text.Given as goal

abbrev pub ghosts-text_counted : goal.ghosts-text_counted
ghosts-text_counted a = record { name = a.blank.name; parts = a.blank.parts }
