use Rattle.book_margin.proofs.margin.margin_in_range.Given as goal

abbrev pub ghosts-margin_counted : goal.ghosts-margin_counted
ghosts-margin_counted a = record { name = a.blank.name; parts = a.blank.parts }
