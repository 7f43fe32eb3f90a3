use Rattle.pair_sum.proofs.roots.outer_root.Given as goal

abbrev pub ghosts-outer_sum : goal.ghosts-outer_sum
ghosts-outer_sum g a = record { name = a.blank.name; parts = a.blank.parts }
