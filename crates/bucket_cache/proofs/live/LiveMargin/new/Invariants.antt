use Rattle.bucket_cache.proofs.live.LiveMargin.new.Given as goal

abbrev pub ghosts-know_margin : goal.ghosts-know_margin
ghosts-know_margin a = record { name = a.blank.name; parts = a.blank.parts }
