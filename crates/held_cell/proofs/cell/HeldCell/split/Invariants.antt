use Rattle.held_cell.proofs.cell.HeldCell.split.Given as goal

-- the seat is cut where the caller says
abbrev pub ghosts-cut : goal.ghosts-cut
ghosts-cut g a = record { left = a.left }
