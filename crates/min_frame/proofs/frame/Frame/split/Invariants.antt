use Rattle.min_frame.proofs.frame.Frame.split.Given as goal

abbrev pub ghosts-split_by : goal.ghosts-split_by
ghosts-split_by a = record { number = a.ends }
