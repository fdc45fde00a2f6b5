use Rattle.min_frame.proofs.frame.Frame.claim.Given as goal

abbrev pub ghosts-claim_of : goal.ghosts-claim_of
ghosts-claim_of a = record { number = a.frame.now.blocks }
