use Rattle.bag_cells.proofs.write.+width_of.Given as goal

abbrev pub decreases-width_of : goal.decreases-width_of
decreases-width_of l = l.number
