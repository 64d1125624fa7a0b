use Rattle.naive.proofs.trying.Making.+give_places.Given as goal

abbrev pub decreases-give_places : goal.decreases-give_places
decreases-give_places l = l.count
