use Rattle.host.proofs.folders.+walk.Given as goal

abbrev pub decreases-walk : goal.decreases-walk
decreases-walk g l = l.levels
