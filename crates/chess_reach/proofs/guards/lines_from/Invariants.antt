use Rattle.chess_reach.proofs.guards.lines_from.Given as goal

abbrev pub decreases-loop-square : goal.decreases-loop-square
decreases-loop-square l = l.rest
