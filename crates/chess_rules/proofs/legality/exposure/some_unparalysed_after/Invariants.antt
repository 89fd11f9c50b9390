use Rattle.chess_rules.proofs.Chess.{DescribesMenAfter, AreOthers, List, Man, Option, is_paralysed}
use Rattle.chess_attacks.proofs.HoldTaken.{MeetTaken}
use Rattle.chess_rules.proofs.legality.exposure.some_unparalysed_after.Given as goal

abbrev pub invariant-loop-square : goal.invariant-loop-square
invariant-loop-square g l =
    (men : List (Option Man)) → DescribesMenAfter l.board.men men l.man l.m l.occupancy → AreOthers men l.man.colour l.word
    → MeetTaken l.word l.rest (is_paralysed g.R.Rules.rule men)

abbrev pub decreases-loop-square : goal.decreases-loop-square
decreases-loop-square g l = l.rest
