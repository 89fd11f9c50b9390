use Rattle.chess_attacks.proofs.Chess.{is_paralysed}
use Rattle.chess_attacks.proofs.HoldTaken.{MeetTaken}
use Rattle.chess_attacks.proofs.attacks_on.some_unparalysed.Given as goal

abbrev pub invariant-loop-square : goal.invariant-loop-square
invariant-loop-square g l = MeetTaken l.word l.rest (is_paralysed g.R.Rules.rule l.board.men)

abbrev pub decreases-loop-square : goal.decreases-loop-square
decreases-loop-square g l = l.rest
