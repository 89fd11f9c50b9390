use Rattle.chess_rules.proofs.Chess.{arith, position_after_by, reborn_square, rules, undo_by, unmoved_after}
use Rattle.chess_rules.proofs.making_moves.play.play_by.Goals as goal

pub returns-clause-after : goal.returns-clause-after
unfolding position_after_by unmoved_after reborn_square
returns-clause-after g c = grind arith

pub put_at-requires-clause-empty : goal.put_at-requires-clause-empty
put_at-requires-clause-empty g c = grind arith

pub returns-clause-undo : goal.returns-clause-undo
unfolding reborn_square undo_by
returns-clause-undo g c = search rules
