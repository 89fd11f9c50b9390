use Rattle.std.proofs.Common.{◌≡◌}
use Rattle.chess_mates.specs.ties.MatingPlaces.{IsMatingPlaceIn}
use Rattle.chess_tests.proofs.compared.gives_mating_moves.Given as goal

-- the board stays, and the cursor is one over its mating moves
abbrev pub invariant-loop-choice : goal.invariant-loop-choice
invariant-loop-choice g l = (l.board ≡ l.fn.board) × IsMatingPlaceIn g.R.Rules.rule l.fn.board l.cursor
