use Rattle.chess_threats.proofs.Chess.{rules}
use Rattle.chess_threats.proofs.KingAttacks.{fewer_adjacent, needed_are}
use Rattle.chess_threats.proofs.king_zone.needed_squares.Goals as goal

pub returns-then-keeps_one : goal.returns-then-keeps_one
returns-then-keeps_one c =
    needed_are c.args.king_attack.now _ (search (rules, fewer_adjacent, c.ends_of-ends.ensures, c.adjacent_squares.ensures)) (search (rules, c.keeps_one.ensures))

pub returns-then-keeps_one-2 : goal.returns-then-keeps_one-2
returns-then-keeps_one-2 c =
    needed_are c.args.king_attack.now _ (search (rules, fewer_adjacent, c.adjacent_squares.ensures)) (search (rules, c.keeps_one-then-ends-flights.ensures))
