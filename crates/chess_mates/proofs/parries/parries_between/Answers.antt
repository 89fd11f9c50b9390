use Rattle.chess_mates.proofs.Chess.{Pawn, ap, bit_and, rules, squares_both, taken_all, ℕ, ◌∙◌}
use Rattle.chess_flights.proofs.Hurdles.{rest_here}
use Rattle.chess_mates.proofs.Parrying.{interposed, nobody_between}
use Rattle.chess_mates.proofs.parries.parries_between.Goals as goal

pub returns-then-closes_line : goal.returns-then-closes_line
returns-then-closes_line c = λ men seen unpinned.
    let reaching = rw (c.other-enemy.ensures, c.turn.ensures) at c.attackers_in-reaching.ensures men (search (rules, seen)) in
    let standing = rw (c.other-enemy.ensures, c.turn.ensures) at c.squares.ensures.word in
    let pawns = ap (λ (n : ℕ). bit_and n c.args.occupancy.standing) standing ∙ seen.standing Pawn in
    interposed men c.args.board.now c.args.man c.args.m c.args.king c.squares_between-seen.result c.args.occupancy.occupied c.fairy_lines.result
    (bit_and c.attackers_in-reaching.result c.args.unpinned) (bit_and c.squares.result c.args.occupancy.standing) c.args.unpinned c.pawn_origins.result
    c.in-Some.square seen.occupied (search rules) (search (rules, squares_both, reaching, unpinned)) pawns unpinned
    (rw (c.other-enemy.ensures, c.turn.ensures) at c.pawn_origins.ensures) (search rules) (search (rules, rest_here)) (search rules)

pub returns-then-nobody_comes : goal.returns-then-nobody_comes
returns-then-nobody_comes c = λ men seen _.
    nobody_between men c.args.board.now c.args.m.to c.args.king c.squares_between-seen.result c.args.occupancy.occupied c.fairy_lines.result seen.occupied
    (search rules) (search (rules, c.squares_between-seen.ensures men seen.occupied)) (search rules) (search (rules, taken_all))
