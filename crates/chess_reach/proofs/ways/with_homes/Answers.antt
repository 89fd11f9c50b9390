use Rattle.std.proofs.Common.{true}
use Rattle.chess_reach.proofs.Resting.{rest_kept, rest_reborn}
use Rattle.chess_reach.proofs.ways.with_homes.Goals as goal

pub returns-clause-kept : goal.returns-clause-kept
returns-clause-kept c j t had = rest_kept true c.args.man c.args.at c.homes-own.result c.promoted_homes-promoted.result c.knight_homes-knights.result j t had

pub returns-clause-reborn : goal.returns-clause-reborn
returns-clause-reborn c are_reborn =
    rest_reborn are_reborn c.args.man c.args.at c.homes-own.result c.promoted_homes-promoted.result c.knight_homes-knights.result c.homes-own.ensures
    c.promoted_homes-promoted.ensures c.knight_homes-knights.ensures
