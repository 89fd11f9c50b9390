use Rattle.chess_reach.proofs.Resting.{promoted_home}
use Rattle.chess_reach.proofs.ways.promoted_homes.Goals as goal

pub returns : goal.returns
returns c k s h n p small on home =
    c.if_any.ensures s h on (promoted_home c.args.colour k s h _ _ _ _ n p home (c.queen_home-queens.ensures s h) (c.rook_homes-rooks.ensures s h small on)
    (c.bishop_homes-bishops.ensures s h small on) (λ j fairy. c.fairy_homes-fairy_men.ensures j s h fairy small on))
