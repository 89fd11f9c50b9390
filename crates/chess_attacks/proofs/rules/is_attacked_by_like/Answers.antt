use Rattle.chess_attacks.proofs.attacks.Attacking.{faced}
use Rattle.chess_attacks.proofs.rules.is_attacked_by_like.Goals as goal

pub returns : goal.returns
returns c = faced c.args.board.now.men c.args.man c.args.square c.reaching_kind.result
    (rw c.other.ensures at (c.reaching_kind.ensures c.args.board.now.men (c.occupancy_now.ensures c.other.result)))
