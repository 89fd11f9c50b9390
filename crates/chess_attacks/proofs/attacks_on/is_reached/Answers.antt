use Rattle.chess_attacks.proofs.attacks_on.is_reached.Goals as goal

pub returns : goal.returns
returns c = c.has_attacker_in.ensures c.args.board.now.men (c.occupancy_now.ensures c.args.colour)
