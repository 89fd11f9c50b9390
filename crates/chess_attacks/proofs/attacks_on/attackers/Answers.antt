use Rattle.chess_attacks.proofs.attacks_on.attackers.Goals as goal

pub returns : goal.returns
returns c = c.attackers_in.ensures c.args.board.now.men (c.occupancy_now.ensures c.args.colour)
