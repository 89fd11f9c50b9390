use Rattle.std.proofs.Common.{rules}
use Rattle.chess_attacks.proofs.attacks.Attacking.{reached, reached_none}
use Rattle.chess_attacks.proofs.attacks_on.reaching_among.Goals as goal

pub returns-then-squares-eq0 : goal.returns-then-squares-eq0
returns-then-squares-eq0 c = λ men occupied squares.
    reached_none men c.args.colour c.args.kind c.args.square c.args.squares squares c.if-squares-eq0.true

pub returns : goal.returns
returns c = search (rules, reached, c.reach_to.ensures)
