use Rattle.std.proofs.Common.{rules}
use Rattle.chess_attacks.proofs.attacks.Attacking.{hoppers_none}
use Rattle.chess_attacks.proofs.attacks_on.hoppers_reaching.Goals as goal

pub returns-then-squares-straight_lines-eq0 : goal.returns-then-squares-straight_lines-eq0
returns-then-squares-straight_lines-eq0 c = λ men occupied squares.
    hoppers_none men _ _ _ _ _ c.show_below_64.ensures squares c.straight_lines.ensures c.diagonal_lines.ensures
    (search rules)
