use Rattle.chess_attacks.proofs.Chess.{arith, joined, squares_same, ◌∙◌}
use Rattle.chess_attacks.proofs.attacks_on.fairy_men_reaching.Goals as goal

pub returns : goal.returns
returns c = λ men occupied hoppers nightriders.
    joined _ _ _ _ (c.hoppers_reaching.ensures men occupied hoppers) (c.reaching_among.ensures men occupied nightriders)
    ∙ squares_same _ _ (λ s b. grind arith)
