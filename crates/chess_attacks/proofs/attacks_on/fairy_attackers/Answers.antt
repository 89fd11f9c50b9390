use Rattle.chess_attacks.proofs.Chess.{arith, joined, squares_same, ◌∙◌}
use Rattle.chess_attacks.proofs.attacks.Attacking.{reached_none}
use Rattle.chess_attacks.proofs.attacks_on.fairy_attackers.Goals as goal

pub returns-then-nightriders-eq0 : goal.returns-then-nightriders-eq0
returns-then-nightriders-eq0 c = λ men seen.
    joined _ _ 0 0 (reached_none men _ _ c.args.square _ (c.squares_seen-hoppers.ensures men seen) c.if-hoppers-eq0.true)
    (reached_none men _ _ c.args.square _ (c.squares_seen-nightriders.ensures men seen) c.if-nightriders-eq0.true)
    ∙ squares_same _ _ (λ s b. grind arith)

pub returns : goal.returns
returns c = λ men seen.
    c.fairy_men_reaching.ensures men seen.occupied (c.squares_seen-hoppers.ensures men seen) (c.squares_seen-nightriders.ensures men seen)
