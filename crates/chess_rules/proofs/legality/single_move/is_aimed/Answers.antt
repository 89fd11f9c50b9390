use Rattle.chess_rules.proofs.Chess.{rules, word_has}
use Rattle.chess_rules.proofs.Targeting.{aimed_by, arrival_missing, nobody_moves, promotion_amiss}
use Rattle.chess_rules.proofs.legality.single_move.is_aimed.Goals as goal

pub returns-in_default-clause-idle : goal.returns-in_default-clause-idle
returns-in_default-clause-idle g c = search (rules, nobody_moves)

pub returns-then-is_some-is_promoting-clause-aimed : goal.returns-then-is_some-is_promoting-clause-aimed
returns-then-is_some-is_promoting-clause-aimed g c = λ on. aimed_by _ _ _ c.in-Some.man (search rules) (search rules) (search (rules, word_has))

pub returns-then-is_some-is_promoting-clause-idle : goal.returns-then-is_some-is_promoting-clause-idle
returns-then-is_some-is_promoting-clause-idle g c = λ off. arrival_missing _ _ _ (search rules) (search (rules, word_has))

pub returns-else-is_some-is_promoting-clause-idle : goal.returns-else-is_some-is_promoting-clause-idle
returns-else-is_some-is_promoting-clause-idle g c = λ amiss. promotion_amiss _ _ _ c.in-Some.man (search rules) (search rules)
