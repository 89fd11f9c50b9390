use Rattle.chess_threats.proofs.Chess.{Bishop, Queen, Rook, refl, sym, ◌∙◌}
use Rattle.chess_threats.proofs.Risks.{check_lines}
use Rattle.chess_threats.proofs.KingAttacks.{queen_lines}
use Rattle.chess_threats.proofs.risk.check_squares_over.Goals as goal

pub returns-then-is : goal.returns-then-is
returns-then-is c = check_lines _ _ _ c.args.man Queen (sym c.is.ensures ∙ c.if-is.true) refl
    (λ side. queen_lines _ _ _ _ side (c.requires.straight side) (c.requires.diagonal side))

pub returns-then-is-2 : goal.returns-then-is-2
returns-then-is-2 c = check_lines _ _ _ c.args.man Rook (sym c.is-2.ensures ∙ c.if-is-2.true) refl c.requires.straight

pub returns-then-is-3 : goal.returns-then-is-3
returns-then-is-3 c = check_lines _ _ _ c.args.man Bishop (sym c.is-3.ensures ∙ c.if-is-3.true) refl c.requires.diagonal
