use Rattle.chess_threats.proofs.Chess.{off_second, sym, ◌∙◌}
use Rattle.chess_threats.proofs.Risks.{pawn_targets, piece_targets}
use Rattle.chess_threats.proofs.risk.checking_targets.Goals as goal

pub returns-then-is-2 : goal.returns-then-is-2
returns-then-is-2 c = λ t small on off. pawn_targets c.args.man c.args.king_zone.now c.args.checks t (off_second c.args.reached _ t off on)

pub returns : goal.returns
returns c = λ t small on off. piece_targets c.args.man c.args.king_zone.now c.args.checks t (sym c.is-2.ensures ∙ c.if-is-2.false) (off_second c.args.reached _ t off on)
