use Rattle.chess_flights.proofs.Becoming.{hopper_is_no_pawn, piece_stays}
use Rattle.chess_threats.proofs.Chess.{false, sym, ◌∙◌}
use Rattle.chess_threats.proofs.Promotions.{leaves_untaken}
use Rattle.chess_threats.proofs.risk.critical_of_going.Goals as goal

pub returns-then-is : goal.returns-then-is
returns-then-is c = λ t low on z becomes.
    let hop = sym c.is.ensures ∙ c.if-is.true in (
      _,
      c.later_hurdles-hurdles.ensures,
      rw (piece_stays false c.args.man z t (hopper_is_no_pawn c.args.man.kind hop) becomes) (c.critical_of_hops.ensures c.args.man t hop low on),
    )

pub returns-then-is-2 : goal.returns-then-is-2
returns-then-is-2 c = λ t low on z becomes. (
  _,
  c.later_hurdles-hurdles.ensures,
  leaves_untaken _ _ _ _ _ z t (c.critical_of_pawn.ensures t low on z becomes),
)

pub returns : goal.returns
returns c = λ t low on z becomes. (
  _,
  c.later_hurdles-hurdles.ensures,
  rw (piece_stays false c.args.man z t (sym c.is-2.ensures ∙ c.if-is-2.false) becomes)
      (leaves_untaken _ _ _ _ _ c.args.man t (c.critical_after.ensures t low on)),
)
