use Rattle.chess_threats.proofs.Chess.{inl, inr}
use Rattle.chess_flights.proofs.Hurdles.{on_one}
use Rattle.chess_threats.proofs.Springboards.{unsprung_left, unsprung_right}
use Rattle.chess_threats.proofs.king_zone.landings_among.Goals as goal

pub loop-to-preserved : goal.loop-to-preserved
loop-to-preserved c = λ f small on. elim (on_one c.loop-to.found c.landing_on-more.result.squares f on) [
  | inl before ↦ unsprung_left _ _ f _ _ (c.loop-to.invariant f small before)
  | inr new ↦ unsprung_right _ _ f _ _ (c.landing_on-more.ensures f small new)
]
