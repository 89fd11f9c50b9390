use Rattle.chess_flights.proofs.Chess.{inl, inr, rules, taken_map, taken_next}
use Rattle.chess_flights.proofs.Hurdles.{on_one, reached_left, reached_right, rest_here, rest_on}
use Rattle.chess_flights.proofs.guards.reach_together.Goals as goal

pub loop-from-preserved : goal.loop-from-preserved
loop-from-preserved c =
    let more = c.reach_towards-more in
    let next = c.in-Some.ensures.taken in (
      taken_next _ _ _ _ _ (taken_map _ _ _ _ (λ s h near. reached_left _ _ s _ _ (h near)) c.loop-from.invariant.0)
          next (λ near. search (rules, reached_right, more.ensures.all)),
      (
        search (rules, rest_on, next),
        λ t small on. elim (on_one c.loop-from.reached more.result t on) [
          | inl before ↦ c.loop-from.invariant.1.1 t small before
          | inr new ↦ search (rules, rest_here, next, more.ensures.alone)
        ],
      ),
    )
