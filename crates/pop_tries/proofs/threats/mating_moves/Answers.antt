use Rattle.pop_tries.proofs.Words.{List, Move, ap, filter, inr, legal_moves, rules, subst, sym, ◌∙◌}
use Rattle.chess_flights.specs.ties.Mates.{is_mating}
use Rattle.chess_mates.proofs.NextMate.{mates-legal}
use Rattle.chess_mates.specs.ties.MatingPlaces.{MatingPlace}
use Rattle.pop_tries.specs.ties.FewPlaces.{AreAt}
use Rattle.pop_tries.proofs.FewPlaces.{held_along, mates_at_start, mates_held, place_is}
use Rattle.pop_tries.proofs.threats.mating_moves.Goals as goal

pub loop-by-init : goal.loop-by-init
loop-by-init g c =
    let start = mates_at_start g.R.Rules.rule c.args.board.now _ c.mate_cursor-mates.ensures.start in
    (search rules, search rules, λ m i. inr (rw start i), sym start)

pub loop-by-preserved : goal.loop-by-preserved
loop-by-preserved g c =
    let rule = g.R.Rules.rule in
    let p = c.args.board.now in
    let rest = rw c.loop-by.invariant.0 at c.in-Some.ensures.rest in
    let legal = mates-legal rule p c.in-Some.by (rw c.loop-by.invariant.0 at c.in-Some.ensures.meets) in
    let put = c.with-moves.ensures in
    let on = place_is rule p c.in-Some.by _ c.requires.well_formed legal
    (c.number.ensures ∙ (c.place.ensures ∙ ap (λ (v : MatingPlace). v.place) c.in-Some.ensures.place)) in (
      search rules,
      search rules,
      held_along (filter (is_mating rule p) (legal_moves rule p)) _ _ c.in-Some.by c.loop-by.moves c.with-moves.result rest c.loop-by.invariant.2 put.put put.kept,
      c.with-places.ensures c.in-Some.by (filter (is_mating rule p) (legal_moves rule p)) _ on
          (subst (λ (ms : List Move). AreAt c.loop-by.places (filter (is_mating rule p) (legal_moves rule p)) ms) rest c.loop-by.invariant.3),
    )

pub returns-clause-held : goal.returns-clause-held
returns-clause-held g c =
    mates_held g.R.Rules.rule c.args.board.now c.loop-by.moves _ (rw c.loop-by.invariant.0 at c.in_default.ensures.rest) c.loop-by.invariant.2
