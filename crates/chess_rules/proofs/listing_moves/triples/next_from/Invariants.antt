use Rattle.chess_rules.proofs.Chess.{HasNoMoveFrom, per_origin, ◌-◌, ◌≤◌}
use Rattle.chess_rules.proofs.listing_moves.triples.next_from.Given as goal

abbrev pub invariant-loop-to : goal.invariant-loop-to
invariant-loop-to l = record {
  low : l.fn.start ≤ l.at;
  high : l.at ≤ per_origin;
  barren : HasNoMoveFrom l.board l.fn.from l.fn.word l.fn.start l.at;
}

abbrev pub decreases-loop-to : goal.decreases-loop-to
decreases-loop-to l = per_origin - l.at
