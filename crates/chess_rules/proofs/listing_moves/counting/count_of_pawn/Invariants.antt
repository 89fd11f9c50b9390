use Rattle.chess_rules.proofs.Chess.{NamesMove, length, moves_between, per_origin, ◌*◌, ◌+◌, ◌-◌, ◌<◌, ◌≡◌, ◌≤◌}
use Rattle.chess_rules.proofs.listing_moves.counting.count_of_pawn.Given as goal

-- at each turn the moves counted and those still to count are all moves
abbrev pub invariant-loop-at : goal.invariant-loop-at
invariant-loop-at g l = record {
  board : l.board ≡ l.fn.board;
  high : l.at ≤ per_origin;
  named : l.at < per_origin → NamesMove l.fn.board l.from l.squares l.at;
  all : l.count + length (moves_between g.R.Rules.rule l.fn.board (per_origin * l.from + l.at) (per_origin * l.from + l.end))
      ≡ length (moves_between g.R.Rules.rule l.fn.board (per_origin * l.from + l.start) (per_origin * l.from + l.end));
}

abbrev pub decreases-loop-at : goal.decreases-loop-at
decreases-loop-at g l = per_origin - l.at
