-- The positions and moves of the examples, and what the examples compute with.
use Rattle.chess_rules.proofs.Chess.{can_castle, capture_square, has_unmoved, is_legal, is_mate, is_pseudo_legal, mark_unmoved, may_castle, moved_men, moves, none_unmoved, position_after, position_after_by, rebirth, reborn_square, triples, unmoved_after}
pub use Rattle.chess_attacks.proofs.Typed.{go, man, on, position, promoting, set_up, a1, b1, c1, d1, e1, f1, g1, h1, a2, b2, c2, d2, e2, f2, g2, h2, a3, b3, c3, d3, f3, h3, a4, b4, e4, a5, d5, e5, a6, b6, d6, e6, f6, g6, a7, b7, c7, d7, e7, f7, g7, h7, a8, b8, c8, d8, e8, f8, g8, h8}
unfoldable pub use Rattle.chess_attacks.proofs.Typed.{check}

-- what decides whether a move is pseudo-legal, and whether check follows it
unfoldable pub check_after_a_move : Unit {0}
unfolding check position_after position_after_by unmoved_after moved_men capture_square reborn_square rebirth can_castle may_castle is_pseudo_legal
    none_unmoved has_unmoved mark_unmoved
check_after_a_move = tt

-- what decides which moves are legal, and whether a position is mate
unfoldable pub legal_moves : Unit {0}
unfolding check_after_a_move is_legal moves triples is_mate
legal_moves = tt
