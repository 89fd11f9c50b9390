-- All legal moves of some positions, computed from the definitions.
use Rattle.chess_rules.proofs.Chess.{Bishop, Black, King, Knight, Pawn, Position, Queen, Rook, White, [], false, in_check, is_mate, is_nil, length, moves, none_unmoved, orthodox, refl, true, with_unmoved, ◌∷◌, ◌≡◌}
use Rattle.chess_rules.proofs.Typed.{legal_moves, on, position, a1, b1, c1, d1, e1, f1, g1, h1, a2, b2, c2, d2, e2, f2, g2, h2, c3, f3, h3, b4, e4, d5, e5, a6, b6, e6, f6, g6, a7, b7, c7, d7, e7, f7, g7, h7, a8, b8, c8, d8, e8, f8, g8, h8}

-- the game array
abbrev array : Position
array = record (position (on White King e1 ∷ on White Queen d1 ∷ on White Rook a1 ∷ on White Rook h1 ∷ on White Bishop c1 ∷ on White Bishop f1
    ∷ on White Knight b1 ∷ on White Knight g1 ∷ on White Pawn a2 ∷ on White Pawn b2 ∷ on White Pawn c2 ∷ on White Pawn d2 ∷ on White Pawn e2 ∷ on White Pawn f2
    ∷ on White Pawn g2 ∷ on White Pawn h2 ∷ on Black King e8 ∷ on Black Queen d8 ∷ on Black Rook a8 ∷ on Black Rook h8 ∷ on Black Bishop c8 ∷ on Black Bishop f8
    ∷ on Black Knight b8 ∷ on Black Knight g8 ∷ on Black Pawn a7 ∷ on Black Pawn b7 ∷ on Black Pawn c7 ∷ on Black Pawn d7 ∷ on Black Pawn e7 ∷ on Black Pawn f7
    ∷ on Black Pawn g7 ∷ on Black Pawn h7 ∷ []) White) {
      unmoved = with_unmoved
          (with_unmoved (with_unmoved (with_unmoved (with_unmoved (with_unmoved none_unmoved a1) e1) h1) a8) e8) h8;
    }

-- 20 moves
moves_of_the_array : length (moves orthodox array) ≡ 20
unfolding legal_moves
moves_of_the_array = refl

-- a position with castling on both sides and captures of all sorts
abbrev full : Position
full = record (position (on White King e1 ∷ on White Rook a1 ∷ on White Rook h1 ∷ on White Queen f3 ∷ on White Bishop d2 ∷ on White Bishop e2
    ∷ on White Knight c3 ∷ on White Knight e5 ∷ on White Pawn a2 ∷ on White Pawn b2 ∷ on White Pawn c2 ∷ on White Pawn f2 ∷ on White Pawn g2 ∷ on White Pawn h2
    ∷ on White Pawn e4 ∷ on White Pawn d5 ∷ on Black King e8 ∷ on Black Rook a8 ∷ on Black Rook h8 ∷ on Black Queen e7 ∷ on Black Bishop a6 ∷ on Black Bishop g7
    ∷ on Black Knight b6 ∷ on Black Knight f6 ∷ on Black Pawn a7 ∷ on Black Pawn c7 ∷ on Black Pawn d7 ∷ on Black Pawn f7 ∷ on Black Pawn e6 ∷ on Black Pawn g6
    ∷ on Black Pawn b4 ∷ on Black Pawn h3 ∷ []) White) {
      unmoved = with_unmoved
          (with_unmoved (with_unmoved (with_unmoved (with_unmoved (with_unmoved none_unmoved a1) e1) h1) a8) e8) h8;
    }

-- 48 moves
moves_of_the_full_position : length (moves orthodox full) ≡ 48
unfolding legal_moves
moves_of_the_full_position = refl

-- White Ke1 Rh1, Black Ke8 Rf8: the king would cross an attacked square
abbrev rook_on_f8 : Position
rook_on_f8 = record (position (on White King e1 ∷ on White Rook h1 ∷ on Black King e8 ∷ on Black Rook f8 ∷ []) White) {
  unmoved = with_unmoved
      (with_unmoved (with_unmoved none_unmoved e1) h1) e8;
}

-- 12 moves, 3 of the king and 9 of the rook
no_castling_over_an_attacked_square : length (moves orthodox rook_on_f8) ≡ 12
unfolding legal_moves
no_castling_over_an_attacked_square = refl

-- White Kg6 Ra8, Black Kg8, Black to move
abbrev mate : Position
mate = position (on White King g6 ∷ on White Rook a8 ∷ on Black King g8 ∷ []) Black

-- Black is mated
mated : is_mate orthodox mate ≡ true
unfolding legal_moves
mated = refl

-- White Kc7 Rb7, Black Ka8, Black to move
abbrev stalemate : Position
stalemate = position (on White King c7 ∷ on White Rook b7 ∷ on Black King a8 ∷ []) Black

-- Black has no move and isn't in check, which is no mate
stalemated : (is_nil (moves orthodox stalemate) ≡ true) × (in_check orthodox stalemate.men Black ≡ false) × (is_mate orthodox stalemate ≡ false)
unfolding legal_moves
stalemated = (refl, refl, refl)
