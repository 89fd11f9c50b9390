-- Moves of all kinds, computed from the definitions.
use Rattle.chess_rules.proofs.Chess.{Bishop, Black, Grasshopper, King, Nightrider, None, Pawn, Position, Rook, Some, White, [], circe, false, is_legal, is_mate, kinds, madrasi, man_on, map, none_unmoved, orthodox, position_after, refl, same_kind, true, with_unmoved, ◌∷◌, ◌≡◌}
use Rattle.chess_rules.proofs.Typed.{legal_moves, go, man, on, position, promoting, a1, d1, e1, f1, g1, h1, f2, h2, b3, f3, h3, d5, e5, d6, g6, d7, e7, a8, b8, c8, e8, g8, h8}

-- White Ke1 Rh1 Re8 Rg8, Black Kf3: castling mates
abbrev castling : Position
castling = record (position (on White King e1 ∷ on White Rook h1 ∷ on White Rook e8 ∷ on White Rook g8 ∷ on Black King f3 ∷ []) White) {
  unmoved = with_unmoved
      (with_unmoved none_unmoved e1) h1;
}

-- the king castles, and this is mate
castling_mates : (is_legal orthodox castling (go e1 g1) ≡ true) × (is_mate orthodox (position_after orthodox castling (go e1 g1)) ≡ true)
unfolding legal_moves
castling_mates = (refl, refl)

-- once the rook has moved it may not
castling_wants_the_rook_unmoved : is_legal orthodox (record castling { unmoved = with_unmoved none_unmoved e1 }) (go e1 g1) ≡ false
unfolding legal_moves
castling_wants_the_rook_unmoved = refl

-- the position for castling with a black grasshopper added on d1: after castling it hops over f1 to g1
abbrev guarded : Position
guarded = record (position (on White King e1 ∷ on White Rook h1 ∷ on White Rook e8 ∷ on White Rook g8 ∷ on Black King f3 ∷ on Black Grasshopper d1 ∷ [])
    White) { unmoved = with_unmoved (with_unmoved none_unmoved e1) h1 }

-- with the grasshopper on d1 castling isn't legal; Rh1-f1 isn't mate, since the grasshopper captures there,
-- and is mate without it
grasshopper_forbids_castling : (is_legal orthodox guarded (go e1 g1) ≡ false) × (is_mate orthodox (position_after orthodox guarded (go h1 f1)) ≡ false)
    × (is_mate orthodox (position_after orthodox castling (go h1 f1)) ≡ true)
unfolding legal_moves
grasshopper_forbids_castling = (refl, refl, refl)

-- White Kg6 Ba1 Bb3 Pe5, Black Kh8 Pd5, whose pawn has just passed d6
abbrev passing : Position
passing = record (position (on White King g6 ∷ on White Bishop a1 ∷ on White Bishop b3 ∷ on White Pawn e5 ∷ on Black King h8 ∷ on Black Pawn d5 ∷ [])
    White) { crossed = Some d6 }

-- the capture en passant is legal, takes the pawn off d5 and mates
en_passant_mates : (is_legal orthodox passing (go e5 d6) ≡ true) × (man_on (position_after orthodox passing (go e5 d6)).men d5 ≡ None)
    × (is_mate orthodox (position_after orthodox passing (go e5 d6)) ≡ true)
unfolding legal_moves
en_passant_mates = (refl, refl, refl)

-- in Circe the pawn is reborn on d7
en_passant_in_circe : man_on (position_after circe passing (go e5 d6)).men d7 ≡ Some (man Black Pawn)
unfolding legal_moves
en_passant_in_circe = refl

-- without the en passant square the capture isn't legal
en_passant_wants_the_crossed_square : is_legal orthodox (record passing { crossed = None }) (go e5 d6) ≡ false
unfolding legal_moves
en_passant_wants_the_crossed_square = refl

-- White Ke1 Rb3, Black Ke8 Rb8, Black to move in Circe
abbrev rook_takes_rook : Position
rook_takes_rook = record (position (on White King e1 ∷ on White Rook b3 ∷ on Black King e8 ∷ on Black Rook b8 ∷ []) Black) {
  unmoved = with_unmoved
      (with_unmoved none_unmoved e1) e8;
}

-- the white rook is reborn on h1, which counts as unmoved then
rook_is_reborn : (man_on (position_after circe rook_takes_rook (go b8 b3)).men h1 ≡ Some (man White Rook))
    × ((position_after circe rook_takes_rook (go b8 b3)).unmoved ≡ with_unmoved (with_unmoved (with_unmoved none_unmoved e1) h1) e8)
unfolding legal_moves
rook_is_reborn = (refl, refl)

-- White Kg6 Ra1, Black Kg8 Ba8, in Circe: on a8, a light square, its home is c8
abbrev bishop_at_home : Position
bishop_at_home = position (on White King g6 ∷ on White Rook a1 ∷ on Black King g8 ∷ on Black Bishop a8 ∷ []) White

-- the captured bishop is reborn there, and this is no mate
bishop_is_reborn : (man_on (position_after circe bishop_at_home (go a1 a8)).men c8 ≡ Some (man Black Bishop))
    × (is_mate circe (position_after circe bishop_at_home (go a1 a8)) ≡ false)
unfolding legal_moves
bishop_is_reborn = (refl, refl)

-- White Kg6 Ra1, Black Kg8 Ra8, in Circe: a8 is the rook's home square, so it is captured and disappears
abbrev rook_at_home : Position
rook_at_home = position (on White King g6 ∷ on White Rook a1 ∷ on Black King g8 ∷ on Black Rook a8 ∷ []) White

-- the capture Ra1xa8 is mate
rook_vanishes : is_mate circe (position_after circe rook_at_home (go a1 a8)) ≡ true
unfolding legal_moves
rook_vanishes = refl

-- White Kf2 Pe7, Black Kh2 Bh1 Ph3 Na8: a nightrider stands in the diagram
abbrev promotion : Position
promotion = record (position (on White King f2 ∷ on White Pawn e7 ∷ on Black King h2 ∷ on Black Bishop h1 ∷ on Black Pawn h3 ∷ on Black Nightrider a8 ∷ [])
    White) { in_diagram = map (λ k. same_kind k Nightrider) kinds }

-- promotion to a nightrider is legal and mates
nightrider_mates : (is_legal orthodox promotion (promoting e7 e8 Nightrider) ≡ true)
    × (is_mate orthodox (position_after orthodox promotion (promoting e7 e8 Nightrider)) ≡ true)
unfolding legal_moves
nightrider_mates = (refl, refl)

-- without a nightrider in the diagram promotion to one isn't legal; promotion to a king never is
no_nightrider_without_one : (is_legal orthodox (record promotion { in_diagram = [] }) (promoting e7 e8 Nightrider) ≡ false)
    × (is_legal orthodox promotion (promoting e7 e8 King) ≡ false)
unfolding legal_moves
no_nightrider_without_one = (refl, refl)

-- White Kg6 Ra1, Black Kg8 Rh1 in Madrasi: the rooks paralyse each other
abbrev like_rooks : Position
like_rooks = position (on White King g6 ∷ on White Rook a1 ∷ on Black King g8 ∷ on Black Rook h1 ∷ []) White

-- the rook may go to a8 in orthodox chess and mates there, and may not in Madrasi
paralysed_rook_stays : (is_legal orthodox like_rooks (go a1 a8) ≡ true) × (is_mate orthodox (position_after orthodox like_rooks (go a1 a8)) ≡ true)
    × (is_legal madrasi like_rooks (go a1 a8) ≡ false)
unfolding legal_moves
paralysed_rook_stays = (refl, refl, refl)
