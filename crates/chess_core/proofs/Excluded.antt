-- What the clauses on men, diagrams and boards exclude: small boards where a wrong body would differ
-- from the definitions.
use Rattle.chess_core.proofs.Basics.{Black, King, List, Man, None, Option, Pawn, Some, White, [], false, has_kind, has_men, has_unmoved, is_home, is_other_king, is_second_king, is_stray_pawn, is_taken, is_man_on, king_square, man_on, mark_unmoved, none_unmoved, refl, repeat, is_kind_on, side_of, some_square, squares, squares_of, has_man, true, with_man, with_unmoved, without_man, without_unmoved, word, word_of, ◌∷◌, ◌≡◌}
use Rattle.chess_core.specs.SquareNames.{a1, b1, e1, a2, e8, h8}

abbrev white_king : Man
white_king = record { colour = White; kind = King }

abbrev black_king : Man
black_king = record { colour = Black; kind = King }

abbrev white_pawn : Man
white_pawn = record { colour = White; kind = Pawn }

abbrev empty : List (Option Man)
empty = repeat 64 (None ∷ [])

-- White kings on a1 and h8
abbrev two_kings : List (Option Man)
two_kings = with_man (with_man empty h8 white_king) a1 white_king

-- a square that is put into the set is in it
pub square_is_in : has_unmoved (with_unmoved none_unmoved a1) a1 ≡ true
unfolding has_unmoved mark_unmoved none_unmoved
square_is_in = refl

-- h8, the last square, can be put into the set
pub h8_is_in : has_unmoved (with_unmoved none_unmoved h8) h8 ≡ true
unfolding has_unmoved mark_unmoved none_unmoved
h8_is_in = refl

-- a square that is taken out isn't in it
pub square_is_out : has_unmoved (without_unmoved (with_unmoved none_unmoved a1) a1) a1 ≡ false
unfolding has_unmoved mark_unmoved none_unmoved
square_is_out = refl

-- the empty set has no e8
pub none_has_no_e8 : has_unmoved none_unmoved e8 ≡ false
unfolding has_unmoved none_unmoved
none_has_no_e8 = refl

-- a diagram of one black man has a man, and none of White
pub black_man_alone : (has_men (with_man empty a1 black_king) ≡ true) × (side_of (with_man empty a1 black_king) White ≡ 0)
unfolding is_taken side_of some_square squares word word_of
black_man_alone = (refl, refl)

-- a white king stands there, and no black one
pub king_of_white_stands : (has_man two_kings White King ≡ true) × (has_man two_kings Black King ≡ false)
unfolding is_man_on some_square squares has_man
king_of_white_stands = (refl, refl)

-- a king is at home on e1 and not on a1
pub king_at_home : (is_home (Some white_king) e1 ≡ true) × (is_home (Some white_king) a1 ≡ false)
unfolding is_home
king_at_home = (refl, refl)

-- a man that is put on a square is there, with its colour and kind
pub man_stands : man_on (with_man empty a1 white_king) a1 ≡ Some white_king
man_stands = refl

-- a man that is taken off is there no more
pub man_is_gone : man_on (without_man (with_man empty a1 white_king) a1) a1 ≡ None
man_is_gone = refl

-- a man's square is in the word of its colour, at its own bit
pub colour_has_square : side_of (with_man empty a1 white_king) White ≡ 1
unfolding side_of word word_of squares
colour_has_square = refl

-- the square of a placed man is in the word of its kind
pub kind_has_square : squares_of (with_man empty b1 white_king) White King ≡ 2
unfolding squares_of word word_of squares
kind_has_square = refl

-- a pawn on a2 is seen, and no king
pub pawn_is_seen : (has_kind (with_man empty a2 white_pawn) Pawn ≡ true) × (has_kind (with_man empty a2 white_pawn) King ≡ false)
unfolding has_kind is_kind_on some_square squares
pawn_is_seen = (refl, refl)

-- a pawn on a1 is out of place, and not on a2
pub pawn_is_astray : (some_square (is_stray_pawn (with_man empty a1 white_pawn)) ≡ true)
    × (some_square (is_stray_pawn (with_man empty a2 white_pawn)) ≡ false)
unfolding is_stray_pawn some_square squares
pawn_is_astray = (refl, refl)

-- where a board has two kings of a colour, the lower square is found
pub first_king_is_found : king_square two_kings White ≡ Some a1
unfolding king_square squares
first_king_is_found = refl

-- the second of two kings is seen; a lone king has none beside it
pub second_king_is_seen : (some_square (is_second_king two_kings White) ≡ true)
    × (some_square (is_second_king (with_man empty a1 white_king) White) ≡ false)
unfolding is_second_king is_other_king some_square squares
second_king_is_seen = (refl, refl)
