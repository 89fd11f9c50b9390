-- What the clauses on attacks and lines exclude: small positions where a wrong body would differ from
-- the definitions.
use Rattle.chess_attacks.proofs.Chess.{Black, Knight, List, Man, Option, Pawn, Queen, Rook, Some, White, [], along, bit_at, attacks_like, is_attacked_by_like, false, find, hopped_from, hops, is_attacked, is_clear, is_man, is_met, is_of_colour, is_reached, leaps, madrasi, man_on, orthodox, range_with_len, reaches, reaches_as, refl, rides, rides_on, some_square, squares, step_by, straight_steps, true, word, word_of, ◌&&◌, ◌==◌, ◌^◌, ◌∷◌, ◌≡◌}
use Rattle.chess_attacks.proofs.Typed.{man, on, set_up, a1, b1, d1, h1, a2, b3, d3, a4, d5, e4, a5, a6, b6, a8}
unfoldable pub use Rattle.chess_attacks.proofs.Typed.{check}

-- White rooks a1 and a8 see each other, and neither is faced by its like: only enemies paralyse
abbrev own_rooks : List (Option Man)
own_rooks = set_up (on White Rook a1 ∷ on White Rook a8 ∷ [])

-- the rook on a8 reaches the one on a1, which no enemy of its kind faces
pub own_men_do_not_paralyse : (is_attacked_by_like own_rooks (man White Rook) a1 ≡ false)
    × (some_square (λ q. is_man (man_on own_rooks q) White Rook && reaches own_rooks q a1) ≡ true)
unfolding reaches reaches_as rides hops leaps is_clear along squares some_square is_attacked_by_like attacks_like
own_men_do_not_paralyse = (refl, refl)

-- a queen on a8 attacks a1 along the file, as a rook would
pub queen_attacks_along_a_file : is_met (set_up (on White Queen a8 ∷ [])) White Rook straight_steps a1 a8 ≡ true
unfolding is_met rides is_clear along
queen_attacks_along_a_file = refl

-- a rook on a1 gets to a8 though men stand beside its file, and not past one in it
pub rook_passes_men_beside_its_line : (rides (set_up (on White Rook a1 ∷ on Black Pawn b3 ∷ [])) a1 a8 (step_by 0 0 1 0) ≡ true)
    × (rides (set_up (on White Rook a1 ∷ on Black Pawn a5 ∷ [])) a1 a8 (step_by 0 0 1 0) ≡ false)
unfolding rides is_clear along
rook_passes_men_beside_its_line = (refl, refl)

-- a grasshopper on a4 hops over a5 to a6, and not to b6
pub grasshopper_lands_after_its_hurdle : (hops (set_up (on Black Pawn a5 ∷ [])) a4 a6 (step_by 0 0 1 0) ≡ true)
    × (hops (set_up (on Black Pawn a5 ∷ [])) a4 b6 (step_by 0 0 1 0) ≡ false)
unfolding hops is_clear along
grasshopper_lands_after_its_hurdle = (refl, refl)

-- a man that arrives on a4 blocks the file: before, a rook on a8 reached a1
pub arriving_man_shuts : (reaches (set_up (on Black Rook a8 ∷ [])) a8 a1 ≡ true) × (reaches (set_up (on Black Rook a8 ∷ on White Pawn a4 ∷ [])) a8 a1 ≡ false)
unfolding reaches reaches_as rides is_clear along
arriving_man_shuts = (refl, refl)

-- the first square from b1 on, of the word of a1 and b1, is b1
pub earlier_squares_are_skipped : find (λ s. bit_at 3 s == 1) (range_with_len 1 63) ≡ Some b1
earlier_squares_are_skipped = refl

-- a White pawn on e4 strikes d5, and not d3
pub pawn_strikes_forward : (reaches_as [] White Pawn e4 d5 ≡ true) × (reaches_as [] White Pawn e4 d3 ≡ false)
unfolding reaches_as leaps along
pawn_strikes_forward = (refl, refl)

-- a knight on a8 doesn't attack a1 along the file, where a rider gets from a1
pub knight_attacks_along_no_file : is_met (set_up (on White Knight a8 ∷ [])) White Rook straight_steps a1 a8 ≡ false
unfolding is_met rides is_clear along
knight_attacks_along_no_file = refl

-- a rider on a1 gets to a2
pub rider_gets_to_the_next_square : rides (set_up []) a1 a2 (step_by 0 0 1 0) ≡ true
unfolding rides is_clear along
rider_gets_to_the_next_square = refl

-- from a6, the grasshopper that hops over a5 is on a4, and not on a5
pub grasshopper_stands_after_its_hurdle : (hopped_from (set_up (on Black Pawn a5 ∷ [])) a6 a4 (step_by 0 0 0 1) ≡ true)
    × (hopped_from (set_up (on Black Pawn a5 ∷ [])) a6 a5 (step_by 0 0 0 1) ≡ false)
unfolding hopped_from rides_on along
grasshopper_stands_after_its_hurdle = (refl, refl)

-- a rook on a8 alone attacks a1, which is no flight then
pub attacked_square_is_no_flight : (word (λ s. is_of_colour (man_on (set_up (on Black Rook a8 ∷ [])) s) Black && reaches (set_up (on Black Rook a8 ∷ [])) s a1)
    ≡ 2 ^ 56) × (is_reached (set_up (on Black Rook a8 ∷ [])) a1 Black ≡ true)
unfolding word word_of squares some_square is_reached reaches reaches_as rides hops leaps is_clear along
attacked_square_is_no_flight = (refl, refl)

-- rooks on a1 and h1 paralyse each other: in Madrasi neither attacks d1, though it reaches it
pub paralysed_man_attacks_nothing : (is_attacked orthodox (set_up (on White Rook a1 ∷ on Black Rook h1 ∷ [])) d1 Black ≡ true)
    × (is_attacked madrasi (set_up (on White Rook a1 ∷ on Black Rook h1 ∷ [])) d1 Black ≡ false)
    × (is_reached (set_up (on White Rook a1 ∷ on Black Rook h1 ∷ [])) d1 Black ≡ true)
unfolding is_reached check
paralysed_man_attacks_nothing = (refl, refl, refl)
