-- Kings by the bitboard of their squares, and by the square kept for each colour.
use Rattle.chess_core.proofs.Basics.{AtMostOneKing, Black, Bool, Colour, HasNoKing, King, List, Man, None, Option, Some, White, [], and_left, and_right, ap, arith, bit_at, bit_at-trailing_zeros, bit_at-zero, cases_eq, colour_number, colours, false, false_from_ne_true, find, get_or, is_man, king_square, king_squares, length, man_on, map, refl, same_colour, same_kind, set, squares, squares_of, sym, trailing_zeros, true, w64, with_man, without_man, ℕ, ◌<◌, ◌∙◌, ◌∷◌, ◌≡◌}
use Rattle.chess_core.proofs.Kept.{same_colour-refl}
use Rattle.chess_core.proofs.Men.{man_on-with_other, man_on-with_same, man_on-without_other, man_on-without_same}
use Rattle.chess_core.proofs.Words.{bit_false, bit_true, square_bit, square_word_small}
use Rattle.chess_core.proofs.Ranges.{find_square_some, find_square_none}

-- no bit, no king
pub king_square-none : (men : List (Option Man)) (c : Colour) → squares_of men c King ≡ 0 → king_square men c ≡ None
unfolding king_square squares_of
king_square-none men c e =
    let test : ℕ → Bool = λ s. is_man (man_on men s) c King in
    find_square_none test 64 (omega arith) (record { fails = λ s p. bit_false _ (sym (square_bit test s p) ∙ ap (λ n. bit_at n s) e ∙ bit_at-zero s) })

-- the lowest bit is the first king
pub king_square-some : (men : List (Option Man)) (c : Colour) → 0 < squares_of men c King
    → king_square men c ≡ Some (trailing_zeros w64 (squares_of men c King))
unfolding king_square squares_of
king_square-some men c h =
    let test : ℕ → Bool = λ s. is_man (man_on men s) c King in
    let z = bit_at-trailing_zeros w64 _ h (square_word_small test) in
    find_square_some test _ z.0 (bit_true _ (sym (square_bit test _ z.0) ∙ z.1))
    (record { fails = λ s p. bit_false _ (sym (square_bit test s (omega (arith, p, z.0))) ∙ z.2 s p) })

-- ---- the squares that are kept

-- the search finds the only king of a colour
king_square-at : (men : List (Option Man)) (c : Colour) (s : ℕ) → s < 64 → AtMostOneKing men → is_man (man_on men s) c King ≡ true
    → king_square men c ≡ Some s
unfolding king_square
king_square-at men c s p one h =
    find_square_some (λ t. is_man (man_on men t) c King) s p h
    (record { fails = λ t q. false_from_ne_true _ (λ e. omega (arith, one.same c t s e h, q)) })

-- where there is no king the search finds none
king_square-gone : (men : List (Option Man)) (c : Colour) → HasNoKing men c → king_square men c ≡ None
unfolding king_square
king_square-gone men c none = find_square_none (λ t. is_man (man_on men t) c King) 64 (omega arith) (record { fails = λ t q. none t })

-- boards with kings on equal squares have equal results of the search
king_square-same : (men others : List (Option Man)) (c : Colour) → ((t : ℕ) → is_man (man_on men t) c King ≡ is_man (man_on others t) c King)
    → king_square men c ≡ king_square others c
unfolding king_square
king_square-same men others c h = λ i. find (λ t. h t i) squares

-- after a king is taken off, its colour has none
none_after : (men : List (Option Man)) (s : ℕ) (x : Man) → AtMostOneKing men → man_on men s ≡ Some x → same_kind x.kind King ≡ true
    → HasNoKing (without_man men s) x.colour
none_after men s x one held king t =
    grind (arith, cases_eq t s, man_on-without_same, man_on-without_other, same_colour-refl, one.same x.colour t s)

-- taking off another man leaves this king on its square
as_without : (men : List (Option Man)) (s : ℕ) (x : Man) (c : Colour) (t : ℕ) → man_on men s ≡ Some x → is_man (Some x) c King ≡ false
    → is_man (man_on men t) c King ≡ is_man (man_on (without_man men s) t) c King
as_without men s x c t held other = grind (arith, cases_eq t s, man_on-without_same, man_on-without_other)

-- putting down another man leaves this king on its square
as_with : (men : List (Option Man)) (s : ℕ) (x : Man) (c : Colour) (t : ℕ) → man_on men s ≡ None → s < length men → is_man (Some x) c King ≡ false
    → is_man (man_on men t) c King ≡ is_man (man_on (with_man men s x) t) c King
as_with men s x c t empty p other = grind (arith, cases_eq t s, man_on-with_same, man_on-with_other)

-- one colour's square changes
kings_change : (men others : List (Option Man)) (c : Colour) (o : Option ℕ) → o ≡ king_square others c
    → ((d : Colour) → same_colour c d ≡ false → king_square men d ≡ king_square others d)
    → set (king_squares men) (colour_number c) o ≡ king_squares others
unfolding king_squares
kings_change men others White o here there = λ i. here i ∷ there Black refl i ∷ []
kings_change men others Black o here there = λ i. there White refl i ∷ here i ∷ []

-- no colour's square changes
kings_stay : (men others : List (Option Man)) → ((d : Colour) → king_square men d ≡ king_square others d) → king_squares men ≡ king_squares others
unfolding king_squares
kings_stay men others h = λ i. map (λ d. h d i) colours

-- a king is taken off
pub king_lifted : (men left : List (Option Man)) (kings : List (Option ℕ)) (n s : ℕ) (x : Man) → kings ≡ king_squares men → left ≡ without_man men s
    → n ≡ colour_number x.colour → AtMostOneKing men → man_on men s ≡ Some x → same_kind x.kind King ≡ true → set kings n None ≡ king_squares left
king_lifted men left kings n s x are is at one held king = rw (are, is, at)
    (kings_change men (without_man men s) x.colour None (sym (king_square-gone (without_man men s) x.colour (none_after men s x one held king)))
    (λ d apart. king_square-same men (without_man men s) d (λ t. as_without men s x d t held (and_left (same_colour x.colour d) _ apart))))

-- another man is taken off
pub other_lifted : (men left : List (Option Man)) (kings : List (Option ℕ)) (s : ℕ) (x : Man) → kings ≡ king_squares men → left ≡ without_man men s
    → man_on men s ≡ Some x → same_kind x.kind King ≡ false → kings ≡ king_squares left
other_lifted men left kings s x are is held none = rw (are, is)
    (kings_stay men (without_man men s) (λ d. king_square-same men (without_man men s) d
    (λ t. as_without men s x d t held (and_right (same_colour x.colour d) _ none))))

-- a king is put on an empty square
pub king_placed : (men new : List (Option Man)) (kings : List (Option ℕ)) (n s : ℕ) (x : Man) → kings ≡ king_squares men → new ≡ with_man men s x
    → n ≡ colour_number x.colour → length men ≡ 64 → s < 64 → man_on men s ≡ None → AtMostOneKing (with_man men s x) → same_kind x.kind King ≡ true
    → set kings n (Some s) ≡ king_squares new
king_placed men new kings n s x are is at size p empty one king =
    let inside : s < length men = omega (arith, size, p) in
    let stands : is_man (man_on (with_man men s x) s) x.colour King ≡ true =
    grind (arith, man_on-with_same men s x inside, same_colour-refl x.colour, king) in
    rw (are, is, at) (kings_change men (with_man men s x) x.colour (Some s) (sym (king_square-at (with_man men s x) x.colour s p one stands))
    (λ d apart. king_square-same men (with_man men s x) d (λ t. as_with men s x d t empty inside (and_left (same_colour x.colour d) _ apart))))

-- another man is put on an empty square
pub other_placed : (men new : List (Option Man)) (kings : List (Option ℕ)) (s : ℕ) (x : Man) → kings ≡ king_squares men → new ≡ with_man men s x
    → length men ≡ 64 → s < 64 → man_on men s ≡ None → same_kind x.kind King ≡ false → kings ≡ king_squares new
other_placed men new kings s x are is size p empty none = rw (are, is)
    (kings_stay men (with_man men s x) (λ d. king_square-same men (with_man men s x) d
    (λ t. as_with men s x d t empty (omega (arith, size, p)) (and_right (same_colour x.colour d) _ none))))

-- the square kept for a colour is its king's
pub king_kept : (men : List (Option Man)) (kings : List (Option ℕ)) (c : Colour) (n : ℕ) (o : Option ℕ) → n ≡ colour_number c → kings ≡ king_squares men
    → get_or kings n o ≡ king_square men c
unfolding king_squares
king_kept men kings White n o at e = λ i. get_or (e i) (at i) o
king_kept men kings Black n o at e = λ i. get_or (e i) (at i) o
