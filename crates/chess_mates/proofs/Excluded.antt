-- What the clauses on check squares and targets exclude: small positions where a wrong body would differ
-- from the definitions.
use Rattle.chess_mates.proofs.Chess.{AreCheckTargets, Black, Grasshopper, King, Knight, List, Man, Option, Pawn, Position, Queen, Rook, White, [], arith, bit_at, circe, enemy, false, false≢true, in_check, is_ahead, is_legal, is_on_fairy_line, is_reached, is_blocking, may_check_from, may_expose, orthodox, position_after, refl, sym, true, true_from_ne_false, ℕ, ◌==◌, ◌∙◌, ◌∷◌, ◌≡◌}
use Rattle.chess_rules.specs.ties.Blockers.{is_rider_beyond}
use Rattle.chess_attacks.proofs.Typed.{go, on, position, set_up}
use Rattle.chess_core.specs.SquareNames.{a1, d1, h1, a2, a3, d3, d6, e5, h7, a8, h8}
use Rattle.chess_rules.proofs.Typed.{check_after_a_move}
use Rattle.chess_rules.proofs.Excluded.{opening_capture}

-- White Ka1 Bb3 Pe5, Black Kg8 Pd5, which has just passed d6 (`opening_capture`): the capture en passant gives
-- check by the bishop
en_passant_checks : (is_legal orthodox opening_capture (go e5 d6) ≡ true)
    × (in_check orthodox (position_after orthodox opening_capture (go e5 d6)).men Black ≡ true)
unfolding is_legal check_after_a_move
en_passant_checks = (refl, refl)

-- the squares to which the pawn must go to give check hold d6, from which a pawn gives none
pub crossed_square_may_give_check : (w : ℕ) → AreCheckTargets orthodox opening_capture e5 w → (bit_at w d6 == 1) ≡ true
crossed_square_may_give_check w are = true_from_ne_false _ (λ e. false≢true
    (sym (are.elsewhere (go e5 d6) refl (omega arith) en_passant_checks.0 e) ∙ en_passant_checks.1))

-- no pawn gives check from d6, and no man that leaves e5 opens a line
pub no_pawn_checks_from_there : (may_check_from opening_capture.men Black (enemy Black Pawn) d6 ≡ false)
    × (may_expose opening_capture.men Black e5 ≡ false)
unfolding may_check_from may_expose is_reached is_on_fairy_line is_ahead is_blocking is_rider_beyond check_after_a_move
no_pawn_checks_from_there = (refl, refl)

-- Circe, White Ka1 Ga8 Rd1, Black Kh8 Sd3: the rook captures the knight, which is reborn on g8, and the
-- grasshopper hops over it to the king
abbrev reborn_hurdle : Position
reborn_hurdle = position (on White King a1 ∷ on White Grasshopper a8 ∷ on White Rook d1 ∷ on Black King h8 ∷ on Black Knight d3 ∷ []) White

reborn_knight_checks : (is_legal circe reborn_hurdle (go d1 d3) ≡ true)
    × (in_check circe (position_after circe reborn_hurdle (go d1 d3)).men Black ≡ true)
    × (in_check orthodox (position_after orthodox reborn_hurdle (go d1 d3)).men Black ≡ false)
unfolding is_legal check_after_a_move
reborn_knight_checks = (refl, refl, refl)

-- the squares to which the rook must go to give check hold d3, from which it gives none
pub captures_with_rebirth_may_give_check : (w : ℕ) → AreCheckTargets circe reborn_hurdle d1 w → (bit_at w d3 == 1) ≡ true
captures_with_rebirth_may_give_check w are = true_from_ne_false _ (λ e. false≢true
    (sym (are.elsewhere (go d1 d3) refl (omega arith) reborn_knight_checks.0 e) ∙ reborn_knight_checks.1))

-- Black Ka1 Pa2, a White grasshopper on h7: on a3 it gives check over the pawn, where a queen gives none, and
-- on h1 a queen alone does
abbrev hop_to_a_king : List (Option Man)
hop_to_a_king = set_up (on Black King a1 ∷ on Black Pawn a2 ∷ on White Grasshopper h7 ∷ [])

-- a grasshopper checks over a hurdle, and not without
pub grasshopper_checks_over_a_hurdle : (may_check_from hop_to_a_king Black (enemy Black Grasshopper) a3 ≡ true)
    × (may_check_from hop_to_a_king Black (enemy Black Queen) a3 ≡ false)
    × (may_check_from hop_to_a_king Black (enemy Black Grasshopper) h1 ≡ false)
    × (may_check_from hop_to_a_king Black (enemy Black Queen) h1 ≡ true)
unfolding may_check_from check_after_a_move
grasshopper_checks_over_a_hurdle = (refl, refl, refl, refl)
