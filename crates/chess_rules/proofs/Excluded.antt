-- What the clauses on attacks, lines and targets exclude: small positions where a wrong body would differ
-- from the definitions.
use Rattle.chess_rules.proofs.Chess.{AreEvasions, AreEvasionsFrom, Bishop, Black, Bool, Colour, Grasshopper, HasNoMoveFrom, Kind, King, Knight, List, Man, Nightrider, Option, Pawn, Position, Queen, Rook, RuleSet, Some, White, [], agree_below_at, along, and_from, ap, arith, bit_at, can_castle, can_go, cannot_expose, cases_lt, drop, is_attacked_by_like, false, false≢true, filter, has_fairy, has_fairy_lines_of, hops, in_check, is_ahead, is_arrival_free, is_rider_beyond, is_checker, is_clear, is_evasion, is_legal, is_of_colour, is_on_fairy_line, is_on_some, is_paralysed, is_plain, is_pseudo_legal, is_reached, is_blocking, king_square, leaps, madrasi, man_on, may_be_paralysed, may_expose, may_arrive, may_promote, may_be_hurdle, moves_between, none_unmoved, not, orthodox, pawn_steps_to, per_arrival, per_origin, position_after, promotion_at, reaches, reaches_as, refl, rides, rules, occupancy_after, some_square, squares, steps_to, straight_steps, sym, take, triple_at, triples, true, true_from_ne_false, true≢false, with_unmoved, without_man, word, word_of, ℕ, ◌%◌, ◌&&◌, ◌*◌, ◌+◌, ◌-◌, ◌/◌, ◌<◌, ◌==◌, ◌∙◌, ◌∷◌, ◌≡◌, ◌≤◌, met_between}
use Rattle.chess_attacks.proofs.rays.OnSquares.{on_board}
use Rattle.chess_rules.proofs.StayingInCheck.{side_there}
use Rattle.chess_rules.proofs.Typed.{go, man, on, position, promoting, set_up, a1, b1, c1, d1, e1, g1, h1, a2, b2, h2, a3, b3, c3, d3, h3, a4, d5, e4, a5, b6, d6, e5, e7, a8, b8, e8, f8, g8, h8}
unfoldable pub use Rattle.chess_rules.proofs.Typed.{check_after_a_move}

-- White Ka1 Bb3 Pe5, Black Kg8 Pd5, which has just passed d6: the capture en passant opens the bishop's line
abbrev pub opening_capture : Position
opening_capture =
    record (position (on White King a1 ∷ on White Bishop b3 ∷ on White Pawn e5 ∷ on Black King g8 ∷ on Black Pawn d5 ∷ []) White) { crossed = Some d6 }

-- White Ke4 Pe5, Black Kh8 Pd5, which gives check and has just passed d6: the capture en passant meets the check
abbrev passing_check : Position
passing_check = record (position (on White King e4 ∷ on White Pawn e5 ∷ on Black King h8 ∷ on Black Pawn d5 ∷ []) White) { crossed = Some d6 }

en_passant_meets : (in_check orthodox passing_check.men White ≡ true) × (is_pseudo_legal orthodox passing_check (go e5 d6) ≡ true)
    × (in_check orthodox (position_after orthodox passing_check (go e5 d6)).men White ≡ false)
unfolding check_after_a_move
en_passant_meets = (refl, refl, refl)

-- the squares to which the pawn must go to leave no check hold d6, though a man on d6 meets the check in no
-- other way
pub crossed_square_may_meet_a_check : (w : ℕ) → AreEvasionsFrom orthodox passing_check e5 w → (bit_at w d6 == 1) ≡ true
crossed_square_may_meet_a_check w are = search (rules, true_from_ne_false, true≢false, en_passant_meets, are)

-- d6 is neither the checking pawn's square nor one between it and the king
pub no_evasion_there : is_evasion passing_check.men White e4 d5 d6 ≡ false
unfolding reaches_as rides is_clear along
no_evasion_there = refl

-- White Ka1, Black Kh8 Ra8: the king goes out of the check to b1, where no other man would meet it
abbrev rook_check : Position
rook_check = position (on White King a1 ∷ on Black King h8 ∷ on Black Rook a8 ∷ []) White

king_goes : (in_check orthodox rook_check.men White ≡ true) × (is_pseudo_legal orthodox rook_check (go a1 b1) ≡ true)
    × (in_check orthodox (position_after orthodox rook_check (go a1 b1)).men White ≡ false)
unfolding check_after_a_move
king_goes = (refl, refl, refl)

-- the squares to which the king must go to leave no check hold b1
pub king_may_leave_a_check : (w : ℕ) → AreEvasionsFrom orthodox rook_check a1 w → (bit_at w b1 == 1) ≡ true
king_may_leave_a_check w are = true_from_ne_false _ (λ e. true≢false (sym (are.elsewhere (go a1 b1) refl (omega arith) king_goes.1 e) ∙ king_goes.2))

-- b1 is neither the rook's square nor one between it and the king
pub no_other_man_meets_it_there : is_evasion rook_check.men White a1 a8 b1 ≡ false
unfolding reaches_as rides is_clear along
no_other_man_meets_it_there = refl

-- no pawn promotes to a grasshopper where the diagram has none, though it may promote to a queen
pub promotion_needs_its_man : (may_promote (position [] White) Grasshopper ≡ false) × (may_promote (position [] White) Queen ≡ true)
promotion_needs_its_man = (refl, refl)

-- the last per_origin triples are the triples of a man on h8
pub last_triples_are_from_h8 : (triple_at (per_origin * h8)).from ≡ h8
unfolding triple_at
last_triples_are_from_h8 = refl

-- with rooks on a1 and b1 the second moves too
pub next_origin_moves : is_pseudo_legal orthodox (position (on White Rook a1 ∷ on White Rook b1 ∷ []) White) (go b1 b3) ≡ true
unfolding check_after_a_move
next_origin_moves = refl

-- a man's own men and the enemy king aren't captured, other enemies are
pub enemies_alone_are_captured : (is_arrival_free White (Some (man Black Rook)) ≡ true) × (is_arrival_free White (Some (man White Rook)) ≡ false)
    × (is_arrival_free White (Some (man Black King)) ≡ false)
enemies_alone_are_captured = (refl, refl, refl)

-- a king castles on both sides
pub king_castles_on_both_sides : (steps_to (man White King) e1 g1 ≡ true) × (steps_to (man White King) e1 c1 ≡ true)
unfolding steps_to along
king_castles_on_both_sides = (refl, refl)

-- White Ke1 Rh1, both unmoved, Black Ke8 Rf8: the king would cross an attacked square
abbrev crossing_a_line : Position
crossing_a_line =
    record (position (on White King e1 ∷ on White Rook h1 ∷ on Black King e8 ∷ on Black Rook f8 ∷ []) White) {
      unmoved = with_unmoved
          (with_unmoved none_unmoved e1) h1;
    }

-- the king may not castle, and might without that rook
pub no_castling_through_an_attack : (may_arrive crossing_a_line (man White King) e1 g1 ≡ true)
    × (can_castle orthodox crossing_a_line (man White King) (go e1 g1) ≡ false) × (can_go orthodox crossing_a_line (man White King) (go e1 g1) ≡ false)
    × (can_castle orthodox (record crossing_a_line { men = without_man crossing_a_line.men f8 }) (man White King) (go e1 g1) ≡ true)
unfolding may_arrive steps_to check_after_a_move
no_castling_through_an_attack = (refl, refl, refl, refl)

-- a pawn goes two squares from its second rank alone, and to no square that is taken, nor over one
pub pawn_steps_over_empty_squares : (pawn_steps_to (position [] White) (man White Pawn) a2 a4 ≡ true)
    × (pawn_steps_to (position [] White) (man White Pawn) a3 a5 ≡ false)
    × (pawn_steps_to (position (on Black Rook a3 ∷ []) White) (man White Pawn) a2 a3 ≡ false)
    × (pawn_steps_to (position (on Black Rook a3 ∷ []) White) (man White Pawn) a2 a4 ≡ false)
unfolding along
pawn_steps_over_empty_squares = (refl, refl, refl, refl)

-- Black's grasshopper is a fairy man of Black's, not of White's; a rook isn't one
pub grasshopper_is_seen : (has_fairy (set_up (on Black Grasshopper a1 ∷ [])) Black ≡ true)
    × (has_fairy (set_up (on Black Grasshopper a1 ∷ [])) White ≡ false) × (has_fairy (set_up (on Black Rook a1 ∷ [])) Black ≡ false)
unfolding has_fairy squares some_square
grasshopper_is_seen = (refl, refl, refl)

-- White Ka1 Pa2, Black Kh8 Ga8, which gives check over a2: a move to b1 would meet no check of a rook there
abbrev grasshopper_check : List (Option Man)
grasshopper_check = set_up (on White King a1 ∷ on White Pawn a2 ∷ on Black King h8 ∷ on Black Grasshopper a8 ∷ [])

-- the king is in check, and a man on b1 would meet no check of a rook on a8
pub grasshopper_checks : (in_check orthodox grasshopper_check White ≡ true) × (is_evasion grasshopper_check White a1 a8 b1 ≡ false)
unfolding check_after_a_move
grasshopper_checks = (refl, refl)

-- a Black man other than a fairy man gives check: there is none
abbrev orthodox_checker : ℕ → Bool
orthodox_checker s =
    (is_of_colour (man_on grasshopper_check s) Black && reaches grasshopper_check s a1) && not (has_fairy_lines_of (man_on grasshopper_check s))

-- a grasshopper's check may be met on every square
pub any_square_may_meet_a_fairy_check : (w t : ℕ) → t < 64 → AreEvasions orthodox grasshopper_check White w → (bit_at w t == 1) ≡ true
unfolding check_after_a_move
any_square_may_meet_a_fairy_check w t small are = true_from_ne_false _ (λ e.
    let u = are.elsewhere t small e in
    let enemy = side_there (man_on grasshopper_check u.checker) Black u.enemy in
    let inside : u.checker < 64 = on_board grasshopper_check u.checker enemy.0 refl enemy.1.0 in
    let here : Some a1 ≡ Some u.king = u.here in
    let king : u.king ≡ a1 = cc in
    false≢true (sym (agree_below_at orthodox_checker (λ _. false) 64 u.checker refl inside)
    ∙ and_from _ _ (and_from _ _ u.enemy (rw king at u.check)) (ap not u.plain)))

-- an enemy on s gives check to the king on a1, and a man that goes to t doesn't meet it
abbrev unmet : ℕ → ℕ → Bool
unmet t s = (is_of_colour (man_on rook_check.men s) Black && reaches rook_check.men s a1) && not (is_evasion rook_check.men White a1 s t)

-- the rook's check is parried if no enemy of the kind above is there
met_there : (w t : ℕ) → t < 64 → ((s : ℕ) → s < 64 → unmet t s ≡ false) → AreEvasions orthodox rook_check.men White w → (bit_at w t == 1) ≡ true
unfolding king_square squares
met_there w t small none are = true_from_ne_false _ (λ e.
    let u = are.elsewhere t small e in
    let enemy = side_there (man_on rook_check.men u.checker) Black u.enemy in
    let on = on_board rook_check.men u.checker enemy.0 refl enemy.1.0 in
    grind (arith, none u.checker on, u.enemy, u.here, u.check, u.no_evasion))

-- White may capture the rook on a8, or interpose on a4
pub captures_and_shuts_meet_a_check : (w : ℕ) → AreEvasions orthodox rook_check.men White w → ((bit_at w a8 == 1) ≡ true) × ((bit_at w a4 == 1) ≡ true)
unfolding reaches reaches_as rides hops leaps is_clear along
captures_and_shuts_meet_a_check w are = (
  met_there w a8 (omega arith) (λ s lt. agree_below_at (unmet a8) (λ _. false) 64 s refl lt) are,
  met_there w a4 (omega arith) (λ s lt. agree_below_at (unmet a4) (λ _. false) 64 s refl lt) are,
)

-- White Ka1 and one man more
abbrev king_and : Colour → Kind → ℕ → List (Option Man)
king_and c k s = set_up (on White King a1 ∷ on c k s ∷ [])

-- the king on a1 is in check by a knight or nightrider on b3, by a bishop on b2 but no rook there, by an
-- enemy rook on a8 but not by its own
pub men_check_along_their_lines : (is_checker (king_and Black Knight b3) White b3 ≡ true) × (is_checker (king_and Black Nightrider b3) White b3 ≡ true)
    × (is_checker (king_and Black Bishop b2) White b2 ≡ true) × (is_checker (king_and Black Rook b2) White b2 ≡ false)
    × (is_checker (king_and Black Rook a8) White a8 ≡ true) × (is_checker (king_and White Rook a8) White a8 ≡ false)
unfolding is_checker check_after_a_move
men_check_along_their_lines = (refl, refl, refl, refl, refl, refl)

-- while the rook gives check, a move may leave the king exposed even from h2, which is on none of its
-- lines; a bishop on a8 gives no check
pub any_move_may_leave_a_check : (may_expose (king_and Black Rook a8) White h2 ≡ true) × (may_expose (king_and Black Bishop a8) White h2 ≡ false)
unfolding may_expose is_reached is_on_fairy_line is_ahead is_on_some is_blocking is_rider_beyond check_after_a_move
any_move_may_leave_a_check = (refl, refl)

-- after a capture en passant from e5 to d6 neither e5 nor d5 shuts a line, and d6 does; the captured pawn
-- attacks nothing, and a man on b3 may
pub captured_man_is_gone : (bit_at (occupancy_after opening_capture.men e5 (Some d5) d6).occupied e5 ≡ 0)
    × (bit_at (occupancy_after opening_capture.men e5 (Some d5) d6).occupied d5 ≡ 0)
    × (bit_at (occupancy_after opening_capture.men e5 (Some d5) d6).occupied d6 ≡ 1)
    × (bit_at (occupancy_after opening_capture.men e5 (Some d5) d6).standing d5 ≡ 0)
    × (bit_at (occupancy_after opening_capture.men e5 (Some d5) d6).standing b3 ≡ 1)
unfolding word word_of squares
captured_man_is_gone = (refl, refl, refl, refl, refl)

-- Madrasi, White Kh1 Rd1, Black Kb8 Rh3, which gives check: on d3 White's rook paralyses it, and only an
-- orthodox rook checks on
abbrev rook_faces_rook : Position
rook_faces_rook = position (on White King h1 ∷ on White Rook d1 ∷ on Black King b8 ∷ on Black Rook h3 ∷ []) White

-- Rd1-d3 ends the check in Madrasi, and not in orthodox chess
pub arriving_man_paralyses : (in_check madrasi rook_faces_rook.men White ≡ true) × (is_pseudo_legal madrasi rook_faces_rook (go d1 d3) ≡ true)
    × (in_check madrasi (position_after madrasi rook_faces_rook (go d1 d3)).men White ≡ false)
    × (in_check orthodox (position_after orthodox rook_faces_rook (go d1 d3)).men White ≡ true)
unfolding check_after_a_move
arriving_man_paralyses = (refl, refl, refl, refl)

-- a Black man that gives check, of a kind of which White has none: no square has one
abbrev moving_checker : ℕ → Bool
moving_checker s = (is_of_colour (man_on rook_faces_rook.men s) Black && reaches rook_faces_rook.men s h1)
    && not (may_be_paralysed madrasi rook_faces_rook.men White (man_on rook_faces_rook.men s))

moving_checker_there : (s : ℕ) → s < 64 → moving_checker s ≡ false
unfolding check_after_a_move
moving_checker_there s lt = agree_below_at moving_checker (λ _. false) 64 s refl lt

-- in Madrasi a White man that goes to d3 may meet the check
pub men_of_the_checkers_kind_may_meet_its_check : (w : ℕ) → AreEvasions madrasi rook_faces_rook.men White w → (bit_at w d3 == 1) ≡ true
unfolding king_square squares
men_of_the_checkers_kind_may_meet_its_check w are = true_from_ne_false _ (λ e.
    let u = are.elsewhere d3 (omega arith) e in
    let enemy = side_there (man_on rook_faces_rook.men u.checker) Black u.enemy in
    let inside = on_board rook_faces_rook.men u.checker enemy.0 refl enemy.1.0 in
    grind (arith, moving_checker_there u.checker inside, u.enemy, u.here, u.check, u.moving))

-- Madrasi, White Kh1 Pe7, Black Ka3 Rh8, which gives check: on e8 a rook paralyses it, and a queen doesn't
abbrev promotion_faces_rook : Position
promotion_faces_rook = position (on White King h1 ∷ on White Pawn e7 ∷ on Black King a3 ∷ on Black Rook h8 ∷ []) White

-- the pawn's promotion to a rook ends the check, the promotion to a queen doesn't
pub promoted_man_paralyses : (in_check madrasi promotion_faces_rook.men White ≡ true)
    × (is_pseudo_legal madrasi promotion_faces_rook (promoting e7 e8 Rook) ≡ true)
    × (in_check madrasi (position_after madrasi promotion_faces_rook (promoting e7 e8 Rook)).men White ≡ false)
    × (in_check madrasi (position_after madrasi promotion_faces_rook (promoting e7 e8 Queen)).men White ≡ true)
unfolding check_after_a_move
promoted_man_paralyses = (refl, refl, refl, refl)

-- the squares to which the pawn must go to leave no check hold e8
pub promotion_may_meet_a_check : (w : ℕ) → AreEvasionsFrom madrasi promotion_faces_rook e7 w → (bit_at w e8 == 1) ≡ true
promotion_may_meet_a_check w are = search (rules, true_from_ne_false, true≢false, promoted_man_paralyses, are)

-- Madrasi, White Ka1, Black Kc3: on b2 White's king faces its like, which still attacks it
abbrev king_faces_king : Position
king_faces_king = position (on White King a1 ∷ on Black King c3 ∷ []) White

-- a king that faces a king isn't paralysed: Black's gives check
pub kings_are_never_paralysed : (is_attacked_by_like (position_after madrasi king_faces_king (go a1 b2)).men (man Black King) c3 ≡ true)
    × (is_paralysed madrasi (position_after madrasi king_faces_king (go a1 b2)).men c3 ≡ false)
    × (in_check madrasi (position_after madrasi king_faces_king (go a1 b2)).men White ≡ true)
unfolding check_after_a_move
kings_are_never_paralysed = (refl, refl, refl)

-- White Kh1 Qd1, Black Kb8 Qh3, which gives check: a queen that faces a queen is paralysed, here after
-- Qd1-d3
abbrev queen_faces_queen : Position
queen_faces_queen = position (on White King h1 ∷ on White Queen d1 ∷ on Black King b8 ∷ on Black Queen h3 ∷ []) White

-- the move ends the check
pub queens_are_paralysed : (in_check madrasi queen_faces_queen.men White ≡ true)
    × (in_check madrasi (position_after madrasi queen_faces_queen (go d1 d3)).men White ≡ false)
unfolding check_after_a_move
queens_are_paralysed = (refl, refl)

-- what the examples of blockers compute with as well
lines_to_a_king : Unit {0}
unfolding may_expose cannot_expose may_be_hurdle is_on_fairy_line is_plain is_reached is_ahead is_on_some is_blocking is_rider_beyond
lines_to_a_king = tt

-- White Ka1 Rh2, Black Kh8 Ga8: on a2 the rook is the hurdle over which the grasshopper gives check, though
-- the rook was on no line to the king
abbrev hurdle_comes : Position
hurdle_comes = position (on White King a1 ∷ on White Rook h2 ∷ on Black King h8 ∷ on Black Grasshopper a8 ∷ []) White

-- the move to a2 exposes the king: the arrival is a line square, the origin isn't
pub arriving_man_is_a_hurdle : (may_expose hurdle_comes.men White h2 ≡ false) × (may_be_hurdle hurdle_comes.men White h2 ≡ false)
    × (may_be_hurdle hurdle_comes.men White a2 ≡ true) × (cannot_expose orthodox hurdle_comes White (go h2 a2) ≡ false)
    × (is_pseudo_legal orthodox hurdle_comes (go h2 a2) ≡ true) × (in_check orthodox hurdle_comes.men White ≡ false)
    × (in_check orthodox (position_after orthodox hurdle_comes (go h2 a2)).men White ≡ true)
unfolding lines_to_a_king check_after_a_move
arriving_man_is_a_hurdle = (refl, refl, refl, refl, refl, refl, refl)

-- White Ka1 Ra2 Na4, Black Kh8 Ga8: once the knight has gone, the rook is the hurdle, though the knight shut no
-- line of a rook
abbrev hurdle_goes : Position
hurdle_goes = position (on White King a1 ∷ on White Rook a2 ∷ on White Knight a4 ∷ on Black King h8 ∷ on Black Grasshopper a8 ∷ []) White

-- a move from a4 may expose the king, and Na4-b6 does
pub leaving_man_opens_a_hop : (is_blocking hurdle_goes.men Black Rook straight_steps a1 a4 ≡ false) × (may_be_hurdle hurdle_goes.men Black a4 ≡ false)
    × (may_expose hurdle_goes.men White a4 ≡ true) × (is_pseudo_legal orthodox hurdle_goes (go a4 b6) ≡ true)
    × (in_check orthodox hurdle_goes.men White ≡ false) × (in_check orthodox (position_after orthodox hurdle_goes (go a4 b6)).men White ≡ true)
unfolding lines_to_a_king check_after_a_move
leaving_man_opens_a_hop = (refl, refl, refl, refl, refl, refl)

-- White Kc1 Bd3, Black Kh8 and a nightrider on e5: the bishop shuts its line to the king, as no line of a
-- knight is shut
abbrev shut_nightrider : Kind → Position
shut_nightrider k = position (on White King c1 ∷ on White Bishop d3 ∷ on Black King h8 ∷ on Black k e5 ∷ []) White

-- d3 lies on a fairy line to the king with a nightrider on e5, on none with a knight; Bd3-e4 exposes the
-- king
pub nightriders_line_is_shut : (may_be_hurdle (shut_nightrider Nightrider).men White d3 ≡ true)
    × (may_be_hurdle (shut_nightrider Knight).men White d3 ≡ false)
    × (is_pseudo_legal orthodox (shut_nightrider Nightrider) (go d3 e4) ≡ true) × (in_check orthodox (shut_nightrider Nightrider).men White ≡ false)
    × (in_check orthodox (position_after orthodox (shut_nightrider Nightrider) (go d3 e4)).men White ≡ true)
unfolding lines_to_a_king check_after_a_move
nightriders_line_is_shut = (refl, refl, refl, refl, refl)

-- a range without a move ends before a move to one of the bitboard's squares
ends_at : (p : Position) (s w k b : ℕ) → (bit_at w (k / per_arrival) == 1) ≡ true
    → is_pseudo_legal orthodox p (record { from = s; to = k / per_arrival; promo = promotion_at (k % per_arrival) }) ≡ true → HasNoMoveFrom p s w 0 b → b ≤ k
ends_at p s w k b on may barren = grind (arith, cases_lt, false≢true)

-- a range without a move ends before the move of a rook from a1 to b1
pub move_stage_ends_at_a_move : (w b : ℕ) → (bit_at w b1 == 1) ≡ true → HasNoMoveFrom (position (on White Rook a1 ∷ []) White) a1 w 0 b → b ≤ per_arrival
unfolding check_after_a_move promotion_at
move_stage_ends_at_a_move w b there barren = ends_at (position (on White Rook a1 ∷ []) White) a1 w per_arrival b there refl barren

-- a range without a move ends before the promotion to a queen of a pawn that goes from e7 to e8
pub move_stage_ends_at_a_promotion : (w b : ℕ) → (bit_at w e8 == 1) ≡ true → HasNoMoveFrom (position (on White Pawn e7 ∷ []) White) e7 w 0 b
    → b ≤ per_arrival * e8 + 1
unfolding check_after_a_move promotion_at
move_stage_ends_at_a_promotion w b there barren = ends_at (position (on White Pawn e7 ∷ []) White) e7 w (per_arrival * e8 + 1) b there refl barren

-- no move lies between a place and itself
pub no_move_lies_between : (rule : RuleSet) (p : Position) (a : ℕ) → moves_between rule p a a ≡ []
unfolding met_between
no_move_lies_between rule p a = let none : a - a ≡ 0 = omega arith in ap (λ n. filter (is_legal rule p) (take n (drop a triples))) none
