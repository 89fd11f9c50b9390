-- Definitions of chess, and lemmas on squares and tests, that most proofs use.
pub use Rattle.chess_rules.proofs.Chess.{DescribesMen, Bishop, Black, CanCastle, Colour, Grasshopper, NoneMeet, IsWellFormed, Kind, King, Knight, Man, Move, Nightrider, Pawn, Position, Queen, Rook, RuleSet, Step, White, all_at, any_range_cases, any_range_false, is_promoting, arriving_man, corner, diagonal_steps, differs, find_first, first_of_and, halfway, is_advance, captures_are_reborn, is_arrival_free, is_castling, is_diagonal, is_man, is_nil, is_of_colour, is_square, is_vacant_at, is_vacant, king_after, knight_steps, last_rank, man_on, man_on-with_other, man_on-with_same, man_on-without_other, man_on-without_same, man_on_at, may_expose_at, men_on, occupied_squares, other, pawn_capture_steps, put_at, queen_steps, rank_of, reaches_of, same_colour, same_colour-true, same_kind, same_kind-true, second_of_and, some_square_false, some_square_true, squares_between, squares_both, squares_either, squares_not, step_of, straight_steps, with_man, without_man, all_triples, like_men_paralyse, forward, gait_of, is_legal-idle, is_promotion_right, same_colour-refl, second_rank}
unfoldable pub use Rattle.chess_rules.proofs.Chess.{position_after_by, along, capture_square, can_castle, hops, in_check, is_ahead, is_attacked, is_clear, is_legal, is_mate, is_on_some, is_paralysed, is_pseudo_legal, is_reached, king_square, leaps, may_castle, may_expose, may_arrive, may_be_hurdle, moved_men, moves, position_after, reaches, reaches_as, reborn_square, rides, side_of, some_square, squares, squares_of, is_attacker, triple_at, word, has_unmoved}
pub use Rattle.chess_attacks.specs.declared.lines.Direction.{Direction}
pub use Rattle.chess_attacks.specs.declared.lines.Direction.TheVariants.{East, North, NorthEast, NorthWest, South, SouthEast, SouthWest, West}
pub use Rattle.chess_rules.specs.declared.legality.blockers.RiderLines.TheVariants.{Straight}
pub use Rattle.chess_flights.specs.ties.Approaches.{AreApproaches, AreApproached, IsLeft, AreCapturers}
pub use Rattle.chess_flights.specs.ties.Checks.{enemy}
unfoldable pub use Rattle.chess_flights.specs.ties.Checks.{may_check_from}
pub use Rattle.chess_flights.specs.ties.Flights.{AreOpen, AreSteps, IsSeenFrom, occupancy_lifted, occupancy_with, IsQuietTo, IsSafe, is_flight_at, occupancy_stepped}
unfoldable pub use Rattle.chess_flights.specs.ties.Flights.{has_flight, is_open, is_flight}
pub use Rattle.chess_flights.specs.ties.Mates.{is_mating, mates_after}
unfoldable pub use Rattle.chess_flights.specs.ties.Mates.{mates}
pub use Rattle.chess_attacks.proofs.Bits.{off_left, off_right, on_left, on_right, word_has, off_zero}
pub use Rattle.chess_attacks.proofs.Tests.{any_kept, implied}
pub use Rattle.chess_rules.proofs.Exposing.{king_is_after, king_stays_king, IsSimple, captures_arrival, check_is}
pub use Rattle.chess_rules.proofs.Seeing.{king_stands, there_now, gone_to, is_occupied_after, kept_now, left_now, no_man, occupied_now, occupied_words}
pub use Rattle.chess_rules.proofs.Blocking.{arriving_colour, king_is, man_there, moved_plainly, not_attacked, other_differs, other_twice, simple_after, unreborn_after, IsCovered, IsShift, covered_parts, frees, gone_shift, line_before, not_parted, stood, unreached}
pub use Rattle.chess_rules.proofs.StayingInCheck.{king_there}
pub use Rattle.chess_rules.proofs.LegalMoves.{may_be_made}
pub use Rattle.chess_rules.proofs.Places.{met_after-end, met_after-here, met_after-none, moves_after-start}
pub use Rattle.chess_rules.proofs.Targeting.{every_square_on, false_by, no_pawn_arrives}
pub use Rattle.chess_rules.proofs.Walks.{on_first}
pub use Rattle.chess_rules.proofs.Fits.{arrived, arrived_other, arriving_king, can_move, capture_of_piece, castle_of, corner_stays, king_no_step, no_capture, pawn_is_no_king, taken}
pub use Rattle.chess_rules.proofs.Pseudo.{IsCastle, IsMade, king_is_no_pawn, made, pawn_steps_to, ways}
pub use Rattle.chess_attacks.proofs.rays.OnSquares.{on_board}
pub use Rattle.chess_rules.proofs.Stays.{after_well_formed, maker, man_on-with_cases, move_man_other, reborn_is}
pub use Rattle.chess_attacks.proofs.rays.Ends.{square_is, back, return_square}
pub use Rattle.chess_attacks.proofs.rays.Flips.{king-back, reaches_back}
pub use Rattle.chess_attacks.proofs.Basics.{Bool, List, None, Option, Some, [], agree_below, agree_below_at, and_from, and_left, and_parts, and_right, ap, arith, bit_and, bit_at, bit_at-lt, bit_at_and, bit_at_or, bit_not, bit_or, cases_Bool, cases_eq, cases_lt, cond-false, cond-true, eq-eqb, eqb-true, false, false_from_ne_true, false≢true, find, if◌then◌else◌, inl, inr, is_some, length, length-set, list_all, list_any, list_any-append, not, not-true, or_cases, or_from, or_left, or_parts, or_right, range_with_len, refl, rules, subst, suc, sym, true, w64, zero, ℕ, ◌%◌, ◌&&◌, ◌*◌, ◌+◌, ◌-◌, ◌/◌, ◌<◌, ◌==◌, ◌^◌, ◌||◌, ◌∙◌, ◌∷◌, ◌≡◌, ◌≢◌, ◌≤◌, ◌⊎◌}
pub use Rattle.chess_attacks.proofs.HoldTaken.{HoldTaken, taken_map, taken_next, taken_on}
pub use Rattle.chess_flights.specs.ties.Guards.{AreReached, IsAttackedOver, IsKindReach, IsNear, IsReached, IsReachedFrom, is_leaper, is_rider}
unfoldable pub use Rattle.chess_flights.specs.ties.Guards.{reached_over}
pub use Rattle.chess_flights.specs.ties.Attackers.{AreAttackers, IsAttacker, squares_for}
pub use Rattle.chess_flights.specs.ties.ByKind.{value_for}
pub use Rattle.chess_core.specs.Steps.{is_hopper}
pub use Rattle.chess_attacks.proofs.rays.Landing.{StandAlike, no_reach_there, reaches_alike}
pub use Rattle.chess_attacks.proofs.attacks.Attacking.{attacked_plainly, goes_on, some_square_same}
pub use Rattle.chess_flights.specs.declared.attackers.Attackers.{Attackers}
pub use Rattle.chess_flights.specs.declared.by_kind.ByKind.{ByKind}
pub use Rattle.chess_rules.proofs.theorems.Moves.{legal_moves_are_triples, moves_are_the_legal_moves, moves_are_the_legal_triples}
pub use Rattle.std.proofs.lemmas.Nat.Bits.{bit_at_cat_high, bit_at_cat_low, bit_at_not}
unfoldable pub use Rattle.chess_rules.specs.Play.{unmoved_after}
pub use Rattle.chess_rules.specs.ties.Exposure.{is_simple}
pub use Rattle.chess_attacks.proofs.rays.Ahead.{onward, passes}
pub use Rattle.chess_attacks.proofs.rays.Ways.{ride-found, ride-made}
