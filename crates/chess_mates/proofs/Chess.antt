-- Definitions of chess, and lemmas on squares and tests, that most proofs use.
pub use Rattle.chess_flights.proofs.Chess.{AreApproaches, AreAttackers, AreOpen, AreReached, AreSteps, Bishop, Black, Bool, Colour, DescribesMen, Grasshopper, HoldTaken, IsCovered, IsLeft, IsMade, IsNear, IsSeenFrom, IsShift, IsSimple, IsWellFormed, Kind, King, Knight, List, Man, Move, Nightrider, None, NoneMeet, Option, Pawn, Position, Queen, Rook, RuleSet, Some, StandAlike, Step, White, [], after_well_formed, agree_below_at, all_triples, and_from, and_left, and_parts, and_right, any_kept, any_range_cases, any_range_false, ap, arith, arrived, arriving_colour, arriving_man, attacked_plainly, bit_and, bit_at, bit_not, bit_or, captures_arrival, captures_are_reborn, cases_Bool, cases_eq, cases_lt, check_is, cond-false, cond-true, covered_parts, diagonal_steps, differs, enemy, eq-eqb, eqb-true, false, false_by, false_from_ne_true, false≢true, find_first, first_of_and, forward, gait_of, goes_on, gone_shift, gone_to, halfway, if◌then◌else◌, inl, inr, is_advance, is_arrival_free, is_castling, is_hopper, is_leaper, is_man, is_mating, is_nil, is_of_colour, is_promoting, is_promotion_right, may_be_made, is_rider, is_some, is_square, is_vacant_at, kept_now, king_after, king_is, king_is_no_pawn, king_there, knight_steps, left_now, legal_moves_are_triples, length, length-set, like_men_paralyse, list_all, list_any, list_any-append, made, maker, man_on, man_on-with_cases, man_on-with_other, man_on-with_same, man_on_at, man_there, may_expose_at, men_on, met_after-here, no_capture, not, not-true, not_attacked, occupied_now, occupied_squares, occupied_words, off_left, off_right, off_zero, on_board, on_first, or_cases, or_left, or_parts, or_right, other, other_differs, other_twice, pawn_steps_to, put_at, queen_steps, range_with_len, refl, return_square, ride-found, ride-made, rules, same_colour, same_colour-refl, same_colour-true, same_kind, same_kind-true, second_of_and, occupancy_lifted, simple_after, some_square_false, some_square_true, square_is, squares_both, squares_either, squares_not, stood, straight_steps, subst, sym, there_now, true, unreached, unreborn_after, w64, with_man, without_man, word_has, ℕ, ◌%◌, ◌&&◌, ◌*◌, ◌+◌, ◌-◌, ◌/◌, ◌<◌, ◌==◌, ◌^◌, ◌||◌, ◌∙◌, ◌∷◌, ◌≡◌, ◌≢◌, ◌≤◌, ◌⊎◌}
pub use Rattle.chess_flights.specs.declared.attackers.Attackers.{Attackers}
pub use Rattle.chess_flights.proofs.Chess.{mates_after}
unfoldable pub use Rattle.chess_flights.proofs.Chess.{along, can_castle, capture_square, in_check, is_ahead, is_attacked, is_attacker, is_clear, is_legal, is_mate, is_on_some, is_open, is_paralysed, is_pseudo_legal, is_reached, king_square, leaps, mates, may_arrive, may_be_hurdle, may_castle, may_check_from, may_expose, moved_men, moves, position_after, position_after_by, reached_over, reaches, reaches_as, reborn_square, rides, side_of, some_square, squares, squares_of, triple_at, word}
pub use Rattle.chess_rules.proofs.Chess.{AtMostOneKing, IsPlaceIn, along-is, circe, is_attacked_at, is_two_files_aside, is_fairy, is_man-without, is_on_fairy_line_at, orthodox, squares_same, AreRides, is_lined, occupancy_after}
pub use Rattle.chess_rules.proofs.Chess.{moves_after, moves_between}
unfoldable pub use Rattle.chess_rules.proofs.Chess.{is_arrival, is_on_fairy_line, steps_to, cannot_expose, is_blocking, triples}
pub use Rattle.chess_mates.specs.declared.checks.CheckSquares.{CheckSquares}
pub use Rattle.chess_mates.specs.ties.CheckSquares.{AreCastlingTargets, AreCheckOrigins, AreCheckSquares, AreCheckTargets, own_man, rule_of_checks}
pub use Rattle.chess_flights.specs.ties.ByKind.{value_for}
pub use Rattle.chess_flights.specs.ties.Checks.{is_absent}
unfoldable pub use Rattle.chess_mates.specs.ties.CheckSquares.{are_rebirths_quiet}
pub use Rattle.chess_flights.specs.ties.Flights.{AreUnsafe}
pub use Rattle.chess_mates.specs.ties.KnownFlights.{IsFlightless, IsUnreached}
pub use Rattle.chess_mates.specs.ties.MatingPlaces.{IsNextMate}
pub use Rattle.chess_attacks.proofs.Tests.{all_kept, some_is}
pub use Rattle.chess_rules.proofs.Exposing.{exposed_is}
pub use Rattle.chess_rules.proofs.Blocking.{cannot_expose_parts, plain_safe}
pub use Rattle.chess_rules.proofs.Arrivals.{may_go_aimed}
pub use Rattle.chess_rules.proofs.Places.{place_of_triple}
pub use Rattle.chess_rules.proofs.Targeting.{arrival_needed, castling_steps, own_moves}
pub use Rattle.chess_rules.proofs.Walks.{off_second}
pub use Rattle.chess_rules.proofs.Stays.{captured_enemy, captured_mortal, moved_sound}
pub use Rattle.chess_attacks.proofs.rays.Flips.{diagonal-back, straight-back}
pub use Rattle.chess_attacks.proofs.Basics.{append_cancel_right, filter, filter-append, or_lt, true_from_ne_false, ◌++◌}
pub use Rattle.chess_attacks.proofs.HoldTaken.{taken_all}
pub use Rattle.std.specs.Prelude.{min}
pub use Rattle.std.proofs.lemmas.Bool.{not-false}
