-- Definitions of chess, lemmas on squares, bitboards and tests, and what most proofs use of the standard
pub use Rattle.chess_attacks.proofs.Chess.{AreReached, Bishop, Black, Bool, Colour, Gait, Grasshopper, Hopper, IsStop, IsUpTo, Kind, King, Knight, Leaper, List, Man, Move, Nightrider, None, Option, Pawn, Position, Queen, Rider, Rook, RuleSet, Some, Step, White, [], add-mul, agree_below, agree_below_at, all_at, all_range_true, and_from, and_le_l, and_left, and_parts, and_right, any_kept, any_range_cases, any_range_false, any_range_same, any_range_true, ap, arith, bit_and, bit_at, bit_at-lt, bit_at-trailing_zeros, bit_at-zero, bit_at_above, bit_at_mask_below, bit_at_mask_inside, bit_at_or, bit_at_set_other, bit_at_set_same, bit_not, bit_of, bit_or, both_lists, cases_Bool, cases_eq, cases_lt, cond, cond-false, cond-true, diagonal_steps, differs, direction_number, eq-eqb, eqb, eqb-true, like_men_paralyse, false, false_from_ne_true, false≢true, file_of, find, first_of_and, flat_steps, forward, four, from_on, gait_of, get_or, get_or-map-range_with_len, get_or_past, goes_by, if◌then◌else◌, inl, inr, is_advance, is_fairy_man, is_hopper, is_leaping_man, is_lined, is_man, is_occupied, is_of_colour, is_on_board, is_some, is_square, is_two_files_aside, is_vacant_at, joined, kind_steps, knight_steps, le-leb, le-ltb, leb-true, length, length-map-range_with_len, list_all, list_any, list_any-append, lt-ltb, madrasi, man_on, map, men_on, mul-add, next_low, next_none, next_some, not, not_zero, occupied_squares, on_left, on_right, ones_shl, or_cases, or_left, or_lt, or_parts, or_right, orthodox, other, passing_order_by, pawn_capture_steps, place, pow-suc, queen_steps, range_with_len, rank_of, reaches_of, refl, repeat, rules, same_Bool, same_colour-true, same_kind-true, second_of_and, shared, some_is, some_square_false, some_square_known, some_square_true, square_at, square_word, square_word_small, squares_both, squares_either, squares_same, steep_steps, step_by, step_of, straight_steps, subst, suc, sym, trailing_zeros, true, w64, with_man, word_empty, word_has, word_lacks, word_only, zero, ℕ, ◌%◌, ◌&&◌, ◌*◌, ◌+◌, ◌-◌, ◌/◌, ◌<◌, ◌==◌, ◌^◌, ◌||◌, ◌∙◌, ◌∷◌, ◌≡◌, ◌≢◌, ◌≤◌}
pub use Rattle.chess_attacks.specs.declared.lines.Direction.{Direction}
pub use Rattle.chess_attacks.specs.declared.lines.Direction.TheVariants.{East, EastNorthEast, EastSouthEast, North, NorthEast, NorthNorthEast, NorthNorthWest, NorthWest, South, SouthEast, SouthSouthEast, SouthSouthWest, SouthWest, West, WestNorthWest, WestSouthWest}
unfoldable pub use Rattle.chess_attacks.proofs.Chess.{along, attacks_like, is_attacked_by_like, hopped_from, hops, in_check, is_ahead, is_attacked, is_attacker, is_clear, is_met, is_on_some, is_paralysed, is_reached, king_square, leaps, none_unmoved, ray, reaches, reaches_as, rides, rides_on, rises, side_of, some_square, squares, squares_of, word, word_of}
pub use Rattle.chess_core.proofs.Boards.{IsAt, along-is, square_at-is}
pub use Rattle.chess_core.proofs.Castlings.{has_unmoved-mark_other, has_unmoved-parts, is_home-none, is_home-square}
pub use Rattle.chess_core.proofs.Kept.{same_colour-refl}
pub use Rattle.chess_core.proofs.Men.{AtMostOneKing-without, is_man-without, man_on-with_other, man_on-with_same, man_on-without_none, man_on-without_other, man_on-without_same}
pub use Rattle.chess_core.proofs.Ranges.{all_range_false, find_range_none, find_range_some, find_square_some, second_fails}
pub use Rattle.chess_core.proofs.Words.{square_bit, squares_none, squares_not, squares_some}
pub use Rattle.chess_core.specs.Castling.{without_unmoved, with_unmoved}
unfoldable pub use Rattle.chess_core.specs.Castling.{has_unmoved, mark_unmoved}
pub use Rattle.chess_core.specs.Position.{AtMostOneKing, HasNoKing, may_promote, promotions, same_colour, same_kind, without_man, kinds}
pub use Rattle.chess_core.specs.Steps.{is_leaper}
pub use Rattle.chess_core.specs.WellFormed.{IsWellFormed, is_pawn_inside, is_vacant, was_passed}
unfoldable pub use Rattle.chess_core.specs.WellFormed.{is_en_passant_square_right, is_home}
pub use Rattle.chess_attacks.proofs.Basics.{AllPairs, AllPairs-cons, AllPairs-filter, Contains, Contains-append_cases, Contains-append_left, Contains-append_right, Contains-get_or, IsSome, MatchOption, add-one, append-nil, append_assoc, append_cancel_right, bit_at-pow_other, bit_at-pow_same, bit_at_and, drop, drop-cons, drop-drop, drop_all, filter, filter-append, flat_map, from_bool, get_or-map, get_or-range_with_len, length-append, length-map, length-range_with_len, length-set, length-take, nat_lt, ne_eqb, not-true, not_from_false, one_shl, ones-le, option_to_list, or_from, pow_mono, set-get_or, set-set, set_past, shr-shr, shr_below, slice_get, take, take-append-drop, true_from_ne_false, true≢false, ◌++◌, ◌↔◌, ◌⊎◌}
pub use Rattle.chess_attacks.proofs.Bits.{every_square, off_left, off_right}
pub use Rattle.chess_attacks.proofs.Tests.{IsFirst, all_kept, find_first, find_no, implied}
pub use Rattle.chess_attacks.specs.Attacks.{is_attacked_at, is_attacked_by_like_man}
pub use Rattle.chess_rules.specs.Legal.{can_go, is_arrival_free, is_nil, is_promotion_right, is_pseudo_legal_of, last_rank, is_pawn_step, is_pawn_capture, second_rank, squares_between}
unfoldable pub use Rattle.chess_rules.specs.Legal.{can_castle, is_legal, is_mate, is_pseudo_legal, may_castle, moves, triples, is_stalemate}
pub use Rattle.chess_rules.specs.Play.{arriving_man, by_shade, captured_man, corner, halfway, if_empty, is_castling, is_diagonal, is_double_step, man_on_at, move_man, put_at, rebirth_at, unmoved_with_rook, unmoved_without_at, without_at}
unfoldable pub use Rattle.chess_rules.specs.Play.{position_after_by, capture_square, moved_men, position_after, rebirth, reborn_square, undo_by, undo_of, unmoved_after}
pub use Rattle.chess_attacks.specs.RuleSet.{captures_are_reborn, circe}
pub use Rattle.chess_rules.specs.declared.legality.blockers.RiderLines.TheVariants.{Diagonal, Straight}
pub use Rattle.chess_rules.specs.ties.Evasions.{AreEvasions, AreEvasionsFrom, has_fairy_lines_of, is_evasion, IsNoEvasion, may_be_paralysed, may_paralyse_new_kind}
pub use Rattle.chess_rules.specs.ties.Idle.{is_legal-idle, is_legal_and-idle}
pub use Rattle.chess_rules.specs.ties.Places.{CursorPlace, NoneMeet, HasNoMoveFrom, NamesMove, IsCursorIn, IsNextMet, IsPlaceIn, all_triples, first_after, moves_after, moves_between, per_arrival, per_origin}
unfoldable pub use Rattle.chess_rules.specs.ties.Places.{first_met, met_after, met_between, place_of, promotion_at, triple_at}
pub use Rattle.chess_rules.specs.ties.Playing.{CanCastle, CanMove}
pub use Rattle.chess_rules.specs.ties.Blockers.{has_fairy_lines, is_fairy, AreRides, is_checker_at, is_on_fairy_line_at, is_line_rider, may_expose_at, rider_along, steps_along}
unfoldable pub use Rattle.chess_rules.specs.ties.Blockers.{has_fairy, is_rider_beyond, is_checker, is_on_fairy_line, is_plain, is_blocking, may_expose, may_be_hurdle, cannot_expose}
pub use Rattle.chess_rules.specs.ties.Filtering.{AreKeptSquares, IsFirstKept, SomeFails, is_of_others, is_legal_and}
pub use Rattle.chess_rules.specs.ties.Exposure.{DescribesMenAfter, AreOthers, is_arriving_as, is_simple, king_after, own_after}
pub use Rattle.chess_attacks.specs.ties.Occupancy.{DescribesMen, occupancy_after}
pub use Rattle.chess_rules.specs.ties.Targets.{AreCandidates, IsTargetCacheOf, AreOrigins, IsAimed, is_promoting, is_arrival_of, meets_on, pawn_steps_to}
unfoldable pub use Rattle.chess_rules.specs.ties.Targets.{is_arrival, may_arrive, steps_to}
pub use Rattle.chess_rules.specs.ties.Undoing.{CanReturn, leaving_man, return_square}
unfoldable pub use Rattle.chess_rules.specs.ties.Undoing.{before_by, returned_men, uncastled_men}
pub use Rattle.chess_rules.specs.ties.Counting.{AreLegal}
unfoldable pub use Rattle.chess_rules.specs.ties.Counting.{is_untested}
pub use Rattle.chess_core.specs.MoveOrder.{precedes, promotion_precedes}
