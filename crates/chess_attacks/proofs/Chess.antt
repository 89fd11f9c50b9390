-- Definitions of chess, lemmas on squares, bitboards and tests, and what most proofs use of the standard
pub use Rattle.chess_core.proofs.Kept.{same_kind-true}
pub use Rattle.chess_core.proofs.Men.{same_colour-true}
pub use Rattle.chess_core.proofs.Ranges.{all_range_true, any_range_false, any_range_true, some_square_false, some_square_true}
pub use Rattle.chess_core.proofs.Words.{square_word, square_word_small, some_square_known, squares_both, squares_either, squares_same}
pub use Rattle.chess_core.specs.Position.{Position, is_man, is_of_colour, man_on, other, with_man}
unfoldable pub use Rattle.chess_core.specs.Position.{king_square}
pub use Rattle.chess_core.specs.Squares.{file_of, is_on_board, is_square, rank_of, square_at}
unfoldable pub use Rattle.chess_core.specs.Squares.{some_square, squares}
pub use Rattle.chess_core.specs.Steps.{Step, diagonal_steps, gait_of, is_hopper, kind_steps, knight_steps, pawn_capture_steps, queen_steps, step_by, straight_steps}
unfoldable pub use Rattle.chess_core.specs.Steps.{along}
pub use Rattle.chess_core.specs.declared.man.Colour.{Colour}
pub use Rattle.chess_core.specs.declared.man.Colour.TheVariants.{Black, White}
pub use Rattle.chess_core.specs.declared.man.Gait.{Gait}
pub use Rattle.chess_core.specs.declared.man.Gait.TheVariants.{Hopper, Leaper, Rider}
pub use Rattle.chess_core.specs.declared.man.Kind.{Kind}
pub use Rattle.chess_core.specs.declared.man.Kind.TheVariants.{Bishop, Grasshopper, King, Knight, Nightrider, Pawn, Queen, Rook}
pub use Rattle.chess_core.specs.declared.man.Man.{Man}
pub use Rattle.chess_core.specs.ties.Words.{bit_of}
unfoldable pub use Rattle.chess_core.specs.ties.Words.{side_of, squares_of, word, word_of}
pub use Rattle.chess_attacks.proofs.Basics.{Bool, List, None, Option, Some, [], add-mul, agree_below, agree_below_at, and_from, and_le_l, and_left, and_parts, and_right, ap, arith, bit_and, bit_at, bit_at-lt, bit_at-trailing_zeros, bit_at-zero, bit_at_above, bit_at_mask_below, bit_at_mask_inside, bit_at_or, bit_at_set_other, bit_at_set_same, bit_not, bit_or, cases_Bool, cases_eq, cases_lt, cond, cond-false, cond-true, eq-eqb, eqb, eqb-true, false, false_from_ne_true, false≢true, find, get_or, get_or-map-range_with_len, get_or_past, if◌then◌else◌, inl, inr, is_some, le-leb, le-ltb, leb-true, length, length-map-range_with_len, list_all, list_any, list_any-append, lt-ltb, map, mul-add, not, ones_shl, or_cases, or_left, or_lt, or_parts, or_right, pow-suc, range_with_len, refl, repeat, rules, subst, suc, sym, trailing_zeros, true, w64, zero, ℕ, ◌%◌, ◌&&◌, ◌*◌, ◌+◌, ◌-◌, ◌/◌, ◌<◌, ◌==◌, ◌^◌, ◌||◌, ◌∙◌, ◌∷◌, ◌≡◌, ◌≢◌, ◌≤◌}
pub use Rattle.chess_attacks.proofs.Bits.{both_lists, four, from_on, joined, next_low, next_none, next_some, not_zero, on_left, on_right, shared, word_empty, word_has, word_lacks, word_only}
pub use Rattle.chess_attacks.proofs.Tests.{all_at, any_kept, any_range_cases, any_range_same, differs, first_of_and, same_Bool, second_of_and, some_is}
unfoldable pub use Rattle.chess_attacks.specs.Attacks.{attacks_like, is_attacked_by_like, in_check, is_attacked, is_paralysed, is_attacker}
pub use Rattle.chess_attacks.specs.Reaches.{forward}
pub use Rattle.chess_attacks.specs.Reaches.{goes_by, is_occupied, is_vacant_at, reaches_of}
unfoldable pub use Rattle.chess_attacks.specs.Reaches.{hops, is_clear, leaps, reaches, reaches_as, rides}
pub use Rattle.chess_attacks.specs.RuleSet.{RuleSet, like_men_paralyse, orthodox, madrasi}
pub use Rattle.chess_attacks.specs.declared.lines.Direction.{Direction}
pub use Rattle.chess_attacks.specs.declared.lines.Direction.TheVariants.{East, EastNorthEast, EastSouthEast, North, NorthEast, NorthNorthEast, NorthNorthWest, NorthWest, South, SouthEast, SouthSouthEast, SouthSouthWest, SouthWest, West, WestNorthWest, WestSouthWest}
pub use Rattle.chess_attacks.specs.ties.Lines.{AreReached, IsStop, IsUpTo, direction_number, flat_steps, is_advance, is_two_files_aside, men_on, occupied_squares, passing_order_by, place, steep_steps, step_of}
unfoldable pub use Rattle.chess_attacks.specs.ties.Lines.{is_ahead, is_on_some, ray, rises}
unfoldable pub use Rattle.chess_attacks.specs.ties.Outward.{hopped_from, rides_on, is_met}
pub use Rattle.chess_attacks.specs.ties.Outward.{is_fairy_man, is_leaping_man}
pub use Rattle.chess_attacks.specs.ties.Lines.{is_lined}
unfoldable pub use Rattle.chess_attacks.specs.ties.Outward.{is_reached}
pub use Rattle.chess_core.specs.declared.man.Move.{Move}
unfoldable pub use Rattle.chess_core.specs.Castling.{none_unmoved}
