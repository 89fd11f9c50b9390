-- Definitions and lemmas of the standard library and of this crate that most proofs use.
pub use Rattle.std.proofs.Common.{Bool, List, MatchBool, None, Option, Some, [], ap, arith, cond, eqb, false, find, get_or, inl, inr, is_some, leb, length, map, max, min, not, refl, rules, set, subst, suc, sym, true, zero, ℕ, ◌%◌, ◌&&◌, ◌*◌, ◌+◌, ◌-◌, ◌/◌, ◌<◌, ◌^◌, ◌||◌, ◌∙◌, ◌∷◌, ◌≡◌, ◌≢◌, ◌≤◌, ◌⊎◌}
pub use Rattle.std.proofs.lemmas.Bool.{and_from, and_left, and_parts, and_right, cases_Bool, cases_eq, cases_lt, cond-false, cond-true, eq-eqb, eqb-true, false_from_ne_true, leb-true, ne_eqb, not-false, not-true, not_from_false, not_from_true, or_cases, or_from, or_left, or_right, true_from_ne_false}
pub use Rattle.std.proofs.lemmas.List.{get_or-set_other, get_or-set_same, get_or_past, length-set, set_past}
pub use Rattle.std.proofs.lemmas.Nat.{and_le_l, one_shl, or_lt}
pub use Rattle.std.proofs.lemmas.Nat.Bits.{bit_at-pow_other, bit_at-pow_same, bit_at-suc, bit_at-trailing_zeros, bit_at-zero, bit_at_and, bit_at_clear_other, bit_at_clear_same, bit_at_lowest, bit_at_not, bit_at_or, bit_at_set_other, bit_at_set_same, same_from_bits_below, shr_and_one}
pub use Rattle.std.specs.Int.{bit_at, bit_not, trailing_zeros, w64}
pub use Rattle.std.specs.Int.Bits.{bit_and, bit_or}
pub use Rattle.std.specs.List.{list_all, list_any, range_with_len, repeat}
pub use Rattle.chess_core.specs.Castling.{with_unmoved, without_unmoved}
unfoldable pub use Rattle.chess_core.specs.Castling.{has_unmoved, mark_unmoved, none_unmoved}
pub use Rattle.chess_core.specs.Diagrams.{Diagram, has_men, is_kind}
unfoldable pub use Rattle.chess_core.specs.Diagrams.{has_kind, has_right_without_man, is_other_king, is_second_king, is_stray_pawn, is_taken, is_man_on, meets_tests, position_of, is_kind_on, has_man}
pub use Rattle.chess_core.specs.Position.{AtMostOneKing, HasNoKing, is_man, is_of_colour, kind_number, kinds, man_on, same_colour, same_kind, with_man, without_man}
unfoldable pub use Rattle.chess_core.specs.Position.{king_square}
pub use Rattle.chess_core.specs.Squares.{file_of, is_square, rank_of, square_at}
unfoldable pub use Rattle.chess_core.specs.Squares.{some_square, squares}
pub use Rattle.chess_core.specs.WellFormed.{IsWellFormed, is_pawn_inside}
unfoldable pub use Rattle.chess_core.specs.WellFormed.{is_home}
pub use Rattle.chess_core.specs.declared.man.Colour.{Colour}
pub use Rattle.chess_core.specs.declared.man.Colour.TheVariants.{Black, White}
pub use Rattle.chess_core.specs.declared.man.Kind.{Kind}
pub use Rattle.chess_core.specs.declared.man.Kind.TheVariants.{Bishop, Grasshopper, King, Knight, Nightrider, Pawn, Queen, Rook}
pub use Rattle.chess_core.specs.declared.man.Man.{Man}
pub use Rattle.chess_core.specs.declared.man.Unmoved.{Unmoved}
pub use Rattle.chess_core.specs.ties.Kept.{Agrees, colour_number, colours}
unfoldable pub use Rattle.chess_core.specs.ties.Kept.{kind_bitboards, king_squares, side_bitboards}
pub use Rattle.chess_core.specs.ties.Words.{bit_of, unmoved_in}
unfoldable pub use Rattle.chess_core.specs.ties.Words.{side_of, squares_of, word, word_of}
