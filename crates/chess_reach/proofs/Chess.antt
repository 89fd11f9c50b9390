-- Definitions of chess and lemmas on squares and tests that most proofs use.
pub use Rattle.std.proofs.Common.{Bool, List, None, Option, Some, [], ap, arith, cond, eqb, false, inl, inr, is_some, length, nat_lt, not, refl, rules, subst, suc, sym, true, zero, ℕ, ◌%◌, ◌&&◌, ◌*◌, ◌+◌, ◌-◌, ◌/◌, ◌<◌, ◌==◌, ◌^◌, ◌||◌, ◌∙◌, ◌∷◌, ◌≡◌, ◌≢◌, ◌≤◌, ◌⊎◌, if◌then◌else◌, ◌↔◌}
pub use Rattle.chess_rules.proofs.Chess.{AtMostOneKing, Black, Colour, HasNoKing, IsWellFormed, King, Queen, Rook, Bishop, Knight, Pawn, Grasshopper, Nightrider, Kind, Man, Move, Position, RuleSet, Step, White, and_from, and_left, and_parts, and_right, any_kept, arriving_man, can_go, captured_man, captures_are_reborn, cases_Bool, cases_eq, cases_lt, cond-false, cond-true, corner, eq-eqb, eqb-true, false_from_ne_true, false≢true, first_of_and, forward, halfway, is_arrival_free, is_castling, is_man, is_occupied, is_of_colour, is_pawn_capture, is_pawn_step, is_promotion_right, is_square, is_vacant, is_vacant_at, knight_steps, last_rank, list_any, man_on, man_on-with_other, man_on-with_same, man_on-without_other, man_on-without_same, may_promote, ne_eqb, not-true, not_from_false, or_cases, or_from, or_left, or_right, other, queen_steps, straight_steps, diagonal_steps, rank_of, same_colour, same_colour-refl, same_colour-true, same_kind, same_kind-true, second_of_and, second_rank, some_is, some_square_true, true_from_ne_false, with_man, without_at, without_man, range_with_len, gait_of, kind_steps}
unfoldable pub use Rattle.chess_rules.proofs.Chess.{along, capture_square, hops, in_check, is_attacked, is_attacker, is_legal, is_mate, is_paralysed, is_pseudo_legal, is_stalemate, king_square, leaps, moved_men, moves, position_after, position_after_by, reaches, reaches_as, reborn_square, rides, some_square, squares, has_unmoved, unmoved_after}
unfoldable pub use Rattle.chess_reach.specs.Reach.{Gets, goes, guards, pawn_goes}
pub use Rattle.chess_reach.specs.Reach.{Starts, becomes, without_hops}
pub use Rattle.chess_reach.specs.Plans.{End, Ends, IsBlocked, IsChecked, IsDefended, IsGuarded, IsPlan, captures_to, checks_by_leap, is_ahead, is_prey}
unfoldable pub use Rattle.chess_reach.specs.Plans.{may_capture, price}
