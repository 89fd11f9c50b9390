-- Definitions of chess, and lemmas on squares and tests, that most proofs use.
pub use Rattle.chess_flights.proofs.Chess.{AreApproached, AreApproaches, AreAttackers, AreCapturers, AreReached, Bishop, Black, Bool, Colour, Direction, East, Grasshopper, HoldTaken, IsAttackedOver, IsAttacker, IsLeft, IsMade, IsNear, IsReached, IsWellFormed, Kind, King, Knight, List, Man, Move, Nightrider, None, North, NorthEast, NorthWest, Option, Pawn, Position, Queen, Rook, RuleSet, Some, South, SouthEast, SouthWest, StandAlike, Step, West, White, [], after_well_formed, agree_below_at, all_at, all_triples, and_from, and_left, and_parts, and_right, any_kept, ap, arith, arrived, arriving_colour, arriving_king, arriving_man, bit_and, bit_at, bit_not, bit_or, capture_of_piece, captures_are_reborn, cases_Bool, cases_eq, cases_lt, castle_of, cond-false, cond-true, corner, diagonal_steps, eq-eqb, eqb-true, every_square_on, false, false_by, false_from_ne_true, false≢true, find, find_first, gait_of, gone_to, halfway, inl, inr, is_advance, is_arrival_free, is_castling, is_hopper, is_leaper, is_man, is_of_colour, is_promoting, may_be_made, is_rider, is_some, is_square, is_vacant_at, king-back, king_after, king_is, king_is_after, king_is_no_pawn, king_stands, king_there, knight_steps, length, length-set, like_men_paralyse, list_all, list_any, list_any-append, made, maker, man_on, man_there, men_on, moved_plainly, no_capture, no_pawn_arrives, no_reach_there, not, not-true, occupied_squares, off_left, off_right, off_zero, on_board, on_first, on_left, on_right, onward, or_cases, or_from, or_left, or_parts, or_right, other, other_twice, passes, pawn_is_no_king, pawn_steps_to, queen_steps, range_with_len, rank_of, reaches_alike, reaches_back, reborn_is, refl, ride-made, rules, same_colour, same_colour-refl, same_colour-true, same_kind, same_kind-true, simple_after, some_square_false, some_square_true, square_is, squares_for, step_of, straight_steps, subst, sym, taken, taken_map, taken_next, taken_on, there_now, true, w64, word_has, ℕ, ◌&&◌, ◌+◌, ◌-◌, ◌<◌, ◌==◌, ◌^◌, ◌||◌, ◌∙◌, ◌∷◌, ◌≡◌, ◌≢◌, ◌≤◌, ◌⊎◌}
pub use Rattle.chess_flights.specs.declared.attackers.Attackers.{Attackers}
pub use Rattle.chess_flights.specs.declared.by_kind.ByKind.{ByKind}
pub use Rattle.chess_flights.proofs.Chess.{mates_after, value_for}
unfoldable pub use Rattle.chess_flights.proofs.Chess.{along, capture_square, has_flight, has_unmoved, hops, in_check, is_attacked, is_attacker, is_legal, is_on_some, is_open, is_paralysed, is_pseudo_legal, is_reached, king_square, leaps, mates, may_arrive, may_be_hurdle, may_check_from, may_expose, moved_men, position_after, position_after_by, reached_over, reaches, reaches_as, reborn_square, rides, side_of, squares, squares_of, triple_at, word}
pub use Rattle.chess_rules.proofs.Chess.{along-is, is_attacked_at, is_occupied, captured_man, captures_are_reborn, file_of, is_double_step, is_lined, square_at, square_at-is}
unfoldable pub use Rattle.chess_rules.proofs.Chess.{is_arrival, is_on_fairy_line, is_blocking, rebirth}
pub use Rattle.chess_flights.specs.ties.Checks.{is_absent}
pub use Rattle.chess_attacks.proofs.Tests.{some_is, find_no, same_Bool}
pub use Rattle.chess_rules.proofs.Arrivals.{may_go_aimed}
pub use Rattle.chess_rules.proofs.Targeting.{arrival_needed}
pub use Rattle.chess_rules.proofs.Walks.{off_second}
pub use Rattle.chess_rules.proofs.Stays.{IsReborn, captured_enemy, rebirth_small}
pub use Rattle.chess_attacks.proofs.rays.Flips.{diagonal-back, straight-back}
pub use Rattle.chess_attacks.proofs.Basics.{map, ne_eqb, or_lt, true_from_ne_false}
pub use Rattle.chess_threats.specs.ties.KingAttack.{AreAdjacent, AreArrivals, AreCaptureSquares, AreCastlingSquares, AreClosed, AreFree, AreGuardsWithout, AreHomes, AreHomesOf, AreHurdles, AreLaterHurdles, AreSpringboards, AreHopTargets, AreThreats, AreWeak, IsApart, IsArrival, IsBarred, IsCaptured, IsCastlingHarmless, IsCheckWord, IsKingZone, IsFlight, IsHarmless, IsHome, IsHurdle, IsLike, IsNoCheck, IsOff, IsQuiet, IsRiskAt, IsSafeMove, IsSafeStep, IsDecidedStep, IsShut, IsShutAt, IsKingAttack, IsKingAttackOf, IsSparedStep, IsHopped, IsUnguarded, IsUnhopped, IsUntaken, IsWeak, IsWeakAt, IsWhole, KeepsFlight, KeepsFlightBeside, LeavesOne, LeavesUntaken, MayRide, moves_on_fairy_lines}
pub use Rattle.chess_threats.specs.ties.LastingFlights.{AreGuarded, AreNear, KeepsOne, LeaveOne}
pub use Rattle.chess_threats.specs.ties.Threats.{AreMere, ArePlain, AreRisky, AreThreatsOf, IsMereMove, IsUncontested, IsPlainMove, ThreatsSeen}
pub use Rattle.chess_threats.specs.declared.king_attack.KingAttack.{KingAttack}
pub use Rattle.chess_attacks.proofs.rays.Landing.{any_false, not_yet}
pub use Rattle.std.proofs.lemmas.Nat.Bits.{bit_at_above}
pub use Rattle.std.proofs.Common.{IfSome}
pub use Rattle.chess_threats.specs.declared.king_zone.KingZone.{KingZone}
pub use Rattle.chess_threats.specs.declared.risk.Risk.{Risk}
pub use Rattle.std.proofs.lemmas.Bool.{not-false}
pub use Rattle.chess_attacks.proofs.rays.Ahead.{ordered}
pub use Rattle.chess_attacks.proofs.rays.Ways.{Hop, hop-found}
