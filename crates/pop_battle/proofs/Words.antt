-- Definitions and lemmas of the standard library and of other crates that most proofs use.
pub use Rattle.std.proofs.Common.{Bool, IfNone, IfSome, List, MatchOption, None, Option, Some, [], ap, append_assoc, arith, cond, drop, eqb, false, filter, inl, inr, is_some, length, length-append, min, not, refl, reverse, rules, suc, sym, take, true, zero, ℕ, ◌%◌, ◌&&◌, ◌++◌, ◌+◌, ◌-◌, ◌<◌, ◌^◌, ◌||◌, ◌∙◌, ◌∷◌, ◌≡◌, ◌≤◌, ◌⊎◌}
pub use Rattle.std.proofs.lemmas.Bool.{and_parts, cases_Bool, cases_lt}
pub use Rattle.std.proofs.lemmas.Bool.Decides.{nat_tests}
pub use Rattle.std.proofs.lemmas.List.{append-nil, drop-append-le, length-drop, length-reverse, reverse-append, take-append-le, take_all}
pub use Rattle.std.proofs.lemmas.List.Elements.{filter_agree}
pub use Rattle.std.proofs.lemmas.List.Sums.{sum_by-cons}
pub use Rattle.std.specs.List.{list_all, list_any, range_with_len, sum_by}
pub use Rattle.chess_core.specs.Position.{Position}
pub use Rattle.chess_core.specs.declared.man.Move.{Move}
pub use Rattle.chess_core.specs.WellFormed.{IsWellFormed}
pub use Rattle.chess_rules.proofs.Between.{between-here, between-none, between-past, between-skip, cut_moves, after_cut}
pub use Rattle.chess_flights.proofs.Mating.{mates_after-are}
pub use Rattle.chess_rules.proofs.LegalMoves.{may_be_made}
pub use Rattle.chess_rules.proofs.Members.{from_map, from_range}
pub use Rattle.chess_rules.proofs.Places.{met_after-end, met_after-here, met_after-skip, place_of_triple, triples_numbered}
pub use Rattle.chess_rules.proofs.Stays.{after_well_formed}
pub use Rattle.chess_rules.specs.Legal.{is_nil, moves as legal_moves}
unfoldable pub use Rattle.chess_rules.specs.Legal.{is_legal, is_mate, is_stalemate, moves}
pub use Rattle.chess_core.specs.Undo.{Undo}
unfoldable pub use Rattle.chess_rules.specs.Play.{undo_of}
pub use Rattle.chess_attacks.specs.RuleSet.{RuleSet}
pub use Rattle.chess_rules.specs.ties.Places.{IsPlaceIn, LegalPlace, all_triples, place_of, triple_at}
pub use Rattle.chess_rules.specs.ties.Places.{moves_after, moves_between}
unfoldable pub use Rattle.chess_rules.specs.ties.Places.{met_after}
pub use Rattle.chess_rules.specs.ties.Filtering.{IsFirstKept}
pub use Rattle.chess_mates.specs.ties.MatingPlaces.{MatingPlace, mates_between}
pub use Rattle.chess_flights.specs.ties.Mates.{is_mating}
pub use Rattle.chess_flights.specs.ties.QuietSteps.{must_reply_with_mate}
pub use Rattle.chess_flights.specs.ties.Mates.{mates, mates_after}
pub use Rattle.pop_stipulation.specs.declared.stipulation.Goal.{Goal}
pub use Rattle.pop_stipulation.specs.declared.stipulation.Goal.TheVariants.{Mate}
pub use Rattle.pop_battle.specs.Chess.{chess, is_goal_reached}
pub use Rattle.pop_battle.specs.Game.{Game, can_move, every_move, some_move}
pub use Rattle.pop_stipulation.specs.declared.stipulation.Battle.{Battle}
pub use Rattle.pop_stipulation.specs.declared.stipulation.Battle.TheVariants.{Direct, SelfMate}
pub use Rattle.pop_battle.specs.declared.frame.MoveStage.TheVariants.{Aimed, Earlier, Killer, Others}
pub use Rattle.pop_battle.specs.ties.Counts.{HasCounted, decided_by}
unfoldable pub use Rattle.pop_battle.specs.Walks.{walk_count}
unfoldable pub use Rattle.pop_battle.specs.ties.Counts.{least_of, smallest_below, smallest_tree}
pub use Rattle.pop_battle.specs.ties.Frames.{CameFrom, CameFromAt, Ends, Frame, IsOpenedOn, IsTesting, Order, Turns, all_moves_of, comes_early, is_at, moves_ahead, move_stages_after, tested_frame, left_at_top, untried_moves}
unfoldable pub use Rattle.pop_battle.specs.ties.Frames.{AreCursors, IsDescending, IsLinked, belongs, delivered_value, moves_here, moves_later, pending_value, position, work_from, work_among, tests, to_test, to_try, to_try_with, walk_among, test_work}
pub use Rattle.pop_battle.specs.ties.Marks.{is_for_mate}
pub use Rattle.pop_battle.specs.ties.Values.{attacker_to_move}
unfoldable pub use Rattle.pop_battle.specs.ties.Values.{joined_value, value}
pub use Rattle.pop_battle.specs.ties.Skipping.{AreRemoved, IsNextKept, SkipsMoves}
pub use Rattle.chess_rules.specs.Play.{position_after}
unfoldable pub use Rattle.pop_events.specs.Shown.{mark_of, shown_of}
pub use Rattle.pop_battle.specs.declared.aim.Aim.{Aim}
