-- Definitions and lemmas of the standard library and of other crates that most proofs use.
pub use Rattle.pop_battle.proofs.Words.{Bool, CameFrom, CameFromAt, Frame, Game, Goal, HasCounted, IfSome, IsPlaceIn, IsWellFormed, LegalPlace, List, MatchOption, Mate, Move, None, Option, Position, RuleSet, Some, Undo, [], after_well_formed, all_triples, and_parts, ap, append-nil, append_assoc, arith, can_move, cases_lt, chess, cond, drop, eqb, every_move, false, filter, from_map, inl, inr, is_for_mate, is_goal_reached, is_mating, may_be_made, is_some, left_at_top, legal_moves, length, length-append, length-reverse, list_all, list_any, min, met_after-end, nat_tests, not, position_after, range_with_len, refl, reverse, reverse-append, rules, attacker_to_move, some_move, suc, sum_by, sum_by-cons, sym, take, take_all, true, zero, ℕ, ◌%◌, ◌&&◌, ◌++◌, ◌+◌, ◌-◌, ◌<◌, ◌^◌, ◌||◌, ◌∙◌, ◌∷◌, ◌≡◌, ◌≤◌, ◌⊎◌}
pub use Rattle.pop_battle.proofs.Words.{mates_after, mates_after-are, moves_after}
unfoldable pub use Rattle.pop_battle.proofs.Words.{met_after}
unfoldable pub use Rattle.pop_battle.proofs.Words.{AreCursors, IsLinked, is_legal, is_mate, position, smallest_tree, undo_of, value, walk_count}
pub use Rattle.std.proofs.Common.{get_or, is_none, length-take, map, slice_get, subst, ◌*◌, ◌/◌, ◌↔◌, ◌≢◌}
pub use Rattle.std.proofs.lemmas.Bool.{false≢true, or_cases}
pub use Rattle.std.proofs.lemmas.List.{map-append, take-append-drop, take-map, take_more, drop-drop, map-id, nil_from_length}
pub use Rattle.std.proofs.lemmas.List.Concat.{flat_map-append, flat_map_single}
pub use Rattle.std.proofs.lemmas.List.Elements.{Contains-append_cases, filter-append}
pub use Rattle.std.proofs.lemmas.List.Kept.{AllPairs-filter}
pub use Rattle.std.proofs.lemmas.List.Sums.{fails_before_first, passes_at_first, prefix_len-le-length, sum_by-append}
pub use Rattle.std.specs.List.{AllPairs, Contains, flat_map, position_or_len}
pub use Rattle.arrayvec.specs.ArrayVec.{ArrayVec, array_vec_len}
unfoldable pub use Rattle.chess_core.specs.WellFormed.{is_en_passant_square_right}
pub use Rattle.chess_rules.proofs.Members.{first_in, from_filter, from_flat_map, in_cases, in_filter, in_flat_map, in_map, later_in, none_in_nil, pairs_append, pairs_flat_map, pairs_front, pairs_map, pairs_nil, pairs_of, pairs_weaker}
pub use Rattle.chess_rules.proofs.theorems.Moves.{Precedes, moves_are_the_legal_moves, moves_differ, moves_in_order, never_precedes_itself}
pub use Rattle.chess_mates.specs.ties.MatingPlaces.{IsNextMate}
pub use Rattle.chess_flights.specs.ties.Mates.{allows_mate}
pub use Rattle.pop_input.specs.Posed.{IsSound, Posed}
pub use Rattle.pop_stipulation.specs.Stipulations.{battle_of, half_moves, half_moves_of, is_help}
pub use Rattle.pop_stipulation.specs.declared.stipulation.Form.{Form}
unfoldable pub use Rattle.pop_events.specs.Shown.{shown_move}
pub use Rattle.pop_walk.specs.Events.{BareEvent, event_of, events, events_from, first_phase, game_of, impossible, is_impossible_phase, is_set, line, opening, path_event, phase_count, phase_half_moves, phase_start, play_start, moves_shown, last_shown, solutions_by, total, tree_node}
unfoldable pub use Rattle.pop_walk.specs.Events.{phase_events, solutions}
pub use Rattle.pop_battle.specs.Game.{path_end}
unfoldable pub use Rattle.pop_battle.specs.Game.{help_lines, is_lost, is_self_lost, lines_to_goal, self_wins, wins}
pub use Rattle.pop_events.specs.Shown.{Shown}
pub use Rattle.pop_walk.specs.Tree.{best_moves, keeps_win, least_moves, node, is_in_set_play, tree, wins_in}
unfoldable pub use Rattle.pop_walk.specs.Tree.{continuations, nodes_below, set_tree}
pub use Rattle.pop_stipulation.specs.declared.stipulation.Battle.{Battle}
pub use Rattle.pop_stipulation.specs.declared.stipulation.Battle.TheVariants.{Direct, SelfMate}
pub use Rattle.pop_events.specs.declared.event.Event.{Event}
pub use Rattle.pop_events.specs.declared.event.Event.TheVariants.{Line, Node, Total}
pub use Rattle.pop_events.specs.declared.event.Phase.{Phase}
pub use Rattle.pop_events.specs.declared.event.Phase.TheVariants.{Play, Set}
pub use Rattle.pop_walk.specs.declared.phases.Progress.{Progress}
pub use Rattle.pop_walk.specs.declared.phases.Walk.{Walk}
pub use Rattle.pop_walk.specs.declared.phases.Progress.TheVariants.{NotPossible, Before, First, After, Within}
pub use Rattle.pop_walk.specs.declared.phases.Scope.TheVariants.{Part, Whole}
pub use Rattle.pop_walk.specs.declared.mode.Mode.{Mode}
pub use Rattle.pop_battle.specs.ties.Frames.{opened_frame}
unfoldable pub use Rattle.pop_battle.specs.ties.Frames.{to_open, walk_after}
pub use Rattle.pop_walk.specs.ties.Phases.{Gives, events_after, events_along, IsCountedUpTo, Walks, begins_solution, phase_paths}
unfoldable pub use Rattle.pop_walk.specs.ties.Phases.{HoldsAtProgress, beginning_count, kept_paths, left_of}
pub use Rattle.pop_walk.specs.ties.Modes.{goes_on, mode_of, walk_of}
pub use Rattle.pop_walk.specs.ties.Seen.{IsAtPathOf}
pub use Rattle.pop_walk.specs.Walks.{is_stop, is_unstopped, is_walked_once, phase_walk}
pub use Rattle.pop_walk.specs.ties.Walk.{GoesTo, IsEnded, IsNextOf, IsWalking, Steps, ends_at_goal, fewest_half_moves, seeks_last}
unfoldable pub use Rattle.pop_walk.specs.ties.Walk.{IsRoomy, least_length_from, is_followed, is_emitted, walk_length, shown_length, path, shown_paths, to_come, walk_work}
pub use Rattle.std.proofs.lemmas.List.Folds.{flat_map-map, list_all-append}
