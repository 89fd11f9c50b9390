-- Definitions and lemmas that most proofs about parts use.
pub use Rattle.pop_walk.proofs.Words.{AllPairs, MatchOption, and_parts, battle_of, events_along, is_none, is_stop, is_unstopped, play_start, total, BareEvent, Bool, CameFrom, CameFromAt, Contains, Frame, Game, Gives, IfSome, IsEnded, IsPlaceIn, IsSound, IsWalking, IsWellFormed, LegalPlace, List, Move, None, Option, Posed, Position, Precedes, RuleSet, Some, IsAtPathOf, Undo, Walks, [], after_well_formed, ap, append-nil, append_assoc, arith, array_vec_len, beginning_count, begins_solution, chess, cond, drop, eqb, event_of, false, false≢true, filter, filter-append, first_in, flat_map, flat_map-append, flat_map_single, from_filter, from_flat_map, from_map, game_of, get_or, half_moves, in_cases, in_flat_map, in_map, inl, inr, is_impossible_phase, is_followed, is_for_mate, is_emitted, is_help, is_legal, is_mate, may_be_made, is_some, kept_paths, later_in, length, length-append, length-reverse, length-take, map, map-append, map-id, min, moves_are_the_legal_moves, moves_in_order, nat_tests, nil_from_length, none_in_nil, not, pairs_flat_map, pairs_map, pairs_nil, pairs_of, pairs_weaker, path_end, path_event, phase_count, phase_half_moves, phase_paths, phase_start, mode_of, refl, reverse, rules, seeks_last, slice_get, solutions_by, subst, suc, sum_by, sym, take, true, undo_of, walk_length, zero, ℕ, ◌&&◌, ◌++◌, ◌+◌, ◌-◌, ◌<◌, ◌^◌, ◌||◌, ◌↔◌, ◌∙◌, ◌∷◌, ◌≡◌, ◌≢◌, ◌≤◌}
pub use Rattle.pop_walk.proofs.Words.{moves_after}
unfoldable pub use Rattle.pop_walk.proofs.Words.{AreCursors, IsLinked, IsRoomy, help_lines, lines_to_goal, path, position, set_tree, shown_paths, solutions, to_come, to_open, walk_count, walk_work, left_of}
pub use Rattle.std.proofs.Common.{codes}
pub use Rattle.pop_events.specs.declared.event.Phase.{Phase}
pub use Rattle.pop_parts.specs.PhaseParts.{begins_so, part_count, part_depth, part_numbered}
unfoldable pub use Rattle.pop_parts.specs.PhaseParts.{beginnings, begins_path, part_events, part_solutions, parts}
pub use Rattle.pop_walk.proofs.Sound.{in_range, no-battle, some_way, start_sound}
pub use Rattle.pop_parts.specs.ties.Items.{entry_in, is_failure, text_if}
pub use Rattle.pop_parts.specs.Parts.{entry_numbered, outcome_at, part_text, text_at}
unfoldable pub use Rattle.pop_parts.specs.Parts.{text_in}
pub use Rattle.pop_text.specs.declared.scanner.End.TheVariants.{Open}
pub use Rattle.pop_text.specs.ties.Reading.{IsEndSeen, failures_after}
pub use Rattle.pop_input.specs.ties.ReaderState.{NextItem, Reads, ReaderState, entries_left, initial_state, is_item, work_left}
pub use Rattle.pop_text.specs.Bytes.{Appends, Begins}
pub use Rattle.pop_text.specs.Words.{Input, Word}
unfoldable pub use Rattle.pop_text.specs.Words.{limit}
pub use Rattle.pop_input.specs.Blocks.{Entry, Faulty, Faulty as FaultyEntry, Sound, Sound as SoundEntry}
pub use Rattle.std.specs.List.{count_by, list_any}
pub use Rattle.pop_run.specs.Report.{entries_in, reports_device_failure}
unfoldable pub use Rattle.pop_run.specs.Report.{status_of}
pub use Rattle.pop_run.specs.Run.{closings, has_grown, input_met, taken_of}
pub use Rattle.pop_parts.specs.Runs.{Lists, ReadsItems, Shows}
pub use Rattle.pop_walk.proofs.theorems.Lists.{IsPlayable, StandsBefore, never_before_itself}
pub use Rattle.pop_walk.proofs.Paths.{cut-at, path-length, path-more, path_end-append, path_end-path, position-more, some-taken}
pub use Rattle.std.proofs.lemmas.List.{length-drop, take_all}
pub use Rattle.pop_walk.specs.declared.phases.Progress.{Progress}
pub use Rattle.pop_parts.specs.ties.PartsSeen.{IsPartOpened, part_walk}
pub use Rattle.pop_run.proofs.Findings.{IsPrinting, first_shown, printing_breaks_off, printing_goes_on}
pub use Rattle.chess_rules.specs.Legal.{moves as legal_moves}
pub use Rattle.chess_rules.specs.Play.{position_after}
pub use Rattle.pop_walk.proofs.Kept.{beginning_count-next, keep-next}
pub use Rattle.pop_input.specs.declared.item.Item.{Item}
pub use Rattle.pop_input.specs.ties.Used.{UsesEntry, UsesItem}
pub use Rattle.pop_run.proofs.Reached.{Reached, Stopped, item_reached, item_stops, last_few, reached_few, reached_start, start_few, still_more, stopped_last, stopped_reads_words, stops_few}
pub use Rattle.pop_run.proofs.Running.{all_to_come, any_more, grew_broken, grew_more, grew_same, reads_then}
