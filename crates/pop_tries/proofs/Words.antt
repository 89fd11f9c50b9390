-- Definitions and lemmas of the standard library and of other crates that most proofs use.
pub use Rattle.pop_walk.proofs.Words.{AllPairs, AllPairs-filter, Battle, Bool, Contains, Contains-append_cases, Direct, Game, Goal, IsSound, IsWellFormed, List, Move, None, Option, Play, Posed, Position, Precedes, RuleSet, SelfMate, Set, Some, [], after_well_formed, and_parts, ap, arith, battle_of, best_moves, can_move, cases_lt, chess, cond, eqb, every_move, false, false≢true, filter, first_in, flat_map, from_filter, from_flat_map, from_map, game_of, half_moves, in_cases, in_filter, in_flat_map, in_map, inl, inr, is_goal_reached, is_in_set_play, keeps_win, later_in, least_moves, legal_moves, length, length-append, list_all, list_any, map, moves_are_the_legal_moves, moves_differ, moves_in_order, nat_tests, node, none_in_nil, not, or_cases, pairs_append, pairs_flat_map, pairs_front, pairs_map, pairs_nil, pairs_of, pairs_weaker, play_start, position_after, refl, rules, some_move, subst, suc, sym, take, take-append-drop, drop, true, wins_in, zero, ℕ, ◌&&◌, ◌++◌, ◌+◌, ◌-◌, ◌<◌, ◌||◌, ◌↔◌, ◌∙◌, ◌∷◌, ◌≡◌, ◌≢◌, ◌≤◌, ◌⊎◌}
unfoldable pub use Rattle.pop_walk.proofs.Words.{continuations, is_legal, is_lost, is_self_lost, nodes_below, phase_events, self_wins, set_tree, wins}
pub use Rattle.std.specs.Prelude.{nat_le}
pub use Rattle.pop_tries.specs.Tries.{Below, Passing, below_reply, but, check, faced, has_threat, is_defence, is_direct, is_try, refutation_count, stalemate, stalemates, refutation, refutations, reply, reply_nodes, shown_refutations, shown_replies, threat, threat_nodes, threatened, threats, works, zugzwang}
unfoldable pub use Rattle.pop_tries.specs.Tries.{below_first}
pub use Rattle.pop_tries.specs.Events.{BareTryEvent, attempt, attempt_events, below, chess_passing, events_of_tries, key, key_events, key_moves, key_total, keys, no_tries, play_events, set_event, shown_below, tries, try_moves, try_total}
unfoldable pub use Rattle.pop_tries.specs.Events.{try_events}
pub use Rattle.chess_rules.proofs.Members.{pairs_later}
pub use Rattle.chess_rules.proofs.LegalMoves.{may_be_made}
pub use Rattle.std.proofs.lemmas.List.Elements.{filter_agree}
pub use Rattle.std.proofs.lemmas.List.Elements.{Contains-append_left}
pub use Rattle.std.proofs.lemmas.List.{length-map}
unfoldable pub use Rattle.pop_walk.proofs.Words.{solutions}
