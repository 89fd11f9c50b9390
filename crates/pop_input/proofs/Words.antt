-- Words and lemmas of the standard library and of the crates that most proofs name.
pub use Rattle.std.proofs.Common.{Bool, Err, IsSome, List, None, Ok, Option, Result, Some, [], ap, append_assoc, arith, cond, count_by, drop, false, fold, get_or, if◌then◌else◌, inl, inr, is_some, length, length-append, map, not, refl, replicate, rules, subst, suc, sym, take, true, zero, ℕ, ◌&&◌, ◌*◌, ◌++◌, ◌+◌, ◌-◌, ◌<◌, ◌==◌, ◌∙◌, ◌∷◌, ◌≡◌, ◌≤◌, ◌⊎◌}
pub use Rattle.std.proofs.lemmas.Bool.{and_parts, cases_Bool, cases_eq, cases_lt, cond-false, cond-true, eq-eqb, lt-ltb, ne_eqb}
pub use Rattle.std.proofs.lemmas.List.{append-nil, drop_all, drop_more, get_or_at, length-map, length-set, set_past}
pub use Rattle.std.proofs.lemmas.List.Folds.{list_all-append}
pub use Rattle.std.specs.Char.{to_ascii_lowercase}
pub use Rattle.std.specs.List.{flat_map, list_all, list_any, onto_first, repeat, slice_split, starts_with}
pub use Rattle.std.specs.Prelude.{MatchResult, codes, nat_eq, option_map}
pub use Rattle.chess_core.specs.Castling.{castling_squares, is_castling_square, with_unmoved}
unfoldable pub use Rattle.chess_core.specs.Castling.{has_unmoved, mark_unmoved, none_unmoved}
pub use Rattle.chess_core.specs.Diagrams.{Diagram, has_men}
unfoldable pub use Rattle.chess_core.specs.Diagrams.{is_taken, is_man_on, position_of, has_man}
pub use Rattle.chess_core.specs.Position.{HasNoKing, is_man, man_on, other, same_kind, with_man}
unfoldable pub use Rattle.chess_core.specs.Position.{king_square}
pub use Rattle.chess_core.specs.WellFormed.{IsWellFormed, is_pawn_inside}
unfoldable pub use Rattle.chess_core.specs.WellFormed.{is_en_passant_square_right, is_home}
pub use Rattle.chess_core.specs.declared.man.Colour.{Colour}
pub use Rattle.chess_core.specs.declared.man.Kind.{Kind}
pub use Rattle.chess_core.specs.declared.man.Kind.TheVariants.{King, Rook}
pub use Rattle.chess_core.specs.declared.man.Man.{Man}
unfoldable pub use Rattle.chess_attacks.specs.Attacks.{attacks_like, is_attacked_by_like, in_check, is_attacked, is_paralysed, is_attacker}
pub use Rattle.pop_text.proofs.Left.{longer, no_short_form}
pub use Rattle.pop_text.proofs.Plain.{plain_no_closing, takes_none}
pub use Rattle.pop_text.proofs.Using.{calls_none, calls_then, consumes_then, uses_none, uses_then}
pub use Rattle.pop_text.specs.Words.{Clean, Ending, Failed, Input, Long, Tail, TextLine, Token, Word, Words, is_cut, is_line_end, is_short_form, is_text_word, lines_tokens, runs_of, text_of_line, tokens_of, words_by, words_from, words_of}
unfoldable pub use Rattle.pop_text.specs.Words.{limit}
pub use Rattle.pop_text.specs.declared.read_fault.ReadFault.{ReadFault}
pub use Rattle.pop_text.specs.declared.read_fault.ReadFault.TheVariants.{Device, TooLong}
pub use Rattle.pop_text.specs.ties.Left.{Advances, IsOver, MayFollow, RestOfLine, ScannerSpot, Takes, TakesNone, TakesWord, among, after_word, no_words, onto_input, put_before, words_left}
pub use Rattle.pop_text.specs.ties.Plain.{Skips, is_named, is_plain}
pub use Rattle.pop_text.specs.ties.Reading.{CallsSource, Reading, Uses, UsesAll}
pub use Rattle.pop_text.specs.ties.Runs.{IsRunOver, ComesNext, Sticks, UsesLine, UsesRun, UsesWord}
pub use Rattle.pop_input.specs.Blocks.{Entry, Sound, before_blocks, block_entries, block_fault, blocks_of, closed_entry, closes_none, closing_line, closing_of, entries_by, entries_of, entry_of, first_fault, has_begun, last_text, judged_entry, line_of, entries_after_fault, end_fault, text_after, tokens_inside, words_in}
unfoldable pub use Rattle.pop_input.specs.Blocks.{posed_entry}
pub use Rattle.pop_input.specs.Ends.{ArePut, has_castling_rights, diagram_fault, diagram_of, posed_of, position_fault}
unfoldable pub use Rattle.pop_input.specs.Ends.{castling_rights_of}
pub use Rattle.pop_input.specs.FaultKinds.{at_line, fault_at, is_device_failure, number_of}
pub use Rattle.pop_input.specs.Names.{closes, or_else}
unfoldable pub use Rattle.chess_core.specs.KindNames.{kind_of}
unfoldable pub use Rattle.pop_input.specs.Names.{expected_of, colour_of, command_of, condition_of, option_of, section_of, text_word_of}
pub use Rattle.pop_input.specs.Posed.{rule_of}
pub use Rattle.pop_input.specs.Drafts.{Draft, no_men, empty_draft, put_men, draft_after, draft_of}
pub use Rattle.pop_stipulation.specs.Stipulations.{has_king_to_mate, starting_side}
pub use Rattle.pop_input.specs.Values.{before_squares, is_digit, most_solutions, square_by, squares_from, stipulation_in_small_letters, value_of}
unfoldable pub use Rattle.pop_input.specs.Values.{limit_of, squares_named, stipulation_of}
pub use Rattle.pop_input.specs.WordFaults.{forbidden_fault, begin_fault, condition_fault, control_fault, fault_if, fault_of, letter_fault, man_fault, men_fault, pieces_fault, put_fault, role_fault, stipulation_fault}
pub use Rattle.pop_input.specs.declared.block.Block.{Block}
pub use Rattle.pop_input.specs.declared.fault_kind.FaultKind.{FaultKind}
pub use Rattle.pop_input.specs.declared.fault_kind.FaultKind.TheVariants.{BadLimit, BadStipulation, BeginProblemMissing, ColourMissing, DeviceFailed, EnPassantImpossible, EndProblemMissing, KingMissing, NoMen, NoneCastlesThere, PawnOnOuterRank, SecondCondition, SecondKing, SecondStipulation, SquareMissing, SquareTaken, StipulationMissing, WaitingSideInCheck, WordMisplaced, WordTooLong}
pub use Rattle.pop_input.specs.declared.item.Fault.{Fault}
pub use Rattle.pop_input.specs.declared.item.Item.{Item}
pub use Rattle.pop_input.specs.declared.item.Last.TheVariants.{No, Yes}
pub use Rattle.pop_input.specs.declared.names.Command.{Command}
pub use Rattle.pop_input.specs.declared.names.Command.TheVariants.{Enter}
pub use Rattle.pop_input.specs.declared.names.TextWord.{TextWord}
pub use Rattle.pop_input.specs.declared.reader.Next.TheVariants.{First, Later, Nothing}
pub use Rattle.pop_stipulation.specs.declared.stipulation.Stipulation.{Stipulation}
pub use Rattle.pop_input.specs.ties.Closings.{IsNew, ReadsWord, TakesLine, cut_fault, ended_by, ended_item, entry_now, item_of, last_of, noted_text, draft_of_next, text_with, item_of_cut}
pub use Rattle.pop_input.specs.ties.ReaderState.{HasFailed, NextItem, Reads, ReaderState, entries_at, entries_left, next_after}
pub use Rattle.pop_input.specs.ties.Tokens.{CutsOff, NextToken, TakesNothing, TakesPart, UsesSome, UsesToken}
pub use Rattle.pop_input.specs.ties.Used.{IsClosed, IsInputOver, IsUnclosed, UsesEntry, UsesItem, UsesTokens}
