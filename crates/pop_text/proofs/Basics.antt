-- Words and lemmas of the standard library and of the crates that most proofs name.
pub use Rattle.std.proofs.Common.{Bool, Err, List, None, Ok, Option, Result, Some, [], ap, append_assoc, arith, cond, count_by, drop, false, fold, get_or, if◌then◌else◌, inl, inr, length, length-append, length-drop, length-take, not, refl, replicate, rules, slice_index, slice_range, subst, suc, sym, take, true, zero, ℕ, ◌&&◌, ◌++◌, ◌+◌, ◌-◌, ◌<◌, ◌==◌, ◌∙◌, ◌∷◌, ◌≡◌, ◌≤◌, ◌⊎◌}
pub use Rattle.std.proofs.Math.Seq.{drop-append-add, drop-nil, take-add, take-append-add, take-append_seam, take-nil}
pub use Rattle.std.proofs.lemmas.Bool.{cases_lt, eqb-true, le-ltb, lt-ltb, ltb-false, ltb-true}
pub use Rattle.std.proofs.lemmas.List.{append-nil, append_cancel_right, drop-drop, drop-replicate, drop-take, drop_more, length-map, length-take-le, take-append-drop, take-append-le, take-take, take_all, take_rest}
pub use Rattle.std.proofs.lemmas.List.Folds.{fold_stuck, list_all-append}
pub use Rattle.std.proofs.lemmas.List.Sums.{sum_by-append}
pub use Rattle.std.specs.List.{list_all, slice_split, starts_with}
pub use Rattle.std.specs.Prelude.{codes, nat_eq, nat_lt, ◌||◌}
pub use Rattle.pop_text.specs.Bytes.{Appends, Begins, Consumes, Keeps, Writes}
pub use Rattle.pop_text.specs.Words.{Clean, Ending, Failed, Input, Long, Tail, TextLine, Token, Word, Words, is_blank, is_cut, is_gap, is_in_line, is_in_word, is_line_end, is_line_over, is_short_form, is_text_word, lines_tokens, onto_run, runs_of, tail_of, text_lines, tokens_from, tokens_of, without_leading, without_trailing, words_by}
unfoldable pub use Rattle.pop_text.specs.Words.{limit}
pub use Rattle.pop_text.specs.declared.read_fault.ReadFault.{ReadFault}
pub use Rattle.pop_text.specs.declared.read_fault.ReadFault.TheVariants.{Device, InputTooLong, TooLong}
pub use Rattle.pop_text.specs.declared.scanner.End.{End}
pub use Rattle.pop_text.specs.declared.scanner.End.TheVariants.{Broken, Ended, Open}
pub use Rattle.pop_text.specs.declared.text.Text.{Text}
pub use Rattle.pop_text.specs.ties.Left.{Advances, IsOver, MayFollow, NextWord, RestOfLine, Takes, TakesNone, TakesWord, among, after_word, found_by, found_of, onto_input, words_left}
pub use Rattle.pop_text.specs.ties.Plain.{ArePlain, IsPlain, RunsOut, Skips, is_named, is_plain}
pub use Rattle.pop_text.specs.ties.Reading.{AreFirst, CallsSource, IsFront, IsView, Leads, Reading, Uses, UsesAll, failures_after}
pub use Rattle.pop_text.specs.ties.Runs.{IsRunOver, ComesNext, RunsTo, HoldsAfterWord, Sticks, UsesLine, UsesRun, UsesSolid, UsesWhole, UsesWord}
pub use Rattle.pop_text.specs.ties.Texts.{IsPadded, padded_cells, with_byte}
