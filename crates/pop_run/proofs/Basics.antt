-- Words and lemmas of the standard library and of the crates that most proofs name.
pub use Rattle.std.proofs.Common.{Bool, Err, IfSome, List, None, Ok, Option, Result, Some, [], ap, append_assoc, ap₂, arith, codes, count_by, drop, false, get_or, if◌then◌else◌, inl, length, length-append, map, not, option_map, refl, rules, suc, sym, take, true, ℕ, ◌++◌, ◌+◌, ◌-◌, ◌<◌, ◌^◌, ◌||◌, ◌∙◌, ◌∷◌, ◌≡◌, ◌≢◌, ◌≤◌}
pub use Rattle.std.proofs.lemmas.List.{append-nil, append_cancel_right, length-take}
pub use Rattle.std.proofs.lemmas.Result.{IfErr-weaker, IfOk-weaker, err_from_is_err_and}
pub use Rattle.std.specs.List.{enumerate_from, flat_map, list_any}
pub use Rattle.std.specs.Prelude.{IfErr, IfOk, is_err, slice_get, string_bytes}
pub use Rattle.pop_input.specs.Blocks.{Entry, entries_of}
pub use Rattle.pop_input.specs.ties.ReaderState.{Reads, ReaderState, entries_left, work_left}
pub use Rattle.pop_print.specs.Events.{event_text}
pub use Rattle.pop_walk.specs.Events.{event_of, events}
unfoldable pub use Rattle.pop_walk.specs.Events.{events_of}
pub use Rattle.pop_text.proofs.Appending.{appends_kept, appends_none, appends_then, begins_later, begins_longer, writes_then}
pub use Rattle.pop_text.proofs.Using.{consumes_then, failures_then}
pub use Rattle.pop_text.specs.Bytes.{Appends, Begins, Consumes, Writes}
pub use Rattle.pop_text.specs.Words.{Clean, Ending, Failed, Input, Words, is_line_end, words_from, words_of}
unfoldable pub use Rattle.pop_text.specs.Words.{limit}
pub use Rattle.pop_text.specs.declared.scanner.End.{End}
pub use Rattle.pop_text.specs.declared.scanner.End.TheVariants.{Broken, Ended, Open}
pub use Rattle.pop_text.specs.ties.Left.{MayFollow, onto_input, put_before}
pub use Rattle.pop_text.specs.ties.Reading.{IsEndSeen, failures_after}
pub use Rattle.pop_run.specs.Report.{Choice, ItemText, choice_of, entry_text, is_faulty, report, report_by, report_from, reports_device_failure}
unfoldable pub use Rattle.pop_run.specs.Report.{entries_in, entry_text_by, status_of}
pub use Rattle.pop_run.specs.Run.{Runs, RunsBy, has_grown, input_met, taken_of}
pub use Rattle.pop_run.specs.declared.status.Status.TheVariants.{Faulty, InputFailed, OutputFailed, Sound}
pub use Rattle.pop_run.specs.declared.status.Step.TheVariants.{Finished, Problem}
pub use Rattle.pop_run.specs.ties.Sessions.{RunState, Steps, TakesItem, first_state, status_with, step_of}
