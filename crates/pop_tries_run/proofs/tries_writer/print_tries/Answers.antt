use Rattle.std.proofs.Common.{refl, sym, ◌∙◌}
use Rattle.std.proofs.lemmas.Result.{err_from_is_err_and}
use Rattle.pop_print.specs.Tries.{try_event_text}
use Rattle.pop_run.proofs.Findings.{first_shown, printing_breaks_off, printing_goes_on, printing_starts}
use Rattle.pop_tries.specs.Shown.{try_event_of}
use Rattle.pop_tries_run.proofs.tries_writer.print_tries.Goals as goal

pub loop-event-init : goal.loop-event-init
loop-event-init g c = record {
  problem = c.start_search-search.ensures.problem;
  printing = rw c.start_search-search.ensures.left (printing_starts try_event_text _ (g.W.Sink.taken c.args.sink.now));
  counted = refl;
}

pub loop-event-preserved : goal.loop-event-preserved
loop-event-preserved g c =
    let i = c.loop-event.invariant in
    let first = first_shown (try_event_of g.R.Rules.rule c.args.problem.now) c.loop-event.search.left c.next.new.self.left c.in-Some.event
    (rw i.problem at (sym c.in-Some.is ∙ c.next.ensures.event)) c.next.ensures.left in
    record {
      problem = c.next.ensures.problem ∙ i.problem;
      printing = printing_goes_on try_event_text _ _ c.in-Some.event _ _ _ (rw first at i.printing) (c.in_ok-print_try_event.ensures.bytes);
      counted = c.in_ok-print_try_event.ensures.counted ∙ i.counted;
    }

pub returns-in_err-print_try_event-clause-bytes : goal.returns-in_err-print_try_event-clause-bytes
returns-in_err-print_try_event-clause-bytes g c =
    let i = c.loop-event.invariant in
    let first = first_shown (try_event_of g.R.Rules.rule c.args.problem.now) c.loop-event.search.left c.next.new.self.left c.in-Some.event
    (rw i.problem at (sym c.in-Some.is ∙ c.next.ensures.event)) c.next.ensures.left in
    let p = err_from_is_err_and c.from_residual.result c.from_residual.ensures.1 in
    rw p.1 (rw (← c.requires.rules) (printing_breaks_off try_event_text _ _ c.in-Some.event _ _ _ (rw first at i.printing) c.in_err-print_try_event.ensures.bytes))
