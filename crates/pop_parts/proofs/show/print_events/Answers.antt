use Rattle.pop_parts.proofs.Words.{event_of, first_shown, printing_breaks_off, printing_goes_on, sym, ◌∙◌}
use Rattle.std.proofs.lemmas.Result.{err_from_is_err_and}
use Rattle.pop_print.specs.Events.{event_text}
use Rattle.pop_parts.proofs.show.print_events.Goals as goal

pub loop-event-preserved : goal.loop-event-preserved
loop-event-preserved g c =
    let i = c.loop-event.invariant in
    let rule = g.R.Rules.rule in
    let first = first_shown (event_of rule c.args.search.now.problem) c.loop-event.search.left c.next.new.self.left c.in-Some.event
    (rw i.problem at (sym c.in-Some.is ∙ c.next.ensures.event)) c.next.ensures.left in
    record {
      problem = c.next.ensures.problem ∙ i.problem;
      printing = printing_goes_on event_text _ _ c.in-Some.event _ _ _ (rw first at i.printing) (c.in_ok-print_event.ensures.bytes);
      counted = c.in_ok-print_event.ensures.counted ∙ i.counted;
    }

pub returns-in_err-print_event-clause-bytes : goal.returns-in_err-print_event-clause-bytes
returns-in_err-print_event-clause-bytes g c =
    let i = c.loop-event.invariant in
    let rule = g.R.Rules.rule in
    let first = first_shown (event_of rule c.args.search.now.problem) c.loop-event.search.left c.next.new.self.left c.in-Some.event
    (rw i.problem at (sym c.in-Some.is ∙ c.next.ensures.event)) c.next.ensures.left in
    let p = err_from_is_err_and c.from_residual.result c.from_residual.ensures.1 in
    rw p.1 (printing_breaks_off event_text _ _ c.in-Some.event _ _ _ (rw first at i.printing) c.in_err-print_event.ensures.bytes)
