use Rattle.pop_run.proofs.Basics.{ap, err_from_is_err_and, event_of, event_text, events_of, map, refl, sym, ◌∙◌}
use Rattle.pop_run.proofs.Findings.{printing_starts, printing_goes_on, printing_breaks_off, events_under, first_shown}
use Rattle.pop_run.proofs.solutions.print_solutions.Goals as goal

pub loop-event-init : goal.loop-event-init
loop-event-init g c =
    let rule = g.R.Rules.rule in
    let posed = c.args.problem.now in
    let all = events_under rule posed c.requires.rules ∙ ap (map (event_of rule posed)) (sym c.start_search-search.ensures.left) in
    record {
      problem = c.start_search-search.ensures.problem;
      printing = rw (← all) (printing_starts event_text (events_of posed) (g.W.Sink.taken c.args.sink.now));
      counted = refl;
    }

pub loop-event-preserved : goal.loop-event-preserved
loop-event-preserved g c =
    let i = c.loop-event.invariant in
    let rule = g.R.Rules.rule in
    let posed = c.args.problem.now in
    let first = first_shown (event_of rule posed) c.loop-event.search.left c.next.new.self.left c.in-Some.event
    (rw i.problem at (sym c.in-Some.is ∙ c.next.ensures.event)) c.next.ensures.left in
    record {
      problem = c.next.ensures.problem ∙ i.problem;
      printing = printing_goes_on event_text (events_of posed) _ c.in-Some.event _ _ _ (rw first at i.printing) (c.in_ok-print_event.ensures.bytes);
      counted = c.in_ok-print_event.ensures.counted ∙ i.counted;
    }

pub returns-in_err-print_event-clause-bytes : goal.returns-in_err-print_event-clause-bytes
returns-in_err-print_event-clause-bytes g c =
    let i = c.loop-event.invariant in
    let rule = g.R.Rules.rule in
    let posed = c.args.problem.now in
    let first = first_shown (event_of rule posed) c.loop-event.search.left c.next.new.self.left c.in-Some.event
    (rw i.problem at (sym c.in-Some.is ∙ c.next.ensures.event)) c.next.ensures.left in
    let p = err_from_is_err_and c.from_residual.result c.from_residual.ensures.1 in
    rw p.1 (printing_breaks_off event_text (events_of posed) _ c.in-Some.event _ _ _ (rw first at i.printing) c.in_err-print_event.ensures.bytes)
