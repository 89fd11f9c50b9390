use Rattle.pop_walk.proofs.Words.{HoldsAtProgress, events_after, left_of, refl, rules}
use Rattle.pop_walk.proofs.Events as events
use Rattle.pop_walk.proofs.Opened as opened
use Rattle.pop_walk.specs.ties.Counts.{least_if, untried_at}
use Rattle.pop_walk.proofs.phases.advance.Goals as goal

pub returns-in-NotPossible-clause-counts : goal.returns-in-NotPossible-clause-counts
unfolding least_if untried_at
returns-in-NotPossible-clause-counts g c = search rules

pub returns-in-After-clause-counts : goal.returns-in-After-clause-counts
unfolding least_if untried_at
returns-in-After-clause-counts g c = search rules

pub returns-in-First : goal.returns-in-First
returns-in-First g c = record {
  standing = search rules;
  gives = rw c.in-First.is (search rules);
  counts = rw c.in-First.is (opened.counts-first g.R.Rules.rule c.args.problem.now c.in-First.walk _ c.first_event-next.ensures.progress _ _ _);
}

pub count_with-count-requires-clause-begins : goal.count_with-count-requires-clause-begins
unfolding HoldsAtProgress
count_with-count-requires-clause-begins g c =
    let is = (rw c.in-Within.is at c.requires.standing).2 in
    let w = events.walks-are c.args.problem.now c.in-Within.walk is _ _ _ _ _ _ _ c.if-walk_on.ensures.walks in
    search (rules, events.room-given, w)

pub event_at-requires : goal.event_at-requires
unfolding HoldsAtProgress
event_at-requires g c =
    let is = (rw c.in-Within.is at c.requires.standing).2 in
    let w = events.walks-are c.args.problem.now c.in-Within.walk is _ _ _ _ _ _ _ c.if-walk_on.ensures.walks in
    search (rules, events.mode-is, events.deep-given, events.shallow-given, w)

pub returns-then-walk_on : goal.returns-then-walk_on
unfolding HoldsAtProgress left_of
returns-then-walk_on g c =
    let stands = rw c.in-Within.is at c.requires.standing in
    let walk = c.in-Within.walk in
    let w = events.walks-are c.args.problem.now walk stands.2 _ _ _ _ _ _ _ c.if-walk_on.ensures.walks in
    let mode = events.mode-is c.args.problem.now walk stands.2 in
    let half_moves = events.half_moves-are c.args.problem.now walk stands.2 in
    let deep = events.deep-given g.R.Rules.rule c.args.problem.now walk _ _ _ _ stands.1 w in
    record {
      standing = search (rules, events.room-given, w);
      gives = rw c.in-Within.is (events.found-gives g.R.Rules.rule c.args.problem.now walk _ _ deep w.walking _ _ w _ (search rules) _ (search rules) _
          (search rules));
      counts = rw c.in-Within.is (opened.counts-given g.R.Rules.rule c.args.problem.now _ walk _ _ _ _ _
          (rw (mode, half_moves) at c.walk_on.ensures.counts) _ _ _ (search rules));
    }

pub returns-else-walk_on : goal.returns-else-walk_on
unfolding HoldsAtProgress left_of
returns-else-walk_on g c =
    let stands = rw c.in-Within.is at c.requires.standing in
    let walk = c.in-Within.walk in
    let w = events.walks-are c.args.problem.now walk stands.2 _ _ _ _ _ _ _ c.if-walk_on.ensures.walks in
    let mode = events.mode-is c.args.problem.now walk stands.2 in
    let half_moves = events.half_moves-are c.args.problem.now walk stands.2 in
    record {
      standing = search rules;
      gives = rw c.in-Within.is (events.ended-gives g.R.Rules.rule c.args.problem.now walk _ _ _ _ w _ c.end.ensures.progress _ _ c.total.ensures _ _);
      counts = rw (c.in-Within.is, events.left-ended g.R.Rules.rule c.args.problem.now walk _ _ _ _ w) (opened.counts-ended g.R.Rules.rule
          c.args.problem.now _ walk _ _ _ _ _ (rw (mode, half_moves) at c.walk_on.ensures.counts) _ _
          (events_after g.R.Rules.rule c.args.problem.now walk) c.end.ensures.progress
          stands.1 (w.over refl));
    }
