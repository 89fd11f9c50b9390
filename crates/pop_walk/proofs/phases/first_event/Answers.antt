use Rattle.pop_walk.proofs.Words.{HoldsAtProgress, arith, length, length-reverse, refl, ◌≤◌}
use Rattle.pop_walk.proofs.Events as events
use Rattle.pop_walk.proofs.phases.first_event.Goals as goal

pub event_at-event-requires : goal.event_at-event-requires
unfolding HoldsAtProgress
event_at-event-requires g c =
    let s = c.requires.standing in
    let mode = events.mode-is c.args.problem.now c.args.walk s.1 in
    let deep : 2 ≤ length c.args.frames.now = omega (arith, length-reverse c.args.frames.now, s.2) in
    record {
      mode = mode;
      deep = deep;
      shallow = events.first-shallow g.R.Rules.rule c.args.problem.now c.args.walk c.args.frames.now _ deep s.0 c.requires.sound;
      walking = (_, s.0);
      ended = rw mode s.3;
    }

pub returns : goal.returns
unfolding HoldsAtProgress
returns g c =
    let s = c.requires.standing in
    let deep : 2 ≤ length c.args.frames.now = omega (arith, length-reverse c.args.frames.now, s.2) in
    record {
      standing = rw c.event_at-event.ensures.unchanged
          (s.0, events.first-most c.args.problem.now c.requires.sound _ _ c.count_with-count.ensures, s.1);
      gives = events.first-gives g.R.Rules.rule c.args.problem.now c.args.walk c.args.frames.now _ deep s.0 c.requires.sound _
          c.count_with-count.ensures _ c.event_at-event.ensures.unchanged _ c.event_at-event.ensures.event;
      progress = (_, refl);
    }
