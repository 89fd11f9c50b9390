use Rattle.pop_parts.proofs.Words.{IsPrinting, drop, length, part_text, take, ◌+◌, ◌-◌, ◌≡◌, ◌≤◌}
use Rattle.pop_parts.proofs.show.print_parts_from.Given as goal

-- the parts so far are printed, and the last ones are still to come
abbrev pub invariant-loop-left : goal.invariant-loop-left
invariant-loop-left g l = record {
  problem : l.parts.problem ≡ l.fn.parts.problem;
  phase : l.parts.phase ≡ l.fn.parts.phase;
  printing : IsPrinting (part_text g.R.Rules.rule l.fn.parts.problem l.fn.parts.phase) (take l.count (drop (l.first - 1) l.fn.parts.left))
      (take l.left (drop (l.number - 1) l.parts.left)) (g.W.Sink.taken l.fn.sink) (g.W.Sink.taken l.sink);
  some : 1 ≤ l.number;
  there : l.number + l.left ≤ length l.parts.left + 1;
  counted : g.W.Sink.failures l.sink ≡ g.W.Sink.failures l.fn.sink;
}

abbrev pub decreases-loop-left : goal.decreases-loop-left
decreases-loop-left g l = l.left
