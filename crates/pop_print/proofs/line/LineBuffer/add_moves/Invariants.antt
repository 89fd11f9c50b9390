use Rattle.std.proofs.Common.{◌≡◌, ◌≤◌, ◌+◌, ◌*◌, ◌++◌, drop, length, true}
use Rattle.pop_print.specs.Events.{moves_text}
use Rattle.pop_print.proofs.line.LineBuffer.add_moves.Given as goal

-- what is added so far, and what the moves from here on add
abbrev pub invariant-loop-shown : goal.invariant-loop-shown
invariant-loop-shown g l = record {
  text : l.self ++ moves_text l.first l.number (drop l.shown-index l.moves) ≡ l.fn.self ++ moves_text true l.fn.half l.moves;
  short : length l.self ≤ length l.fn.self + 44 * l.shown-index;
  number : l.number ≡ l.fn.half + l.shown-index;
}
