use Rattle.pop_text.proofs.Basics.{count_by, is_line_end, take, ◌≡◌, ◌≤◌}
use Rattle.pop_text.proofs.front.line_ends_in.Given as goal

-- the line ends so far
abbrev pub invariant-loop-byte : goal.invariant-loop-byte
invariant-loop-byte l = record { lines : l.ends ≡ count_by is_line_end (take l.byte-index l.block); few : l.ends ≤ l.byte-index }
