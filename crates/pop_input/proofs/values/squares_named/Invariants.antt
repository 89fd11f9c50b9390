use Rattle.pop_input.proofs.Words.{drop, length, squares_from, squares_named, ◌*◌, ◌-◌, ◌≡◌, ◌≤◌}
use Rattle.pop_input.proofs.Parsing.{with_front}
use Rattle.pop_input.proofs.values.squares_named.Given as goal

-- the squares of the bytes before `at` are listed
abbrev pub invariant-loop-at : goal.invariant-loop-at
invariant-loop-at l = record {
  within : l.at ≤ length l.word;
  room : 2 * length l.squares.items ≤ l.at;
  rest : squares_named l.word ≡ with_front l.squares.items (squares_from (drop l.at l.word));
}

-- fewer bytes are left to read
abbrev pub decreases-loop-at : goal.decreases-loop-at
decreases-loop-at l = length l.word - l.at
