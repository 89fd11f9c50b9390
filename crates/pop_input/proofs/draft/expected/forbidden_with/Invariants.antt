use Rattle.pop_input.proofs.Words.{fold, is_castling_square, list_all, take, true, with_unmoved, ◌≡◌}
use Rattle.pop_input.proofs.draft.expected.forbidden_with.Given as goal

-- the squares so far are castling squares, and in the set
abbrev pub invariant-loop-square : goal.invariant-loop-square
invariant-loop-square l = record {
  all : list_all is_castling_square (take l.square-index l.squares) ≡ true;
  set : l.set ≡ fold with_unmoved l.fn.castling_forbidden (take l.square-index l.squares);
}
