use Rattle.pop_walk.proofs.Words.{IsWalking, IsWellFormed, Position, array_vec_len, path, position, reverse, moves_shown, take, ℕ, ◌+◌, ◌≡◌}
use Rattle.pop_walk.proofs.showing.line.Given as goal

abbrev pub invariant-loop-k : goal.invariant-loop-k
invariant-loop-k g l = ((h : ℕ) (p : Position) → IsWalking g.R.Rules.rule h p (reverse l.frames) l.fn.board
    → (l.line.items ≡ moves_shown l.mode.goal g.R.Rules.rule p (path (reverse (take l.k l.frames))))
    × (l.board ≡ position g.R.Rules.rule p (reverse (take l.k l.frames)))) × IsWellFormed l.board × (array_vec_len l.line + 1 ≡ l.k)
