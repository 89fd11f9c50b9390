use Rattle.pop_battle.proofs.LastMoves.{AreTried, from_next}
use Rattle.pop_battle.proofs.Words.{Direct, IfSome, IsPlaceIn, Mate, chess, is_legal, legal_moves, length, position_after, smallest_tree, true, value, walk_count, ◌+◌, ◌≡◌}
use Rattle.pop_battle.specs.ties.Frames.{moves_unlooked}
use Rattle.pop_battle.proofs.last_defence.value_by_trial.Given as goal

abbrev pub invariant-loop-next : goal.invariant-loop-next
invariant-loop-next g l = (l.board ≡ l.fn.board) × IfSome l.cursor (IsPlaceIn g.R.Rules.rule l.fn.board)
    × IfSome l.next (λ m. is_legal g.R.Rules.rule l.fn.board m ≡ true)
    × AreTried Direct g.R.Rules.rule 1 l.fn.board (from_next l.next (moves_unlooked g.R.Rules.rule l.fn.board l.order l.move_stage l.cursor))
    (value Direct (chess Mate g.R.Rules.rule) 2 l.fn.board) l.fn.search_state.opened (smallest_tree Direct (chess Mate g.R.Rules.rule) 2 l.fn.board)
    (l.fn.search_state.opened + walk_count (legal_moves g.R.Rules.rule) (position_after g.R.Rules.rule) 2 l.fn.board) l.search_state.opened

abbrev pub decreases-loop-next : goal.decreases-loop-next
decreases-loop-next g l = length (from_next l.next (moves_unlooked g.R.Rules.rule l.fn.board l.order l.move_stage l.cursor))
