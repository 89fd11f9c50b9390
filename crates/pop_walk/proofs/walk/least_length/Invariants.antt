use Rattle.pop_walk.proofs.Words.{HasCounted, chess, fewest_half_moves, least_length_from, ◌+◌, ◌-◌, ◌/◌, ◌≡◌, ◌≤◌}
use Rattle.pop_walk.proofs.walk.least_length.Given as goal

abbrev pub invariant-loop-aim : goal.invariant-loop-aim
invariant-loop-aim g l = (least_length_from l.aim.battle (chess l.aim.goal g.R.Rules.rule) l.board ((l.left - l.tried) / 2) l.tried
    ≡ least_length_from l.aim.battle (chess l.aim.goal g.R.Rules.rule) l.fn.board ((l.left - fewest_half_moves l.aim.battle) / 2)
    (fewest_half_moves l.aim.battle)) × (l.board ≡ l.fn.board)
    × (l.frames.items ≡ l.fn.frames.items) × (l.tried ≤ l.left + 2) × HasCounted l.fn.search_state.opened l.search_state.opened 0

abbrev pub decreases-loop-aim : goal.decreases-loop-aim
decreases-loop-aim g l = l.left + 2 - l.tried
