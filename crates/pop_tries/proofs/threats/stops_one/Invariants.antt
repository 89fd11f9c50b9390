use Rattle.pop_tries.proofs.Words.{filter, keeps_win, legal_moves, length, list_any, not, position_after, works, ◌≡◌}
use Rattle.pop_battle.specs.Chess.{set_start}
use Rattle.pop_tries.specs.Events.{chess_passing}
use Rattle.pop_tries.specs.ties.Contests.{game_in, moves_of}
use Rattle.std.specs.Prelude.{IfSome}
use Rattle.chess_rules.specs.ties.Places.{IsPlaceIn, moves_after}
use Rattle.pop_tries.proofs.threats.stops_one.Given as goal

-- Black has passed; whether the reply stops a threat depends on the threats still to come
abbrev pub invariant-loop-tried : goal.invariant-loop-tried
invariant-loop-tried g l = (l.desk.board ≡ set_start l.fn.desk.board) × (l.crossed ≡ l.fn.desk.board.crossed) × (l.desk.frames.items ≡ l.fn.desk.frames.items)
    × IfSome l.cursor (λ k. IsPlaceIn g.R.Rules.rule (set_start l.fn.desk.board) k)
    × (list_any (λ t. not (works l.fn.contest.battle (game_in g.R.Rules.rule l.fn.contest) l.fn.contest.stipulation.n (chess_passing g.R.Rules.rule)
    (moves_of l.threat.length) (position_after g.R.Rules.rule l.fn.desk.board l.fn.by) t))
    (filter (λ m. keeps_win l.fn.contest.battle (game_in g.R.Rules.rule l.fn.contest) (moves_of l.threat.length)
    (position_after g.R.Rules.rule (set_start l.fn.desk.board) m)) (moves_after g.R.Rules.rule (set_start l.fn.desk.board) l.place))
    ≡ list_any (λ t. not (works l.fn.contest.battle (game_in g.R.Rules.rule l.fn.contest) l.fn.contest.stipulation.n (chess_passing g.R.Rules.rule)
    (moves_of l.threat.length) (position_after g.R.Rules.rule l.fn.desk.board l.fn.by) t))
    (filter (λ m. keeps_win l.fn.contest.battle (game_in g.R.Rules.rule l.fn.contest) (moves_of l.threat.length)
    (position_after g.R.Rules.rule (set_start l.fn.desk.board) m)) (legal_moves g.R.Rules.rule (set_start l.fn.desk.board))))

abbrev pub decreases-loop-tried : goal.decreases-loop-tried
decreases-loop-tried g l = length (moves_after g.R.Rules.rule (set_start l.fn.desk.board) l.place)
