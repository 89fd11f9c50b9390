use Rattle.pop_tries.proofs.Words.{legal_moves, filter, sym, works, ◌∙◌, position_after}
use Rattle.pop_battle.specs.Chess.{set_start}
use Rattle.pop_tries.specs.Events.{chess_passing}
use Rattle.pop_tries.specs.ties.Contests.{game_in, moves_of, wins_within}
use Rattle.pop_tries.proofs.Contests.{defence_by_loop}
use Rattle.pop_tries.proofs.FewPlaces.{some_fails}
use Rattle.pop_tries.proofs.threats.stops_few.Goals as goal

pub returns-clause-defence : goal.returns-clause-defence
returns-clause-defence g c =
    let rule = g.R.Rules.rule in
    let q = c.args.desk.now.board in
    let t = c.requires.threat in
    let after = position_after rule q c.args.by in
    let test = works c.args.contest.battle (game_in rule c.args.contest) c.args.contest.stipulation.n (chess_passing rule) (moves_of c.args.threat.length) after in
    rw (c.all_work-still.ensures.works, c.play-undo.ensures.after) (some_fails test c.args.threat.places
    (filter (wins_within rule c.args.contest c.args.threat.length (set_start q)) (legal_moves rule (set_start q))) t.places c.requires.few
    ∙ sym (defence_by_loop rule c.args.contest q c.args.threat.length c.args.by t.timed))
