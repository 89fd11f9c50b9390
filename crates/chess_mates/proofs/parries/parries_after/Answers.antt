use Rattle.chess_mates.proofs.Chess.{Move, ap, rules}
use Rattle.chess_mates.proofs.Parrying.{no_mate_where_interposed, no_mate_where_some_capture, parriless}
use Rattle.chess_mates.proofs.parries.parries_after.Goals as goal

pub returns-then-loose-ne0 : goal.returns-then-loose-ne0
returns-then-loose-ne0 g c =
    no_mate_where_some_capture g.R.Rules.rule c.args.board.now c.args.m c.in-Some.man c.in-Some-king_of.king c.requires.well_formed c.requires.pseudo
    (search rules) (c.are_parries_known.ensures (search rules)) (search rules) (search rules) c.occupancy_after-occupancy.result (search rules)
    c.attackers_in-capturers.result _ (rw (c.other-enemy.ensures, c.turn.ensures, ap (λ (m : Move). m.to) c.m.view_is) at c.attackers_in-capturers.ensures)
    c.unpinned_squares-unpinned.ensures (search rules)

pub returns-in-Possible : goal.returns-in-Possible
returns-in-Possible g c =
    no_mate_where_interposed g.R.Rules.rule c.args.board.now c.args.m c.in-Some.man c.in-Some-king_of.king c.requires.well_formed c.requires.pseudo
    (search rules) (c.are_parries_known.ensures (search rules)) (search rules) (search rules) c.occupancy_after-occupancy.result (search rules) _ (search rules)
    (λ men seen. c.parries_between.ensures men seen c.unpinned_squares-unpinned.ensures)

pub returns-in-Impossible : goal.returns-in-Impossible
returns-in-Impossible g c =
    parriless g.R.Rules.rule c.args.board.now c.args.m c.in-Some.man c.in-Some-king_of.king c.requires.well_formed c.requires.pseudo
    (search rules) (c.are_parries_known.ensures (search rules)) (search rules) (search rules) c.occupancy_after-occupancy.result (search rules)
    c.attackers_in-capturers.result (search (rules, c.is_uncaptured.ensures))
    (rw (c.other-enemy.ensures, c.turn.ensures, ap (λ (m : Move). m.to) c.m.view_is) at c.attackers_in-capturers.ensures) _ (search rules)
    (λ men seen. c.parries_between.ensures men seen c.unpinned_squares-unpinned.ensures)
