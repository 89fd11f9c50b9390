use Rattle.chess_mates.proofs.Chess.{Move, ap, arith, not-false, rules, ◌<◌}
use Rattle.chess_mates.proofs.Promoting.{no_check_seen}
use Rattle.chess_mates.proofs.checks.may_check_promoted.Goals as goal

pub returns-else-contains : goal.returns-else-contains
returns-else-contains g c = λ out.
    let small : c.args.m.now.to < 64 = omega (arith, ap (λ (v : Move). v.to) c.m.view_is, c.show_below_64.ensures) in
    no_check_seen g.R.Rules.rule c.args.board.now c.args.man c.args.m.now c.requires.well_formed c.requires.pseudo c.requires.here small
    (search (rules, not-false)) c.covered_squares-seen.result c.in-Some.king (search rules) (search (rules, c.covered_squares-seen.ensures)) (search rules)
