use Rattle.chess_mates.proofs.Chess.{Move, ap, arith, not-false, rules, ◌<◌}
use Rattle.chess_mates.proofs.Rebirths.{no_check_by_rebirth}
use Rattle.chess_flights.proofs.KingsApart.{kings_apart}
use Rattle.chess_mates.proofs.checks.may_check.Goals as goal

pub returns-else-contains : goal.returns-else-contains
returns-else-contains g c =
    let small : c.args.m.now.to < 64 = omega (arith, ap (λ (v : Move). v.to) c.m.view_is, c.show_below_64.ensures) in
    search (rules, no_check_by_rebirth, kings_apart, not-false)
