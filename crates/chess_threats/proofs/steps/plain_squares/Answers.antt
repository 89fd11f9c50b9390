use Rattle.chess_threats.proofs.Chess.{arith, rules, ◌<◌, ◌^◌}
use Rattle.chess_threats.proofs.ExactSteps.{empty_step}
use Rattle.chess_threats.proofs.steps.plain_squares.Goals as goal

pub returns-then-captures_are_reborn : goal.returns-then-captures_are_reborn
returns-then-captures_are_reborn g c =
    let fits : c.args.king_attack.now.hurdles < 2 ^ 64 = omega arith in
    search (rules, empty_step, c.king_leaps-near.ensures)
