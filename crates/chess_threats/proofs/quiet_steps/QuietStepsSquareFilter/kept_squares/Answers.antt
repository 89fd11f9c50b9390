use Rattle.chess_threats.proofs.Chess.{off_second}
use Rattle.chess_threats.proofs.quiet_steps.QuietStepsSquareFilter.kept_squares.Goals as goal

pub returns-clause-kept : goal.returns-clause-kept
returns-clause-kept g c = record {
  removed = λ m lawful from on off. c.squares_without_quiet_step.ensures m lawful from (off_second c.args.squares _ m.to off on);
}
