use Rattle.chess_mates.proofs.Chess.{rules, word_has}
use Rattle.chess_mates.proofs.Parrying.{kings_alone}
use Rattle.chess_mates.proofs.parries.is_uncaptured.Goals as goal

pub returns-then-not-is_fairy : goal.returns-then-not-is_fairy
returns-then-not-is_fairy c = λ check.
    record {
      piece = search rules;
      orthodox = search rules;
      uncaptured = λ s lt on. kings_alone c.args.capturers c.only.result c.args.king s c.only.ensures (search rules) lt on;
      check = λ men occupied. search (rules, word_has, check, c.reach_over.ensures men occupied);
    }
