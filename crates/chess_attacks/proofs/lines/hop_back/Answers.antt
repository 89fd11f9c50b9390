use Rattle.chess_attacks.proofs.Chess.{arith, is_some, man_on, step_of, word_has}
use Rattle.chess_attacks.proofs.rays.HopWords.{hop_back_over, hop_back_none}
use Rattle.chess_attacks.proofs.lines.hop_back.Goals as goal

pub returns-in_default : goal.returns-in_default
returns-in_default c = λ men held. grind (arith, hop_back_none men c.args.to (step_of c.args.direction))

pub returns-then-contains : goal.returns-then-contains
returns-then-contains c = λ men held.
    let man = word_has (λ s. is_some (man_on men s)) c.args.occupied c.in-Some.next held c.show_below_64-2.ensures in
    grind (arith, hop_back_over men c.args.to c.in-Some.next c.ride.result c.args.direction, man, c.ride.ensures men held)

pub returns-else-contains : goal.returns-else-contains
returns-else-contains c = λ men held.
    grind (arith, hop_back_none men c.args.to (step_of c.args.direction), word_has (λ s. is_some (man_on men s)) c.args.occupied c.in-Some.next held c.show_below_64-2.ensures)
