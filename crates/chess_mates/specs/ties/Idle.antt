-- A move that isn't pseudo-legal doesn't mate (own).
use Rattle.std.specs.Prelude.{◌≡◌, false}
use Rattle.std.proofs.lemmas.Bool.{and_left}
use Rattle.chess_core.specs.Position.{Position}
use Rattle.chess_core.specs.declared.man.Move.{Move}
use Rattle.chess_rules.specs.Legal.{is_pseudo_legal}
use Rattle.chess_attacks.specs.RuleSet.{RuleSet}
use Rattle.chess_rules.specs.ties.Idle.{is_legal-idle}
use Rattle.chess_flights.specs.ties.Mates.{mates}

pub mates-idle : (rule : RuleSet) (p : Position) (m : Move) → is_pseudo_legal rule p m ≡ false
    → mates rule p m ≡ false
unfolding mates
mates-idle rule p m h = and_left _ _ (is_legal-idle rule p m h)
