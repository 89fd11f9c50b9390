-- A move that isn't pseudo-legal meets no test of legal moves (own).
use Rattle.std.specs.Prelude.{◌≡◌, Bool, false}
use Rattle.std.proofs.lemmas.Bool.{and_left}
use Rattle.chess_core.specs.Position.{Position}
use Rattle.chess_core.specs.declared.man.Move.{Move}
use Rattle.chess_rules.specs.Legal.{is_legal, is_pseudo_legal}
use Rattle.chess_attacks.specs.RuleSet.{RuleSet}
use Rattle.chess_rules.specs.ties.Filtering.{is_legal_and}

-- a move that isn't pseudo-legal isn't legal
pub is_legal-idle : (rule : RuleSet) (p : Position) (m : Move) → is_pseudo_legal rule p m ≡ false
    → is_legal rule p m ≡ false
unfolding is_legal
is_legal-idle rule p m h = and_left _ _ h

-- a move that isn't pseudo-legal isn't a legal move that meets the test
pub is_legal_and-idle : (rule : RuleSet) (p : Position) (test : Move → Bool) (m : Move)
    → is_pseudo_legal rule p m ≡ false → is_legal_and rule p test m ≡ false
is_legal_and-idle rule p test m h = and_left _ _ (is_legal-idle rule p m h)
