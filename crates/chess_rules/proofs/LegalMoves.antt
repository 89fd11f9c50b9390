-- What callers may do with a legal move.
use Rattle.chess_rules.proofs.Chess.{Move, Position, RuleSet, and_parts, is_legal, is_pseudo_legal, true, ◌≡◌}

-- it may be made
pub may_be_made : (rule : RuleSet) (p : Position) (m : Move) → is_legal rule p m ≡ true → is_pseudo_legal rule p m ≡ true
unfolding is_legal
may_be_made rule p m h = (and_parts _ _ h).0
