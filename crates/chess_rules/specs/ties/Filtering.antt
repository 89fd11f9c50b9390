-- Legal moves that a filter removes (own).
use Rattle.std.specs.Prelude.{◌≡◌, ℕ, Bool, true, false, ◌&&◌, ◌==◌, not, List, [], ◌∷◌, ◌++◌, filter, length}
use Rattle.std.specs.Int.{bit_at}
use Rattle.chess_core.specs.Position.{Position, is_man, man_on}
use Rattle.chess_core.specs.declared.man.Kind.TheVariants.{King}
use Rattle.chess_core.specs.declared.man.Move.{Move}
use Rattle.chess_attacks.specs.RuleSet.{RuleSet}
use Rattle.chess_rules.specs.Legal.{is_legal}
use Rattle.chess_rules.specs.ties.Places.{moves_between}

-- no legal move from s to a square of w that isn't in v meets the test
pub record AreKeptSquares (rule : RuleSet) (p : Position) (test : Move → Bool) (s w v : ℕ) : Type
    0 where
  pub removed : (m : Move) → is_legal rule p m ≡ true → m.from ≡ s → (bit_at w m.to == 1) ≡ true
      → (bit_at v m.to == 1) ≡ false → test m ≡ false

-- the move is legal and meets the test, so no filter for the test removes it
abbrev pub is_legal_and : RuleSet → Position → (Move → Bool) → Move → Bool
is_legal_and rule p test m = is_legal rule p m && test m

-- the move isn't made by the king of the side to move
abbrev pub is_of_others : Position → Move → Bool
is_of_others p m = not (is_man (man_on p.men m.from) p.turn King)

-- the legal moves after cursor a up to cursor b are `over`, n moves that all fail the test, and then m
pub record IsFirstKept (rule : RuleSet) (p : Position) (test : Move → Bool) (a b n : ℕ) (m : Move) :
    Type 0 where
  pub over : List Move
  pub counted : n ≡ length over
  pub skipped : moves_between rule p a b ≡ over ++ m ∷ []
  pub none : filter test over ≡ []

-- some legal move fails the test
pub record SomeFails (rule : RuleSet) (p : Position) (test : Move → Bool) : Type 0 where
  pub move : Move
  pub legal : is_legal rule p move ≡ true
  pub fails : test move ≡ false
