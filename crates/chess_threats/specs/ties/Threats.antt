-- Threats of mate, computed before the defender's move (own).
use Rattle.std.specs.Prelude.{◌≡◌, ◌<◌, ◌==◌, ℕ, true, false, [], Some, None}
use Rattle.std.specs.Int.{bit_at}
use Rattle.chess_core.specs.Position.{Position, man_on, other, same_kind}
use Rattle.chess_core.specs.Squares.{file_of}
use Rattle.chess_core.specs.declared.man.Kind.TheVariants.{Pawn}
use Rattle.chess_core.specs.declared.man.Man.{Man}
use Rattle.chess_core.specs.declared.man.Move.{Move}
use Rattle.chess_threats.specs.declared.king_attack.KingAttack.{KingAttack}
use Rattle.chess_flights.specs.ties.Mates.{mates_after}
use Rattle.chess_threats.specs.ties.KingAttack.{IsKingAttack, IsKingAttackOf, IsWhole}
use Rattle.chess_rules.specs.Legal.{is_legal}
use Rattle.chess_rules.specs.Play.{capture_square, halfway, is_castling, is_double_step, position_after}
use Rattle.chess_attacks.specs.RuleSet.{RuleSet}
use Rattle.chess_rules.specs.ties.Targets.{is_promoting, may_arrive}

-- what contracts see of threats: the king attack
pub record ThreatsSeen : Type 0 where
  pub king_attack : KingAttack

-- the threats belong to this position
pub record AreThreatsOf (rule : RuleSet) (p : Position) (t : ThreatsSeen) : Type 0 where
  pub fits : IsKingAttackOf rule p t.king_attack
  pub king_attack : IsKingAttack t.king_attack
  pub whole : IsWhole t.king_attack

-- if x makes a pawn's double step, no enemy pawn could come to the square between
pub record IsUncontested (p : Position) (x : Man) (m : Move) : Type 0 where
  pub freely : is_double_step x m ≡ true → (q : Position) (s : ℕ) (z : Man) → s < 64
      → halfway m < 64 → man_on p.men s ≡ Some z → z.colour ≡ other x.colour
      → same_kind z.kind Pawn ≡ true → may_arrive q z s (halfway m) ≡ false

-- x doesn't castle, captures only on its arrival, and no en passant capture of it is possible
pub record IsPlainMove (p : Position) (x : Man) (m : Move) : Type 0 where
  pub castling : is_castling x m ≡ false
  pub captures : (s : ℕ) → capture_square p x m ≡ Some s → s ≡ m.to
  pub uncontested : IsUncontested p x m

-- the move of x from s to each square outside w is plain
pub record ArePlain (p : Position) (x : Man) (s w : ℕ) : Type 0 where
  pub plain : (m : Move) → m.from ≡ s → m.to < 64 → may_arrive p x s m.to ≡ true
      → (bit_at w m.to == 1) ≡ false → IsPlainMove p x m

-- x captures nobody, doesn't promote, and as a pawn stays on its file
pub record IsMereMove (p : Position) (x : Man) (m : Move) : Type 0 where
  pub captures : capture_square p x m ≡ None
  pub unpromoted : is_promoting x m.to ≡ false
  pub file : same_kind x.kind Pawn ≡ true → file_of m.to ≡ file_of m.from

-- the move of x from s to each square outside w is no capture and no promotion
pub record AreMere (p : Position) (x : Man) (s w : ℕ) : Type 0 where
  pub mere : (m : Move) → m.from ≡ s → m.to < 64 → may_arrive p x s m.to ≡ true
      → (bit_at w m.to == 1) ≡ false → IsMereMove p x m

-- no reply mates after a legal move from s to a square of `squares` that isn't risky
pub record AreRisky (rule : RuleSet) (p : Position) (s squares risky : ℕ) : Type 0 where
  pub is_decided : (m : Move) → is_legal rule p m ≡ true → m.from ≡ s
      → (bit_at squares m.to == 1) ≡ true → (bit_at risky m.to == 1) ≡ false
      → mates_after rule (position_after rule p m) 0 ≡ []
