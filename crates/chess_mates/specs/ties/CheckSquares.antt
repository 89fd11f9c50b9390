-- Squares from which a move may give check (own).
use Rattle.std.specs.Prelude.{◌≡◌, ℕ, ◌+◌, ◌/◌, ◌<◌, Bool, true, false, ◌&&◌, ◌==◌, List, Option, Some, if◌then◌else◌}
use Rattle.std.specs.Int.{bit_at}
use Rattle.chess_core.specs.Position.{Position, king_square, may_promote, other, same_kind}
use Rattle.chess_core.specs.ties.Words.{word}
use Rattle.chess_core.specs.declared.man.Man.{Man}
use Rattle.chess_core.specs.declared.man.Move.{Move}
use Rattle.chess_core.specs.declared.man.Colour.{Colour}
use Rattle.chess_core.specs.declared.man.Kind.{Kind}
use Rattle.chess_core.specs.declared.man.Kind.TheVariants.{King, Grasshopper}
use Rattle.chess_mates.specs.declared.checks.CheckSquares.{CheckSquares}
use Rattle.chess_flights.specs.ties.Attackers.{is_promotion}
use Rattle.chess_flights.specs.ties.ByKind.{value_for}
use Rattle.chess_flights.specs.ties.Approaches.{ArePromotions}
use Rattle.chess_attacks.specs.Attacks.{in_check}
use Rattle.chess_rules.specs.Legal.{is_legal}
use Rattle.chess_rules.specs.Play.{position_after}
use Rattle.chess_attacks.specs.RuleSet.{RuleSet, captures_are_reborn, orthodox}
use Rattle.chess_attacks.specs.ties.Lines.{is_two_files_aside}
use Rattle.chess_rules.specs.ties.Blockers.{may_expose, may_be_hurdle}
use Rattle.chess_rules.specs.ties.Targets.{is_promoting}
use Rattle.chess_flights.specs.ties.Checks.{is_absent, enemy, may_check_from}

-- a reborn man neither gives check nor uncovers one: in Circe, if colour e, which captures, has no
-- grasshopper for which it could be a hurdle
unfoldable pub are_rebirths_quiet : RuleSet → List (Option Man) → Colour → Bool
are_rebirths_quiet rule men e =
    captures_are_reborn rule && is_absent men (record { colour = e; kind = Grasshopper })

-- the rules that decide what moves of colour e uncover: the orthodox ones if rebirths are quiet
abbrev pub rule_of_checks : RuleSet → List (Option Man) → Colour → RuleSet
rule_of_checks rule men e = if are_rebirths_quiet rule men e then orthodox else rule

-- a man of this kind of the side to move
abbrev pub own_man : Position → Kind → Man
own_man p j = record { colour = p.turn; kind = j }

-- s holds the squares from which a move may expose the king of colour c, its fairy lines, and the squares
-- from which its enemies of each kind but kings may give check to it
pub record AreCheckSquares (men : List (Option Man)) (c : Colour)
    (s : CheckSquares) : Type 0 where
  pub blocker_squares : s.blocker_squares ≡ word (may_expose men c)
  pub fairy_lines : s.fairy_lines ≡ word (may_be_hurdle men c)
  pub kinds : (k : Kind) → same_kind k King ≡ false
      → value_for s.kinds k ≡ word (may_check_from men c (enemy c k))
  pub promotions : (k : ℕ) → king_square men c ≡ Some k
      → ArePromotions (other c) false k s.promotions

-- no pawn may promote to a fairy man, captures only remove men, and t isn't one of the squares on which
-- a promoted pawn may give check
pub record PromotesQuietly (rule : RuleSet) (p : Position) (v : CheckSquares) (t : ℕ) : Type 0 where
  pub kinds : (k : Kind) → may_promote p k ≡ true → is_promotion false k ≡ true
  pub plain : captures_are_reborn rule ≡ false
  pub off : (bit_at v.promotions t == 1) ≡ false

-- a pawn that promotes on a square not in w gives no check
pub record ArePromotionTargets (rule : RuleSet) (p : Position) (v : CheckSquares) (w : ℕ) : Type
    0 where
  pub elsewhere : (x : Man) (t : ℕ) → t < 64 → is_promoting x t ≡ true
      → (bit_at w t == 1) ≡ false → PromotesQuietly rule p v t

-- a legal move from s gives no check if it goes to a square not in w
pub record AreCheckTargets (rule : RuleSet) (p : Position) (s w : ℕ) : Type 0 where
  pub elsewhere : (m : Move) → m.from ≡ s → m.to < 64 → is_legal rule p m ≡ true
      → (bit_at w m.to == 1) ≡ false → in_check rule (position_after rule p m).men (other p.turn)
      ≡ false

-- a rook gives no check from halfway between s and a square two files to either side that isn't in w
pub record AreCastlingTargets (v : CheckSquares) (s w : ℕ) : Type 0 where
  pub elsewhere : (t : ℕ) → t < 64 → is_two_files_aside s t ≡ true → (bit_at w t == 1) ≡ false
      → (bit_at v.kinds.rooks ((s + t) / 2) == 1) ≡ false

-- a legal move from a square outside w gives no check
pub record AreCheckOrigins (rule : RuleSet) (p : Position) (w : ℕ) : Type 0 where
  pub elsewhere : (m : Move) → m.from < 64 → m.to < 64 → is_legal rule p m ≡ true
      → (bit_at w m.from == 1) ≡ false → in_check rule (position_after rule p m).men (other p.turn)
      ≡ false
