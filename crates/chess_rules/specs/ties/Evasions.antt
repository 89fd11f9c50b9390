-- Squares where a move may parry a check (own).
use Rattle.std.specs.Prelude.{◌≡◌, ◌<◌, ℕ, Bool, true, false, ◌&&◌, ◌||◌, ◌==◌, List, Option, None, Some, is_some}
use Rattle.std.specs.Int.{bit_at}
use Rattle.chess_core.specs.Position.{Position, is_man, is_of_colour, king_square, man_on, other}
use Rattle.chess_core.specs.Squares.{some_square}
use Rattle.chess_core.specs.declared.man.Man.{Man}
use Rattle.chess_core.specs.declared.man.Move.{Move}
use Rattle.chess_core.specs.declared.man.Colour.{Colour}
use Rattle.chess_core.specs.declared.man.Kind.TheVariants.{Queen}
use Rattle.chess_attacks.specs.Attacks.{in_check}
use Rattle.chess_rules.specs.Legal.{is_pseudo_legal}
use Rattle.chess_rules.specs.Play.{position_after}
use Rattle.chess_attacks.specs.Reaches.{reaches, reaches_as}
use Rattle.chess_rules.specs.ties.Blockers.{has_fairy_lines}
use Rattle.chess_attacks.specs.RuleSet.{RuleSet, like_men_paralyse}

-- a move to t parries the check by the man on q to the king of colour c on k: it captures the checker, or
-- arrives between them, on a square that a queen reaches from both
abbrev pub is_evasion : List (Option Man) → Colour → ℕ → ℕ → ℕ → Bool
is_evasion men c k q t = q == t || (reaches_as men c Queen k t && reaches_as men c Queen q t)

-- the man, if there is one, is a fairy man that moves along lines
abbrev pub has_fairy_lines_of : Option Man → Bool
has_fairy_lines_of None = false
has_fairy_lines_of (Some y) = has_fairy_lines y.kind

-- colour c has a man of the same kind as this man, if there is one
abbrev pub has_like : List (Option Man) → Colour → Option Man → Bool
has_like men c None = false
has_like men c (Some y) = some_square (λ s. is_man (man_on men s) c y.kind)

-- in Madrasi: colour c has a man that might paralyse this man, if there is one
abbrev pub may_be_paralysed : RuleSet → List (Option Man) → Colour → Option Man → Bool
may_be_paralysed rule men c o = like_men_paralyse rule && has_like men c o

-- in Madrasi: the move promotes, which might give its side the first man of a kind, and that may
-- paralyse the checker
abbrev pub may_paralyse_new_kind : RuleSet → Move → Bool
may_paralyse_new_kind rule m = like_men_paralyse rule && is_some m.promo

-- the king of colour c is in check by a man without fairy lines, which nobody may paralyse, and a move
-- to t doesn't parry this check
pub record IsNoEvasion (rule : RuleSet) (men : List (Option Man)) (c : Colour) (t : ℕ) : Type
    0 where
  pub king : ℕ
  pub checker : ℕ
  pub here : king_square men c ≡ Some king
  pub moving : may_be_paralysed rule men c (man_on men checker) ≡ false
  pub plain : has_fairy_lines_of (man_on men checker) ≡ false
  pub enemy : is_of_colour (man_on men checker) (other c) ≡ true
  pub check : reaches men checker king ≡ true
  pub no_evasion : is_evasion men c king checker t ≡ false

-- a plain move by a man other than the king (in Madrasi: no promotion) leaves its king in check if its
-- arrival isn't in the bitboard w
pub record AreEvasions (rule : RuleSet) (men : List (Option Man)) (c : Colour) (w : ℕ) : Type
    0 where
  pub elsewhere : (t : ℕ) → t < 64 → (bit_at w t == 1) ≡ false → IsNoEvasion rule men c t

-- a pseudo-legal move from s leaves its king in check if its arrival isn't in the bitboard w
pub record AreEvasionsFrom (rule : RuleSet) (p : Position) (s w : ℕ) : Type 0 where
  pub elsewhere : (m : Move) → m.from ≡ s → m.to < 64 → is_pseudo_legal rule p m ≡ true
      → (bit_at w m.to == 1) ≡ false → in_check rule (position_after rule p m).men p.turn ≡ true
