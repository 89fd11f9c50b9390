-- Lines of help play and where they end (Codex, article 10).
use Rattle.std.specs.Prelude.{◌≡◌, ℕ, ◌-◌, ◌^◌, ◌%◌, ◌==◌, Bool, if◌then◌else◌, true, List, [], ◌∷◌, length, Option, Some, None}
use Rattle.std.specs.Int.{bit_at}
use Rattle.chess_core.specs.Position.{Position, king_square, other}
use Rattle.chess_core.specs.declared.man.Colour.{Colour}
use Rattle.chess_core.specs.declared.man.Move.{Move}
use Rattle.chess_attacks.specs.RuleSet.{RuleSet}
use Rattle.chess_rules.specs.Legal.{is_legal, is_mate, is_stalemate}
use Rattle.chess_rules.specs.Play.{position_after}
use Rattle.pop_stipulation.specs.declared.stipulation.Goal.{Goal}
use Rattle.pop_stipulation.specs.declared.stipulation.Goal.TheVariants.{Mate, Stalemate}

-- the position after the moves of a line
unfoldable pub line_end : RuleSet → Position → List Move → Position
line_end rule p [] = p
line_end rule p (m ∷ line) = line_end rule (position_after rule p m) line

-- each move of the line is legal when it is played
unfoldable pub IsLegalLine : RuleSet → Position → List Move → Type 0
IsLegalLine rule p [] = Unit {0}
IsLegalLine rule p (m ∷ line) =
    (is_legal rule p m ≡ true) × IsLegalLine rule (position_after rule p m) line

-- the side to move, if c makes the last of h half-moves
abbrev pub mover : Colour → ℕ → Colour
mover c h = if h % 2 == 1 then c else other c

-- the side to move is mated, or stalemated
abbrev pub reaches_goal : Goal → RuleSet → Position → Bool
reaches_goal Mate rule q = is_mate rule q
reaches_goal Stalemate rule q = is_stalemate rule q

-- the king, if there is one, is on a square of the bitboard w; without a king w has all squares
abbrev pub holds_king : ℕ → Option ℕ → Bool
holds_king w None = w == 2 ^ 64 - 1
holds_king w (Some k) = bit_at w k == 1

-- each line of h legal moves from p that reaches the goal ends with the king of the side to move on a square
-- of w
unfoldable pub HoldsEnds : Goal → RuleSet → ℕ → Position → ℕ → Type 0
HoldsEnds goal rule h p w =
    (line : List Move) → length line ≡ h → IsLegalLine rule p line
    → reaches_goal goal rule (line_end rule p line) ≡ true
    → holds_king w (king_square (line_end rule p line).men (line_end rule p line).turn) ≡ true
