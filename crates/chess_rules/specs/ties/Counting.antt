-- Moves known to be legal without a test of each (own).
use Rattle.std.specs.Prelude.{◌≡◌, ◌<◌, ◌==◌, ◌&&◌, ◌||◌, ℕ, Bool, None, Some, false, is_some, true}
use Rattle.std.specs.Int.{bit_at}
use Rattle.chess_core.specs.Position.{Position, man_on}
use Rattle.chess_core.specs.Squares.{is_square}
use Rattle.chess_core.specs.ties.Words.{word}
use Rattle.chess_core.specs.declared.man.Man.{Man}
use Rattle.chess_rules.specs.Legal.{is_legal}
use Rattle.chess_attacks.specs.RuleSet.{RuleSet, captures_are_reborn}
use Rattle.chess_rules.specs.declared.listing_moves.counting.Candidates.{Candidates}
use Rattle.chess_rules.specs.declared.listing_moves.counting.Legality.TheVariants.{Sure}
use Rattle.chess_rules.specs.declared.listing_moves.legal_moves.LegalityMasks.{LegalityMasks}
use Rattle.chess_rules.specs.ties.Evasions.{AreEvasions}
use Rattle.chess_rules.specs.ties.Blockers.{may_expose}
use Rattle.chess_rules.specs.ties.Targets.{AreCandidates, is_promoting}

-- the masks k belong to position p
pub record IsKnownIn (rule : RuleSet) (p : Position) (k : LegalityMasks) : Type 0 where
  pub blocker_squares : k.blocker_squares ≡ word (may_expose p.men p.turn)
  pub evasion_squares : AreEvasions rule p.men p.turn k.evasion_squares

-- the arrival of x, not a king, on t may do more than change its two squares: it captures en passant,
-- captures a man that is reborn, or promotes; or a move from t may expose the king, as from its fairy lines
unfoldable pub is_untested : RuleSet → Position → Man → ℕ → Bool
is_untested rule p x t =
    is_square p.crossed t || (captures_are_reborn rule && is_some (man_on p.men t))
    || is_promoting x t || may_expose p.men p.turn t

-- each move of the man on s to a square of the bitboard w is legal and doesn't promote
pub record AreLegal (rule : RuleSet) (p : Position) (s w : ℕ) : Type 0 where
  pub man : Man
  pub here : man_on p.men s ≡ Some man
  pub unpromoted : (t : ℕ) → t < 64 → (bit_at w t == 1) ≡ true → is_promoting man t ≡ false
  pub to : (t : ℕ) → t < 64 → (bit_at w t == 1) ≡ true
      → is_legal rule p (record { from = s; to = t; promo = None }) ≡ true

-- the man on s has legal moves to the squares of w and to no others
pub record AreExact (rule : RuleSet) (p : Position) (s w : ℕ) : Type 0 where
  pub candidates : AreCandidates rule p (is_legal rule p) s w
  pub legal : AreLegal rule p s w

-- all legal moves of the man on s go to the candidate squares; if their legality is `Sure`, it has one to
-- each
pub record AreKnownCandidates (rule : RuleSet) (p : Position) (s : ℕ)
    (c : Candidates) : Type 0 where
  pub candidates : AreCandidates rule p (is_legal rule p) s c.squares
  pub legal : c.legality ≡ Sure → AreLegal rule p s c.squares
