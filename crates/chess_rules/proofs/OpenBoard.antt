-- To each square where a man may go, it could go on some board: `unblocked_reach` and
-- `unblocked_targets` miss no square.
use Rattle.chess_rules.proofs.Chess.{Bool, King, Man, Pawn, Position, and_parts, arith, bit_at, bit_or, cond-false, cond-true, false, false≢true, is_advance, may_arrive, AreReached, on_left, on_right, or_cases, reaches_as, rules, same_kind, steps_to, true, word, word_has, ℕ, ◌&&◌, ◌<◌, ◌==◌, ◌||◌, ◌≡◌}
use Rattle.chess_rules.proofs.Arrivals.{no_steps}

-- a pawn steps one square or two
pub advances : (v one two rank free : Bool) → (v && (one || (rank && two && free))) ≡ true → (one || two) ≡ true
advances v one two rank free h = grind (arith, and_parts, false≢true)

-- for `unblocked_targets`: where a man might go whom the word shows what he reaches
module _ (p : Position) (x : Man) (s t w : ℕ) (small : t < 64) (h : may_arrive p x s t ≡ true) (are : AreReached x s w) where
  -- a piece
  pub piece_targets : same_kind x.kind Pawn ≡ false → same_kind x.kind King ≡ false → (bit_at w t == 1) ≡ true
  unfolding may_arrive
  piece_targets none piece = search (rules, cond-false, no_steps, are.inside p.men t small)

  -- a pawn, who steps too
  pub pawn_targets : (a : ℕ) → x.kind ≡ Pawn → a ≡ word (is_advance x.colour s) → (bit_at (bit_or w a) t == 1) ≡ true
  unfolding may_arrive reaches_as
  pawn_targets a kind steps = search (rules, advances, and_parts, cond-true, on_left, on_right, or_cases, word_has, are.inside p.men t small)

  -- a king, who castles too
  pub king_targets : (a : ℕ) → x.kind ≡ King → a ≡ word (steps_to x s) → (bit_at (bit_or w a) t == 1) ≡ true
  unfolding may_arrive reaches_as
  king_targets a kind steps = search (rules, and_parts, cond-false, on_left, on_right, or_cases, word_has, are.inside p.men t small)
