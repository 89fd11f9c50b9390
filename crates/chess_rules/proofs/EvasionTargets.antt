-- A move that doesn't arrive where a check is parried isn't legal.
use Rattle.chess_rules.proofs.Chess.{AreEvasions, AreEvasionsFrom, IsWellFormed, King, Man, Move, Position, RuleSet, Some, and_left, and_parts, and_right, ap, arith, bit_and, bit_at, bit_not, bit_or, captures_are_reborn, cases_Bool, like_men_paralyse, false, is_castling, is_plain, is_promoting, is_some, is_square, man_on, may_arrive, off_left, off_right, refl, rules, same_kind, true, w64, word, word_has, ℕ, ◌<◌, ◌==◌, ◌∙◌, ◌≡◌}
use Rattle.chess_rules.proofs.StayingInCheck.{check_unmet}
use Rattle.chess_rules.proofs.Targeting.{arrival_needed, every_square_on, false_by, no_promotion_here}
use Rattle.chess_rules.proofs.Arrivals.{may_go_aimed}
use Rattle.chess_rules.proofs.Walks.{off_second}

-- a move that isn't castling, captures nobody en passant and, in Circe, nobody at all, is plain: by the words
-- of the squares where that may be
pub plain_elsewhere : (rule : RuleSet) (p : Position) (x : Man) (m : Move) (b d : ℕ) → m.to < 64 → is_castling x m ≡ false
    → b ≡ word (λ t. is_square p.crossed t) → (bit_at b m.to == 1) ≡ false
    → (captures_are_reborn rule ≡ true → d ≡ word (λ t. is_some (man_on p.men t))) → (bit_at d m.to == 1) ≡ false → is_plain rule p x m ≡ true
unfolding is_plain
plain_elsewhere rule p x m b d small no_castling crossed off-b reborn off-d = search (rules, and_left, and_right, cases_Bool, word_has)

-- the word of all squares leaves no move out
pub evasions_from_all : (rule : RuleSet) (p : Position) (f : ℕ) → AreEvasionsFrom rule p f (bit_not w64 0)
evasions_from_all rule p f = search (rules, every_square_on)

module _ (rule : RuleSet) (p : Position) (x : Man) (f : ℕ) (well : IsWellFormed p) (here : man_on p.men f ≡ Some x) (piece : same_kind x.kind King ≡ false)
    (d a b c e : ℕ) (evasion_squares : AreEvasions rule p.men p.turn a) (crossed : b ≡ word (λ t. is_square p.crossed t))
    (reborn : captures_are_reborn rule ≡ true → c ≡ word (λ t. is_some (man_on p.men t)))
    (promoted : like_men_paralyse rule ≡ true → e ≡ word (is_promoting x))
    (targets : (q : Position) (t : ℕ) → t < 64 → may_arrive q x f t ≡ true → (bit_at d t == 1) ≡ true) where
  -- another man than the king needs an evasion, the en passant square, in Circe an occupied square and in
  -- Madrasi a promotion square, if it might go there
  pub evasions_from_some : AreEvasionsFrom rule p f (bit_and d (bit_or (bit_or (bit_or a b) c) e))
  evasions_from_some = record {
    elsewhere = λ m at small may off.
        let stands = ap (man_on p.men) at ∙ here in
        let none = off_second d _ m.to off (targets p m.to small (rw (← at) (may_go_aimed rule p x m stands (arrival_needed rule p m small may)))) in
        check_unmet rule p x m a m.to well may stands refl small
        (search (rules, plain_elsewhere, off_left, off_right, false_by, and_parts)) piece
        (grind (arith, off_right, word_has, no_promotion_here rule p x m)) evasion_squares (search (rules, off_left));
  }
