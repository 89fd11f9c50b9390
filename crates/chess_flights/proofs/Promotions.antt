-- Promoting pawns: where they may give check.
use Rattle.chess_flights.proofs.Chess.{Black, Colour, Man, Rook, White, agree_below_at, and_parts, bit_at, bit_or, false, implied, last_rank, not, rank_of, refl, true, ℕ, ◌<◌, ◌==◌, ◌||◌, ◌∙◌, ◌≡◌, List, Option, is_promoting, false≢true, AreApproached, Bishop, Bool, Kind, Knight, Queen, bit_and, on_left, on_right, reaches_as}
use Rattle.chess_flights.proofs.Becoming.{reaches_counted}
use Rattle.chess_flights.proofs.Bitboards.{on_both}
use Rattle.chess_flights.specs.ties.Attackers.{is_promotion}
use Rattle.chess_flights.specs.ties.Approaches.{ArePromotions}

-- a pawn's last rank is in the word of both
pub last_rank_on : (c : Colour) (t : ℕ) → t < 64 → (rank_of t == last_rank c) ≡ true → (bit_at 18374686479671623935 t == 1) ≡ true
last_rank_on White t lt = implied _ _ (agree_below_at (λ n. not (rank_of n == 8) || bit_at 18374686479671623935 n == 1) (λ _. true) 64 t refl lt)
last_rank_on Black t lt = implied _ _ (agree_below_at (λ n. not (rank_of n == 1) || bit_at 18374686479671623935 n == 1) (λ _. true) 64 t refl lt)

-- a pawn is promoted on the last ranks
pub promotes_on : (x : Man) (t : ℕ) → t < 64 → is_promoting x t ≡ true → (bit_at 18374686479671623935 t == 1) ≡ true
promotes_on x t small goes = last_rank_on x.colour t small (and_parts _ _ goes).1

-- for `promotion_squares`: all squares of the last ranks
pub any_rank : (c : Colour) (b : Bool) (k : ℕ) → ArePromotions c b k 18374686479671623935
any_rank c b k = record { inside = λ x z t men mine small goes may h. promotes_on x t small goes }

-- without fairy men those from which a queen or a knight comes
pub queen_or_knight : (c : Colour) (b : Bool) (k q n : ℕ) → b ≡ false → AreApproached (record { colour = c; kind = Queen }) k q
    → AreApproached (record { colour = c; kind = Knight }) k n → ArePromotions c b k (bit_and 18374686479671623935 (bit_or q n))
queen_or_knight c b k q n none queens knights = record {
  inside = λ x z t men mine small goes may h. on_both 18374686479671623935 (bit_or q n) t (promotes_on x t small goes)
      (by men t small z.kind (rw none at (may.promoted goes)) (rw (may.mine ∙ mine) at h));
} where
  by : (men : List (Option Man)) (t : ℕ) → t < 64 → (j : Kind) → is_promotion false j ≡ true → reaches_as men c j t k ≡ true
      → (bit_at (bit_or q n) t == 1) ≡ true
  by men t small Queen may h = on_left q n t (queens.inside men t small h)
  by men t small Rook may h = on_left q n t (queens.inside men t small (reaches_counted men c Rook t k h))
  by men t small Bishop may h = on_left q n t (queens.inside men t small (reaches_counted men c Bishop t k h))
  by men t small Knight may h = on_right q n t (knights.inside men t small h)
  by men t small _ may h = absurd (false≢true may)
