-- Facts of the board's geometry, computed over all pairs of squares.
use Rattle.chess_attacks.proofs.Chess.{Bool, agree_below, agree_below_at, along, arith, eqb, file_of, leaps, list_any, not, queen_steps, rank_of, refl, true, ℕ, ◌%◌, ◌&&◌, ◌*◌, ◌+◌, ◌/◌, ◌<◌, ◌||◌, ◌≡◌}

-- what holds of each pair by computation holds of each two squares
each_pair : (f g : ℕ → ℕ → Bool) (s t : ℕ) → s < 64 → t < 64 → agree_below (λ n. f (n / 64) (n % 64)) (λ n. g (n / 64) (n % 64)) 4096 ≡ true → f s t ≡ g s t
each_pair f g s t hs ht all =
    let a : (s * 64 + t) / 64 ≡ s = omega arith in
    let b : (s * 64 + t) % 64 ≡ t = omega arith in
    let e : f ((s * 64 + t) / 64) ((s * 64 + t) % 64) ≡ g ((s * 64 + t) / 64) ((s * 64 + t) % 64) =
    agree_below_at (λ n. f (n / 64) (n % 64)) (λ n. g (n / 64) (n % 64)) 4096 (s * 64 + t) all (omega arith) in
    rw (a, b) at e

-- a king's step isn't castling: it doesn't go two files along its rank
abbrev king_ok : ℕ → ℕ → Bool
king_ok s t = not ((eqb (rank_of s) (rank_of t) && (eqb (file_of s + 2) (file_of t) || eqb (file_of t + 2) (file_of s))) && list_any (leaps s t) queen_steps)

-- no king's step goes two files along its rank
pub king_step_is_no_castling : (s t : ℕ) → s < 64 → t < 64 → king_ok s t ≡ true
unfolding leaps along
king_step_is_no_castling s t hs ht = each_pair king_ok (λ _ _. true) s t hs ht refl
