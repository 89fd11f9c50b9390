-- Promoting pawns: what they leave.
use Rattle.chess_threats.proofs.Chess.{Bishop, Bool, Kind, Knight, LeavesOne, LeavesUntaken, Man, Queen, Rook, bit_and, bit_at, bit_or, cases_Bool, false, false≢true, inl, inr, is_promoting, off_left, off_right, refl, rules, subst, sym, true, ℕ, ◌<◌, ◌==◌, ◌∙◌, ◌≡◌}
use Rattle.chess_flights.proofs.Becoming.{counted_left, unchanged}
use Rattle.chess_flights.proofs.Promotions.{promotes_on}
use Rattle.chess_flights.proofs.KindByKind.{man_is}
use Rattle.chess_threats.proofs.LastingFlights.{no_last_rank}
use Rattle.chess_flights.proofs.Bitboards.{on_both}
use Rattle.chess_flights.specs.ties.Attackers.{is_promotion}
use Rattle.chess_flights.specs.ties.Approaches.{MayBecome, counts_as}

-- squares that are critical for other reasons too
leaves_left : (w e c d : ℕ) (x : Man) (t : ℕ) → LeavesOne w e c x t → LeavesOne w e (bit_or c d) x t
leaves_left w e c d x t h = record { left = λ b small off there. h.left b small (off_left c d b off) there }

leaves_right : (w e c d : ℕ) (x : Man) (t : ℕ) → LeavesOne w e d x t → LeavesOne w e (bit_or c d) x t
leaves_right w e c d x t h = record { left = λ b small off there. h.left b small (off_right c d b off) there }

-- where a queen leaves one, so does a rook or a bishop
counted_leaves : (w e c : ℕ) (z : Man) (t : ℕ) → LeavesOne w e c (record { colour = z.colour; kind = counts_as z.kind }) t → LeavesOne w e c z t
counted_leaves w e c z t h = record {
  left = λ b small off there.
      let f = h.left b small off there in
      (f.0, counted_left w t f.0 z f.1, f.2);
}

-- for `critical_of_pawn`: off the last ranks
pub unpromoted_leaves : (w e c s : ℕ) (x z : Man) (t : ℕ) → t < 64 → (bit_at s t == 1) ≡ true → LeavesOne w e c x t
    → (bit_and s 18374686479671623935 == 0) ≡ true → MayBecome false x t z → LeavesOne w e c z t
unpromoted_leaves w e c s x z t small on leaves none may = rw (unchanged false x z t (no_last_rank x s t none small on) may) leaves

-- for `critical_of_pawn`: on the last ranks too
pub pawn_leaves : (w e c q n s : ℕ) (x z : Man) (t : ℕ) → t < 64 → (bit_at s t == 1) ≡ true → LeavesOne w e c x t
    → ((bit_at (bit_and s 18374686479671623935) t == 1) ≡ true → LeavesOne w e q (record { colour = x.colour; kind = Queen }) t)
    → ((bit_at (bit_and s 18374686479671623935) t == 1) ≡ true → LeavesOne w e n (record { colour = x.colour; kind = Knight }) t)
    → MayBecome false x t z → LeavesOne w e (bit_or (bit_or c q) n) z t
pawn_leaves w e c q n s x z t small on leaves queens knights may = elim (cases_Bool (is_promoting x t)) [
  | inl goes ↦
      let last = on_both s 18374686479671623935 t on (promotes_on x t small goes) in
      subst (λ (y : Man). LeavesOne w e (bit_or (bit_or c q) n) y t) (man_is z x.colour z.kind may.mine refl) (by last z.kind (may.promoted goes))
  | inr stays ↦ rw (unchanged false x z t stays may) (leaves_left w e (bit_or c q) n x t (leaves_left w e c q x t leaves))
] where
  queen : (bit_at (bit_and s 18374686479671623935) t == 1) ≡ true
      → LeavesOne w e (bit_or (bit_or c q) n) (record { colour = x.colour; kind = Queen }) t
  queen last = leaves_left w e (bit_or c q) n _ t (leaves_right w e c q _ t (queens last))

  by : (bit_at (bit_and s 18374686479671623935) t == 1) ≡ true → (k : Kind) → is_promotion false k ≡ true
      → LeavesOne w e (bit_or (bit_or c q) n) (record { colour = x.colour; kind = k }) t
  by last Queen may = queen last
  by last Rook may = counted_leaves w e _ (record { colour = x.colour; kind = Rook }) t (queen last)
  by last Bishop may = counted_leaves w e _ (record { colour = x.colour; kind = Bishop }) t (queen last)
  by last Knight may = leaves_right w e (bit_or c q) n _ t (knights last)
  by last _ may = absurd (false≢true may)

-- for `critical_of_going`: on any board
pub leaves_untaken : (d k w e c : ℕ) (x : Man) (t : ℕ) → LeavesOne w e c x t → LeavesUntaken d k w e c x t
leaves_untaken d k w e c x t h = record {
  left = λ b small off there.
      let f = h.left b small off there in
      (f.0, search (rules, f.1, f.1.unreached, f.2));
}

-- for `may_become_fairy`: a man that isn't promoted stays a fairy man
pub no_fairy : (b : Bool) (x z : Man) (t : ℕ) → is_promoting x t ≡ false → MayBecome b x t z → MayBecome false x t z
no_fairy b x z t stays may = record { mine = may.mine; same = may.same; promoted = λ goes. absurd (false≢true (sym stays ∙ goes)) }
