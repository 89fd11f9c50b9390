-- A superset of what a man reaches on each board: `unblocked_reach` misses no square.
use Rattle.chess_attacks.proofs.Chess.{Grasshopper, Kind, List, Man, Nightrider, Option, Queen, Rider, arith, bit_or, diagonal_steps, gait_of, inl, inr, is_on_some, kind_steps, list_any, list_any-append, men_on, AreReached, occupied_squares, on_left, on_right, or_cases, reaches_as, refl, rides, rules, straight_steps, sym, true, word, word_has, ℕ, ◌∙◌, ◌≡◌}
use Rattle.chess_attacks.proofs.attacks.Attacking.{goes_on}
use Rattle.chess_attacks.proofs.rays.OnSquares.{hops_openly, occupied_on, rides_openly}

-- who rides to a square is on a line with it
pub rides_on : (men : List (Option Man)) (s t : ℕ) (ds : List _) → list_any (rides men s t) ds ≡ true → is_on_some ds s t ≡ true
unfolding is_on_some
rides_on men s t ds h = goes_on men s t ds h

-- what a man reaches, he would reach on an empty board: for `unblocked_reach`, kind by kind
module _ (x : Man) (s : ℕ) where
  -- a rook's lines and a bishop's
  pub ride_reach : (k : Kind) (l : ℕ) → x.kind ≡ k → gait_of k ≡ Rider → l ≡ word (is_on_some (kind_steps x.colour k) s) → AreReached x s l
  unfolding reaches_as
  ride_reach k l kind rider lines = search (rules, word_has, rides_on)

  -- a queen's
  pub queen_reach : (l d : ℕ) → x.kind ≡ Queen → l ≡ word (is_on_some straight_steps s) → d ≡ word (is_on_some diagonal_steps s) → AreReached x s (bit_or l d)
  unfolding reaches_as
  queen_reach l d kind lines slants = record {
    inside = λ men t small h. elim (or_cases _ _ (sym (list_any-append (rides men s t) straight_steps diagonal_steps) ∙ (rw kind at h))) [
      | inl y ↦ on_left l d t (word_has (is_on_some straight_steps s) l t lines small ∙ rides_on men s t straight_steps y)
      | inr y ↦ on_right l d t (word_has (is_on_some diagonal_steps s) d t slants small ∙ rides_on men s t diagonal_steps y)
    ];
  }

  -- a leaper's squares
  pub leap_reach : (l : ℕ) → ((men : List (Option Man)) → l ≡ word (reaches_as men x.colour x.kind s)) → AreReached x s l
  leap_reach l squares = search (rules, word_has, squares)

  -- a nightrider's, over no hurdle
  pub nightrider_reach : (w : ℕ) → x.kind ≡ Nightrider
      → ((men : List (Option Man)) → 0 ≡ occupied_squares men → w ≡ word (reaches_as men x.colour Nightrider s)) → AreReached x s w
  nightrider_reach w kind h = search (rules, h (men_on 0) (occupied_on 0 (omega arith)), rides_openly, word_has)

-- a grasshopper's, a queen's
pub grasshopper_reach : (x : Man) (s l d : ℕ) → x.kind ≡ Grasshopper → l ≡ word (is_on_some straight_steps s) → d ≡ word (is_on_some diagonal_steps s)
    → AreReached x s (bit_or l d)
grasshopper_reach x s l d kind lines slants =
    search (rules, (queen_reach (record { colour = x.colour; kind = Queen }) s l d refl lines slants).inside (men_on 0), hops_openly)
