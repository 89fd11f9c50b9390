-- The value by half-moves is what the battle definitions say.
use Rattle.pop_walk.proofs.Words.{Battle, Game, SelfMate, arith, can_move, every_move, is_lost, is_self_lost, refl, rules, self_wins, suc, value, wins, zero, ℕ, ◌&&◌, ◌*◌, ◌||◌, ◌≡◌, Direct}

module _ {P M : Type 0} (game : Game P M) where
  -- with no half-move left the goal decides
  pub value-zero : (battle : Battle) (q : P) → value battle game 0 q ≡ game.goal q
  unfolding value
  value-zero battle q = refl

  -- with an even number of half-moves left, of a direct mate: Black is lost
  pub value-is_lost : (j : ℕ) (q : P) → value Direct game (2 * j) q ≡ is_lost game j q
  unfolding is_lost value
  value-is_lost zero q = refl
  value-is_lost (suc j) q = let two : 2 * suc j ≡ suc (suc (2 * j)) = omega arith in rw two (search (rules, value-is_lost j))

  -- with an odd number: White wins
  pub value-wins : (k : ℕ) (p : P) → value Direct game (suc (2 * k)) p ≡ wins game (suc k) p
  unfolding wins value
  value-wins k p = search (rules, value-is_lost)

  -- a selfmate with an even number of half-moves left: White wins, or the goal is reached
  pub value-self_wins : (k : ℕ) (r : P) → value SelfMate game (2 * k) r ≡ (game.goal r || self_wins game k r)
  unfolding self_wins value
  value-self_wins zero r = grind (arith, value-zero)
  value-self_wins (suc k) r =
      let black : (q : P) → value SelfMate game (suc (2 * k)) q ≡ (can_move game q && every_move game (λ x. game.goal x || self_wins game k x) q) =
      search (rules, value-self_wins k) in
      let two : 2 * suc k ≡ suc (suc (2 * k)) = omega arith in
      rw two (search (rules, black))

  -- with an odd number: White, having moved to this position, still wins
  pub value-is_self_lost : (k : ℕ) (q : P) → value SelfMate game (suc (2 * k)) q ≡ is_self_lost game k q
  unfolding is_self_lost value
  value-is_self_lost k q = search (rules, value-self_wins)
