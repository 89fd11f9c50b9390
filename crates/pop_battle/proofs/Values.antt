-- The value of a position from the values after its moves.
use Rattle.pop_battle.proofs.Words.{Battle, Game, SelfMate, arith, can_move, every_move, false, joined_value, refl, rules, attacker_to_move, some_move, true, value, ℕ, ◌%◌, ◌&&◌, ◌<◌, ◌≡◌, and_parts, nat_tests}
use Rattle.pop_stipulation.specs.declared.stipulation.Battle.TheVariants.{Direct}
use Rattle.std.specs.Prelude.{◌==◌}
use Rattle.std.proofs.lemmas.List.{nil_from_length}

module _ {P M : Type 0} (battle : Battle) (game : Game P M) where
  -- the last half-move
  pub value-mates : (p : P) → battle ≡ Direct → value battle game 1 p ≡ some_move game game.goal p
  unfolding value
  value-mates p is = rw is refl

  -- the last half-move of a selfmate is forced
  pub value-forced : (p : P) → battle ≡ SelfMate → value battle game 1 p ≡ (can_move game p && every_move game game.goal p)
  unfolding value
  value-forced p is = rw is refl

  -- White with a half-move that nothing ends before
  pub free_moves : (t : ℕ) (p : P) → 0 < t → (t % 2 == 1 && attacker_to_move battle t) ≡ true
      → value battle game t p ≡ joined_value battle game t p (game.moves p)
  unfolding value joined_value
  free_moves t p some e = grind (arith, and_parts)

  -- with a move, and the goal not reached
  pub value-open : (t : ℕ) (p : P) → 0 < t → can_move game p ≡ true → game.goal p ≡ false → value battle game t p ≡ joined_value battle game t p (game.moves p)
  unfolding value joined_value
  value-open t p some k e = search rules

  -- without a move
  pub value-stuck : (t : ℕ) (p : P) → 0 < t → can_move game p ≡ false → value battle game t p ≡ (t % 2 == 0 && game.goal p)
  unfolding value
  value-stuck t p some k = grind (arith, nat_tests, nil_from_length (game.moves p))

-- for the value of the last half-move, of either battle
pub ruleset last_half_move = (value-mates, value-forced)
