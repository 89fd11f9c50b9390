-- Battle play by half-moves: one value for both sides and both battles (own).
use Rattle.pop_stipulation.specs.declared.stipulation.Battle.{Battle}
use Rattle.pop_stipulation.specs.declared.stipulation.Battle.TheVariants.{Direct, SelfMate}
use Rattle.std.specs.Prelude.{ℕ, zero, suc, ◌%◌, ◌==◌, Bool, false, not, ◌&&◌, ◌||◌, if◌then◌else◌, List}
use Rattle.std.specs.List.{list_any, list_all}
use Rattle.pop_battle.specs.Game.{Game, can_move, some_move, every_move}

-- with t half-moves left, White is to move and needs only one good move
abbrev pub attacker_to_move : Battle → ℕ → Bool
attacker_to_move Direct t = t % 2 == 1
attacker_to_move SelfMate t = t % 2 == 0

-- the value of a move joined with that of the other moves: White, seeking, needs one true value; otherwise
-- all must be true
abbrev pub join : Bool → Bool → Bool → Bool
join seeking v rest = if seeking then v || rest else v && rest

-- the value of one move decides the position: a true one if White seeks, otherwise a false one
abbrev pub decides : Bool → Bool → Bool
decides seeking v = if seeking then v else not v

module _ {P M : Type 0} where
  -- White reaches the aim from p with t half-moves left
  unfoldable pub value : Battle → Game P M → ℕ → P → Bool
  value battle game zero p = game.goal p
  value battle game (suc t) p =
      (suc t % 2 == 0 && game.goal p)
      || (if attacker_to_move battle (suc t) then some_move game (value battle game t) p
      else (can_move game p && every_move game (value battle game t) p))

  -- the joined value of these moves of p
  unfoldable pub joined_value : Battle → Game P M → ℕ → P → List M → Bool
  joined_value battle game zero p moves = false
  joined_value battle game (suc t) p moves =
      if attacker_to_move battle (suc t)
      then list_any (λ m. value battle game t (game.after p m)) moves
      else list_all (λ m. value battle game t (game.after p m)) moves
