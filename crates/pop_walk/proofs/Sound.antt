-- What a sound problem guarantees, and which forms have a battle.
use Rattle.pop_stipulation.specs.declared.stipulation.TheConstants.{MOST_HALF_MOVES}
use Rattle.pop_walk.proofs.Words.{Battle, Form, None, Some, arith, battle_of, false, is_help, rules, IsSound, IsWellFormed, Phase, Posed, half_moves, is_en_passant_square_right, phase_start, true, ◌≡◌, ◌≤◌}

-- a problem has a half-move
pub some_way : (problem : Posed) → IsSound problem → 1 ≤ half_moves problem.stipulation
some_way problem s = grind arith

-- a problem has no more half-moves than the longest
pub in_range : (problem : Posed) → IsSound problem → half_moves problem.stipulation ≤ MOST_HALF_MOVES
in_range problem s = grind arith

-- the first position of each phase is well formed
pub start_sound : (problem : Posed) → IsSound problem → (phase : Phase) → IsWellFormed (phase_start problem phase)
unfolding is_en_passant_square_right
start_sound problem s phase = search rules

-- a form in which both sides help has no battle
pub no-battle : (form : Form) → is_help form ≡ true → battle_of form ≡ None
no-battle form e = search rules

-- any other form has a battle
pub some-battle : (form : Form) → is_help form ≡ false → (battle : Battle) × (battle_of form ≡ Some battle)
some-battle form e = search rules

-- for `Search::new`: which forms have a battle
pub ruleset ways_to_play = (some-battle, no-battle)
