-- The mates between two cursors, and what a cursor knows of its position (own).
use Rattle.std.specs.Prelude.{◌≡◌, ℕ, true, ◌-◌, List, [], ◌∷◌, ◌++◌, filter}
use Rattle.chess_core.specs.Position.{Position, other}
use Rattle.chess_core.specs.declared.man.Move.{Move}
use Rattle.chess_attacks.specs.RuleSet.{RuleSet}
use Rattle.chess_rules.specs.ties.Places.{CursorPlace, IsCursorIn, met_between, moves_after}
use Rattle.chess_mates.specs.declared.mating_moves.MateClues.{MateClues}
use Rattle.chess_mates.specs.ties.CheckSquares.{AreCheckSquares}
use Rattle.chess_mates.specs.ties.StandingFlights.{AreStandingFlights}
use Rattle.chess_flights.specs.ties.Mates.{is_mating, mates}

-- the mating moves after one cursor and not after another
abbrev pub mates_between : RuleSet → Position → ℕ → ℕ → List Move
mates_between rule p place end = met_between (mates rule p) place end

-- between the cursors old and new are the moves `over`, none of which mates, and then m, which mates
pub record IsNextMate (rule : RuleSet) (p : Position) (old new : ℕ) (m : Move) : Type 0 where
  pub over : List Move
  pub skipped : moves_after rule p old ≡ over ++ moves_after rule p (new - 1)
  pub none : filter (is_mating rule p) over ≡ []
  pub here : moves_after rule p (new - 1) ≡ m ∷ moves_after rule p new
  pub mates : is_mating rule p m ≡ true

-- the clues belong to this position
pub record AreMateClues (rule : RuleSet) (p : Position) (v : MateClues) : Type 0 where
  pub checks : AreCheckSquares p.men (other p.turn) v.checks
  pub flights : AreStandingFlights rule p v.flights

-- a cursor over the mating moves
abbrev pub MatingPlace : Type 0
MatingPlace = CursorPlace MateClues

-- the cursor over the mating moves belongs to this position
abbrev pub IsMatingPlaceIn : RuleSet → Position → MatingPlace → Type 0
IsMatingPlaceIn = IsCursorIn (λ clues rule p. AreMateClues rule p clues) mates
