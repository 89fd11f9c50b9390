-- What the calls of a search leave unchanged, and what they return (own).
use Rattle.chess_core.specs.Position.{Position}
use Rattle.chess_core.specs.declared.man.Move.{Move}
use Rattle.chess_rules.specs.Legal.{is_legal, moves as legal_moves}
use Rattle.chess_rules.specs.Play.{position_after}
use Rattle.chess_attacks.specs.RuleSet.{RuleSet}
use Rattle.chess_rules.specs.ties.Places.{IsPlaceIn, LegalPlace, place_of}
use Rattle.chess_flights.specs.ties.Mates.{mates}
use Rattle.pop_battle.specs.Chess.{chess}
use Rattle.pop_battle.specs.declared.aim.Aim.{Aim}
use Rattle.pop_stipulation.specs.declared.stipulation.Battle.{Battle}
use Rattle.pop_stipulation.specs.declared.stipulation.Goal.TheVariants.{Mate}
use Rattle.pop_battle.specs.Walks.{walk_count}
use Rattle.pop_battle.specs.ties.Counts.{HasCounted, smallest_tree}
use Rattle.pop_battle.specs.ties.Frames.{Frame}
use Rattle.pop_battle.specs.ties.Values.{value}
use Rattle.std.specs.Prelude.{◌≡◌, ◌+◌, ◌≤◌, ℕ, Bool, true, List, [], ◌∷◌, Option, Some, IfSome, MatchOption}

-- the call returned the first of the moves `untried` of p, if any, and `left` are the moves after it; the
-- board is p as before, and the cursor belongs to p
pub record Finds (rule : RuleSet) (p board : Position) (cursor : Option LegalPlace)
    (found : Option Move) (untried left : List Move) : Type 0 where
  pub unchanged : board ≡ p
  pub within : IfSome cursor (IsPlaceIn rule p)
  pub next : MatchOption found (untried ≡ [])
      (λ m. (untried ≡ m ∷ left) × (is_legal rule p m ≡ true))

-- the place is that of a legal move that mates
pub record IsOnMate (rule : RuleSet) (p : Position) (place : ℕ) : Type 0 where
  pub by : Move
  pub here : place ≡ place_of (Some by)
  pub mates : mates rule p by ≡ true

-- board and frames are unchanged, and the count of tried positions hasn't fallen
pub record Restores (p now : Position) (old new : List Frame) (before after : ℕ) : Type 0 where
  pub board : now ≡ p
  pub frames : new ≡ old
  pub grows : HasCounted before after 0

-- v is the value of p with `left` half-moves left in a battle for mate; the board is unchanged; the count
-- grew by at most the walk count, and by at least the positions of a smallest tree
pub record EvaluatesMate (rule : RuleSet) (battle : Battle) (left : ℕ) (p now : Position)
    (before after : ℕ) (v : Bool) : Type 0 where
  pub unchanged : now ≡ p
  pub value : v ≡ value battle (chess Mate rule) left p
  pub opened : after ≤ before + walk_count (legal_moves rule) (position_after rule) left p
  pub tried : HasCounted before after (smallest_tree battle (chess Mate rule) left p)

-- the same of any aim, with frames, which are unchanged
pub record Evaluates (rule : RuleSet) (aim : Aim) (left : ℕ) (p now : Position)
    (old new : List Frame) (before after : ℕ) (v : Bool) : Type 0 where
  pub value : v ≡ value aim.battle (chess aim.goal rule) left p
  pub board : now ≡ p
  pub frames : new ≡ old
  pub opened : after ≤ before + walk_count (legal_moves rule) (position_after rule) left p
  pub tried : HasCounted before after (smallest_tree aim.battle (chess aim.goal rule) left p)
