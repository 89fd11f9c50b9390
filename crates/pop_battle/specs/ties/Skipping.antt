-- Moves that the search skips, since a filter removes them (own).
use Rattle.std.specs.Prelude.{◌≡◌, ℕ, ◌+◌, ◌-◌, ◌^◌, min, Bool, true, List, [], ◌∷◌, ◌++◌, length, filter, Option, MatchOption}
use Rattle.chess_core.specs.Position.{Position}
use Rattle.chess_core.specs.declared.man.Move.{Move}
use Rattle.chess_rules.specs.ties.Places.{moves_after}
use Rattle.chess_flights.specs.ties.Mates.{allows_mate}
use Rattle.chess_rules.specs.Legal.{is_legal}
use Rattle.chess_attacks.specs.RuleSet.{RuleSet}

-- the moves after `place` are `over`, for which `what` holds, and then `rest`, the moves after a later
-- place
pub record SkipsMoves (rule : RuleSet) (p : Position) (place : ℕ) (rest : List Move)
    (what : List Move → Type 0) : Type 0 where
  pub mid : ℕ
  pub over : List Move
  pub skipped : moves_after rule p place ≡ over ++ moves_after rule p mid
  pub here : moves_after rule p mid ≡ rest
  pub fits : what over

-- none of these moves meets the test, and each has counted as one tried position
pub record AreRemoved (test : Move → Bool) (before after : ℕ) (over : List Move) : Type 0 where
  pub none : filter test over ≡ []
  pub counts : after ≡ min (before + length over) (2 ^ 64 - 1)

-- no reply to any of these moves mates, and each has counted as one tried position
abbrev pub CannotBeMated : RuleSet → Position → (before after : ℕ) → List Move → Type 0
CannotBeMated rule p = AreRemoved (allows_mate rule p)

-- `found` is the next move after `place` that a filter for the test keeps
abbrev pub IsNextKept : RuleSet → Position → (Move → Bool) → (place next before after : ℕ)
    → Option Move → Type 0
IsNextKept rule p test place next before after found =
    MatchOption found (SkipsMoves rule p place [] (AreRemoved test before after))
    (λ m. SkipsMoves rule p place (m ∷ moves_after rule p next) (AreRemoved test before after)
    × (is_legal rule p m ≡ true))

-- `found` is the next move after `place` to which a reply may mate
abbrev pub IsNextMatable : RuleSet → Position → (place next before after : ℕ) → Option Move → Type
    0
IsNextMatable rule p = IsNextKept rule p (allows_mate rule p)
