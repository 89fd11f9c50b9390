-- Sets of moves by their origins and arrivals, and how a loop over the moves of a position fills them (own).
use Rattle.std.specs.Prelude.{◌≡◌, ◌⊎◌, ◌==◌, ◌&&◌, ℕ, Bool, true, Option, None, Some}
use Rattle.std.specs.List.{Contains}
use Rattle.std.specs.Int.{bit_at}
use Rattle.chess_core.specs.Position.{Position}
use Rattle.chess_core.specs.declared.man.Move.{Move}
use Rattle.chess_attacks.specs.RuleSet.{RuleSet}
use Rattle.chess_rules.specs.Legal.{moves}
use Rattle.chess_rules.specs.ties.Places.{moves_after}
use Rattle.pop_tries.specs.declared.move_set.MoveSet.{MoveSet}
use Rattle.pop_tries.specs.declared.refuting.Refuting.{Refuting}

-- the set without any move
abbrev pub no_moves : MoveSet
no_moves = record { origins = 0; arrivals = 0 }

-- no reply may refute, and none is known to
abbrev pub nothing_refuting : Refuting
nothing_refuting = record { moves = no_moves; last = 0 }

-- the set may hold the move: it has its origin and its arrival
abbrev pub may_hold : MoveSet → Move → Bool
may_hold set m = (bit_at set.origins m.from == 1) && (bit_at set.arrivals m.to == 1)

-- nothing is known, or the set may hold the move
abbrev pub may_be : Option MoveSet → Move → Bool
may_be None m = true
may_be (Some set) m = may_hold set m

-- each legal move of p that meets the test may be in the set
abbrev pub HoldAll : RuleSet → Position → (Move → Bool) → Option MoveSet → Type 0
HoldAll rule p test set = (m : Move) → Contains (moves rule p) m → test m ≡ true
    → may_be set m ≡ true

-- each legal move of p that meets the test may be in the set, or comes after the place
abbrev pub HoldBefore : RuleSet → Position → (Move → Bool) → Option MoveSet → ℕ → Type 0
HoldBefore rule p test set place = (m : Move) → Contains (moves rule p) m → test m ≡ true
    → (may_be set m ≡ true) ⊎ Contains (moves_after rule p place) m
