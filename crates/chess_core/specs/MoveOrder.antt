-- The order of moves: by origin, then arrival, then promotion; the move without a promotion comes first
-- (own).
use Rattle.std.specs.Prelude.{◌==◌, nat_lt, Bool, true, false, ◌&&◌, ◌||◌, Option, Some, None}
use Rattle.chess_core.specs.Position.{kind_number}
use Rattle.chess_core.specs.Move.{Move}
use Rattle.chess_core.specs.declared.man.Kind.{Kind}

-- one promotion comes before another: no promotion comes first, then the kinds in order
abbrev pub promotion_precedes : Option Kind → Option Kind → Bool
promotion_precedes _ None = false
promotion_precedes None (Some k) = true
promotion_precedes (Some j) (Some k) = nat_lt (kind_number j) (kind_number k)

-- one move comes before another
abbrev pub precedes : Move → Move → Bool
precedes m n = nat_lt m.from n.from
    || m.from == n.from && (nat_lt m.to n.to || m.to == n.to && promotion_precedes m.promo n.promo)
