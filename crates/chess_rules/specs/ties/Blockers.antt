-- Blockers on the lines to a king, and moves that can't expose it (own).
use Rattle.std.specs.Prelude.{◌≡◌, ◌⊎◌, ℕ, Bool, false, ◌&&◌, ◌||◌, ◌==◌, not, List, Option, Some, None, is_some}
use Rattle.chess_core.specs.Squares.{is_square, some_square}
pub use Rattle.chess_core.specs.Position.{is_fairy}
use Rattle.chess_core.specs.Position.{Position, is_man, is_of_colour, king_square, man_on, other}
use Rattle.chess_core.specs.ties.Words.{word}
use Rattle.chess_core.specs.declared.man.Man.{Man}
use Rattle.chess_core.specs.declared.man.Move.{Move}
use Rattle.chess_core.specs.declared.man.Colour.{Colour}
use Rattle.chess_core.specs.declared.man.Kind.{Kind}
use Rattle.chess_core.specs.declared.man.Kind.TheVariants.{Queen, Rook, Bishop, Grasshopper, Nightrider}
use Rattle.chess_rules.specs.Play.{is_castling}
use Rattle.std.specs.List.{list_any}
use Rattle.chess_core.specs.Steps.{Step, diagonal_steps, gait_of, is_leaper, knight_steps, queen_steps, straight_steps}
use Rattle.chess_attacks.specs.ties.Lines.{is_lined, is_on_some}
use Rattle.chess_attacks.specs.Reaches.{reaches, rides}
use Rattle.chess_rules.specs.declared.legality.blockers.RiderLines.{RiderLines}
use Rattle.chess_rules.specs.declared.legality.blockers.RiderLines.TheVariants.{Straight, Diagonal}
use Rattle.chess_attacks.specs.RuleSet.{RuleSet, captures_are_reborn}
use Rattle.chess_attacks.specs.ties.Outward.{is_reached}

-- men of this kind are fairy men that move along lines: riders or hoppers
abbrev pub has_fairy_lines : Kind → Bool
has_fairy_lines k = is_fairy k && not (is_leaper (gait_of k))

-- colour c has a grasshopper or a nightrider
unfoldable pub has_fairy : List (Option Man) → Colour → Bool
has_fairy men c =
    some_square (λ s. is_man (man_on men s) c Grasshopper)
    || some_square (λ s. is_man (man_on men s) c Nightrider)

-- t is on a queen's line from k that carries a grasshopper of colour e, or on a nightrider's line from k
-- that carries a nightrider of colour e
unfoldable pub is_on_fairy_line : List (Option Man) → Colour → ℕ → ℕ → Bool
is_on_fairy_line men e k t =
    list_any (is_lined men e Grasshopper k t) queen_steps
    || list_any (is_lined men e Nightrider k t) knight_steps

-- t is on a fairy line of the king's square, if there is a king
abbrev pub is_on_fairy_line_at : List (Option Man) → Option ℕ → Colour → ℕ → Bool
is_on_fairy_line_at men None c t = false
is_on_fairy_line_at men (Some k) c t = is_on_fairy_line men (other c) k t

-- a man on t may be a hurdle for an attack on the king of colour c, or block a nightrider's line to it
unfoldable pub may_be_hurdle : List (Option Man) → Colour → ℕ → Bool
may_be_hurdle men c t = is_on_fairy_line_at men (king_square men c) c t

-- a queen or a man of kind j, of colour e, is on q, on one of the lines from k by these steps
abbrev pub is_line_rider : List (Option Man) → Colour → Kind → List Step → ℕ → ℕ → Bool
is_line_rider men e j ds k q =
    (is_man (man_on men q) e j || is_man (man_on men q) e Queen) && is_on_some ds k q

-- w holds the squares that a rider on k reaches by these steps; it may be empty if no rider of colour e
-- is on these lines
abbrev pub AreRides : List (Option Man) → Colour → Kind → List Step → ℕ → ℕ → Type 0
AreRides men e j ds k w =
    (w ≡ word (λ t. list_any (rides men k t) ds))
    ⊎ ((w ≡ 0) × (word (is_line_rider men e j ds k) ≡ 0))

-- a line rider of colour e on q reaches s by one of these steps
unfoldable pub is_rider_beyond : List (Option Man) → Colour → Kind → List Step → ℕ → ℕ → ℕ → Bool
is_rider_beyond men e j ds k s q = is_line_rider men e j ds k q && list_any (rides men q s) ds

-- s blocks a line between k and a line rider of colour e: riders on both reach it
unfoldable pub is_blocking : List (Option Man) → Colour → Kind → List Step → ℕ → ℕ → Bool
is_blocking men e j ds k s =
    list_any (rides men k s) ds && some_square (is_rider_beyond men e j ds k s)

-- an enemy of colour c on s reaches the king's square, if there is a king
abbrev pub is_checker_at : List (Option Man) → Option ℕ → Colour → ℕ → Bool
is_checker_at men None c s = false
is_checker_at men (Some k) c s = is_of_colour (man_on men s) (other c) && reaches men s k

-- an enemy on s reaches the king of colour c, paralysed or not
unfoldable pub is_checker : List (Option Man) → Colour → ℕ → Bool
is_checker men c s = is_checker_at men (king_square men c) c s

-- a move from s may expose the king on its square, if there is a king
abbrev pub may_expose_at : List (Option Man) → Option ℕ → Colour → ℕ → Bool
may_expose_at men None c s = false
may_expose_at men (Some k) c s =
    is_reached men k (other c) || k == s || is_blocking men (other c) Rook straight_steps k s
    || is_blocking men (other c) Bishop diagonal_steps k s || is_on_fairy_line men (other c) k s

-- a move from s may expose the king of colour c: an enemy reaches the king, paralysed or not; the king
-- itself moves; s blocks a line to an enemy rider; or s is on a line that carries an enemy grasshopper or
-- nightrider
unfoldable pub may_expose : List (Option Man) → Colour → ℕ → Bool
may_expose men c s = may_expose_at men (king_square men c) c s

-- the steps of a rook's lines, or of a bishop's
abbrev pub steps_along : RiderLines → List Step
steps_along Straight = straight_steps
steps_along Diagonal = diagonal_steps

-- the piece that rides along these lines only
abbrev pub rider_along : RiderLines → Kind
rider_along Straight = Rook
rider_along Diagonal = Bishop

-- the move changes only its origin and its arrival: it isn't castling or en passant, and nobody is reborn
unfoldable pub is_plain : RuleSet → Position → Man → Move → Bool
is_plain rule p x m =
    not (is_castling x m) && not (is_square p.crossed m.to)
    && not (captures_are_reborn rule && is_some (man_on p.men m.to))

-- the move of this man, if there is one, can't expose the king of colour c
abbrev pub cannot_expose_of : RuleSet → Position → Option Man → Colour → Move → Bool
cannot_expose_of rule p None c m = false
cannot_expose_of rule p (Some x) c m =
    not (may_expose p.men c m.from)
    && (not (may_be_hurdle p.men c m.to) && is_plain rule p x m)

-- the move can't expose the king of colour c
unfoldable pub cannot_expose : RuleSet → Position → Colour → Move → Bool
cannot_expose rule p c m = cannot_expose_of rule p (man_on p.men m.from) c m
