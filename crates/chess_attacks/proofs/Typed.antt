-- The positions and moves of the examples.
use Rattle.chess_attacks.proofs.Chess.{Colour, Kind, List, Man, Move, None, Option, Position, Some, [], along, attacks_like, is_attacked_by_like, hops, in_check, is_attacked, is_attacker, is_clear, is_paralysed, king_square, leaps, none_unmoved, reaches, reaches_as, repeat, rides, some_square, squares, with_man, ℕ, ◌∷◌}
pub use Rattle.chess_core.specs.SquareNames.{a1, b1, c1, d1, e1, f1, g1, h1, a2, b2, c2, d2, e2, f2, g2, h2, a3, b3, c3, d3, f3, h3, a4, b4, e4, a5, d5, e5, a6, b6, d6, e6, f6, g6, a7, b7, c7, d7, e7, f7, g7, h7, a8, b8, c8, d8, e8, f8, g8, h8}

-- a man of this colour and kind
abbrev pub man : Colour → Kind → Man
man c k = record { colour = c; kind = k }

-- a man on a square
pub record Placed : Type 0 where
  pub square : ℕ
  pub man : Man

-- a man of colour c and kind k on square s
abbrev pub on : Colour → Kind → ℕ → Placed
on c k s = record { square = s; man = man c k }

-- these men on the empty board
abbrev pub set_up : List Placed → List (Option Man)
set_up [] = repeat 64 (None ∷ [])
set_up (x ∷ xs) = with_man (set_up xs) x.square x.man

-- these men, with a side to move and nothing else
abbrev pub position : List Placed → Colour → Position
position xs c = record {
  men = set_up xs;
  turn = c;
  unmoved = none_unmoved;
  crossed = None;
  in_diagram = [];
}

-- the move from one square to another
abbrev pub go : ℕ → ℕ → Move
go a b = record { from = a; to = b; promo = None }

-- the same with a promotion
abbrev pub promoting : ℕ → ℕ → Kind → Move
promoting a b k = record { from = a; to = b; promo = Some k }

-- what attack and check are computed with
unfoldable pub check : Unit {0}
unfolding reaches reaches_as rides hops leaps is_clear along squares some_square king_square is_attacked_by_like attacks_like is_attacker is_paralysed is_attacked in_check
check = tt
