-- A value for each kind of man (own).
use Rattle.chess_core.specs.declared.man.Kind.{Kind}
use Rattle.chess_core.specs.declared.man.Kind.TheVariants.{King, Queen, Rook, Bishop, Knight, Pawn, Grasshopper, Nightrider}
use Rattle.chess_flights.specs.declared.by_kind.ByKind.{ByKind}

-- the value for a kind
abbrev pub value_for : {T : Type 0} → ByKind T → Kind → T
value_for v King = v.kings
value_for v Queen = v.queens
value_for v Rook = v.rooks
value_for v Bishop = v.bishops
value_for v Knight = v.knights
value_for v Pawn = v.pawns
value_for v Grasshopper = v.grasshoppers
value_for v Nightrider = v.nightriders
