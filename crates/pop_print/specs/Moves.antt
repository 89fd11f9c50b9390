-- The text of moves (own layout; Popeye manual: English letters, ep., Circe's rebirth in brackets).
use Rattle.std.specs.Prelude.{ℕ, List, [], ◌∷◌, ◌++◌, Bool, true, false, Option, Some, None, codes}
use Rattle.chess_core.specs.declared.man.Man.{Man}
use Rattle.chess_core.specs.Letters.{letter_of}
use Rattle.chess_core.specs.Move.{promotion_text}
use Rattle.chess_core.specs.SquareNames.{square_text}
use Rattle.pop_events.specs.declared.shown.Side.{Side}
use Rattle.pop_events.specs.declared.shown.Side.TheVariants.{A, H}
use Rattle.pop_events.specs.declared.shown.Mark.{Mark}
use Rattle.pop_events.specs.declared.shown.Mark.TheVariants.{Plain, Check, Mate, Stalemate}
use Rattle.pop_events.specs.Shown.{Shown}
use Rattle.pop_print.specs.Notation.{colour_letter, man_text}

-- the text of castling to a side
abbrev pub castling_text : Side → List ℕ
castling_text H = codes "0-0"
castling_text A = codes "0-0-0"

-- the sign between origin and arrival square: it says whether the move captures
abbrev pub step_text : Bool → List ℕ
step_text true = codes "*"
step_text false = codes "-"

-- the text of a capture en passant
abbrev pub en_passant_text : Bool → List ℕ
en_passant_text true = codes " ep."
en_passant_text false = []

-- the text of a rebirth: the reborn man and its square
abbrev pub rebirth_text : Option (Man × ℕ) → List ℕ
rebirth_text None = []
rebirth_text (Some reborn) =
    codes "[+" ++ colour_letter reborn.0.colour ∷ letter_of reborn.0.kind ∷ []
    ++ square_text reborn.1 ++ codes "]"

-- the text of a mark: mate, stalemate, a check that isn't mate, or nothing
abbrev pub mark_text : Mark → List ℕ
mark_text Mate = codes "#"
mark_text Stalemate = codes "="
mark_text Check = codes "+"
mark_text Plain = []

-- the text of a move that isn't castling, without its mark
abbrev pub plain_move_text : Shown → List ℕ
plain_move_text shown =
    man_text shown.man.kind ++ square_text shown.from ++ step_text shown.capture
    ++ square_text shown.to
    ++ en_passant_text shown.ep ++ promotion_text shown.promo ++ rebirth_text shown.rebirth

-- the text of a move without its mark
abbrev pub unmarked_text : Option Side → Shown → List ℕ
unmarked_text (Some side) shown = castling_text side
unmarked_text None shown = plain_move_text shown

-- the text of a move
unfoldable pub move_text : Shown → List ℕ
move_text shown = unmarked_text shown.castling shown ++ mark_text shown.mark
