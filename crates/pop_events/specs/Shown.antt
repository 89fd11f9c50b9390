-- What is shown of a move (notation of the FIDE Laws, appendix C; Circe's rebirth as in the Popeye manual).
use Rattle.std.specs.Prelude.{ℕ, Bool, false, not, ◌&&◌, nat_lt, Option, Some, None, is_some, if◌then◌else◌}
use Rattle.chess_core.specs.Position.{Position, man_on}
use Rattle.chess_core.specs.declared.man.Colour.TheVariants.{White}
use Rattle.chess_core.specs.declared.man.Kind.{Kind}
use Rattle.chess_core.specs.declared.man.Kind.TheVariants.{King}
use Rattle.chess_core.specs.declared.man.Man.{Man}
use Rattle.chess_core.specs.declared.man.Move.{Move}
use Rattle.chess_attacks.specs.Attacks.{in_check}
use Rattle.chess_rules.specs.Legal.{is_mate, is_stalemate}
use Rattle.chess_rules.specs.Play.{is_castling, position_after, undo_of}
use Rattle.chess_attacks.specs.RuleSet.{RuleSet}
use Rattle.chess_core.specs.Undo.{Undo}
use Rattle.pop_stipulation.specs.Stipulations.{is_for_stalemate}
use Rattle.pop_stipulation.specs.declared.stipulation.Goal.{Goal}
use Rattle.pop_events.specs.declared.shown.Mark.{Mark}
use Rattle.pop_events.specs.declared.shown.Mark.TheVariants.{Plain, Check, Mate, Stalemate}
use Rattle.pop_events.specs.declared.shown.Side.{Side}
use Rattle.pop_events.specs.declared.shown.Side.TheVariants.{A, H}

-- a move as shown: the man and its squares, whether it captures and whether en passant, its promotion, the side that it
-- castles to, the captured man that is reborn and where, and the mark
pub record Shown : Type 0 where
  pub man : Man
  pub from : ℕ
  pub to : ℕ
  pub capture : Bool
  pub ep : Bool
  pub promo : Option Kind
  pub castling : Option Side
  pub rebirth : Option (Man × ℕ)
  pub mark : Mark

-- the mark of a move that leads to position q: stalemate is marked only if it is the goal (own)
unfoldable pub mark_of : Goal → RuleSet → Position → Mark
mark_of goal rule q =
    if is_mate rule q then Mate
    else (if in_check rule q.men q.turn then Check
    else (if is_for_stalemate goal && is_stalemate rule q then Stalemate else Plain))

-- the side that a man castles to, if the move is castling
abbrev pub castling_side : Man → Move → Option Side
castling_side x m = if is_castling x m then Some (if nat_lt m.from m.to then H else A) else None

-- the captured man and its square of rebirth, if it is reborn
abbrev pub reborn_man : Option Man → Option ℕ → Option (Man × ℕ)
reborn_man (Some y) (Some r) = Some (y, r)
reborn_man _ _ = None

-- the move m of the man x as shown: `there` is the man on the arrival square before the move, `lost` is what the move
-- destroys; a capture is en passant if nobody is on the arrival square
abbrev pub shown_by : Man → Option Man → Move → Undo → Mark → Shown
shown_by x there m lost mark = record {
  man = x;
  from = m.from;
  to = m.to;
  capture = is_some lost.captured;
  ep = is_some lost.captured && not (is_some there);
  promo = m.promo;
  castling = castling_side x m;
  rebirth = reborn_man lost.captured lost.rebirth;
  mark = mark;
}

-- a move of no man, which is never shown
abbrev pub no_move_shown : Shown
no_move_shown = record {
  man = record { colour = White; kind = King };
  from = 0;
  to = 0;
  capture = false;
  ep = false;
  promo = None;
  castling = None;
  rebirth = None;
  mark = Plain;
}

-- a move as shown, by the men on its origin and arrival square, its undo and its mark
unfoldable pub shown_of : Option Man → Option Man → Move → Undo → Mark → Shown
shown_of None there m lost mark = no_move_shown
shown_of (Some x) there m lost mark = shown_by x there m lost mark

-- the move m of position p as shown, from the positions before and after it
unfoldable pub shown_move : Goal → RuleSet → Position → Move → Shown
shown_move goal rule p m = shown_of (man_on p.men m.from) (man_on p.men m.to) m (undo_of rule p m)
    (mark_of goal rule (position_after rule p m))
