-- A mate has a plan, a plan comes back over each legal move, and so each line that reaches the goal has one at
-- its start.
use Rattle.chess_reach.proofs.Chess.{Bool, Colour, Ends, IsPlan, IsWellFormed, King, List, Man, Move, Position, RuleSet, Some, captures_are_reborn, false, in_check, is_castling, is_legal, is_man, king_square, length, man_on, other, position_after, reborn_square, suc, true, ℕ, ◌+◌, ◌/◌, ◌≡◌, ◌≢◌, ◌∙◌, arriving_man, capture_square, arith}
use Rattle.chess_reach.proofs.Castling.{other_castling, own_castling}
use Rattle.chess_reach.proofs.Gone.{is_gone}
use Rattle.chess_reach.proofs.Lines.{king_along, line_plan}
use Rattle.chess_reach.proofs.OneMove.{other_step, own_step, stays}
use Rattle.chess_reach.proofs.Picture.{picture}
use Rattle.chess_reach.specs.Lines.{IsLegalLine, line_end, mover, reaches_goal}
use Rattle.chess_reach.specs.Plans.{saved_moves, standing_checks}
use Rattle.chess_rules.proofs.LegalMoves.{may_be_made}
use Rattle.chess_rules.proofs.Pseudo.{made}
use Rattle.pop_stipulation.specs.declared.stipulation.Goal.{Goal}

-- There is a plan in n moves of colour c and m of the other side, whose king ends on k; a knight or pawn that
-- has made no move checks only if `standing_checks`.
abbrev pub HasPlan : Goal → Bool → RuleSet → Position → Colour → ℕ → ℕ → ℕ → Type 0
HasPlan goal standing_checks rule p c n m k = (ends : Ends) × IsPlan goal standing_checks (captures_are_reborn rule) p c n m k ends

module _ (rule : RuleSet) (goal : Goal) (c : Colour) (k : ℕ) where
  -- If the other side is mated (or stalemated) with its king on k, and c isn't in check, there is a plan
  -- without any move.
  pub mate_has_plan : (p : Position) → IsWellFormed p → p.turn ≡ other c → in_check rule p.men c ≡ false → king_square p.men (other c) ≡ Some k
      → reaches_goal goal rule p ≡ true → HasPlan goal true rule p c 0 0 k
  mate_has_plan p well turn safe king reaches = (stays p.men, picture rule p c k well turn safe king goal reaches)

  module _ (p : Position) (m : Move) (x : Man) (n o : ℕ) (well : IsWellFormed p) (legal : is_legal rule p m ≡ true) (here : man_on p.men m.from ≡ Some x)
      (sc : Bool) (after : HasPlan goal sc rule (position_after rule p m) c n o k) where
    -- A plan after a move of colour c that doesn't castle is one before it, with one move more of c.
    pub plan_before_own_move : p.turn ≡ c → is_castling x m ≡ false → HasPlan goal sc rule p c (suc n) o k
    plan_before_own_move turn plain =
        let may = may_be_made rule p m legal in
        own_step (captures_are_reborn rule) p (position_after rule p m) x (arriving_man x m.promo) m.from m.to (capture_square p x m) (reborn_square rule p x m)
        (is_gone rule p x m well may here plain) after.0
        goal sc c n o k ((made rule p m x may here).mine ∙ turn) after.1

    -- A plan after a move of the other side that doesn't castle is one before it, with one move more of that side.
    pub plan_before_their_move : p.turn ≡ other c → is_castling x m ≡ false → HasPlan goal sc rule p c n (suc o) k
    plan_before_their_move turn plain =
        let may = may_be_made rule p m legal in
        other_step (captures_are_reborn rule) p (position_after rule p m) x (arriving_man x m.promo) m.from m.to (capture_square p x m) (reborn_square rule p x m)
        (is_gone rule p x m well may here plain) after.0
        goal sc c n o k ((made rule p m x may here).mine ∙ turn) after.1

    -- Castling of colour c counts as three moves: two of its king and one of its rook.
    pub plan_before_own_castling : p.turn ≡ c → is_castling x m ≡ true → HasPlan goal sc rule p c (n + 3) o k
    plan_before_own_castling turn castling =
        let may = may_be_made rule p m legal in
        rw three (own_castling rule p x m well may here castling (captures_are_reborn rule) goal sc c n o k after.0 ((made rule p m x may here).mine ∙ turn) after.1)
      where
        three : n + 3 ≡ suc (suc (suc n))
        three = omega arith

    -- Castling of the other side likewise.
    pub plan_before_their_castling : p.turn ≡ other c → is_castling x m ≡ true → HasPlan goal sc rule p c n (o + 3) k
    plan_before_their_castling turn castling =
        let may = may_be_made rule p m legal in
        rw three (other_castling rule p x m well may here castling (captures_are_reborn rule) goal sc c n o k after.0 ((made rule p m x may here).mine ∙ turn) after.1)
      where
        three : o + 3 ≡ suc (suc (suc o))
        three = omega arith

  module _ (line : List Move) (p : Position) (well : IsWellFormed p) (legal : IsLegalLine rule p line) where
    -- If a line of h legal moves, the last of them by c, reaches the goal with the other side's king on k, then
    -- its start has a plan: in half of the h moves of each side, c having the one more if h is odd; and in two
    -- moves more of a side whose king still has castling rights. A knight or pawn that checks in it has made a
    -- move, except in Madrasi and Circe. If h is 1, the king must not be in check already.
    pub line_has_plan : length line ≢ 0 → (length line ≡ 1 → in_check rule p.men (other c) ≡ false) → p.turn ≡ mover c (length line) → reaches_goal goal rule (line_end rule p line) ≡ true
        → king_square (line_end rule p line).men (other c) ≡ Some k
        → HasPlan goal (standing_checks rule) rule p c ((length line + 1) / 2 + saved_moves p c) (length line / 2 + saved_moves p (other c)) k
    line_has_plan some safe turn reaches king = line_plan rule c goal k line p well legal reaches turn king some safe

    -- Along a line of legal moves no side loses its king.
    pub no_king_is_lost : (s : ℕ) (d : Colour) → is_man (man_on p.men s) d King ≡ true
        → (r : ℕ) × (is_man (man_on (line_end rule p line).men r) d King ≡ true)
    no_king_is_lost s d king = king_along rule d line p s well legal king
