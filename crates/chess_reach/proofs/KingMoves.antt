-- Where kings are after a legal move.
use Rattle.chess_reach.proofs.Chess.{IsWellFormed, King, Man, Move, Position, RuleSet, Some, and_from, and_parts, arriving_man, capture_square, captures_are_reborn, cases_Bool, false, inl, inr, is_castling, is_legal, is_man, man_on, other, position_after, reborn_square, same_colour, same_colour-refl, sym, true, ℕ, ◌≡◌, ◌≢◌}
use Rattle.chess_reach.proofs.Castling.{king_castles_to, other_king_castled}
use Rattle.chess_reach.proofs.Gone.{is_gone}
use Rattle.chess_reach.proofs.Lines.{here, man, may}
use Rattle.chess_reach.proofs.OneMove.{king_arrives, king_stays, other_king_stays, stays}
use Rattle.chess_rules.proofs.Blocking.{other_differs}
use Rattle.chess_rules.proofs.Pseudo.{made}

module _ (rule : RuleSet) (p : Position) (m : Move) (well : IsWellFormed p)
    (legal : is_legal rule p m ≡ true) where
  abbrev mover : Man
  mover = man rule p m well legal

  mover_here : man_on p.men m.from ≡ Some mover
  mover_here = here rule p m well legal

  mine : mover.colour ≡ p.turn
  mine = (made rule p m mover (may rule p m well legal) mover_here).mine

  -- The king of the side that isn't to move stays.
  pub waiting_king_stays : (s : ℕ) → is_man (man_on p.men s) (other p.turn) King ≡ true
      → is_man (man_on (position_after rule p m).men s) (other p.turn) King ≡ true
  waiting_king_stays s king =
      let differs : same_colour mover.colour (other p.turn) ≡ false = rw mine (other_differs p.turn) in
      elim (cases_Bool (is_castling mover m)) [
        | inl castling ↦ other_king_castled rule p mover m well (may rule p m well legal) mover_here castling (captures_are_reborn rule) (other p.turn) s differs king
        | inr plain ↦
            other_king_stays (captures_are_reborn rule) p (position_after rule p m) mover (arriving_man mover m.promo) m.from m.to (capture_square p mover m) (reborn_square rule p mover m)
            (is_gone rule p mover m well (may rule p m well legal) mover_here plain) (stays p.men) (other p.turn) s differs king
      ]

  -- The king of the side to move goes with its move.
  pub king_goes_along : is_man (man_on p.men m.from) p.turn King ≡ true → is_man (man_on (position_after rule p m).men m.to) p.turn King ≡ true
  king_goes_along king = elim (cases_Bool (is_castling mover m)) [
    | inl castling ↦ king_castles_to rule p mover m well (may rule p m well legal) mover_here castling (captures_are_reborn rule) p.turn king
    | inr plain ↦
        king_arrives (captures_are_reborn rule) p (position_after rule p m) mover (arriving_man mover m.promo) m.from m.to (capture_square p mover m) (reborn_square rule p mover m)
        (is_gone rule p mover m well (may rule p m well legal) mover_here plain) (stays p.men) p.turn king
  ]

  -- It stays where another man moves.
  pub king_stays_behind : (s : ℕ) → is_man (man_on p.men s) p.turn King ≡ true → m.from ≢ s → is_man (man_on (position_after rule p m).men s) p.turn King ≡ true
  king_stays_behind s king apart = elim (cases_Bool (is_castling mover m)) [
    | inl castling ↦
        let crowned : is_man (Some mover) p.turn King ≡ true = rw mine (and_from _ _ (same_colour-refl p.turn) (and_parts _ _ (and_parts _ _ castling).0).0) in
        absurd (apart (well.kings.same p.turn m.from s (rw mover_here crowned) king))
    | inr plain ↦
        king_stays (captures_are_reborn rule) p (position_after rule p m) mover (arriving_man mover m.promo) m.from m.to (capture_square p mover m) (reborn_square rule p mover m)
        (is_gone rule p mover m well (may rule p m well legal) mover_here plain) (stays p.men) p.turn s king (λ e. apart (sym e))
  ]
