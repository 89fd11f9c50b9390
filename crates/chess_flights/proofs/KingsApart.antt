-- A king that goes next to the other king is in check there: no legal move does so.
use Rattle.chess_flights.proofs.Chess.{CanCastle, IsMade, IsWellFormed, King, Man, Move, Position, RuleSet, Some, after_well_formed, and_from, and_parts, arith, arrived, arrived_other, can_move, capture_square, cases_Bool, corner, false, false≢true, halfway, in_check, inl, inr, is_attacked, is_attacker, is_castling, is_legal, is_pseudo_legal, may_be_made, king-back, king_is, king_square, king_stays_king, made, man_on, man_on-without_other, man_on_at, may_check_from, move_man_other, moved_men, moved_plainly, not-true, other, other_differs, position_after, reaches_as, reborn_is, reborn_square, same_colour-refl, same_kind, same_kind-true, some_square_true, sym, taken, true, ℕ, ◌<◌, ◌∙◌, ◌≡◌}
use Rattle.chess_flights.proofs.Fleeing.{IsKingOn, king_is_able, king_on, no_king_square, steps_there}
use Rattle.chess_flights.proofs.Standing.{stood_reborn, after_is}
use Rattle.chess_rules.proofs.Returns.{moved_arrival}

module _ (rule : RuleSet) (p : Position) (x : Man) (m : Move) (well : IsWellFormed p) (is : IsMade rule p x m) where
  stays_after : (s : ℕ) (z : Man) → man_on (moved_men p x m) s ≡ Some z → man_on (position_after rule p m).men s ≡ Some z
  stays_after s z there =
      let cases = stood_reborn (moved_men p x m) (reborn_square rule p x m) (man_on_at p.men (capture_square p x m)) s in
      rw (after_is rule p x m is.here) (grind (arith, cases, reborn_is rule p x m s))

  -- the enemy's king keeps its square
  module _ (k : ℕ) (at : king_square p.men (other p.turn) ≡ Some k) (y : Man) (stood : IsKingOn p.men (other p.turn) k y) where
    arrived_there : man_on (arrived p x m) k ≡ Some y
    arrived_there =
        arrived_other p x m k (λ e. grind (arith, false≢true, other_differs)) (λ s cap e. grind (arith, taken rule p x m s well is cap, false≢true))
        (λ e. no_king_square p.men p.turn (other p.turn) k m.to at is.arrival (sym e)) ∙ stood.here

    moved_there : man_on (moved_men p x m) k ≡ Some y
    unfolding moved_men
    moved_there = elim (cases_Bool (is_castling x m)) [
      | inr plain ↦ rw (moved_plainly p x m plain) arrived_there
      | inl castling ↦
          let rook : CanCastle (arrived p x m) (corner m) (halfway m) = (can_move rule p x m well is).rook castling in
          rw castling (move_man_other (arrived p x m) (corner m) (halfway m) (man_on (arrived p x m) (corner m)) k (grind (arith, false≢true, arrived_there))
          (grind (arith, man_on-without_other, arrived_there)) ∙ arrived_there)
    ]

    -- the enemy's king attacks a king that came next to it
    module _ (small : m.to < 64) (king : same_kind x.kind King ≡ true) (near : reaches_as p.men x.colour x.kind m.to k ≡ true) where
      strikes_him : is_attacker rule (position_after rule p m).men m.to (other p.turn) k ≡ true
      unfolding is_attacker reaches_as
      strikes_him = grind (arith, stays_after k y moved_there, and_from, king_is_able, steps_there, same_kind-true, king, king-back)

      in_check_there : is_pseudo_legal rule p m ≡ true → in_check rule (position_after rule p m).men p.turn ≡ true
      unfolding in_check is_attacked
      in_check_there may =
          let square = king_is (position_after rule p m).men p.turn m.to (after_well_formed rule p m well may).kings small in
          let struck = some_square_true (is_attacker rule (position_after rule p m).men m.to (other p.turn)) k stood.small strikes_him in
          grind (arith, square, stays_after m.to x, moved_arrival, king_stays_king, is.mine, same_colour-refl p.turn, king, struck)

-- a king itself gives no check by a legal move
pub kings_apart : (rule : RuleSet) (p : Position) (x : Man) (m : Move) → IsWellFormed p → man_on p.men m.from ≡ Some x → m.to < 64 → is_legal rule p m ≡ true
    → same_kind x.kind King ≡ true → may_check_from p.men (other p.turn) x m.to ≡ false
unfolding may_check_from is_legal
kings_apart rule p x m well here small lawful king =
    let may = may_be_made rule p m lawful in
    let check = in_check_there rule p x m well (made rule p m x may here) in
    grind (arith, king_on p.men (other p.turn), check, may, same_kind-true x.kind King king, lawful, not-true, and_parts)
