-- Where the king ends when the last move of its side is made.
use Rattle.pop_walk.proofs.Words.{Goal, inl, inr, ◌+◌, IsWellFormed, List, Move, Option, Position, RuleSet, Some, [], after_well_formed, arith, cond, eqb, false≢true, is_legal, may_be_made, length, nat_tests, position_after, refl, sym, true, ℕ, ◌∙◌, ◌∷◌, ◌≡◌}
use Rattle.std.specs.Int.{bit_at}
use Rattle.chess_core.specs.Position.{is_man, king_square, man_on, other}
use Rattle.chess_core.specs.declared.man.Colour.{Colour}
use Rattle.chess_core.specs.declared.man.Colour.TheVariants.{Black, White}
use Rattle.chess_core.specs.declared.man.Kind.TheVariants.{King}
use Rattle.chess_attacks.proofs.rays.OnSquares.{on_board}
use Rattle.chess_rules.proofs.Blocking.{king_is, man_there}
use Rattle.chess_rules.proofs.StayingInCheck.{king_there}
use Rattle.chess_reach.proofs.KingMoves.{king_goes_along, king_stays_behind, waiting_king_stays}
use Rattle.chess_reach.proofs.Lines.{turn_after}
use Rattle.chess_reach.specs.Lines.{holds_king, reaches_goal}
unfoldable use Rattle.chess_reach.specs.Lines.{HoldsEnds, IsLegalLine, line_end}
use Rattle.pop_walk.proofs.GoingOn.{cases}
use Rattle.pop_walk.proofs.OutOfReach.{ends_after}
use Rattle.pop_walk.specs.ties.Walk.{IsKingOff}

-- the other side of the other side
twice : (c : Colour) → other (other c) ≡ c
twice White = refl
twice Black = refl

-- a king that is found is the only one
found : (p : Position) (c : Colour) (e : ℕ) → IsWellFormed p → is_man (man_on p.men e) c King ≡ true → king_square p.men c ≡ Some e
found p c e well king =
    let man = man_there (man_on p.men e) c King king in
    king_is p.men c e well.kings (on_board p.men e man.0 well.size man.1) king

-- a square that a bitboard lacks holds no king
off-square : (w e : ℕ) (o : Option ℕ) → o ≡ Some e → bit_at w e ≡ 0 → holds_king w o ≡ true → ⊥
off-square w e o at lacks holds = false≢true (sym (rw (at, lacks) refl) ∙ holds)

module _ (rule : RuleSet) (p : Position) (m : Move) (well : IsWellFormed p)
    (legal : is_legal rule p m ≡ true) (k : ℕ) (at : king_square p.men p.turn ≡ Some k) where
  abbrev q : Position
  q = position_after rule p m

  well-q : IsWellFormed q
  well-q = after_well_formed rule p m well (may_be_made rule p m legal)

  -- the king's square after the move
  abbrev end : ℕ
  end = cond (eqb m.from k) m.to k

  king-end : is_man (man_on q.men end) p.turn King ≡ true
  king-end =
      let from = (king_there p.men p.turn k at).1 in
      elim (cases (eqb m.from k)) [
        | inl apart ↦ rw apart (king_stays_behind rule p m well legal k from (grind (arith, nat_tests)))
        | inr same ↦
            let e : m.from ≡ k = grind (arith, nat_tests) in
            rw same (king_goes_along rule p m well legal (rw e from))
      ]

  -- it stays there when the other side moves
  king-stays : (n : Move) → is_legal rule q n ≡ true
      → king_square (position_after rule q n).men (position_after rule q n).turn ≡ Some end
  king-stays n lawful =
      let turn : q.turn ≡ other p.turn = turn_after rule p m well legal in
      let mine : other q.turn ≡ p.turn = rw turn (twice p.turn) in
      let stays = waiting_king_stays rule q n well-q lawful end (rw mine king-end) in
      let well-r = after_well_formed rule q n well-q (may_be_made rule q n lawful) in
      rw (turn_after rule q n well-q lawful) (found (position_after rule q n) (other q.turn) end well-r stays)

  module _ (goal : Goal) (w : ℕ) (lacks : bit_at w end ≡ 0) (ends : HoldsEnds goal rule 1 q w) where
    line-off : (line : List Move) → length line ≡ 1 → IsLegalLine rule q line → reaches_goal goal rule (line_end rule q line) ≡ true
        → holds_king 0 (king_square (line_end rule q line).men (line_end rule q line).turn) ≡ true
    unfolding HoldsEnds IsLegalLine line_end
    line-off [] long lines reaches = absurd (omega (arith, long))
    line-off (n ∷ []) long lines reaches =
        absurd (off-square w end (king_square (position_after rule q n).men (position_after rule q n).turn) (king-stays n lines.0) lacks
        (ends (n ∷ []) long lines reaches))
    line-off (n ∷ (x ∷ rest)) long lines reaches = absurd (omega (arith, long))

    -- where it is off the squares of a bitboard, no line of one more half-move ends on them
    pub none-ends : HoldsEnds goal rule 1 q 0
    unfolding HoldsEnds
    none-ends = line-off

-- for `squares_after`: where the king ends off the squares on which lines end, no line is left
pub king_off : (rule : RuleSet) (goal : Goal) (p : Position) (m : Move) (w t : ℕ) → IsWellFormed p → is_legal rule p m ≡ true → IsKingOff rule p m w
    → t ≡ 1 → HoldsEnds goal rule (t + 1) p w → HoldsEnds goal rule t (position_after rule p m) 0
king_off rule goal p m w t well legal off one ends =
    let after : HoldsEnds goal rule 1 (position_after rule p m) w = rw (← one) (ends_after rule goal t w p m legal ends) in
    rw one (none-ends rule p m well legal off.king off.at goal w off.off after)
