-- A king in check has no legal move if all its steps are guarded after a move.
use Rattle.chess_mates.proofs.Chess.{AreSteps, AreUnsafe, Colour, IsFlightless, IsSeenFrom, IsWellFormed, King, List, Man, Move, None, Option, Position, RuleSet, Some, [], after_well_formed, and_left, and_parts, and_right, ap, arith, arriving_colour, arriving_man, attacked_plainly, bit_and, bit_at, bit_not, can_castle, capture_square, captures_are_reborn, cases_Bool, like_men_paralyse, false, false_from_ne_true, false≢true, filter, in_check, inl, inr, is_legal, is_mate, is_nil, is_open, may_be_made, is_reached, king_is, king_is_no_pawn, king_square, legal_moves_are_triples, made, man_on, may_castle, moves, not, not-true, occupied_squares, other, position_after, reaches, reaches_as, refl, same_colour, same_colour-refl, same_kind, same_kind-true, occupancy_lifted, some_is, sym, triples, true, true_from_ne_false, w64, word, ℕ, ◌&&◌, ◌<◌, ◌==◌, ◌∙◌, ◌∷◌, ◌≡◌}
use Rattle.chess_flights.proofs.Fleeing.{IsKingOn, arrived_strikes, is_made, king_on, king_seen, men_stepped, reached_alike, seen_bit, step_legal_is, step_seen, step_taken, step_to}
use Rattle.chess_flights.proofs.Mating.{turn_after}
use Rattle.chess_flights.proofs.Standing.{unnamed}
use Rattle.chess_flights.proofs.Stepping.{occupied_lifted, seen_stepped}
use Rattle.chess_rules.specs.ties.Filtering.{is_of_others}
use Rattle.chess_mates.specs.ties.Parries.{IsParriless}
use Rattle.chess_rules.proofs.theorems.Moves.{mate_is}

-- how a king in check goes: by a step
own_step : (rule : RuleSet) (q : Position) (n : Move) (k : ℕ) (y : Man) → IsWellFormed q → king_square q.men q.turn ≡ Some k → man_on q.men k ≡ Some y
    → same_kind y.kind King ≡ true → in_check rule q.men q.turn ≡ true → is_of_others q n ≡ false → is_legal rule q n ≡ true
    → captures_are_reborn rule ≡ false → (n.to < 64) × ((step_to k n.to ≡ n) × (is_open rule q.men q.turn k n.to ≡ true))
unfolding is_open reaches reaches_as can_castle may_castle
own_step rule q n k y well at here king check kings legal circe =
    let triple = legal_moves_are_triples rule q n well legal in
    let origin : n.from ≡ k = some_is n.from k (sym (king_is q.men q.turn n.from well.kings triple.0 (grind (arith, kings))) ∙ at) in
    let is = made rule q n y (may_be_made rule q n legal) (ap (man_on q.men) origin ∙ here) in
    let promo : n.promo ≡ None = unnamed q y n n.promo (and_left _ _ (king_is_no_pawn y.kind king)) is.promotion in
    let way : is_open rule q.men q.turn k n.to ≡ true =
    grind (arith, is.can_go, king_is_no_pawn, and_left, and_right, is.mine, is.arrival, here, same_kind-true y.kind King king) in
    (triple.1, (rw (origin, promo) refl, way))

module _ (rule : RuleSet) (p : Position) (m : Move) (x : Man) (k : ℕ) (i : IsSeenFrom rule p m x k) (small : m.to < 64) (n r : ℕ)
    (arrives : (l : List (Option Man)) → (occupancy_lifted p.men m.from (capture_square p x m) m.to k).occupied ≡ occupied_squares l
    → r ≡ word (reaches_as l (arriving_man x m.promo).colour (arriving_man x m.promo).kind m.to))
    (ways : AreSteps rule (position_after rule p m).men x (other p.turn) k n)
    (mortal : same_kind x.kind King ≡ false) (exact : (not (captures_are_reborn rule) && not (like_men_paralyse rule)) ≡ true)
    (guarded : AreUnsafe p.men p.turn (occupancy_lifted p.men m.from (capture_square p x m) m.to k) (bit_and n (bit_not w64 r))) where
  plain : (captures_are_reborn rule ≡ false) × (like_men_paralyse rule ≡ false)
  plain = let both = and_parts _ _ exact in (not-true _ both.0, not-true _ both.1)

  reached : (y : Man) (t : ℕ) → t < 64 → IsKingOn (position_after rule p m).men (other p.turn) k y
      → is_open rule (position_after rule p m).men (other p.turn) k t ≡ true → is_reached (men_stepped rule p m x k i small y t) t p.turn ≡ true
  reached y t there king way =
      let seen = step_seen rule p m x k i small n r arrives y t there king in
      elim (cases_Bool (bit_at r t == 1)) [
        | inl on ↦ arrived_strikes p.men m.from (capture_square p x m) m.to (arriving_man x m.promo) k (step_taken rule p m x k i small y t) t y p.turn r seen
            (ap (λ (c : Colour). same_colour c p.turn) (arriving_colour x m.promo ∙ (is_made rule p m x k i).mine) ∙ same_colour-refl p.turn) on
        | inr off ↦
            reached_alike p.men m.from (capture_square p x m) m.to (arriving_man x m.promo) k (step_taken rule p m x k i small y t) t y p.turn r seen off
            ∙ guarded.reached t there (seen_bit _ n r t (arrives _ (occupied_lifted p.men m.from (capture_square p x m) m.to (arriving_man x m.promo) k
            (omega (arith, small, i.well_formed.size)))) there (true_from_ne_false _ (λ h. false≢true (sym (ways.outside mortal plain.0 t there h) ∙ way))) off)
            _ (seen_stepped p.men m.from (capture_square p x m) m.to k (step_taken rule p m x k i small y t) t y p.turn seen.step)
      ]

  -- in check the king has no legal step
  pub flightless : IsFlightless rule (position_after rule p m)
  flightless = record {
    stays = λ check n kings. false_from_ne_true _ (λ legal.
        let q = position_after rule p m in
        let at : king_square q.men (other p.turn) ≡ Some k = king_seen rule p m x k i small in
        let king = king_on q.men (other p.turn) k at in
        let turn : q.turn ≡ other p.turn = turn_after rule p m i.pseudo in
        let well = after_well_formed rule p m i.well_formed i.pseudo in
        let step = own_step rule q n k king.0 well (ap (king_square q.men) turn ∙ at) king.1.here king.1.king check kings legal plain.0 in
        let way = ap (λ (c : Colour). is_open rule q.men c k n.to) (sym turn) ∙ step.1.1 in
        let attacked = attacked_plainly rule (men_stepped rule p m x k i small king.0 n.to) n.to p.turn true plain.1 in
        let lawful = step_legal_is rule p m x k i small king.0 n.to step.0 king.1 way in
        grind (arith, lawful, attacked, reached king.0 n.to step.0 king.1 way, step.1.0, legal));
  }

-- where no move of the king is legal, the others' are all
pub others_are_all : (rule : RuleSet) (p : Position) → in_check rule p.men p.turn ≡ true → IsFlightless rule p
    → not (is_nil (filter (is_of_others p) (moves rule p))) ≡ not (is_nil (moves rule p))
unfolding moves
others_are_all rule p check none = ap (λ (l : List Move). not (is_nil l)) (by triples) where
  by : (ms : List Move) → filter (is_of_others p) (filter (is_legal rule p) ms) ≡ filter (is_legal rule p) ms
  by [] = refl
  by (m ∷ ms) = grind (arith, cases_Bool (is_legal rule p m), cases_Bool (is_of_others p m), none.stays check m, by ms)

-- where no move of the king is legal and none of another man, no move is left
pub none_are_left : (rule : RuleSet) (p : Position) → IsWellFormed p → in_check rule p.men p.turn ≡ true → IsFlightless rule p → IsParriless rule p
    → false ≡ not (is_nil (moves rule p))
unfolding is_mate
none_are_left rule p well check king others =
    let none : (m : Move) → is_legal rule p m ≡ false = λ m. grind (arith, cases_Bool (is_of_others p m), king.stays check m, others.idle m) in
    ap not (sym (and_parts _ _ ((mate_is rule p well).1 (check, none))).1)
