-- A flight after a move, decided by the men that then attack it.
use Rattle.chess_flights.proofs.Chess.{AreOpen, AreSteps, Bool, Colour, IsMade, IsSafe, IsSeenFrom, IsSimple, IsWellFormed, King, List, Man, Move, None, Option, Position, RuleSet, Some, StandAlike, after_well_formed, and_from, and_left, and_parts, and_right, any_range_cases, any_range_false, arith, arrived, arriving_colour, arriving_king, arriving_man, bit_and, bit_at, bit_at-lt, bit_at_and, bit_not, bit_or, capture_of_piece, capture_square, captures_arrival, captures_are_reborn, cases_Bool, cases_eq, check_is, cond-false, cond-true, eq-eqb, eqb-true, false, false_from_ne_true, false≢true, first_of_and, gone_to, has_flight, inl, inr, is_arrival_free, is_attacked, is_flight, is_flight_at, is_legal, is_man, is_mate, is_nil, is_of_colour, is_open, is_paralysed, is_pseudo_legal, is_reached, is_some, is_square, kept_now, king_is_no_pawn, king_no_step, king_square, king_stands, king_there, leaps, left_now, length, list_any, made, man_on, man_there, mates, moves, moves_are_the_legal_triples, no_capture, no_reach_there, not, not-true, not_attacked, occupied_now, occupied_squares, on_first, or_cases, or_left, or_parts, other, other_differs, other_twice, position_after, queen_steps, reaches, reaches_alike, reaches_as, reaches_of, refl, rules, same_colour, same_colour-true, same_kind, side_of, occupancy_lifted, simple_after, some_square, some_square_same, some_square_true, square_is, squares, squares_both, squares_either, squares_not, squares_of, sym, taken, there_now, true, w64, without_man, word, word_has, ℕ, ◌&&◌, ◌<◌, ◌==◌, ◌||◌, ◌∙◌, ◌≡◌, ◌≢◌}
use Rattle.chess_rules.proofs.TripleNumbers.{nothing_in}
use Rattle.chess_flights.proofs.Mating.{turn_after}
use Rattle.chess_flights.proofs.Stepping.{IsStep, arrival_alike, lifted_alike, lifted_words, occupied_lifted, same_elsewhere, seen_stepped, stands_arrived, stepped}

-- a side with a flight isn't mated
flight_is_legal : (rule : RuleSet) (p : Position) (o : Option ℕ) (t : ℕ) → king_square p.men p.turn ≡ o → t < 64 → is_flight_at rule p o t ≡ true
    → is_nil (moves rule p) ≡ false
flight_is_legal rule p None t at small h = absurd (false≢true h)
flight_is_legal rule p (Some k) t at small h = false_from_ne_true _ (λ none.
    nothing_in (moves rule p) none _ ((moves_are_the_legal_triples rule p _).1 (((king_there p.men p.turn k at).0, small, search rules), h)))

flight_there : (rule : RuleSet) (p : Position) → has_flight rule p ≡ true → is_nil (moves rule p) ≡ false
unfolding has_flight is_flight some_square squares
flight_there rule p h =
    let f = is_flight_at rule p (king_square p.men p.turn) in
    elim (any_range_cases f 0 64) [ inl w ↦ flight_is_legal rule p _ w.0 refl w.2 w.3 | inr off ↦ absurd (false≢true (sym (any_range_false f 0 64 off) ∙ h)) ]

-- after these moves a flight remains
pub no_mate_with_flight : (rule : RuleSet) (p : Position) (m : Move) → has_flight rule (position_after rule p m) ≡ true → false ≡ mates rule p m
unfolding mates is_mate
no_mate_with_flight rule p m h = search (rules, flight_there)

-- no king stands where a man may arrive
pub no_king_free : (c d : Colour) (o : Option Man) → is_arrival_free c o ≡ true → is_man o d King ≡ false
no_king_free c d o h = grind (arith, and_parts, and_right, not-true)

-- a square of two words is one of the second
pub on_second : (a b i : ℕ) → (bit_at (bit_and a b) i == 1) ≡ true → (bit_at b i == 1) ≡ true
on_second a b i h = search (rules, bit_at-lt, bit_at_and, eq-eqb, eqb-true)

-- a square of the difference of two bitboards isn't in the second
pub unseen_bit : (test : ℕ → Bool) (n w t : ℕ) → w ≡ word test → t < 64 → (bit_at (bit_and n (bit_not w64 w)) t == 1) ≡ true → (bit_at w t == 1) ≡ false
unseen_bit test n w t h small on = search (rules, on_second, squares_not, word_has)

-- a square of the first word that the test leaves out is in the difference
pub seen_bit : (test : ℕ → Bool) (n w t : ℕ) → w ≡ word test → t < 64 → (bit_at n t == 1) ≡ true → (bit_at w t == 1) ≡ false
    → (bit_at (bit_and n (bit_not w64 w)) t == 1) ≡ true
seen_bit test n w t h small on off = search (rules, bit_at_and, eq-eqb, eqb-true, squares_not, word_has)

-- where a side stands somebody stands
pub some_of_colour : (o : Option Man) (c : Colour) → is_of_colour o c ≡ true → is_some o ≡ true
some_of_colour o c h = grind arith

-- a king reaches the squares of its leaps
pub reached_near : (men : List (Option Man)) (c : Colour) (k w t : ℕ) → w ≡ word (λ t. list_any (leaps k t) queen_steps) → t < 64 → (bit_at w t == 1) ≡ true
    → reaches_as men c King k t ≡ true
unfolding reaches_as
reached_near men c k w t h small on = search (rules, word_has)

-- the king of the side that waits keeps its square
pub king_waits : (rule : RuleSet) (p : Position) (x : Man) (m : Move) (c : Colour) → IsWellFormed p → IsMade rule p x m → m.to < 64 → c ≡ other p.turn
    → king_square (arrived p x m) c ≡ king_square p.men c
king_waits rule p x m c well is small e = king_stands p.men m.from (capture_square p x m) m.to (arriving_man x m.promo) c (record {
  small = omega (arith, small, well.size);
  here = grind (arith, is, other_differs, and_left);
  comes = grind (arith, is, arriving_colour x m.promo, other_differs, and_left);
  arrival = no_king_free p.turn c (man_on p.men m.to) is.arrival;
  captured = λ s at. grind (arith, taken rule p x m s well is (square_is (capture_square p x m) s at), and_right);
})

-- the men after the move, and the king among them
module _ (rule : RuleSet) (p : Position) (m : Move) (x : Man) (k : ℕ) (i : IsSeenFrom rule p m x k) where
  -- the move has what the definition asks of it
  pub is_made : IsMade rule p x m
  is_made = made rule p m x i.pseudo i.here

  -- nobody castles or is reborn: the men after the move are those once its man has arrived
  pub after_seen : (position_after rule p m).men ≡ arrived p x m
  after_seen = search (rules, simple_after, i.simple, and_parts, not-true)

  -- the man that arrives is none of the side that waits
  pub no_own_arrives : same_colour (arriving_man x m.promo).colour (other p.turn) ≡ false
  no_own_arrives = grind (arith, arriving_colour, is_made, other_differs)

  module _ (small : m.to < 64) where
    -- the king of the side that waits keeps its square
    pub king_seen : king_square (position_after rule p m).men (other p.turn) ≡ Some k
    king_seen = search (rules, after_seen, king_waits rule p x m (other p.turn) i.well_formed is_made small refl, i.king)

    -- the squares to which the king may step, attacks apart, by words
    abbrev is_free : ℕ → Bool
    is_free t =
        not ((is_of_colour (man_on p.men t) (other p.turn) && (not (is_square (capture_square p x m) t) && not (m.from == t)))
        || is_man (man_on p.men t) p.turn King)

    free_there : same_kind x.kind King ≡ false → (t : ℕ) → is_free t ≡ is_arrival_free (other p.turn) (man_on (arrived p x m) t)
    free_there mortal t = elim (cases_eq t m.to) [
      | inl e ↦
          let king = arriving_king p x m m.promo is_made.promotion in
          grind (arith, there_now, no_own_arrives, king, captures_arrival, no_king_free, is_made, cases_Bool (same_kind (arriving_man x m.promo).kind King))
      | inr ne ↦ elim (cases_Bool (m.from == t || is_square (capture_square p x m) t)) [
        | inl gone ↦ grind (arith, left_now, or_cases (m.from == t), eqb-true m.from t, taken rule p x m t i.well_formed is_made, square_is, and_right, i.here)
        | inr stays ↦ grind (arith, kept_now, or_parts)
      ]
    ]

    -- a free square other than the arrival may be stepped to
    free_elsewhere : (t : ℕ) → t ≢ m.to → is_free t ≡ true → is_arrival_free (other p.turn) (man_on (arrived p x m) t) ≡ true
    free_elsewhere t ne free = grind (arith, cases_Bool, left_now, kept_now, or_parts)

    -- where the king may step, attacks apart
    open_there : (t : ℕ) → t < 64 → (list_any (leaps k t) queen_steps && is_free t) ≡ true → is_arrival_free (other p.turn) (man_on (arrived p x m) t) ≡ true
    unfolding reaches_as
    open_there t lt h = elim (cases_Bool (same_kind x.kind King)) [
      | inr mortal ↦ grind (arith, free_there mortal t, and_parts)
      | inl king ↦ grind (arith, free_elsewhere t, cases_eq t m.to, i.apart king, and_parts, false≢true)
    ]

    -- the squares open to the king, without Circe
    pub open_squares : (w l h : ℕ) → captures_are_reborn rule ≡ false → w ≡ word (λ t. list_any (leaps k t) queen_steps)
        → l ≡ (occupancy_lifted p.men m.from (capture_square p x m) m.to k).standing
        → h ≡ bit_or (bit_and (side_of p.men (other p.turn)) l) (squares_of p.men p.turn King)
        → AreSteps rule (position_after rule p m).men x (other p.turn) k (bit_and w (bit_not w64 h))
    unfolding is_open reaches_as side_of squares_of
    open_squares w l h circe near standing held =
        let words : bit_and w (bit_not w64 h) ≡ word (λ t. list_any (leaps k t) queen_steps && is_free t) =
        search (rules, near, held, standing, squares_both, squares_either, squares_not) in
        let reported = λ (t : ℕ). word_has (λ t. list_any (leaps k t) queen_steps && is_free t) (bit_and w (bit_not w64 h)) t words in
        record {
          inside = λ t lt on. grind (arith, reported t lt, open_there t lt, after_seen, and_parts, circe);
          outside = λ mortal _ t lt off. grind (arith, reported t lt, free_there mortal t, after_seen);
        }

    -- in Circe, where the king may not capture
    pub open_squares_in_circe : (w l : ℕ) → captures_are_reborn rule ≡ true → w ≡ word (λ t. list_any (leaps k t) queen_steps)
        → l ≡ (occupancy_lifted p.men m.from (capture_square p x m) m.to k).occupied
        → AreSteps rule (position_after rule p m).men x (other p.turn) k (bit_and w (bit_not w64 l))
    unfolding is_open
    open_squares_in_circe w l circe near occupied =
        let held = occupied ∙ lifted_words p.men m.from (capture_square p x m) m.to k in
        record {
          inside = λ t lt on.
              let there = reached_near (position_after rule p m).men (other p.turn) k w t near lt (on_first w _ t on) in
              grind (arith, there, word_has _ l t held lt, unseen_bit _ w l t held lt on, no_reach_there, occupied_now, after_seen);
          outside = λ _ none. absurd (false≢true (sym none ∙ circe));
        }

-- what is seen of an attack on a king that has stepped there
pub record IsStepSeen (men : List (Option Man)) (a : ℕ) (o : Option ℕ) (b : ℕ) (z : Man) (k : ℕ) (u : Option ℕ) (t : ℕ) (x : Man) (c : Colour) (r : ℕ) : Type 0
  where
    pub step : IsStep men a o b k u t x c
    pub size : length men ≡ 64
    pub arrived : (l : List (Option Man)) → (occupancy_lifted men a o b k).occupied ≡ occupied_squares l → r ≡ word (reaches_as l z.colour z.kind b)

-- if the same squares are occupied, except perhaps t, a man reaches t on both boards or on neither
pub reaches_alike_of : (men others : List (Option Man)) (o : Option Man) (s t : ℕ) → StandAlike men others t → reaches_of men o s t ≡ reaches_of others o s t
reaches_alike_of men others o s t a = grind (arith, reaches_alike)

module _ (men : List (Option Man)) (a : ℕ) (o : Option ℕ) (b : ℕ) (z : Man) (k : ℕ) (u : Option ℕ) (t : ℕ) (x : Man) (c : Colour) (r : ℕ)
    (i : IsStepSeen men a o b z k u t x c r) where
  abbrev now : List (Option Man)
  now = stepped men a o b z k u t x

  abbrev then : List (Option Man)
  then = stepped men a o b x k u t x

  arrival_seen : reaches_as now z.colour z.kind b t ≡ (bit_at r t == 1)
  arrival_seen = search (rules, reaches_alike now (without_man (gone_to men a o b z) k), lifted_alike, word_has, occupied_lifted, i)

  -- what the man that has arrived doesn't reach, only the others reach
  pub reached_alike : (bit_at r t == 1) ≡ false → is_reached now t c ≡ is_reached then t c
  unfolding is_reached reaches
  reached_alike unseen = some_square_same _ _ (λ s lt.
      grind (arith, cases_eq s b, cases_eq s t, same_elsewhere, reaches_alike_of, arrival_alike, stands_arrived, arrival_seen))

  -- what the man that has arrived reaches
  pub arrived_strikes : same_colour z.colour c ≡ true → (bit_at r t == 1) ≡ true → is_reached now t c ≡ true
  unfolding is_reached reaches
  arrived_strikes mine on =
      some_square_true (λ s. is_of_colour (man_on now s) c && reaches now s t) b (omega (arith, i.step.arrival, i.size))
      (grind (arith, arrival_seen, no_reach_there now z.colour z.kind b, cases_eq b t, stands_arrived men a o b z k u t x b, and_from, false≢true, i.step))

-- the step itself
other_side : (o : Option Man) (c : Colour) → is_man o (other c) King ≡ true → is_of_colour o c ≡ false
other_side o c h = grind (arith, same_colour-true, first_of_and)

-- once the king has stepped, it is there
pub steps_there : (men : List (Option Man)) (x : Man) (c : Colour) (k t : ℕ) → man_on men k ≡ Some x → same_colour x.colour c ≡ true
    → same_kind x.kind King ≡ true → reaches_as men c King k t ≡ true → reaches men k t ≡ true
unfolding reaches
steps_there men x c k t here mine king h = search rules

-- a step of the king to an open square
pub record IsKingStep (rule : RuleSet) (q : Position) (x : Man) (k t : ℕ) : Type 0 where
  pub well_formed : IsWellFormed q
  pub here : man_on q.men k ≡ Some x
  pub mine : same_colour x.colour q.turn ≡ true
  pub king : same_kind x.kind King ≡ true
  pub small : t < 64
  pub near : is_open rule q.men q.turn k t ≡ true

-- the parts of an open square
pub record IsOpenTo (rule : RuleSet) (men : List (Option Man)) (c : Colour) (k t : ℕ) : Type 0 where
  pub reached : reaches_as men c King k t ≡ true
  pub free : is_arrival_free c (man_on men t) ≡ true
  pub nobody : captures_are_reborn rule ≡ true → man_on men t ≡ None

-- each open square has them
pub open_parts : (rule : RuleSet) (men : List (Option Man)) (c : Colour) (k t : ℕ) → is_open rule men c k t ≡ true → IsOpenTo rule men c k t
unfolding is_open
open_parts rule men c k t h = search rules

-- the king's move
abbrev pub step_to : ℕ → ℕ → Move
step_to k t = record { from = k; to = t; promo = None }

-- a king isn't paralysed
pub king_is_able : (rule : RuleSet) (men : List (Option Man)) (x : Man) (k : ℕ) → man_on men k ≡ Some x → same_kind x.kind King ≡ true
    → is_paralysed rule men k ≡ false
unfolding is_paralysed
king_is_able rule men x k here king = search (rules, and_right, and_left)

module _ (rule : RuleSet) (q : Position) (x : Man) (k t : ℕ) (i : IsKingStep rule q x k t) where
  -- for a step of the king to an open square: it may be made
  pub may_step : is_pseudo_legal rule q (step_to k t) ≡ true
  unfolding is_pseudo_legal
  may_step = grind (arith, open_parts, king_is_no_pawn, king_is_able, and_left, cond-false, or_left, steps_there, and_from)

  -- by a step of the king to an open square nobody is reborn
  pub simple_step : IsSimple rule q x (step_to k t)
  simple_step =
      let way = open_parts rule q.men q.turn k t i.near in
      record {
        castling = false_from_ne_true _ (search (rules, king_no_step, steps_there));
        rebirth = search (rules, no_capture, way.nobody, and_left, king_is_no_pawn);
      }

  -- a step of the king to an open square is legal exactly where nobody attacks the square after it
  pub step_is : is_legal rule q (step_to k t) ≡ not (is_attacked rule (arrived q x (step_to k t)) t (other q.turn))
  unfolding is_legal
  step_is =
      let check = check_is rule q x (step_to k t) (Some t) i.well_formed (made rule q (step_to k t) x may_step i.here) i.small simple_step in
      search (rules, may_step, check (cond-true _ _ _ i.king))

-- the king's square and the arrival
pub record IsKingOn (men : List (Option Man)) (c : Colour) (k : ℕ) (x : Man) : Type 0 where
  pub small : k < 64
  pub here : man_on men k ≡ Some x
  pub mine : same_colour x.colour c ≡ true
  pub king : same_kind x.kind King ≡ true

-- the king on its square
pub king_on : (men : List (Option Man)) (c : Colour) (k : ℕ) → king_square men c ≡ Some k → (x : Man) × IsKingOn men c k x
king_on men c k at = grind (arith, king_there men c k, man_there, and_parts)

-- a man of the other side is none of this one
pub king_is_other : (x : Man) (c : Colour) → same_colour x.colour (other c) ≡ true → same_colour x.colour c ≡ false
king_is_other x c h = search rules

-- no king stands where a man has arrived
pub no_king_square : (men : List (Option Man)) (c d : Colour) (k b : ℕ) → king_square men d ≡ Some k → is_arrival_free c (man_on men b) ≡ true → b ≢ k
no_king_square men c d k b at free e = grind (arith, false≢true, no_king_free c d (man_on men b) free, king_there men d k)

module _ (rule : RuleSet) (p : Position) (m : Move) (x : Man) (k : ℕ) (i : IsSeenFrom rule p m x k) (small : m.to < 64) where
  -- the king's step after the move meets these conditions
  pub is_step : (y : Man) (t : ℕ) → t < 64 → IsKingOn (position_after rule p m).men (other p.turn) k y
      → IsStep p.men m.from (capture_square p x m) m.to k (capture_square (position_after rule p m) y (step_to k t)) t y p.turn
  is_step y t there king =
      let free = (is_made rule p m x k i).arrival in
      grind (arith, taken, capture_of_piece, king_is_no_pawn, square_is, king_is_other, other_side, king_there, and_parts, not-true, no_king_square)

  -- the square on which the king's step captures
  abbrev pub step_taken : Man → ℕ → Option ℕ
  step_taken y t = capture_square (position_after rule p m) y (step_to k t)

  -- the men after the move and the king's step
  abbrev pub men_stepped : Man → ℕ → List (Option Man)
  men_stepped y t = stepped p.men m.from (capture_square p x m) m.to (arriving_man x m.promo) k (step_taken y t) t y

  -- after the move it is the other side's turn
  pub turn_is : (position_after rule p m).turn ≡ other p.turn
  turn_is = turn_after rule p m i.pseudo

  -- the king has a step to an open square
  pub king_step : (y : Man) (t : ℕ) → t < 64 → IsKingOn (position_after rule p m).men (other p.turn) k y
      → is_open rule (position_after rule p m).men (other p.turn) k t ≡ true → IsKingStep rule (position_after rule p m) y k t
  king_step y t there king way = search (rules, after_well_formed, turn_is, i.pseudo)

  -- the king's step is legal if no enemy attacks its arrival then
  pub step_legal_is : (y : Man) (t : ℕ) → t < 64 → IsKingOn (position_after rule p m).men (other p.turn) k y
      → is_open rule (position_after rule p m).men (other p.turn) k t ≡ true
      → is_legal rule (position_after rule p m) (step_to k t) ≡ not (is_attacked rule (men_stepped y t) t p.turn)
  step_legal_is y t there king way =
      search (rules, step_is rule (position_after rule p m) y k t (king_step y t there king way), after_seen, turn_is, other_twice)

  module _ (n r : ℕ)
      (arrives : (l : List (Option Man)) → (occupancy_lifted p.men m.from (capture_square p x m) m.to k).occupied ≡ occupied_squares l
      → r ≡ word (reaches_as l (arriving_man x m.promo).colour (arriving_man x m.promo).kind m.to)) where
    -- what is seen of an attack on the arrival holds once the king has stepped there
    pub step_seen : (y : Man) (t : ℕ) → t < 64 → IsKingOn (position_after rule p m).men (other p.turn) k y
        → IsStepSeen p.men m.from (capture_square p x m) m.to (arriving_man x m.promo) k (step_taken y t) t y p.turn r
    step_seen y t there king = search (rules, is_step y t there king)

    -- a step to a square that nobody guards is legal
    pub safe_step : (t : ℕ) → AreOpen rule (position_after rule p m).men (other p.turn) k n
        → IsSafe p.men p.turn (occupancy_lifted p.men m.from (capture_square p x m) m.to k) (bit_and n (bit_not w64 r)) t
        → is_legal rule (position_after rule p m) (step_to k t) ≡ true
    safe_step t near safe =
        let king = king_on (position_after rule p m).men (other p.turn) k (king_seen rule p m x k i small) in
        let z = arriving_man x m.promo in
        let step = step_seen king.0 t safe.small king.1 in
        let alike = reached_alike p.men m.from (capture_square p x m) m.to z k (step_taken king.0 t) t king.0 p.turn r step in
        let lifted = occupied_lifted p.men m.from (capture_square p x m) m.to z k step.step.arrival in
        let legal = step_legal_is king.0 t safe.small king.1 (near.inside t safe.small (on_first n (bit_not w64 r) t safe.here)) in
        search (rules, legal, not_attacked, alike (unseen_bit _ n r t (arrives _ lifted) safe.small safe.here), safe.unreached, seen_stepped)

    -- for `flights_from`: it is a flight
    pub has_flight_to : (t : ℕ) → AreSteps rule (position_after rule p m).men x (other p.turn) k n
        → IsSafe p.men p.turn (occupancy_lifted p.men m.from (capture_square p x m) m.to k) (bit_and n (bit_not w64 r)) t
        → has_flight rule (position_after rule p m) ≡ true
    unfolding has_flight is_flight
    has_flight_to t near safe =
        let step = safe_step t (record { inside = near.inside }) safe in
        search (rules, some_square_true (is_flight rule (position_after rule p m)) t safe.small, turn_is, king_seen rule p m x k i small, step)
