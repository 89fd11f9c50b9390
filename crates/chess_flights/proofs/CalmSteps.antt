-- If the enemy king has a legal step without check after a move, not every reply mates.
use Rattle.chess_flights.proofs.Chess.{AreOpen, DescribesMen, AreSteps, Colour, IsQuietTo, IsSafe, IsSeenFrom, IsWellFormed, Kind, King, List, Man, Move, Option, Position, RuleSet, Some, after_well_formed, and_left, and_right, ap, arith, arriving_man, bit_and, bit_not, capture_square, captures_arrival, cases_Bool, cases_eq, differs, eq-eqb, false, gone_to, in_check, inl, inr, is_legal, is_man, is_mating, is_of_colour, is_open, may_be_made, is_reached, is_simple, is_some, is_square, kept_now, king-back, king_after, king_is_after, king_square, king_stands, left_now, legal_moves_are_triples, length, list_all, man_on, man_on-with_other, may_check_from, moves, no_man, not, not-true, not_attacked, occupied_squares, on_first, or_parts, other, other_twice, position_after, reaches, reaches_as, refl, rules, same_colour, same_kind, same_kind-true, occupancy_lifted, occupancy_stepped, simple_after, some_square_same, squares_both, squares_not, squares_of, sym, there_now, true, w64, word, ℕ, ◌&&◌, ◌<◌, ◌==◌, ◌||◌, ◌∙◌, ◌≡◌}
use Rattle.chess_flights.proofs.Mating.{quiet, one_fails}
use Rattle.chess_flights.proofs.Fleeing.{IsKingOn, after_seen, is_made, king_is_other, king_on, king_seen, king_step, no_king_free, no_own_arrives, open_parts, reaches_alike_of, safe_step, simple_step, some_of_colour, is_step, step_taken, step_to, turn_is}
use Rattle.chess_flights.proofs.KingsApart.{kings_apart}
use Rattle.chess_flights.proofs.Stepping.{occupied_stepped, on_flight, on_left, on_others, stands, stepped}

-- what must hold of the squares: the men of colour c count, except their king, which goes from k to t
record IsLeft (men : List (Option Man)) (a : ℕ) (o : Option ℕ) (b : ℕ) (z : Man) (u : Option ℕ) (t : ℕ) (c : Colour) : Type 0 where
  pub arrival : b < length men
  pub flight : t < length men
  pub taken : (s : ℕ) → is_square u s ≡ true → s ≡ t
  pub other_side : same_colour z.colour c ≡ false
  pub entered : is_of_colour (man_on men b) c ≡ true → is_square o b ≡ true

module _ (men : List (Option Man)) (a : ℕ) (o : Option ℕ) (b : ℕ) (z : Man) (k : ℕ) (u : Option ℕ) (t : ℕ) (c : Colour) (i : IsLeft men a o b z u t c) where
  -- a man of the other side replaces it
  stands_left : (j : Kind) (q : ℕ) → (is_man (man_on men q) c j && (((not (is_square o q) && not (a == q)) && not (t == q)) && not (k == q)))
      ≡ is_man (man_on (stepped men a o b z k u t z) q) c j
  stands_left j q = elim (cases_eq q t) [
    | inl e ↦ search (rules, eq-eqb t q (sym e), on_flight, and_left, and_right, i.flight, i.other_side)
    | inr ne ↦ elim (cases_Bool (k == q)) [
      | inl y ↦ grind (arith, y, on_left men a o b z k u t z q ne y)
      | inr n ↦ rw (on_others men a o b z k u t z q i.taken ne n) (elim (cases_eq q b) [
        | inl e ↦ grind (arith, there_now, no_man, cases_Bool (is_of_colour (man_on men q) c), i.entered, i.other_side)
        | inr off ↦ grind (arith, cases_Bool (a == q || is_square o q), left_now, kept_now, differs)
      ])
    ]
  ]

  seen_left : DescribesMen men (stepped men a o b z k u t z) c (occupancy_stepped (occupancy_lifted men a o b k) k t)
  unfolding squares_of
  seen_left = search (rules, stands_left, occupied_stepped, i.arrival, i.flight, i.taken, squares_both, squares_not)

  module _ (y : Man) where
    abbrev now : List (Option Man)
    now = stepped men a o b z k u t y

    abbrev then : List (Option Man)
    then = stepped men a o b z k u t z

    strikes : (e s : ℕ) → reaches now t e ≡ false → (is_of_colour (man_on now s) c && reaches now s e) ≡ (is_of_colour (man_on then s) c && reaches then s e)
    unfolding reaches
    strikes e s apart = elim (cases_eq s t) [
      | inl same ↦ grind (arith, on_flight men a o b z k u t z s i.flight same, i.other_side, and_right)
      | inr ne ↦ grind (arith, man_on-with_other, reaches_alike_of now then (man_on then s) s e (search (rules, stands, i.arrival, i.flight, i.taken)))
    ]

    -- a square that neither the man on t nor another of its side reaches isn't reached
    unreached : (e : ℕ) → reaches now t e ≡ false → is_reached then e c ≡ false → is_reached now e c ≡ false
    unfolding is_reached
    unreached e apart none = some_square_same _ _ (λ s lt. strikes e s apart) ∙ none

module _ (rule : RuleSet) (p : Position) (m : Move) (x : Man) (k : ℕ) (i : IsSeenFrom rule p m x k) (small : m.to < 64) (y : Man) (t s : ℕ) (there : t < 64)
    (king : IsKingOn (position_after rule p m).men (other p.turn) k y) (way : is_open rule (position_after rule p m).men (other p.turn) k t ≡ true)
    (lawful : is_legal rule (position_after rule p m) (step_to k t) ≡ true) (at : king_after p x m ≡ Some s) where
  abbrev after : Position
  after = position_after rule p m

  abbrev taken : Option ℕ
  taken = step_taken rule p m x k i small y t

  abbrev now_men : List (Option Man)
  now_men = stepped p.men m.from (capture_square p x m) m.to (arriving_man x m.promo) k taken t y

  own_king : king_square after.men p.turn ≡ Some s
  own_king = rw (after_seen rule p m x k i) (king_is_after rule p x m i.well_formed (is_made rule p m x k i) small (grind (arith, not-true, and_left)) ∙ at)

  turned : other after.turn ≡ p.turn
  turned = ap other (turn_is rule p m x k i small) ∙ other_twice p.turn

  men_made : (position_after rule after (step_to k t)).men ≡ gone_to after.men k taken t y
  men_made =
      let now = simple_step rule after y k t (king_step rule p m x k i small y t there king way) in
      simple_after rule after y (step_to k t) king.here now.castling now.rebirth

  is_left : IsLeft p.men m.from (capture_square p x m) m.to (arriving_man x m.promo) taken t (other p.turn)
  is_left = search (rules, (is_step rule p m x k i small y t there king).taken, no_own_arrives rule p m x k i, captures_arrival, some_of_colour)

  -- the mover's king keeps its square
  king_after_step : king_square (position_after rule after (step_to k t)).men p.turn ≡ Some s
  king_after_step =
      let size = (after_well_formed rule p m i.well_formed i.pseudo).size in
      let free = no_king_free (other p.turn) p.turn (man_on after.men t) (open_parts rule after.men (other p.turn) k t way).free in
      rw men_made (king_stands after.men k taken t y p.turn
      (search (rules, size, free, king_is_other y p.turn king.mine, king.here, is_left.taken, and_left)) ∙ own_king)

  -- the king that steps doesn't come next to the mover's king
  pub apart : reaches now_men t s ≡ false
  unfolding may_check_from reaches reaches_as
  apart =
      let kind : y.kind ≡ King = same_kind-true y.kind King king.king in
      let none = kings_apart rule after y (step_to k t) (after_well_formed rule p m i.well_formed i.pseudo) king.here there lawful king.king in
      let apart_there : reaches_as after.men y.colour y.kind t s ≡ false = (or_parts _ _ (rw (turned, own_king) at none)).1 in
      rw (on_flight p.men m.from (capture_square p x m) m.to (arriving_man x m.promo) k taken t y t is_left.flight refl, kind) (rw kind at apart_there)

  -- where no man of the side to move reaches the mover's king, not every reply mates
  pub calm : is_reached now_men s (other p.turn) ≡ false
      → list_all (is_mating rule (position_after rule p m)) (moves rule (position_after rule p m)) ≡ false
  unfolding in_check position_after
  calm none =
      let unchecked : in_check rule (position_after rule after (step_to k t)).men (other after.turn) ≡ false =
      rw (turned, king_after_step, men_made, after_seen rule p m x k i) (not_attacked rule now_men (other p.turn) s none) in
      one_fails rule after (step_to k t) (after_well_formed rule p m i.well_formed i.pseudo) lawful (quiet rule after (step_to k t) lawful unchecked)

  -- no other man of its side reaches the mover's king
  none_of_others : IsQuietTo p.men p.turn (occupancy_lifted p.men m.from (capture_square p x m) m.to k) k t s → is_reached now_men s (other p.turn) ≡ false
  none_of_others quiet = unreached p.men m.from (capture_square p x m) m.to (arriving_man x m.promo) k taken t (other p.turn) is_left y s apart
      (quiet.unreached _ (seen_left p.men m.from (capture_square p x m) m.to (arriving_man x m.promo) k taken t (other p.turn) is_left))

-- for a safe step
pub not_all_mate : (rule : RuleSet) (p : Position) (m : Move) (x : Man) (k : ℕ) (i : IsSeenFrom rule p m x k) → m.to < 64 → (n w r t s : ℕ)
    → ((l : List (Option Man)) → (occupancy_lifted p.men m.from (capture_square p x m) m.to k).occupied ≡ occupied_squares l
    → r ≡ word (reaches_as l (arriving_man x m.promo).colour (arriving_man x m.promo).kind m.to))
    → AreSteps rule (position_after rule p m).men x (other p.turn) k n
    → IsSafe p.men p.turn (occupancy_lifted p.men m.from (capture_square p x m) m.to k) (bit_and (bit_and n w) (bit_not w64 r)) t → king_after p x m ≡ Some s
    → IsQuietTo p.men p.turn (occupancy_lifted p.men m.from (capture_square p x m) m.to k) k t s
    → list_all (is_mating rule (position_after rule p m)) (moves rule (position_after rule p m)) ≡ false
not_all_mate rule p m x k i small n w r t s arrives steps safe at quietly =
    let near : AreOpen rule (position_after rule p m).men (other p.turn) k (bit_and n w) = record { inside = λ q l on. steps.inside q l (on_first n w q on) } in
    let king = king_on (position_after rule p m).men (other p.turn) k (king_seen rule p m x k i small) in
    let way = near.inside t safe.small (on_first (bit_and n w) (bit_not w64 r) t safe.here) in
    let lawful = safe_step rule p m x k i small (bit_and n w) r arrives t near safe in
    let none = none_of_others rule p m x k i small king.0 t s safe.small king.1 way lawful at quietly in
    calm rule p m x k i small king.0 t s safe.small king.1 way lawful at none

-- a king doesn't come next to the other
no_king_next : (rule : RuleSet) (p : Position) (x : Man) (m : Move) (k : ℕ) → IsWellFormed p → man_on p.men m.from ≡ Some x → m.to < 64
    → is_legal rule p m ≡ true → same_kind x.kind King ≡ true → king_square p.men (other p.turn) ≡ Some k → reaches_as p.men (other p.turn) King k m.to ≡ false
unfolding may_check_from reaches_as
no_king_next rule p x m k well here small lawful king at =
    let small_k = (king_on p.men (other p.turn) k at).1.small in
    grind (arith, kings_apart rule p x m well here small lawful king, king-back k m.to small_k small, same_kind-true x.kind King king, or_parts)

-- for legal moves
pub seen_from : (rule : RuleSet) (p : Position) (x : Man) (m : Move) (k : ℕ) → IsWellFormed p → is_legal rule p m ≡ true → man_on p.men m.from ≡ Some x
    → is_simple rule x m (is_some (capture_square p x m)) ≡ true → king_square p.men (other p.turn) ≡ Some k → IsSeenFrom rule p m x k
seen_from rule p x m k well lawful here simple king = search (rules, may_be_made, no_king_next, legal_moves_are_triples)
