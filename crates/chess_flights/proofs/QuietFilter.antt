-- Quiet steps of the enemy king for all moves of one man: the other men reach no more than with both
-- lifted from the board.
use Rattle.chess_flights.proofs.Chess.{AreApproached, AreOpen, DescribesMen, Black, Colour, Grasshopper, IsSeenFrom, IsWellFormed, Kind, King, List, Man, Move, None, Option, Position, RuleSet, Some, StandAlike, White, after_well_formed, and_from, and_right, ap, arith, arrived, arriving_man, attacked_plainly, bit_and, bit_at, bit_not, bit_or, capture_square, captures_are_reborn, cases_Bool, cases_eq, cases_lt, cond-false, cond-true, eq-eqb, eqb-true, every_square_on, false, false_from_ne_true, false≢true, gait_of, in_check, inl, inr, is_hopper, is_legal, is_man, is_of_colour, is_open, is_promoting, is_reached, is_simple, is_some, is_square, kept_now, king_after, king_is_after, king_is_no_pawn, king_square, leaps, left_now, legal_moves_are_triples, length, list_any, man_on, man_on-without_other, man_on-without_same, men_on, no_pawn_arrives, no_reach_there, not, not_attacked, occupied_now, occupied_squares, off_left, off_right, off_zero, on_first, or_cases, or_parts, other, other_twice, position_after, queen_steps, reaches, reaches_alike, reaches_as, refl, rules, same_colour, same_kind, side_of, some_square_false, some_square_true, squares_both, squares_either, squares_not, squares_of, sym, there_now, true, w64, ways, without_man, word, word_has, ℕ, ◌&&◌, ◌<◌, ◌==◌, ◌^◌, ◌||◌, ◌∙◌, ◌≡◌, ◌≢◌, ◌⊎◌, IsLeft, has_flight, is_flight, like_men_paralyse, on_board}
use Rattle.chess_flights.proofs.CalmSteps.{apart, calm, seen_from}
use Rattle.chess_flights.proofs.Fleeing.{IsKingOn, after_seen, is_made, is_step, king_on, king_seen, men_stepped, on_second, reached_near, step_legal_is, step_taken, step_to, turn_is, unseen_bit}
use Rattle.chess_flights.proofs.Hurdles.{later_but}
use Rattle.chess_attacks.proofs.rays.OnSquares.{one_on, size_on}
use Rattle.chess_flights.proofs.Standing.{captured_there, free_man, king_reaches, no_hopper, not_mine_enemy, some_stays, stays_there, unnamed}
use Rattle.chess_flights.proofs.Stepping.{IsStep, on_flight, on_left, on_others, stands}
use Rattle.chess_flights.specs.ties.QuietSteps.{AreQuiet, IsStepLeft, must_reply_with_mate, occupancy_without}
use Rattle.chess_flights.specs.ties.FreeSteps.{GoesSimply, NoneHops}
use Rattle.chess_flights.proofs.Bitboards.{on_denied}
use Rattle.chess_rules.proofs.Plays.{stays_empty}
use Rattle.chess_attacks.proofs.rays.Tables.{king_step_is_no_castling}
use Rattle.chess_rules.specs.Play.{is_castling}

-- beyond the board nobody stands
pub beyond : (men : List (Option Man)) (e : ℕ) → length men ≡ 64 → (e < 64 → ⊥) → is_some (man_on men e) ≡ false
beyond men e size high = search (rules, on_board)

-- the squares to which the king may step, attacks apart: in Circe
pub open_in_circe : (rule : RuleSet) (men : List (Option Man)) (c : Colour) (k n w : ℕ) → captures_are_reborn rule ≡ true
    → n ≡ word (λ t. list_any (leaps k t) queen_steps) → w ≡ occupied_squares men → AreOpen rule men c k (bit_and n (bit_not w64 w))
unfolding is_open
open_in_circe rule men c k n w reborn near held = record {
  inside = λ t lt on.
      let there = word_has (λ s. is_some (man_on men s)) w t held lt in
      grind (arith, reached_near men c k n t near, on_first n (bit_not w64 w) t, unseen_bit (λ s. is_some (man_on men s)) n w t held lt on, there);
}

-- the squares to which the king may step, attacks apart: elsewhere than in Circe
pub open_elsewhere : (rule : RuleSet) (men : List (Option Man)) (c : Colour) (k n v h : ℕ) → captures_are_reborn rule ≡ false
    → n ≡ word (λ t. list_any (leaps k t) queen_steps) → v ≡ side_of men (other c) → h ≡ squares_of men c King
    → AreOpen rule men (other c) k (bit_and n (bit_not w64 (bit_or v h)))
unfolding is_open side_of squares_of
open_elsewhere rule men c k n v h plain near side king =
    let test = λ (s : ℕ). is_of_colour (man_on men s) (other c) || is_man (man_on men s) c King in
    let held : bit_or v h ≡ word test = search (rules, side, king, squares_either) in
    record {
      inside = λ t lt on.
          let there = word_has test (bit_or v h) t held lt in
          let off = unseen_bit test n (bit_or v h) t held lt on in
          let reach = reached_near men (other c) k n t near lt (on_first n (bit_not w64 (bit_or v h)) t on) in
          grind (arith, reach, off, there, free_man (other c) (man_on men t), other_twice, or_parts);
    }

-- the men but for those on two squares
abbrev pub lifted : List (Option Man) → ℕ → ℕ → List (Option Man)
lifted men a k = without_man (without_man men k) a

module _ (men : List (Option Man)) (a k : ℕ) where
  lifted_here : (q : ℕ) → (a == q || k == q) ≡ true → man_on (lifted men a k) q ≡ None
  lifted_here q h = grind (arith, or_cases, eqb-true, man_on-without_same, stays_empty (without_man men k) (Some a) q)

  pub lifted_there : (q : ℕ) → (a == q || k == q) ≡ false → man_on (lifted men a k) q ≡ man_on men q
  lifted_there q h = grind (arith, or_parts, eq-eqb, false≢true, man_on-without_other)

  -- a man that is there afterwards was there before
  pub lifted_stood : (q : ℕ) (z : Man) → man_on (lifted men a k) q ≡ Some z → man_on men q ≡ Some z
  lifted_stood q z h = grind (arith, lifted_here q, lifted_there q, cases_Bool (a == q || k == q))

  is_still : (c : Colour) (j : Kind) (q : ℕ) → (is_man (man_on men q) c j && not (a == q || k == q)) ≡ is_man (man_on (lifted men a k) q) c j
  is_still c j q = grind (arith, cases_Bool (a == q || k == q), lifted_here q, lifted_there q, and_right)

  some_still : (q : ℕ) → (is_some (man_on men q) && not (a == q || k == q)) ≡ is_some (man_on (lifted men a k) q)
  some_still q = grind (arith, cases_Bool (a == q || k == q), lifted_here q, lifted_there q, and_right)

  -- the words are theirs
  pub seen_lifted : (c : Colour) → DescribesMen men (lifted men a k) c (occupancy_without men a k)
  unfolding squares_of
  seen_lifted c = search (rules, is_still, some_still, squares_both, squares_either, squares_not)

-- men on the squares of others stand as they do
alike_on : (men : List (Option Man)) (t : ℕ) → length men ≡ 64 → StandAlike (men_on (occupied_squares men)) men t
alike_on men t size =
    let d = occupied_squares men in
    record {
      alike = λ q ne. elim (cases_lt q 64) [
        | inl low ↦ one_on d q low ∙ word_has (λ e. is_some (man_on men e)) d q refl low
        | inr high ↦ beyond (men_on d) q (size_on d) (λ low. omega (arith, low, high)) ∙ sym (beyond men q size (λ low. omega (arith, low, high)))
      ];
    }

-- a man that doesn't hop still reaches a square once other men have gone, if a man new on a is out of its
-- reach
fewer_but : (few men : List (Option Man)) (c : Colour) (k : Kind) (s t a : ℕ) → length few ≡ 64 → a < 64 → is_hopper (gait_of k) ≡ false
    → ((q : ℕ) → q ≢ a → is_some (man_on few q) ≡ true → is_some (man_on men q) ≡ true)
    → (is_some (man_on few a) ≡ true → reaches_as few c k s a ≡ true → ⊥) → reaches_as men c k s t ≡ true → reaches_as few c k s t ≡ true
fewer_but few men c k s t a size small plain stays apart h =
    let d = occupied_squares few in
    let some = λ (q : ℕ) (low : q < 64). word_has (λ e. is_some (man_on few e)) d q refl low in
    let away = λ (on : (bit_at d a == 1) ≡ true) (r : reaches_as (men_on d) c k s a ≡ true).
    apart (sym (some a small) ∙ on) (sym (reaches_alike (men_on d) few c k s a (alike_on few a size)) ∙ r) in
    sym (reaches_alike (men_on d) few c k s t (alike_on few t size))
    ∙ later_but d men a a c k s t plain (λ q low on ne _. stays q ne (sym (some q low) ∙ on)) (λ _. away) (λ _. away) h

module _ (rule : RuleSet) (p : Position) (m : Move) (x : Man) (k : ℕ) (i : IsSeenFrom rule p m x k) (small : m.to < 64) (f : ℕ) (there : f < 64)
    (none : NoneHops p.men) (simply : GoesSimply rule p x m) (ne : f ≢ m.to) (y : Man) (king : IsKingOn (position_after rule p m).men (other p.turn) k y) where
  abbrev few : List (Option Man)
  few = lifted p.men m.from k

  abbrev now : List (Option Man)
  now = men_stepped rule p m x k i small y f

  abbrev caught : Option ℕ
  caught = capture_square p x m

  abbrev then : Option ℕ
  then = step_taken rule p m x k i small y f

  step : IsStep p.men m.from caught m.to k then f y p.turn
  step = is_step rule p m x k i small y f there king

  arrives : arriving_man x m.promo ≡ x
  arrives = grind (arith, unnamed p x m m.promo simply.unpromoted (is_made rule p m x k i).promotion)

  nobody_left : is_some (man_on few k) ≡ true → ⊥
  nobody_left some = grind (arith, lifted_here p.men m.from k k, eq-eqb)

  -- before the king's step
  abbrev after : List (Option Man)
  after = arrived p x m

  size_after : length after ≡ 64
  size_after = rw (← after_seen rule p m x k i) ((after_well_formed rule p m i.well_formed i.pseudo).size)

  stays_after : (q : ℕ) → is_some (man_on few q) ≡ true → is_some (man_on after q) ≡ true
  stays_after q h =
      grind (
        arith,
        some_stays p x m q simply.captures step.arrival,
        lifted_here p.men m.from k q,
        lifted_there p.men m.from k q,
        cases_Bool (m.from == q || k == q),
        or_parts,
        eq-eqb,
      )

  stays_stepped : (q : ℕ) → q ≢ k → is_some (man_on after q) ≡ true → is_some (man_on now q) ≡ true
  stays_stepped q off h =
      let before = occupied_now p.men m.from caught m.to (arriving_man x m.promo) q step.arrival in
      let stands = stands p.men m.from caught m.to (arriving_man x m.promo) k then f y q step.arrival step.flight step.taken in
      grind (arith, stands, before, eqb-true k q, cases_Bool (k == q))

  -- on each square where a man still stands one stands then
  stays : (q : ℕ) → is_some (man_on few q) ≡ true → is_some (man_on now q) ≡ true
  stays q h = stays_stepped q (λ e. nobody_left (rw e at h)) (stays_after q h)

  -- a man on a square has come there or was there
  stood_then : (q : ℕ) (z : Man) → man_on now q ≡ Some z
      → ((q ≡ f) × (z ≡ y)) ⊎ (((q ≡ m.to) × (z ≡ x)) ⊎ (man_on few q ≡ Some z))
  stood_then q z h = elim (cases_eq q f) [
    | inl e ↦ grind (arith, on_flight p.men m.from caught m.to (arriving_man x m.promo) k then f y q step.flight e)
    | inr off ↦ elim (cases_Bool (k == q)) [
      | inl gone ↦ grind (arith, on_left p.men m.from caught m.to (arriving_man x m.promo) k then f y q off gone)
      | inr other ↦
          let same = on_others p.men m.from caught m.to (arriving_man x m.promo) k then f y q step.taken off other in
          let still = lifted_there p.men m.from k q in
          let stays = cases_Bool (m.from == q || is_square caught q) in
          grind (arith, same, still, cases_eq q m.to, there_now, left_now, kept_now, arrives, step.arrival, stays, or_parts)
    ]
  ]

  size_few : length few ≡ 64
  size_few = search (rules, i.well_formed.size)

  -- a man that was there before reaches no more
  no_more : (c : Colour) (e s : ℕ) (z : Man) → is_reached few e c ≡ false → s < 64 → man_on few s ≡ Some z → same_colour z.colour c ≡ true
      → reaches_as now z.colour z.kind s e ≡ false
  unfolding is_reached reaches
  no_more c e s z before lt at mine = false_from_ne_true _ (λ strikes.
      let plain = none.none s z lt (lifted_stood p.men m.from k s z at) in
      let once = fewer_but few now z.colour z.kind s e k size_few king.small plain (λ q _. stays q) (λ some _. nobody_left some) strikes in
      false≢true (sym before ∙ some_square_true (λ q. is_of_colour (man_on few q) c && reaches few q e) s lt (rw at (and_from _ _ mine once))))

  -- no man that was there before reaches the square
  abbrev NoneReaches : Colour → ℕ → Type 0
  NoneReaches c e = (s : ℕ) (z : Man) → s < 64 → man_on few s ≡ Some z → same_colour z.colour c ≡ true → reaches_as now z.colour z.kind s e ≡ false

  -- a square is reached by no man, if neither the man that came, nor the king, nor a man that was there
  -- before reaches it
  reached : (c : Colour) (e : ℕ) → NoneReaches c e → (same_colour y.colour c ≡ true → reaches now f e ≡ false)
      → (same_colour x.colour c ≡ true → reaches_as now x.colour x.kind m.to e ≡ false) → is_reached now e c ≡ false
  unfolding is_reached reaches
  reached c e others apart_y apart_x = some_square_false _ 64 (omega arith) (record { fails = λ s lt. grind (arith, stood_then s, others s) })

  stands_after : (q : ℕ) (z : Man) → man_on few q ≡ Some z → q ≢ m.to → man_on after q ≡ Some z
  stands_after q z h off =
      stays_there p x m q simply.captures (λ e. grind (arith, lifted_here p.men m.from k q, eq-eqb)) off ∙ lifted_stood p.men m.from k q z h

  -- elsewhere than in Madrasi no check is uncovered by a man that doesn't reach the square that the king
  -- leaves
  none_uncovers : like_men_paralyse rule ≡ false → is_legal rule p m ≡ true → king_after p x m ≡ Some m.to
      → is_reached few k (other p.turn) ≡ false → NoneReaches (other p.turn) m.to
  unfolding is_reached reaches is_legal in_check
  none_uncovers able lawful at untouched q z lt there mine = false_from_ne_true _ (λ strikes.
      let off : q ≢ m.to = λ e. false≢true (sym (no_reach_there now z.colour z.kind m.to small) ∙ rw e at strikes) in
      let plain = none.none q z lt (lifted_stood p.men m.from k q z there) in
      let strike = λ (men : List (Option Man)) (e : ℕ) (stand : man_on men q ≡ Some z) (r : reaches_as men z.colour z.kind q e ≡ true).
      some_square_true (λ v. is_of_colour (man_on men v) (other p.turn) && reaches men v e) q lt (rw stand (and_from _ _ mine r)) in
      let apart : reaches_as after z.colour z.kind q k ≡ true → ⊥ = λ r. false≢true (sym untouched ∙ strike few k there
      (fewer_but few after z.colour z.kind q k k size_few king.small plain (λ v _. stays_after v) (λ some _. nobody_left some) r)) in
      let before = fewer_but after now z.colour z.kind q m.to k size_after king.small plain stays_stepped (λ _. apart) strikes in
      let own = king_is_after rule p x m i.well_formed (is_made rule p m x k i) small simply.castling ∙ at in
      let safe = attacked_plainly rule after m.to (other p.turn) _ able refl in
      grind (arith, after_seen rule p m x k i, own, safe, lawful, strike after m.to (stands_after q z there off) before))

  -- the step is open to the king then, if it was before
  open_then : is_open rule p.men (other p.turn) k f ≡ true → is_open rule (position_after rule p m).men (other p.turn) k f ≡ true
  unfolding is_open
  open_then before =
      let same = king_reaches p.men (arrived p x m) (other p.turn) King k f refl in
      rw (after_seen rule p m x k i) (grind (arith, same, cases_Bool (m.from == f || is_square caught f), left_now, kept_now, or_parts, before))

  -- the step is legal where it is left
  lawful_then : is_open rule p.men (other p.turn) k f ≡ true → is_reached few f p.turn ≡ false → reaches_as now x.colour x.kind m.to f ≡ false
      → is_legal rule (position_after rule p m) (step_to k f) ≡ true
  lawful_then before safe apart_x =
      let safe_now = reached p.turn f (λ q z. no_more p.turn f q z safe) (λ own. absurd (false≢true (sym step.king ∙ own))) (λ own. apart_x) in
      step_legal_is rule p m x k i small y f there king (open_then before) ∙ ap not (not_attacked rule now p.turn f safe_now)

  -- not every reply mates where no man of its side reaches the mover's king
  stepped_quietly : (s : ℕ) → king_after p x m ≡ Some s → is_open rule p.men (other p.turn) k f ≡ true → is_reached few f p.turn ≡ false
      → reaches_as now x.colour x.kind m.to f ≡ false → NoneReaches (other p.turn) s → must_reply_with_mate rule p m ≡ false
  stepped_quietly s at before safe apart_x quiet =
      let way = open_then before in
      let mine = (is_made rule p m x k i).mine in
      let lawful = lawful_then before safe apart_x in
      let next = apart rule p m x k i small y f s there king way lawful at in
      calm rule p m x k i small y f s there king way lawful at
      (reached (other p.turn) s quiet (λ own. next) (λ own. absurd (false≢true (sym (not_mine_enemy x p.turn mine) ∙ own))))

  -- for either man
  left_quietly : is_legal rule p m ≡ true → AreQuiet rule p (occupancy_without p.men m.from k) x k → is_open rule p.men (other p.turn) k f ≡ true
      → is_reached few f p.turn ≡ false → reaches_as now x.colour x.kind m.to f ≡ false → must_reply_with_mate rule p m ≡ false
  left_quietly lawful quiet before safe apart_x =
      let seen = seen_lifted p.men m.from k (other p.turn) in
      elim (cases_Bool (same_kind x.kind King)) [
        | inl goes ↦
            let at = cond-true (same_kind x.kind King) (Some m.to) (king_square p.men p.turn) goes in
            let reported = quiet.goes goes in
            stepped_quietly m.to at before safe apart_x (none_uncovers reported.0 lawful at (reported.1 few seen))
        | inr mortal ↦
            let reported = quiet.stands mortal in
            let at = cond-false (same_kind x.kind King) (Some m.to) (king_square p.men p.turn) mortal ∙ reported.1 in
            stepped_quietly reported.0 at before safe apart_x (λ q z. no_more (other p.turn) reported.0 q z (reported.2 few seen))
      ]

-- a man that goes simply makes a simple move
simple_then : (rule : RuleSet) (p : Position) (x : Man) (m : Move) → GoesSimply rule p x m → is_simple rule x m (is_some (capture_square p x m)) ≡ true
simple_then rule p x m simply = grind (arith, simply.castling, simply.mere, cases_Bool (captures_are_reborn rule))

-- a legal move arrives on the board
pub small_arrival : (rule : RuleSet) (p : Position) (m : Move) → IsWellFormed p → is_legal rule p m ≡ true → m.to < 64
small_arrival rule p m well lawful = (legal_moves_are_triples rule p m well lawful).1

-- for a legal move after which a step is left
pub is_decided : (rule : RuleSet) (p : Position) (m : Move) (x : Man) (k v w : ℕ) → IsWellFormed p → is_legal rule p m ≡ true
    → man_on p.men m.from ≡ Some x → king_square p.men (other p.turn) ≡ Some k → NoneHops p.men → GoesSimply rule p x m
    → AreQuiet rule p (occupancy_without p.men m.from k) x k → AreOpen rule p.men (other p.turn) k w
    → (f : ℕ) × IsStepLeft p (occupancy_without p.men m.from k) (bit_and v w) x m.to f → must_reply_with_mate rule p m ≡ false
is_decided rule p m x k v w well lawful here at none simply quiet ways (f, reported) =
    let small = small_arrival rule p m well lawful in
    let i = seen_from rule p x m k well lawful here (simple_then rule p x m simply) at in
    let king = king_on (position_after rule p m).men (other p.turn) k (king_seen rule p m x k i small) in
    left_quietly rule p m x k i small f reported.left.small none simply reported.left.off king.0 king.1 lawful quiet
    (ways.inside f reported.left.small (on_second v w f reported.left.on)) (reported.others _ (seen_lifted p.men m.from k p.turn)) (reported.left.unreached _)

-- for a legal move after which a flight is left
pub flight_then : (rule : RuleSet) (p : Position) (m : Move) (x : Man) (k f w : ℕ) → IsWellFormed p → is_legal rule p m ≡ true
    → man_on p.men m.from ≡ Some x → king_square p.men (other p.turn) ≡ Some k → NoneHops p.men → GoesSimply rule p x m → IsLeft w x m.to f
    → is_open rule p.men (other p.turn) k f ≡ true → is_reached (lifted p.men m.from k) f p.turn ≡ false → has_flight rule (position_after rule p m) ≡ true
unfolding has_flight is_flight
flight_then rule p m x k f w well lawful here at none simply left before safe =
    let small = small_arrival rule p m well lawful in
    let i = seen_from rule p x m k well lawful here (simple_then rule p x m simply) at in
    let seen = king_seen rule p m x k i small in
    let king = king_on (position_after rule p m).men (other p.turn) k seen in
    let step = lawful_then rule p m x k i small f left.small none simply left.off king.0 king.1 before safe (left.unreached _) in
    search (rules, some_square_true (is_flight rule (position_after rule p m)) f left.small, turn_is rule p m x k i small, seen, step)

-- for words of grasshoppers
pub no_grasshopper : (men : List (Option Man)) (w b : ℕ) → w ≡ squares_of men White Grasshopper → b ≡ squares_of men Black Grasshopper
    → (bit_or w b == 0) ≡ true → NoneHops men
unfolding squares_of
no_grasshopper men w b white black empty = record {
  none = λ s x lt at.
      let off : (bit_at (bit_or w b) s == 1) ≡ false = rw (eqb-true (bit_or w b) 0 empty) (off_zero s) in
      let stands = λ (c : Colour) (v : ℕ) (is : v ≡ word (λ q. is_man (man_on men q) c Grasshopper)).
      word_has (λ q. is_man (man_on men q) c Grasshopper) v s is lt in
      let plain : same_kind x.kind Grasshopper ≡ false =
      grind (arith, off_left w b s off, off_right w b s off, stands White w white, stands Black b black, at, cases_Bool (same_kind x.kind Grasshopper)) in
      no_hopper x.kind plain;
}

-- for the squares to which a king castles
pub king_arrivals : (x : Man) (m : Move) (n : ℕ) → same_kind x.kind King ≡ true → m.from < 64 → m.to < 64
    → n ≡ word (λ t. list_any (leaps m.from t) queen_steps) → n < 2 ^ 64 → (bit_at (bit_not w64 n) m.to == 1) ≡ false
    → (is_castling x m ≡ false) × (is_promoting x m.to ≡ false)
king_arrivals x m n king from small near fits off =
    let steps = word_has (λ t. list_any (leaps m.from t) queen_steps) n m.to near small in (
      grind (arith, steps, on_denied n m.to fits small off, king_step_is_no_castling m.from m.to from small),
      no_pawn_arrives x m.to (king_is_no_pawn x.kind king),
    )

-- for those to which a man may not simply go
pub goes_simply : (rule : RuleSet) (p : Position) (x : Man) (m : Move) (o q c : ℕ) → o ≡ word (is_square p.crossed)
    → ((bit_at q m.to == 1) ≡ false → (is_castling x m ≡ false) × (is_promoting x m.to ≡ false))
    → (captures_are_reborn rule ≡ true → c ≡ occupied_squares p.men) → m.to < 64
    → (bit_at (bit_or (bit_or o q) c) m.to == 1) ≡ false → GoesSimply rule p x m
unfolding capture_square
goes_simply rule p x m o q c crossed special captures small off =
    let first = off_left (bit_or o q) c m.to off in
    let uncrossed : is_square p.crossed m.to ≡ false = sym (word_has (is_square p.crossed) o m.to crossed small) ∙ off_left o q m.to first in
    let plain = special (off_right o q m.to first) in
    record {
      castling = plain.0;
      captures = λ s at. captured_there p x m s uncrossed at;
      mere = λ more.
          let nobody : is_some (man_on p.men m.to) ≡ false = sym (word_has (λ s. is_some (man_on p.men s)) c m.to (captures more) small)
          ∙ off_right (bit_or o q) c m.to off in
          grind (arith, nobody, uncrossed);
      unpromoted = plain.1;
    }

-- for a step that is left
pub step_left : (w a o t f : ℕ) (x : Man) → f < 64 → t < 64 → (bit_at w f == 1) ≡ true → AreApproached x f a
    → o ≡ word (is_square (Some f)) → (bit_at (bit_or a o) t == 1) ≡ false → IsLeft w x t f
step_left w a o t f x flight small on are only off =
    let apart : f ≢ t = λ e. grind (arith, off_right a o t off, word_has _ o t only small, eq-eqb) in
    search (rules, apart, are.inside, off_left a o t off, false_from_ne_true, false≢true, flight, on)

-- if all squares are returned, no square is left out
pub all_left : {P : Type 0} (t : ℕ) → t < 64 → (bit_at 18446744073709551615 t == 1) ≡ false → P
all_left t small off = absurd (false≢true (sym off ∙ every_square_on t small))

-- if all squares are returned, no move is left out
pub nothing_known : (rule : RuleSet) (p : Position) (m : Move) → IsWellFormed p → is_legal rule p m ≡ true
    → (bit_at 18446744073709551615 m.to == 1) ≡ false → must_reply_with_mate rule p m ≡ false
nothing_known rule p m well lawful off = all_left m.to (small_arrival rule p m well lawful) off
