-- A man gives no check if it doesn't reach the king from its arrival and its move opens no line to the
-- king.
use Rattle.chess_mates.proofs.Chess.{Colour, IsMade, IsShift, IsWellFormed, List, Man, Move, None, Option, Position, RuleSet, Some, and_right, arith, arriving_man, arrived, bit_at, cannot_expose, cannot_expose_parts, capture_square, cases_Bool, cases_eq, covered_parts, eq-eqb, false, false≢true, gone_to, in_check, is_pseudo_legal, is_reached, is_square, king_square, king_there, length, length-set, made, man_on, man_on-with_other, man_on-with_same, may_expose, may_be_hurdle, not_attacked, occupied_now, occupied_squares, occupied_words, other, other_differs, position_after, reaches, reaches_as, refl, rules, occupancy_after, simple_after, squares_same, square_is, sym, there_now, true, unreached, with_man, word, word_has, ℕ, ◌<◌, ◌==◌, ◌∙◌, ◌≡◌}
use Rattle.chess_rules.proofs.Blocking.{CannotExpose, arrived_shift}
use Rattle.chess_flights.proofs.Fleeing.{king_waits}
use Rattle.chess_mates.proofs.Parrying.{unreached_instead}
use Rattle.chess_flights.proofs.Standing.{captured_there}
use Rattle.chess_rules.proofs.Plays.{length-without_at}

-- the squares that are occupied once a man has gone to where it captures, if it captures
occupied_there : (men : List (Option Man)) (a : ℕ) (o : Option ℕ) (b : ℕ) (z : Man) → ((s : ℕ) → is_square o s ≡ true → s ≡ b) → b < length men
    → (occupancy_after men a None b).occupied ≡ occupied_squares (gone_to men a o b z)
occupied_there men a o b z taken size = occupied_words men a None b
    ∙ squares_same _ _ (λ i lt. grind (arith, occupied_now men a o b z i size, cases_Bool (is_square o i), taken i, eq-eqb b b))

module _ (rule : RuleSet) (p : Position) (x : Man) (m : Move) (well : IsWellFormed p) (may : is_pseudo_legal rule p m ≡ true)
    (here : man_on p.men m.from ≡ Some x) (small : m.to < 64) (cover : cannot_expose rule p (other p.turn) m ≡ true) where
  abbrev c : Colour
  c = other p.turn

  abbrev then : List (Option Man)
  then = arrived p x m

  size : m.to < length p.men
  size = omega (arith, small, well.size)

  size_then : m.to < length then
  size_then = search (rules, size, length-set, length-without_at)

  parts : CannotExpose rule p x c m
  parts = cannot_expose_parts rule p x c m here cover

  is : IsMade rule p x m
  is = made rule p m x may here

  there : man_on then m.to ≡ Some (arriving_man x m.promo)
  there = there_now p.men m.from (capture_square p x m) m.to (arriving_man x m.promo) size

  -- a man of the other side instead of it
  abbrev instead : Man
  instead = record x { colour = c }

  shift : IsShift p.men (with_man then m.to instead) m.from m.to instead
  shift =
      let i = arrived_shift rule p x m well is small parts.plain in
      record {
        vacated = λ q none ne. grind (arith, i.vacated q, cases_eq q m.to, man_on-with_other, man_on-with_same, size_then);
        others = λ q y at ne. grind (arith, i.others q y, man_on-with_other);
        arrived = λ y at. grind (arith, man_on-with_same, size_then);
      }

  -- if the man that arrives doesn't reach the king, no man of its side does
  unreached_then : (k : ℕ) → king_square p.men c ≡ Some k → reaches_as then (arriving_man x m.promo).colour (arriving_man x m.promo).kind m.to k ≡ false
      → is_reached then k (other c) ≡ false
  unfolding reaches may_expose may_be_hurdle
  unreached_then k at harmless =
      let covered = covered_parts p.men c m.from k (rw at at parts.origin) in
      let others = unreached p.men (with_man then m.to instead) m.from m.to instead shift c k covered (king_there p.men c k at).0 (rw at at parts.aside)
      (record { quiet = λ h. absurd (false≢true (sym (other_differs c) ∙ h)); stood = λ h. absurd (false≢true (sym (other_differs c) ∙ h)) }) in
      unreached_instead then m.to k instead (other c) size_then (rw there refl) (grind (arith, there, harmless, and_right)) others

  -- a promotion gives no check, if the man that arrives doesn't reach the king
  pub no_check_unreached : ((k : ℕ) → king_square p.men c ≡ Some k
      → reaches_as then (arriving_man x m.promo).colour (arriving_man x m.promo).kind m.to k ≡ false) → in_check rule (position_after rule p m).men c ≡ false
  unfolding in_check
  no_check_unreached harmless = rw (simple_after rule p x m here parts.plain.castling parts.plain.rebirth) (by (king_square p.men c) refl) where
    by : (o : Option ℕ) → king_square p.men c ≡ o → in_check rule then c ≡ false
    by None at = rw (king_waits rule p x m c well is small refl ∙ at) refl
    by (Some k) at = rw (king_waits rule p x m c well is small refl ∙ at) (not_attacked rule then (other c) k (unreached_then k at (harmless k at)))

  -- a promotion gives no check, if the king isn't on a square that the man reaches with the squares occupied
  -- after it
  pub no_check_seen : (w k : ℕ) → king_square p.men c ≡ Some k → ((men : List (Option Man))
      → (occupancy_after p.men m.from None m.to).occupied ≡ occupied_squares men
      → w ≡ word (reaches_as men (arriving_man x m.promo).colour (arriving_man x m.promo).kind m.to))
      → (bit_at w k == 1) ≡ false → in_check rule (position_after rule p m).men c ≡ false
  no_check_seen w k at seen off =
      let occupied = occupied_there p.men m.from (capture_square p x m) m.to (arriving_man x m.promo)
      (λ s h. captured_there p x m s parts.plain.crossed (square_is (capture_square p x m) s h)) size in
      let harmless = sym (word_has _ w k (seen then occupied) (king_there p.men c k at).0) ∙ off in
      grind (arith, no_check_unreached, harmless, at)
