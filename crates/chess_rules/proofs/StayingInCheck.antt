-- A check that isn't parried remains.
use Rattle.chess_rules.proofs.Chess.{AreEvasions, AtMostOneKing, Bool, Colour, IsNoEvasion, IsWellFormed, Kind, King, List, Man, Move, Option, Position, Queen, RuleSet, Some, Step, and_from, and_parts, and_right, ap, arith, arriving_man, bit_and, bit_at, bit_not, bit_or, capture_square, cases_eq, cond-false, eq-eqb, like_men_paralyse, attacks_like, is_attacked_by_like, false, false≢true, find_first, first_of_and, has_fairy_lines, has_fairy_lines_of, in_check, is_attacked, is_attacker, is_checker, is_man, is_of_colour, is_paralysed, is_plain, is_pseudo_legal, is_square, is_vacant_at, king_square, list_any, list_any-append, man_on, may_be_paralysed, may_paralyse_new_kind, not-true, or_left, or_parts, or_right, other, position_after, queen_steps, reaches, reaches_as, rides, rules, same_colour, same_kind, second_fails, second_of_and, some_square, some_square_false, some_square_true, squares, squares_both, squares_either, subst, sym, true, w64, word, word_has, ℕ, ◌&&◌, ◌<◌, ◌==◌, ◌∙◌, ◌≡◌, ◌≢◌}
use Rattle.chess_rules.proofs.Blocking.{IsPlain, IsShift, arrived_shift, king_is, man_there, men_after, other_differs}
use Rattle.chess_rules.proofs.Exposing.{free_of_own}
use Rattle.chess_rules.proofs.Targeting.{every_square_on}
use Rattle.chess_rules.proofs.Fits.{arrived}
use Rattle.chess_attacks.proofs.rays.Flips.{backward, opposed, rides_turned}
use Rattle.chess_attacks.proofs.rays.Parting.{line_open}
use Rattle.chess_rules.proofs.Pseudo.{made}
use Rattle.chess_attacks.proofs.rays.OnSquares.{on_board}
use Rattle.chess_rules.proofs.Stays.{after_well_formed}

-- what stood elsewhere stands there
keeps : (men after : List (Option Man)) (a b : ℕ) (z : Man) (q : ℕ) (y : Man) → IsShift men after a b z → man_on men q ≡ Some y → q ≢ a → q ≢ b
    → man_on after q ≡ Some y
keeps men after a b z q y i here na nb = search rules

stays_free : (men after : List (Option Man)) (a b : ℕ) (z : Man) (o : Option ℕ) → IsShift men after a b z → is_vacant_at men o ≡ true → is_square o b ≡ false
    → is_vacant_at after o ≡ true
stays_free men after a b z o i h ne = grind (arith, eq-eqb)

-- a man without fairy lines that reached k and isn't met reaches it
module _ (men after : List (Option Man)) (a b : ℕ) (z : Man) (c : Colour) (k s : ℕ) (i : IsShift men after a b z) (p : s < 64) (q : k < 64)
    (ne : (reaches_as men c Queen k b && reaches_as men c Queen s b) ≡ false) where
  -- a line of the queen's that is open and isn't shut on b stays open
  line_after : (ds : List Step) → opposed ds ds ≡ true → ((f : Step → Bool) → list_any f ds ≡ true → list_any f queen_steps ≡ true)
      → list_any (rides men s k) ds ≡ true → list_any (rides after s k) ds ≡ true
  unfolding reaches_as
  line_after ds o seen h =
      rides_turned ds after s k o p q ∙ line_open men after b k s ds (search (rules, stays_free)) (rides_turned ds men k s o q p ∙ h)
      (λ x y. grind (arith, and_from, seen (rides men k b), seen (rides men s b), backward ds (rides men s b) o))

  reaches_after : (e : Colour) (j : Kind) → has_fairy_lines j ≡ false → reaches_as men e j s k ≡ true → reaches_as after e j s k ≡ true
  unfolding reaches_as
  reaches_after e j f h = search (rules, line_after, list_any-append, or_left, or_right, f, h)

-- where a man of a side stands, some man of its colour stands
pub side_there : (o : Option Man) (c : Colour) → is_of_colour o c ≡ true → (y : Man) × ((o ≡ Some y) × (same_colour y.colour c ≡ true))
side_there o c h = grind arith

-- the king's square is on the board and has the king
pub king_there : (men : List (Option Man)) (c : Colour) (k : ℕ) → king_square men c ≡ Some k → (k < 64) × (is_man (man_on men k) c King ≡ true)
unfolding king_square squares
king_there men c k h = let f = find_first (λ s. is_man (man_on men s) c King) 0 64 k h in (omega (arith, f.high), f.here)

-- the square that an unanswered check comes from, and the king's, aren't touched by the move, and in Madrasi
-- nobody is promoted
record IsAway (rule : RuleSet) (men : List (Option Man)) (c : Colour) (a b : ℕ) (z : Man) : Type 0 where
  pub size : (s : ℕ) (y : Man) → man_on men s ≡ Some y → s < 64
  pub king : (k : ℕ) → king_square men c ≡ Some k → (k ≢ a) × (k ≢ b)
  pub enemy : (s : ℕ) → is_of_colour (man_on men s) (other c) ≡ true → s ≢ a
  pub same : like_men_paralyse rule ≡ true → man_on men a ≡ Some z

module _ (rule : RuleSet) (men after : List (Option Man)) (a b : ℕ) (z : Man) (c : Colour) (i : IsShift men after a b z) (away : IsAway rule men c a b z) where
  -- a side that has a man of a kind after the move had one before it
  like_stood : (k : Kind) (q : ℕ) → like_men_paralyse rule ≡ true → is_man (man_on after q) c k ≡ true → some_square (λ s. is_man (man_on men s) c k) ≡ true
  like_stood k q stands h =
      let x = man_there (man_on after q) c k h in
      let some = some_square_true (λ s. is_man (man_on men s) c k) in
      grind (arith, cases_eq q b, i.arrived x.0, i.others q x.0, x.1, away.size a z, away.size q x.0, some a, some q)

  -- a man that faced no man of its kind before the move isn't paralysed after it
  unfaced : (s : ℕ) (y : Man) → man_on after s ≡ Some y → same_colour y.colour (other c) ≡ true → may_be_paralysed rule men c (Some y) ≡ false
      → is_paralysed rule after s ≡ false
  unfolding is_paralysed is_attacked_by_like attacks_like
  unfaced s y at side none = grind (arith, like_stood, some_square_false (attacks_like after y s) 64)

no_evasion_stays : (rule : RuleSet) (men after : List (Option Man)) (a b : ℕ) (z : Man) (c : Colour) → IsShift men after a b z → AtMostOneKing after
    → IsAway rule men c a b z → IsNoEvasion rule men c b → in_check rule after c ≡ true
unfolding in_check is_attacked is_attacker reaches
no_evasion_stays rule men after a b z c i one away u =
    let king = king_there men c u.king u.here in
    let x = man_there (man_on men u.king) c King king.1 in
    let stay = away.king u.king u.here in
    let x_stays = keeps men after a b z u.king x.0 i x.1 stay.0 stay.1 in
    let y = side_there (man_on men u.checker) (other c) u.enemy in
    let small = away.size u.checker y.0 y.1.0 in
    let free = or_parts (u.checker == b) (reaches_as men c Queen u.king b && reaches_as men c Queen u.checker b) u.no_evasion in
    let y_stays = keeps men after a b z u.checker y.0 i y.1.0 (away.enemy u.checker u.enemy) (grind (arith, eq-eqb, free.0)) in
    let hits = reaches_after men after a b z c u.king u.checker i small king.0 free.1 y.0.colour y.0.kind in
    let strikes = some_square_true (is_attacker rule after u.king (other c)) u.checker small in
    let moves = unfaced rule men after a b z c i away u.checker y.0 y_stays y.1.1 (rw y.1.0 at u.moving) in
    grind (arith, x_stays, king_is after c u.king one king.0, y_stays, eq-eqb, hits, strikes, moves, u.plain, u.check)

-- a plain move that doesn't meet a check, and isn't the king's, leaves its mover in check
check_stays : (rule : RuleSet) (p : Position) (x : Man) (m : Move) → IsWellFormed p → is_pseudo_legal rule p m ≡ true → man_on p.men m.from ≡ Some x → m.to < 64
    → IsPlain rule p x m → same_kind x.kind King ≡ false → may_paralyse_new_kind rule m ≡ false → IsNoEvasion rule p.men p.turn m.to
    → in_check rule (position_after rule p m).men p.turn ≡ true
check_stays rule p x m well may here small plain piece none u =
    let is = made rule p m x may here in
    let same : (position_after rule p m).men ≡ arrived p x m = men_after rule p x m here plain in
    let one : AtMostOneKing (arrived p x m) = subst AtMostOneKing same (after_well_formed rule p m well may).kings in
    ap (λ (l : List (Option Man)). in_check rule l p.turn) same
    ∙ no_evasion_stays rule p.men (arrived p x m) m.from m.to (arriving_man x m.promo) p.turn (arrived_shift rule p x m well is small plain) one
    (record {
      size = λ s y at. on_board p.men s y well.size at;
      king = λ k at.
          let king = king_there p.men p.turn k at in
          (grind (arith, and_parts, king), grind (arith, king, free_of_own p.turn King (man_on p.men m.to) is.arrival));
      enemy = λ s side. search (rules, is.mine, other_differs, false≢true);
      same = λ stands. grind (arith, stands, none, here);
    }) u

-- where no check is seen, all squares
pub evasion_squares_all : (rule : RuleSet) (men : List (Option Man)) (c : Colour) → AreEvasions rule men c (bit_not w64 0)
evasion_squares_all rule men c = record { elsewhere = λ t lt off. absurd (false≢true (sym off ∙ every_square_on t lt)) }

-- the squares that meet one check
pub evasion_squares_one : (rule : RuleSet) (men : List (Option Man)) (c : Colour) (k s w n r t : ℕ) → king_square men c ≡ Some k
    → may_be_paralysed rule men c (man_on men s) ≡ false → has_fairy_lines_of (man_on men s) ≡ false → t ≡ word (is_checker men c) → s < 64
    → (bit_at t s == 1) ≡ true → w ≡ word (λ q. is_square (Some s) q) → n ≡ word (λ q. reaches_as men c Queen k q) → r ≡ word (λ q. reaches_as men c Queen s q)
    → AreEvasions rule men c (bit_or w (bit_and n r))
unfolding is_checker
evasion_squares_one rule men c k s w n r t at moving plain all small set h i j =
    search (rules, word_has, first_of_and, second_of_and, squares_both, squares_either, at, moving, plain, all, small, set, h, i, j)

-- the same, for a word
pub check_unmet : (rule : RuleSet) (p : Position) (x : Man) (m : Move) (w t : ℕ) → IsWellFormed p → is_pseudo_legal rule p m ≡ true
    → man_on p.men m.from ≡ Some x → t ≡ m.to → t < 64 → is_plain rule p x m ≡ true → same_kind x.kind King ≡ false → may_paralyse_new_kind rule m ≡ false
    → AreEvasions rule p.men p.turn w → (bit_at w t == 1) ≡ false → in_check rule (position_after rule p m).men p.turn ≡ true
unfolding is_plain capture_square
check_unmet rule p x m w t well may here same small plain piece none evasion_squares off =
    search (rules, check_stays, and_parts, not-true, second_fails, cond-false, and_right)
