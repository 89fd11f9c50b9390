-- A reborn man gives check to its own king only as a grasshopper's hurdle.
use Rattle.chess_mates.proofs.Chess.{AreCheckSquares, AtMostOneKing, CheckSquares, Colour, Grasshopper, IsWellFormed, Kind, King, List, Man, Move, None, Option, Position, RuleSet, Some, Step, all_kept, along, and_from, and_parts, any_kept, are_rebirths_quiet, arith, arrived, bit_at, can_castle, cannot_expose, capture_square, captured_enemy, captured_mortal, cases_Bool, value_for, circe, cond-false, cond-true, false, false_from_ne_true, false≢true, in_check, is_absent, is_attacked, is_attacker, is_castling, is_clear, is_man, is_man-without, is_paralysed, is_pseudo_legal, is_square, is_vacant_at, king_is, length, list_all, made, man_on, man_on-with_cases, man_on_at, man_there, may_castle, may_check_from, moved_men, moved_sound, not-true, on_board, orthodox, other, other_twice, position_after, put_at, range_with_len, reaches, reaches_as, reborn_square, refl, rides, rule_of_checks, rules, same_colour, same_kind, some_square_false, some_square_true, sym, true, unreborn_after, with_man, without_man, ℕ, ◌&&◌, ◌-◌, ◌<◌, ◌==◌, ◌∙◌, ◌≡◌}
use Rattle.chess_mates.proofs.Checking.{no_check}
use Rattle.chess_flights.proofs.CastlingChecks.{unchecked}
use Rattle.chess_flights.proofs.Standing.{after_is}

-- no grasshopper of this colour stands there
abbrev LacksGrasshopper : List (Option Man) → Colour → Type 0
LacksGrasshopper men e = (s : ℕ) → is_man (man_on men s) e Grasshopper ≡ false

-- y is put on r too: lines are blocked and none is opened
module _ (men : List (Option Man)) (r : ℕ) (y : Man) where
  was_vacant : (o : Option ℕ) → is_vacant_at (with_man men r y) o ≡ true → is_vacant_at men o ≡ true
  was_vacant o h = grind (arith, man_on-with_cases, false≢true)

  rode : (s t : ℕ) (d : Step) → rides (with_man men r y) s t d ≡ true → rides men s t d ≡ true
  unfolding rides is_clear
  rode s t d h = any_kept (λ k. is_square (along s d k) t && list_all (λ i. is_vacant_at (with_man men r y) (along s d i)) (range_with_len 1 (k - 1)))
      (λ k. is_square (along s d k) t && is_clear men s d (k - 1)) (range_with_len 1 7) (grind (arith, and_parts, and_from, all_kept, was_vacant)) h

  reached : (e : Colour) (j : Kind) (s t : ℕ) → same_kind j Grasshopper ≡ false → reaches_as (with_man men r y) e j s t ≡ true → reaches_as men e j s t ≡ true
  unfolding reaches_as
  reached e v1 s t g h = search (rules, any_kept (rides (with_man men r y) s t) (rides men s t), rode, false≢true)

  -- the reborn man y gives the king of its own colour no check
  module _ (c : Colour) (own : same_colour y.colour (other c) ≡ false) (mortal : same_kind y.kind King ≡ false) (lacks : LacksGrasshopper men (other c))
      (one : AtMostOneKing men) where
    struck : (k s : ℕ) → is_attacker circe (with_man men r y) k (other c) s ≡ true → is_attacker orthodox men k (other c) s ≡ true
    unfolding is_attacker reaches is_paralysed
    struck k s h = grind (arith, and_parts, man_on-with_cases, false≢true, false_from_ne_true, and_from, reached)

    reborn_quietly : in_check orthodox men c ≡ false → in_check circe (with_man men r y) c ≡ false
    unfolding in_check is_attacked
    reborn_quietly safe = unchecked circe (with_man men r y) c (λ k small here.
        let stood : is_man (man_on men k) c King ≡ true = grind (arith, man_on-with_cases, false≢true, and_parts) in
        let calm = rw (king_is men c k one small stood) at safe in
        some_square_false (is_attacker circe (with_man men r y) k (other c)) 64 (omega arith) (record {
          fails = λ s lt. false_from_ne_true _ (λ h. false≢true (sym calm ∙ some_square_true (is_attacker orthodox men k (other c)) s lt (struck k s h)));
        }))

-- rebirths apart, Circe is as orthodox chess
same_check : (men : List (Option Man)) (c : Colour) → in_check circe men c ≡ in_check orthodox men c
unfolding in_check is_attacked is_attacker is_paralysed
same_check men c = grind arith

-- what may be played in Circe may be played in orthodox chess
pseudo_so : (p : Position) (m : Move) → is_pseudo_legal circe p m ≡ true → is_pseudo_legal orthodox p m ≡ true
unfolding is_pseudo_legal is_paralysed can_castle may_castle
pseudo_so p m h = grind (arith, same_check)

-- nobody becomes a grasshopper but by promotion
lacks_without : (men : List (Option Man)) (a : ℕ) (e : Colour) → LacksGrasshopper men e → LacksGrasshopper (without_man men a) e
lacks_without men a e none = λ s. false_from_ne_true _ (λ h. false≢true (sym (none s) ∙ is_man-without men a s e Grasshopper h))

lacks_with : (men : _) (b : ℕ) (z : Man) (e : Colour) → LacksGrasshopper men e → is_man (Some z) e Grasshopper ≡ false → LacksGrasshopper (with_man men b z) e
lacks_with men b z e none other_man = grind (arith, man_on-with_cases)

moved_lacks : (p : Position) (x : Man) (m : Move) (e : Colour) → man_on p.men m.from ≡ Some x → m.promo ≡ None → LacksGrasshopper p.men e
    → LacksGrasshopper (moved_men p x m) e
unfolding moved_men
moved_lacks p x m e here unpromoted none =
    let arrived_lacks : LacksGrasshopper (arrived p x m) e = lacks_with _ m.to _ e (grind (arith, lacks_without)) (search rules) in
    grind (arith, cases_Bool (is_castling x m), lacks_with, lacks_without, arrived_lacks)

absent_lacks : (men : _) (e : Colour) → length men ≡ 64 → is_absent men (record { colour = e; kind = Grasshopper }) ≡ true → LacksGrasshopper men e
absent_lacks men e size absent = λ s. false_from_ne_true _ (λ h.
    search (rules, man_there (man_on men s) e Grasshopper h, false≢true, not-true _ absent, some_square_true, on_board))

-- where the mover has no grasshopper, a move that gives no check in orthodox chess gives none in Circe,
-- promotions apart
rebirth_gives_no_check : (p : Position) (x : Man) (m : Move) → IsWellFormed p → is_pseudo_legal circe p m ≡ true → man_on p.men m.from ≡ Some x
    → m.promo ≡ None → is_absent p.men (record { colour = p.turn; kind = Grasshopper }) ≡ true
    → in_check orthodox (position_after orthodox p m).men (other p.turn) ≡ false → in_check circe (position_after circe p m).men (other p.turn) ≡ false
rebirth_gives_no_check p x m well may here unpromoted absent safe =
    rw (after_is circe p x m here) (by (reborn_square circe p x m) (man_on_at p.men (capture_square p x m)) refl) where
      by : (o : Option ℕ) (w : Option Man) → man_on_at p.men (capture_square p x m) ≡ w → in_check circe (put_at (moved_men p x m) o w) (other p.turn) ≡ false
      by (Some r) (Some y) who =
          let is = made circe p m x may here in
          reborn_quietly (moved_men p x m) r y (other p.turn) (rw (other_twice p.turn) (captured_enemy circe p x m y well is who))
          (captured_mortal circe p x m y well is who)
          (rw (other_twice p.turn) (moved_lacks p x m p.turn here unpromoted (absent_lacks p.men p.turn well.size absent)))
          (moved_sound circe p x m well is).kings (rw (unreborn_after orthodox p x m here (λ e. absurd (false≢true e))) at safe)
      by o w who = same_check (moved_men p x m) (other p.turn) ∙ rw (unreborn_after orthodox p x m here (λ e. absurd (false≢true e))) at safe

-- a move that gives no check by the rules of checks gives none
pub no_check_by_rebirth : (rule : RuleSet) (p : Position) (x : Man) (m : Move) (s : CheckSquares) (w : ℕ) → IsWellFormed p → is_pseudo_legal rule p m ≡ true
    → man_on p.men m.from ≡ Some x → AreCheckSquares p.men (other p.turn) s → w ≡ value_for s.kinds x.kind → m.to < 64 → (bit_at w m.to == 1) ≡ false
    → (same_kind x.kind King ≡ true → may_check_from p.men (other p.turn) x m.to ≡ false) → m.promo ≡ None
    → cannot_expose (rule_of_checks rule p.men p.turn) p (other p.turn) m ≡ true → in_check rule (position_after rule p m).men (other p.turn) ≡ false
unfolding are_rebirths_quiet
no_check_by_rebirth rule p x m s w well may here a h small off apart unpromoted cover =
    grind (arith, cases_Bool (are_rebirths_quiet rule p.men p.turn), and_parts, cond-true, cond-false, rebirth_gives_no_check, no_check, pseudo_so)
