-- The next mating move after a cursor.
use Rattle.chess_mates.proofs.Chess.{IsNextMate, Move, None, Option, Position, RuleSet, Some, arith, first_of_and, is_legal, is_mating, mates, second_of_and, true, ℕ, ◌+◌, ◌-◌, ◌<◌, ◌≡◌}
use Rattle.std.specs.Prelude.{IfSome}
use Rattle.chess_flights.proofs.Mating.{mates_between-are}
use Rattle.chess_rules.proofs.Between.{after_cut, between-none, between-over}
use Rattle.chess_rules.proofs.Places.{met_after-here}
use Rattle.chess_rules.specs.ties.Places.{IsNextMet, moves_between}

-- a mating move is legal
pub mates-legal : (rule : RuleSet) (p : Position) (m : Move) → mates rule p m ≡ true → is_legal rule p m ≡ true
unfolding mates
mates-legal rule p m h = first_of_and (is_legal rule p m) (is_mating rule p m) h

-- so is one that is found
pub found-legal : (rule : RuleSet) (p : Position) (o : Option Move) → IfSome o (λ m. mates rule p m ≡ true) → IfSome o (λ m. is_legal rule p m ≡ true)
found-legal rule p None h = h
found-legal rule p (Some m) h = mates-legal rule p m h

-- the next move of a cursor over the mating moves, among all legal moves
next_mate_is : (rule : RuleSet) (p : Position) (a b : ℕ) (m : Move) → IsNextMet (mates rule p) a b m → mates rule p m ≡ true → a < b → IsNextMate rule p a b m
unfolding mates
next_mate_is rule p a b m next h on =
    let legal = first_of_and (is_legal rule p m) (is_mating rule p m) h in
    let n : b - 1 + 1 ≡ b = omega arith in
    record {
      over = moves_between rule p a (b - 1);
      skipped = after_cut (is_legal rule p) a (b - 1) (omega arith);
      none = grind (arith, mates_between-are rule p a (b - 1), between-over (mates rule p) a (b - 1) (b - 1), next.none, between-none (mates rule p) (b - 1) (b - 1));
      here = grind (arith, met_after-here (is_legal rule p) (b - 1), next.here, next.inside, legal, n);
      mates = second_of_and (is_legal rule p m) (is_mating rule p m) h;
    }

-- the same, for what a cursor gives
pub next_mates_are : (rule : RuleSet) (p : Position) (a b : ℕ) (o : Option Move) → IfSome o (IsNextMet (mates rule p) a b)
    → IfSome o (λ m. mates rule p m ≡ true) → IfSome o (λ m. a < b) → IfSome o (IsNextMate rule p a b)
next_mates_are rule p a b None next h on = next
next_mates_are rule p a b (Some m) next h on = next_mate_is rule p a b m next h on

-- for the next mate
pub ruleset next_mates = (found-legal, next_mates_are)
