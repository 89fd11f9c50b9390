-- The moves that mate.
use Rattle.chess_flights.proofs.Chess.{Move, Position, RuleSet, [], and_left, and_right, arith, cases_Bool, false, in_check, is_legal, is_legal-idle, is_mate, is_mating, is_pseudo_legal, may_be_made, maker, mates, mates_after, moves_after-start, not-true, other, position_after, position_after_by, refl, rules, true, ℕ, ◌∷◌, ◌≡◌, Bool, IsWellFormed, List, list_all, moves, moves_are_the_legal_moves}
use Rattle.chess_rules.proofs.Members.{in_cases, none_in_nil}
use Rattle.chess_rules.specs.Legal.{triples}
use Rattle.chess_rules.specs.ties.Places.{moves_after, moves_between}
unfoldable use Rattle.chess_rules.specs.ties.Places.{met_after, met_between}
use Rattle.std.specs.List.{Contains}
use Rattle.std.specs.Prelude.{drop, filter, take, ◌-◌}

-- where one move doesn't mate not all do
fails_in : (test : Move → Bool) (ms : List Move) (m : Move) → Contains ms m → test m ≡ false → list_all test ms ≡ false
fails_in test [] m c e = absurd (none_in_nil m c)
fails_in test (x ∷ ms) m c e = grind (arith, in_cases x ms m c, fails_in test ms m)

-- for one quiet step: not every move mates
pub one_fails : (rule : RuleSet) (p : Position) (m : Move) → IsWellFormed p → is_legal rule p m ≡ true → is_mating rule p m ≡ false
    → list_all (is_mating rule p) (moves rule p) ≡ false
one_fails rule p m well lawful none = fails_in (is_mating rule p) (moves rule p) m ((moves_are_the_legal_moves rule p m well).1 lawful) none

-- a move that may not be made doesn't mate
pub not_mating : (rule : RuleSet) (p : Position) (m : Move) → is_pseudo_legal rule p m ≡ false → mates rule p m ≡ false
unfolding mates
not_mating rule p m h = and_left _ _ (is_legal-idle rule p m h)

-- the moves of a list that are legal and mate are its legal moves that mate
mating_of : (rule : RuleSet) (p : Position) (ms : List Move) → filter (mates rule p) ms ≡ filter (is_mating rule p) (filter (is_legal rule p) ms)
unfolding mates
mating_of rule p [] = refl
mating_of rule p (m ∷ ms) = search (rules, mating_of rule p ms)

-- the mating moves after a cursor are the legal moves after it that mate
pub mates_after-are : (rule : RuleSet) (p : Position) (n : ℕ) → mates_after rule p n ≡ filter (is_mating rule p) (moves_after rule p n)
unfolding met_after
mates_after-are rule p n = mating_of rule p (drop n triples)

-- the same of those between two cursors
pub mates_between-are : (rule : RuleSet) (p : Position) (a b : ℕ) → met_between (mates rule p) a b ≡ filter (is_mating rule p) (moves_between rule p a b)
unfolding met_between
mates_between-are rule p a b = mating_of rule p (take (b - a) (drop a triples))

-- the other side is to move after a move
pub turn_after : (rule : RuleSet) (p : Position) (m : Move) → is_pseudo_legal rule p m ≡ true → (position_after rule p m).turn ≡ other p.turn
unfolding position_after position_after_by
turn_after rule p m h = let x = maker rule p m h in rw x.1 refl

-- a move that gives no check if it is legal doesn't mate
pub no_mate_quietly : (rule : RuleSet) (p : Position) (m : Move)
    → (is_legal rule p m ≡ true → in_check rule (position_after rule p m).men (other p.turn) ≡ false) → false ≡ mates rule p m
unfolding mates is_mate
no_mate_quietly rule p m quiet = grind (arith, cases_Bool, and_left, turn_after, may_be_made, and_right)

-- a legal move that gives no check doesn't mate
pub quiet : (rule : RuleSet) (p : Position) (m : Move) → is_legal rule p m ≡ true → in_check rule (position_after rule p m).men (other p.turn) ≡ false
    → is_mating rule p m ≡ false
unfolding mates
quiet rule p m lawful calm = grind (arith, no_mate_quietly rule p m (λ h. calm))

-- for positions in which each legal move mates
pub ruleset quietly = (may_be_made, moves_after-start, not-true, quiet)
