-- How many positions a move and some steps of a walk count.
use Rattle.pop_walk.proofs.Words.{Battle, Bool, Frame, HasCounted, List, Mate, Move, None, Mode, Position, RuleSet, Some, [], arith, chess, cond, eqb, false, is_followed, is_mating, legal_moves, moves_after, position, position_after, rules, seeks_last, smallest_tree, sum_by-cons, to_open, true, value, walk_after, walk_count, ℕ, ◌&&◌, ◌+◌, ◌∷◌, ◌≡◌, ◌≤◌, ◌⊎◌}
use Rattle.pop_walk.specs.ties.Counts.{Counts, CountsMove, Untried, are_whites, fewest_left, fewest_walked, is_walked_once_by, least_if, untried}
use Rattle.pop_battle.proofs.Boards.{after_start, none_of}
use Rattle.pop_walk.proofs.GoingOn.{no_zero, ways}

-- what counts all that has to be tried counts what has to be tried if `full`
pub counts-if : (full : Bool) (a b : Untried) (x y : ℕ) → Counts a b x y → Counts (least_if full a) b x y
unfolding least_if
counts-if true a b x y c = search rules
counts-if false a b x y c = record { once = c.once; most = c.most; least = omega (arith, c.grows); grows = c.grows }

-- where nothing is done, nothing is counted
pub counts-none : (full : Bool) (a : Untried) (x : ℕ) → Counts (least_if full a) a x x
counts-none full a x = counts-if full a a x x (search rules)

-- two calls, where something has to be tried only if `full` and `more`
pub counts_then-if : (full more : Bool) (a b c : Untried) (x y z : ℕ) → Counts (least_if full a) b x y → Counts (least_if more b) c y z
    → Counts (least_if (full && more) a) c x z
unfolding least_if
counts_then-if true true a b c x y z first second = search rules
counts_then-if true false a b c x y z first second = search (rules, first.grows, second.grows)
counts_then-if false more a b c x y z first second = search (rules, first.grows, second.grows)

-- the same, where `full` holds of both
pub counts_then-both : (full : Bool) (a b c : Untried) (x y z : ℕ) → Counts (least_if full a) b x y → Counts (least_if full b) c y z
    → Counts (least_if full a) c x z
counts_then-both true a b c x y z first second = counts_then-if true true a b c x y z first second
counts_then-both false a b c x y z first second = counts_then-if false false a b c x y z first second

-- what some steps of a walk count that skips nothing that has to be tried
abbrev pub CountsAll : RuleSet → Mode → ℕ → Position → (old new : List Frame) → (before after : ℕ) → Type 0
CountsAll rule mode h p old new before after = Counts (untried rule mode h p old) (untried rule mode h p new) before after

-- what is counted, by the ways to play
pub counts-by : (rule : RuleSet) (mode : Mode) (h : ℕ) (p : Position) (old new : List Frame) (before after : ℕ) → HasCounted before after 0
    → (mode.battle ≡ None → (after + to_open rule p new ≤ before + to_open rule p old)
    × HasCounted before (after + to_open rule p new) (to_open rule p old))
    → ((battle : Battle) → mode.battle ≡ Some battle → HasCounted before (after + fewest_left rule mode h p new) (fewest_left rule mode h p old))
    → ((battle : Battle) → mode.battle ≡ Some battle → mode.variation ≡ false → are_whites battle old ≡ true
    → (are_whites battle new ≡ true) × (after + to_open rule p new ≤ before + to_open rule p old))
    → CountsAll rule mode h p old new before after
unfolding untried is_walked_once_by
counts-by rule mode h p old new before after grows help fewest keys = search (rules, ways)

-- a position counts one where moves are tried from it, and what these open
pub walk_count-start : (rule : RuleSet) (k : ℕ) (q : Position)
    → walk_count (legal_moves rule) (position_after rule) k q ≡ cond (eqb k 0) 0 1 + walk_after rule k q 0
unfolding walk_count walk_after
walk_count-start rule k q = search (rules, after_start, no_zero)

pub at_most_one : (none : Bool) → cond none 0 1 ≤ 1
at_most_one true = omega arith
at_most_one false = omega arith

-- in help play a move counts one if moves are tried after it
pub counts-help : (rule : RuleSet) (mode : Mode) (root : Bool) (t : ℕ) (q : Position) (before after : ℕ) → mode.battle ≡ None
    → CountsMove rule mode root t q before after → (after ≤ before + cond (eqb t 0) 0 1) × HasCounted before after (cond (eqb t 0) 0 1)
counts-help rule mode root t q before after help x = (x.help help, rw help at x.tries)

-- a frame without moves opens nothing
pub open-close : (rule : RuleSet) (p : Position) (f : Frame) (below : List Frame) → (f.left ≡ 0) ⊎ (moves_after rule (position rule p (f ∷ below)) f.place ≡ [])
    → to_open rule p (f ∷ below) ≡ to_open rule p below
unfolding to_open walk_after
open-close rule p f below e = search rules

-- a last move that doesn't mate counts nothing, where the side seeks mate
pub fewest-skipped : (rule : RuleSet) (mode : Mode) (P : Position) (low : Bool) (fuel : ℕ) → seeks_last mode.battle ≡ true → mode.goal ≡ Mate
    → (battle : Battle) → mode.battle ≡ Some battle → (m : Move) (ms : List Move) → is_mating rule P m ≡ false
    → fewest_walked mode (chess mode.goal rule) low fuel 1 P (m ∷ ms) ≡ fewest_walked mode (chess mode.goal rule) low fuel 1 P ms
unfolding fewest_walked smallest_tree is_followed value
fewest-skipped rule mode P low fuel last for battle fought m ms misses = search (rules, sum_by-cons)

-- the last half-move opens nothing
pub last-open : (rule : RuleSet) (P : Position) (k place : ℕ) → k ≡ 1 → walk_after rule k P place ≡ 0
unfolding walk_after
last-open rule P k place e = rw e (none_of (legal_moves rule) (position_after rule) P (moves_after rule P place))
