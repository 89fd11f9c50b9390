-- The last half-moves, for mate, tried without frames: their value, and how many positions count.
use Rattle.pop_battle.proofs.Words.{AreRemoved, Battle, Bool, Direct, HasCounted, IfSome, Killer, LegalPlace, List, Mate, Move, None, Option, Order, SkipsMoves, Position, RuleSet, SelfMate, Some, [], arith, can_move, chess, cond, eqb, false, filter, is_goal_reached, is_legal, is_mating, is_some, joined_value, length, list_all, list_any, mates_after, min, moves, moves_ahead, moves_after, must_reply_with_mate, nat_tests, not, position_after, refl, rules, attacker_to_move, smallest_below, smallest_tree, true, value, walk_count, ℕ, ◌&&◌, ◌++◌, ◌+◌, ◌-◌, ◌<◌, ◌^◌, ◌∷◌, ◌≡◌, ◌≤◌, suc, sym, walk_among, ◌∙◌, Aim, mates_after-are}
use Rattle.pop_battle.proofs.Boards.{after_start, each_one, unreached, walk_count-some}
use Rattle.pop_battle.proofs.SmallestTrees.{tree-one, trees-end, trees-next, trees-start}
use Rattle.pop_battle.proofs.Tests.{any-start, fewest-start, first, rest-start, walk-next, walk_count-start}
use Rattle.pop_battle.proofs.Values.{value-forced, value-open, value-stuck}
use Rattle.pop_battle.specs.ties.Calls.{Finds}

-- Black needn't mate where some move doesn't mate
pub one_quiet : (rule : RuleSet) (q : Position) → list_all (is_mating rule q) (moves rule q) ≡ false → value SelfMate (chess Mate rule) 1 q ≡ false
one_quiet rule q quiet = grind (arith, value-forced)

none_mates : (test : Move → Bool) (ms : List Move) → filter test ms ≡ [] → (not (eqb (length ms) 0) && list_all test ms) ≡ false
none_mates test [] none = refl
none_mates test (m ∷ ms) none = grind arith

-- Black needn't mate where no move mates
pub no_mates : (rule : RuleSet) (q : Position) → mates_after rule q 0 ≡ [] → value SelfMate (chess Mate rule) 1 q ≡ false
no_mates rule q none = rw (value-forced SelfMate (chess Mate rule) q refl) (none_mates (is_mating rule q) (moves rule q) (rw (← after_start rule q, ← mates_after-are rule q 0) none))

-- for `forces_mate`: where Black needn't mate
pub ruleset unforced = (one_quiet, no_mates)

-- a battle for mate
abbrev aim_of : Battle → Aim
aim_of battle = record { battle = battle; goal = Mate }

-- these moves are still to be tried, with t half-moves left after each: v joins their values, and with them
-- at least and at most this many positions are counted
pub record AreTried (battle : Battle) (rule : RuleSet) (t : ℕ) (p : Position) (ahead : List Move) (v : Bool) (before least most counted : ℕ) : Type 0 where
  pub joined : cond (attacker_to_move battle (suc t)) (list_any (λ m. value battle (chess Mate rule) t (position_after rule p m)) ahead)
      (list_all (λ m. value battle (chess Mate rule) t (position_after rule p m)) ahead) ≡ v
  pub fits : counted + walk_among rule (suc t) p ahead ≤ most
  pub tried : min (before + least) (2 ^ 64 - 1) ≤ counted + smallest_below battle (chess Mate rule) (suc t) p ahead

-- where one more is counted, a position with one half-move left is
pub one_more : (battle : Battle) (rule : RuleSet) (q : Position) (counted count : ℕ) → count ≤ counted + 1 → HasCounted counted count 1
    → (count ≤ counted + walk_count (moves rule) (position_after rule) 1 q) × HasCounted counted count (smallest_tree battle (chess Mate rule) 1 q)
one_more battle rule q counted count few one = grind (arith, tree-one, walk_count-some (moves rule) (position_after rule) 1 q)

-- with two half-moves left each move counts one
pub walk_among-two : (rule : RuleSet) (p : Position) (ms : List Move) → walk_among rule 2 p ms ≡ length ms
unfolding walk_among
walk_among-two rule p ms = each_one (moves rule) (position_after rule) p ms

module _ {battle : Battle} {rule : RuleSet} {t : ℕ} {p : Position} {v : Bool} {before least most : ℕ} where
  -- where no more are to be tried, the count is right
  pub ends : {ahead : List Move} {counted : ℕ} → AreTried battle rule t p ahead v before least most counted → ahead ≡ []
      → (counted ≤ most) × HasCounted before counted least
  ends a none = grind (arith, trees-end)

  module _ {m : Move} {ahead later : List Move} (here : ahead ≡ m ∷ later) {counted : ℕ} (count : ℕ)
      (a : AreTried battle rule t p ahead v before least most counted)
      (reported : (count ≤ counted + walk_count (moves rule) (position_after rule) t (position_after rule p m))
      × HasCounted counted count (smallest_tree battle (chess Mate rule) t (position_after rule p m))) where
    -- where a move decides, the count is right
    pub stops : value battle (chess Mate rule) t (position_after rule p m) ≡ attacker_to_move battle (suc t) → (count ≤ most) × HasCounted before count least
    stops e = grind (arith, trees-next battle (chess Mate rule) t p m later, walk-next rule (aim_of battle) t p ahead later m here)

    -- after another the next is to be tried
    pub goes_on : value battle (chess Mate rule) t (position_after rule p m) ≡ not (attacker_to_move battle (suc t))
        → AreTried battle rule t p later v before least most count
    goes_on e = grind (arith, trees-next battle (chess Mate rule) t p m later, walk-next rule (aim_of battle) t p ahead later m here)

module _ {rule : RuleSet} {p : Position} {v : Bool} {before least most : ℕ} where
  removed_on : (over ahead : List Move) (counted count : ℕ) → AreTried SelfMate rule 1 p (over ++ ahead) v before least most counted
      → AreRemoved (must_reply_with_mate rule p) counted count over → AreTried SelfMate rule 1 p ahead v before least most count
  removed_on [] ahead counted count a taken =
      let counts = taken.counts in
      record { joined = a.joined; fits = omega (arith, a.fits, counts); tried = omega (arith, a.tried, counts) }
  removed_on (m ∷ over) ahead counted count a taken =
      let quiet : must_reply_with_mate rule p m ≡ false = grind (arith, taken.none) in
      removed_on over ahead (min (counted + 1) (2 ^ 64 - 1)) count
      (goes_on refl _ a (one_more _ _ _ _ _ (omega arith) (omega arith)) (one_quiet rule (position_after rule p m) quiet))
      (record { none = grind (arith, taken.none); counts = omega (arith, taken.counts) })

  -- moves that are skipped don't decide: the others are still to be tried
  pub skipped_on : {place counted count : ℕ} {ahead : List Move} → SkipsMoves rule p place ahead (AreRemoved (must_reply_with_mate rule p) counted count)
      → AreTried SelfMate rule 1 p (moves_after rule p place) v before least most counted → AreTried SelfMate rule 1 p ahead v before least most count
  skipped_on n a = removed_on n.over _ _ _ (rw (n.skipped, n.here) at a) n.fits

-- nothing is counted only where nothing was before, and no move is skipped
unskipped : (over : List Move) (counted count : ℕ) → count ≡ min (counted + length over) (2 ^ 64 - 1) → count ≡ 0 → (counted ≡ 0) × (over ≡ [])
unskipped [] counted count e zero = (omega (arith, e, zero), refl)
unskipped (m ∷ over) counted count e zero = absurd (omega (arith, e, zero))

pub none_skipped : {rule : RuleSet} {p : Position} {test : Move → Bool} {place counted count : ℕ} → SkipsMoves rule p place [] (AreRemoved test counted count)
    → count ≡ 0 → (counted ≡ 0) × (moves_after rule p place ≡ [])
none_skipped n zero = grind (arith, unskipped n.over _ _ n.fits.counts zero, n.skipped, n.here)

module _ (battle : Battle) (rule : RuleSet) (p : Position) where
  -- without a move the goal decides, and nothing is counted
  pub stuck : (v : Bool) (opened : ℕ) → can_move (chess Mate rule) p ≡ false → v ≡ is_goal_reached Mate rule p
      → (v ≡ value battle (chess Mate rule) 2 p) × HasCounted opened opened (smallest_tree battle (chess Mate rule) 2 p)
  unfolding smallest_tree
  stuck v opened none reported = search (rules, value-stuck)

  -- where the moves decide, all are to be tried, in any order
  begins : (t : ℕ) (ahead : List Move) (before counted : ℕ) → joined_value battle (chess Mate rule) (suc t) p ahead ≡ value battle (chess Mate rule) (suc t) p
      → walk_count (moves rule) (position_after rule) (suc t) p ≡ 1 + walk_among rule (suc t) p ahead
      → smallest_tree battle (chess Mate rule) (suc t) p ≤ 1 + smallest_below battle (chess Mate rule) (suc t) p ahead
      → counted ≤ before + 1 → HasCounted before counted 1
      → AreTried battle rule t p ahead (value battle (chess Mate rule) (suc t) p) before (smallest_tree battle (chess Mate rule) (suc t) p)
      (before + walk_count (moves rule) (position_after rule) (suc t) p) counted
  unfolding joined_value
  begins t ahead before counted same long trees few one = grind arith

  -- with a legal move, the value of the position joins the values of all moves
  whole : can_move (chess Mate rule) p ≡ true → value battle (chess Mate rule) 2 p ≡ joined_value battle (chess Mate rule) 2 p (moves rule p)
  whole some = value-open battle (chess Mate rule) 2 p (omega arith) some (unreached Mate rule p some)

  -- none to move
  pub none_moves : moves rule p ≡ [] → can_move (chess Mate rule) p ≡ false
  none_moves none = rw none refl

  -- tried in order
  pub begins_plain : (place before : ℕ) → place ≡ 0 → 0 < length (moves_after rule p place)
      → AreTried battle rule 1 p (moves_after rule p place) (value battle (chess Mate rule) 2 p) before (smallest_tree battle (chess Mate rule) 2 p)
      (before + walk_count (moves rule) (position_after rule) 2 p) (before + 1)
  unfolding walk_count walk_among
  begins_plain place before at some =
      let all : moves_after rule p place ≡ moves rule p = rw at (after_start rule p) in
      rw all (begins 1 _ before _ (sym (whole (grind (arith, nat_tests)))) refl (trees-start battle (chess Mate rule) 2 p) (omega arith) (omega arith))

  -- tried in the order of a test
  pub begins_ordered : (t : ℕ) (o : Order) (before counted : ℕ)
      → value battle (chess Mate rule) (suc t) p ≡ joined_value battle (chess Mate rule) (suc t) p (moves rule p) → counted ≤ before + 1
      → HasCounted before counted 1
      → AreTried battle rule t p (first rule p o) (value battle (chess Mate rule) (suc t) p) before (smallest_tree battle (chess Mate rule) (suc t) p)
      (before + walk_count (moves rule) (position_after rule) (suc t) p) counted
  begins_ordered t o before counted all few one =
      let aim = aim_of battle in
      begins t _ before counted (rest-start rule aim (suc t) p o ∙ sym all) (walk_count-start rule aim (suc t) p o (omega arith))
      (fewest-start rule aim (suc t) p o) few one

-- a move that is found of those ahead is a defence
pub found_defence : {rule : RuleSet} {p board : Position} {cursor : LegalPlace} {found : Option Move} {untried ahead later : List Move} → untried ≡ ahead
    → Finds rule p board (Some cursor) found ahead later → Finds rule p board (Some cursor) found untried later
found_defence e f = record { unchanged = f.unchanged; within = f.within; next = rw e f.next }

-- the defences from the one that was found on
abbrev pub from_next : Option Move → List Move → List Move
from_next None later = []
from_next (Some m) later = m ∷ later

-- whether a list is empty
some_of : (ms : List Move) → list_any (λ m. true) ms ≡ not (eqb (length ms) 0)
some_of [] = refl
some_of (m ∷ ms) = grind (arith, nat_tests)

module _ (rule : RuleSet) (p board : Position) (cursor : Option LegalPlace) (next : Option Move) where
  -- the next one found
  pub from : (ahead later : List Move) → Finds rule p board cursor next ahead later → ahead ≡ from_next next later
  from ahead later f = grind arith

  -- the search for the first defence in an order
  module _ (o : Order) (later : List Move) (f : Finds rule p board cursor next (moves_ahead rule p o Killer (o.killer - 1)) later) where
    -- finds one exactly where there is a move
    pub found_first : is_some next ≡ can_move (chess Mate rule) p
    found_first = grind (arith, some_of, from, any-start rule p o (λ m. true))

    -- with it all are to be tried
    pub begins_first : (before opened : ℕ) → is_some next ≡ true → opened ≤ before + 1 → HasCounted before opened 1
        → IfSome next (λ m. is_legal rule p m ≡ true)
        × AreTried Direct rule 1 p (from_next next later) (value Direct (chess Mate rule) 2 p) before
        (smallest_tree Direct (chess Mate rule) 2 p) (before + walk_count (moves rule) (position_after rule) 2 p) opened
    begins_first before opened some few one = (
      grind arith,
      rw (← from _ _ f) (begins_ordered Direct rule p 1 o before opened (whole Direct rule p (search (rules, found_first))) few one),
    )
