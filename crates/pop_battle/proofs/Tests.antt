-- One turn of a test over frames.
use Rattle.pop_battle.proofs.Words.{AreCursors, Bool, CameFrom, CameFromAt, Ends, Frame, HasCounted, IfNone, IfSome, IsDescending, IsLinked, IsOpenedOn, IsPlaceIn, IsTesting, IsWellFormed, Killer, LegalPlace, List, MatchOption, Move, None, Option, Order, Position, RuleSet, Some, Turns, Undo, [], after_well_formed, ap, arith, cases_lt, chess, cond, delivered_value, drop, drop-append-le, is_legal, joined_value, least_of, length, length-append, length-drop, length-reverse, moves_ahead, may_be_made, list_all, list_any, min, not, pending_value, position, refl, reverse, reverse-append, rules, attacker_to_move, smallest_below, smallest_tree, work_from, work_among, suc, sum_by, sum_by-cons, take, take-append-le, take_all, tested_frame, tests, to_test, to_try, to_try_with, left_at_top, true, undo_of, untried_moves, value, walk_among, walk_count, test_work, ℕ, ◌&&◌, ◌++◌, ◌+◌, ◌-◌, ◌<◌, ◌^◌, ◌||◌, ◌∙◌, ◌∷◌, ◌≡◌, ◌≤◌, ◌⊎◌, position_after, legal_moves, Aim}
use Rattle.pop_battle.proofs.Orders.{same_start}
use Rattle.pop_battle.specs.declared.frame.MoveStage.{MoveStage}
use Rattle.pop_battle.proofs.SmallestTrees.{trees-next, trees-end, trees-start}

-- the frame of a test, moved on
abbrev pub advanced : Frame → ℕ → MoveStage → Option LegalPlace → Frame
advanced f place s cursor = record f { place = place; move_stage = s; cursor = cursor }

-- the moves of a frame that is opened are all its position's moves, in another order
module _ (rule : RuleSet) (q : Position) (o : Order) where
  -- the moves of the top frame that are still to be tried
  abbrev pub first : List Move
  first = moves_ahead rule q o Killer (o.killer - 1)

  -- some of them meet a test exactly where some legal move does
  pub any-start : (test : Move → Bool) → list_any test first ≡ list_any test (legal_moves rule q)
  any-start test = same_start rule q o (λ m c. test m || c) (list_any test) (λ m ms. refl) (λ m n c. grind arith)

  all-start : (test : Move → Bool) → list_all test first ≡ list_all test (legal_moves rule q)
  all-start test = same_start rule q o (λ m c. test m && c) (list_all test) (λ m ms. refl) (λ m n c. grind arith)

  sum-start : (f : Move → ℕ) → sum_by f first ≡ sum_by f (legal_moves rule q)
  sum-start f = same_start rule q o (λ m c. f m + c) (sum_by f) (sum_by-cons f) (λ m n c. omega arith)

  least-start : (test : Move → Bool) (f : Move → ℕ) (n : ℕ) → least_of test f n first ≡ least_of test f n (legal_moves rule q)
  unfolding least_of
  least-start test f n = same_start rule q o (λ m c. cond (test m) (min (f m) c) c) (least_of test f n) (λ m ms. refl) (λ m k c. grind arith)

module _ (rule : RuleSet) (aim : Aim) where
  -- the value of some moves of a position
  abbrev pub rest : ℕ → Position → List Move → Bool
  rest left P ms = joined_value aim.battle (chess aim.goal rule) left P ms

  -- all moves to try have the value of all legal moves
  pub rest-start : (t : ℕ) (q : Position) (o : Order) → rest t q (first rule q o) ≡ rest t q (legal_moves rule q)
  unfolding joined_value
  rest-start t q o = search (rules, any-start, all-start)

  pending_value-undecided : (p : Position) (f : Frame) (below : List Frame) (answer : Option Bool)
      → (answer ≡ None) ⊎ (answer ≡ Some (not (attacker_to_move aim.battle f.left)))
      → pending_value rule aim p (f ∷ below) answer ≡ delivered_value rule aim p below
      (rest f.left (position rule p (f ∷ below)) (untried_moves rule (position rule p (f ∷ below)) f))
  unfolding pending_value delivered_value
  pending_value-undecided p f below answer e = search rules

  delivered_value-some : (p : Position) (below : List Frame) (v : Bool) → 0 < length below
      → delivered_value rule aim p below v ≡ pending_value rule aim p below (Some v)
  unfolding pending_value
  delivered_value-some p below v some = search rules

  -- the least number of positions below, over the positions that have to be tried
  abbrev pub fewest : ℕ → Position → List Move → ℕ
  fewest left P ms = smallest_below aim.battle (chess aim.goal rule) left P ms

  -- a position's smallest tree is at most one position more than the least number below it
  pub fewest-start : (t : ℕ) (q : Position) (o : Order) → smallest_tree aim.battle (chess aim.goal rule) t q ≤ 1 + fewest t q (first rule q o)
  unfolding smallest_below
  fewest-start t q o = search (rules, trees-start, sum-start, least-start)

  try-undecided : (p : Position) (f : Frame) (below : List Frame) (answer : Option Bool)
      → (answer ≡ None) ⊎ (answer ≡ Some (not (attacker_to_move aim.battle f.left)))
      → to_try rule aim p (f ∷ below) answer ≡ fewest f.left (position rule p (f ∷ below)) (untried_moves rule (position rule p (f ∷ below)) f)
      + to_try_with rule aim p below (rest f.left (position rule p (f ∷ below)) (untried_moves rule (position rule p (f ∷ below)) f))
  unfolding to_try to_try_with
  try-undecided p f below answer e = search rules

  try-some : (p : Position) (below : List Frame) (v : Bool) → 0 < length below → to_try_with rule aim p below v ≡ to_try rule aim p below (Some v)
  unfolding to_try
  try-some p below v some = search rules

  steps-start : (t : ℕ) (q : Position) (o : Order) → work_from rule t q ≡ 1 + work_among rule t q (first rule q o)
  unfolding work_from work_among
  steps-start t q o = search (rules, sum-start)

  steps-next : (t : ℕ) (P : Position) (ms more : List Move) (m : Move) → ms ≡ m ∷ more
      → work_among rule (suc t) P ms ≡ (1 + work_from rule t (position_after rule P m)) + work_among rule (suc t) P more
  unfolding work_among
  steps-next t P ms more m e = rw e (sum_by-cons (λ x. 1 + work_from rule t (position_after rule P x)) m more)

  -- a position's walk is one list of moves and the lists below each move to try
  pub walk_count-start : (t : ℕ) (q : Position) (o : Order) → 0 < t → walk_count (legal_moves rule) (position_after rule) t q
      ≡ 1 + walk_among rule t q (first rule q o)
  unfolding walk_count walk_among
  walk_count-start t q o some = search (rules, sum-start)

  -- a move has its own lists of moves
  pub walk-next : (t : ℕ) (P : Position) (ms more : List Move) (m : Move) → ms ≡ m ∷ more
      → walk_among rule (suc t) P ms ≡ walk_count (legal_moves rule) (position_after rule) t (position_after rule P m) + walk_among rule (suc t) P more
  unfolding walk_among
  walk-next t P ms more m e = rw e (sum_by-cons (λ x. walk_count (legal_moves rule) (position_after rule) t (position_after rule P x)) m more)

  module _ (p : Position) (f : Frame) (below : List Frame) (next : ℕ) (s : MoveStage) (m : Move) (t : ℕ) (kn : Option LegalPlace) (left : f.left ≡ suc t)
      (e : untried_moves rule (position rule p (f ∷ below)) f ≡ m ∷ moves_ahead rule (position rule p (f ∷ below)) f.order s next) where
    abbrev P : Position
    P = position rule p (f ∷ below)

    -- the value of the position after the move decides with the moves still untried
    delivered_value-next : delivered_value rule aim p below (rest f.left P (untried_moves rule P f)) ≡ delivered_value rule aim p (advanced f next s kn ∷ below)
        (value aim.battle (chess aim.goal rule) t (position_after rule P m))
    unfolding delivered_value position joined_value
    delivered_value-next = search rules

    try-next : fewest f.left P (untried_moves rule P f) + to_try_with rule aim p below (rest f.left P (untried_moves rule P f))
        ≤ smallest_tree aim.battle (chess aim.goal rule) t (position_after rule P m)
        + to_try_with rule aim p (advanced f next s kn ∷ below) (value aim.battle (chess aim.goal rule) t (position_after rule P m))
    unfolding to_try_with position joined_value
    try-next = search (rules, trees-next)

    work-is_decided : test_work rule p (advanced f next s kn ∷ below) < test_work rule p (f ∷ below)
    unfolding test_work position
    work-is_decided = rw (left, steps-next t P (untried_moves rule P f) (moves_ahead rule P f.order s next) m e) (omega arith)

-- a frame above the lowest came from the position below
pub came_from : (rule : RuleSet) (p : Position) (f : Frame) (below : List Frame) (board : Position) → IsLinked rule p (f ∷ below)
    → board ≡ position rule p (f ∷ below) → 0 < length below → CameFromAt rule f board (position rule p below)
unfolding IsLinked position
came_from rule p f below board l at deep = search rules

-- the frames from the floor up, once a frame is put on or taken off
tests-push : (floor : ℕ) (xs : List Frame) (x : Frame) → floor ≤ length xs → tests floor (xs ++ x ∷ []) ≡ x ∷ tests floor xs
unfolding tests
tests-push floor xs x low = ap reverse (drop-append-le floor xs (x ∷ []) low) ∙ reverse-append (drop floor xs) (x ∷ [])

length-tests : (floor : ℕ) (xs : List Frame) → length (tests floor xs) ≡ length xs - floor
unfolding tests
length-tests floor xs = length-reverse (drop floor xs) ∙ length-drop floor xs

module _ (rule : RuleSet) (aim : Aim) (floor : ℕ) (top : Frame) (old new : List Frame) (taken : old ≡ new ++ top ∷ []) (low : floor < length old) where
  popped : tests floor old ≡ top ∷ tests floor new
  popped = grind (arith, tests-push, length-append)

  testing_top : (p board : Position) → IsTesting rule p (tests floor old) board → IsTesting rule p (top ∷ tests floor new) board
  testing_top p board r = rw popped at r

  -- what closing a frame asks for
  pub close_asks : (p board : Position) (depth : ℕ) → depth ≡ length new → IsTesting rule p (tests floor old) board → floor < depth → CameFrom rule top board
  close_asks p board depth d r deep =
      let t = testing_top p board r in search (rules, came_from rule p top (tests floor new) board t.linked t.board_at, length-tests)

  -- with v for the value of the top frame those below have its value, and as many positions left to try
  abbrev HandsDown : Position → Option Bool → Bool → Type 0
  HandsDown p was v = (pending_value rule aim p (top ∷ tests floor new) was ≡ delivered_value rule aim p (tests floor new) v)
      × (to_try rule aim p (top ∷ tests floor new) was ≡ to_try_with rule aim p (tests floor new) v)

  module _ (board after : Position) (depth : ℕ) (v : Bool) (was is result : Option Bool) (d : depth ≡ length new)
      (lowest : depth ≤ floor → (result ≡ Some v) × (after ≡ board)) (above : floor < depth → (result ≡ None) × (is ≡ Some v))
      (before : (q : Position) → floor < depth → CameFromAt rule top board q → after ≡ q) where
    -- a frame that is closed ends the test or hands its value down
    pub close_turns : (count : ℕ) (p : Position) → IsTesting rule p (tests floor old) board → HandsDown p was v
        → MatchOption result (Turns rule aim floor p old new was is after count count) (λ w. Ends rule aim floor p old new was after count count w)
    unfolding IsLinked IsDescending AreCursors position test_work delivered_value to_try_with to_test
    close_turns count p r hands =
        search (rules, cases_lt, testing_top, length-tests, popped, delivered_value-some, try-some, take_all, take-append-le, length-append)

    -- closing keeps the room
    pub close_room : (p : Position) (N : ℕ) → IsTesting rule p (tests floor old) board → left_at_top (tests floor old) + length old ≤ N + 1
        → IfNone result (left_at_top (tests floor new) + length new ≤ N + 1)
    unfolding IsDescending
    close_room p N r room = search (rules, cases_lt, testing_top, length-tests, popped, length-append)

  module _ (place : ℕ) (s : MoveStage) (kn : Option LegalPlace) (m : Move) (board after : Position) (N : ℕ) (was : Option Bool) (last : List Frame)
      (some : 0 < top.left) (open_yet : (was ≡ None) ⊎ (was ≡ Some (not (attacker_to_move aim.battle top.left))))
      (next : untried_moves rule board top ≡ m ∷ moves_ahead rule board top.order s place) (lawful : is_legal rule board m ≡ true)
      (within : IfSome kn (IsPlaceIn rule board)) where
    -- what `descend` leaves
    abbrev Descends : Option Bool → Type 0
    Descends is = MatchOption is ((0 < top.left - 1)
        × (value aim.battle (chess aim.goal rule) (top.left - 1) (position_after rule board m) ≡ joined_value aim.battle (chess aim.goal rule) (top.left - 1)
        (position_after rule board m) (legal_moves rule (position_after rule board m))) × (after ≡ position_after rule board m)
        × IsOpenedOn rule (position_after rule board m) (new ++ advanced top place s kn ∷ []) last m (undo_of rule board m) (top.left - 1))
        (λ v. (v ≡ value aim.battle (chess aim.goal rule) (top.left - 1) (position_after rule board m)) × (after ≡ board)
        × (last ≡ new ++ advanced top place s kn ∷ []))

    left_is : top.left ≡ suc (top.left - 1)
    left_is = omega (arith, some)

    opened_last : (d : Descends None)
        → tests floor last ≡ tested_frame d.3.order m (undo_of rule board m) (top.left - 1) d.3.cursor ∷ (advanced top place s kn ∷ tests floor new)
    opened_last d = grind (arith, tests-push, length-append)

    decided_last : (v : Bool) → Descends (Some v) → tests floor last ≡ advanced top place s kn ∷ tests floor new
    decided_last v d = grind (arith, tests-push, length-append)

    module _ (p : Position) (r : IsTesting rule p (tests floor old) board) where
      at : board ≡ position rule p (top ∷ tests floor new)
      at = (testing_top p board r).board_at

      here : untried_moves rule (position rule p (top ∷ tests floor new)) top ≡ m ∷ moves_ahead rule (position rule p (top ∷ tests floor new)) top.order s place
      here = rw (← at) next

    -- a move that is played hands its value down or opens a frame
    pub descend_turns : (is : Option Bool) → Descends is → (before count : ℕ)
        → MatchOption is (count ≤ before + 1) (λ _. count ≤ before + walk_count (legal_moves rule) (position_after rule) (top.left - 1)
        (position_after rule board m))
        → MatchOption is (HasCounted before count 1) (λ _. HasCounted before count
        (smallest_tree aim.battle (chess aim.goal rule) (top.left - 1) (position_after rule
        board m))) → (p : Position) → IsTesting rule p (tests floor old) board → Turns rule aim floor p old last was is after before count
    unfolding pending_value position test_work to_test to_try IsLinked IsDescending AreCursors
    descend_turns None d before count o tries p r = record {
      testing = rw (opened_last d, d.2) (let t = testing_top p board r in let l = may_be_made rule board m lawful in
          grind (arith, left_is, after_well_formed rule board m t.sound l));
      same = search (rules, opened_last, popped, pending_value-undecided, delivered_value-next, left_is, here p r, rest-start);
      falls = search (rules, opened_last, popped, here p r, left_is, steps-next, steps-start);
      above = grind (arith, length-append);
      base = grind (arith, take-append-le, length-append);
      counted = search (rules, opened_last, popped, here p r, left_is, walk-next, walk_count-start);
      tried = search (rules, opened_last, popped, here p r, try-undecided, try-next, left_is, fewest-start, rest-start);
    }
    descend_turns (Some v) d before count o tries p r = record {
      testing = rw (decided_last v d, d.1) (let t = testing_top p board r in search rules);
      same =
          let n = delivered_value-next rule aim p top (tests floor new) place s m _ kn left_is (here p r) in
          rw (decided_last v d, popped) (search (rules, n, at p r, pending_value-undecided, delivered_value-some));
      falls = rw (decided_last v d, popped) (search (rules, here p r, work-is_decided, left_is));
      above = grind (arith, length-append);
      base = grind (arith, take-append-le, length-append);
      counted = rw (decided_last v d, popped) (search (rules, at p r, here p r, walk-next, left_is));
      tried = rw (decided_last v d, popped)
          (let n = try-next rule aim p top (tests floor new) place s m _ kn left_is (here p r) in search (rules, at p r, try-undecided, try-some));
    }

    -- playing it keeps the room
    pub descend_room : (is : Option Bool) → Descends is → left_at_top (tests floor old) + length old ≤ N + 1
        → left_at_top (tests floor last) + length last ≤ N + 1
    descend_room is d room = grind (arith, tests-push, length-append)

  -- what the top frame asks of the calls
  pub top_some : (p board : Position) → IsTesting rule p (tests floor old) board → 0 < top.left
  unfolding IsDescending
  top_some p board r = let t = testing_top p board r in search rules

  -- what the top frame knows is of the board's position
  pub top_cursor : (p board : Position) → IsTesting rule p (tests floor old) board → IfSome top.cursor (IsPlaceIn rule board)
  unfolding AreCursors
  top_cursor p board r = let f = testing_top p board r in rw f.board_at f.cursors.0

  -- there is room for its half-moves
  pub top_room : (N : ℕ) → left_at_top (tests floor old) + length old ≤ N + 1 → length new + top.left ≤ N
  top_room N room = let t : left_at_top (tests floor old) ≡ top.left = ap left_at_top popped in grind (arith, length-append)

  -- a frame that its answer decides hands that down
  pub decided : (p : Position) (was : Option Bool) → was ≡ Some (attacker_to_move aim.battle top.left) → HandsDown p was (attacker_to_move aim.battle top.left)
  unfolding pending_value delivered_value to_try to_try_with
  decided p was e = search rules

  -- where no move is left untried and none decided, all moves did together
  pub exhausted : (p board : Position) (was : Option Bool) → IsTesting rule p (tests floor old) board
      → (was ≡ None) ⊎ (was ≡ Some (not (attacker_to_move aim.battle top.left))) → untried_moves rule board top ≡ []
      → HandsDown p was (not (attacker_to_move aim.battle top.left))
  unfolding joined_value
  exhausted p board was r u e = search (rules, testing_top p board r, top_some p board r, pending_value-undecided, try-undecided, trees-end)

-- a call that leaves the board as it was
pub testing_same : (rule : RuleSet) (p : Position) (frames : List Frame) (board now : Position) → IsTesting rule p frames board → now ≡ board
    → IsTesting rule p frames now
testing_same rule p frames board now r e = rw e r

-- a test of the position p, of the value v, over the frames `under`
pub record IsUnderway (rule : RuleSet) (aim : Aim) (floor : ℕ) (p : Position) (N : ℕ) (v : Bool) (under frames : List Frame) (answer : Option Bool)
    (board : Position) (opened most fewest : ℕ) : Type 0 where
  pub counted : opened + to_test rule p (tests floor frames) ≤ most
  pub tried : min fewest (2 ^ 64 - 1) ≤ opened + to_try rule aim p (tests floor frames) answer
  pub testing : IsTesting rule p (tests floor frames) board
  pub same : pending_value rule aim p (tests floor frames) answer ≡ v
  pub above : floor < length frames
  pub room : left_at_top (tests floor frames) + length frames ≤ N + 1
  pub base : take floor frames ≡ under

module _ (rule : RuleSet) (aim : Aim) where
  -- a test begins with the frame of its position
  pub begins : (floor : ℕ) (p : Position) (N left : ℕ) (k : Order) (board : Position) (before count : ℕ) (by : Move) (undo : Undo) (under frames : List Frame)
      (kn : Option LegalPlace) → floor ≡ length under → frames ≡ under ++ tested_frame k by undo left kn ∷ [] → IfSome kn (IsPlaceIn rule p) → floor + left ≤ N
      → count ≤ before + 1 → HasCounted before count 1 → board ≡ p → IsWellFormed board → (0 < left)
      × (value aim.battle (chess aim.goal rule) left p ≡ joined_value aim.battle (chess aim.goal rule) left p (legal_moves rule p))
      → IsUnderway rule aim floor p N (value aim.battle (chess aim.goal rule) left p) under frames None board count
      (before + walk_count (legal_moves rule) (position_after rule) left p) (before + smallest_tree aim.battle (chess aim.goal rule) left p)
  unfolding pending_value delivered_value IsLinked IsDescending AreCursors position to_test to_try to_try_with
  begins floor p N left k board before count by undo under frames kn low put within room more one_more at sound d =
      search (rules, length-tests floor under, tests-push, length-append, walk_count-start, fewest-start, rest-start, take-append-le, take_all)

  -- each turn leaves it under way
  pub goes_on : (floor : ℕ) (p : Position) (N : ℕ) (v : Bool) (under old new : List Frame) (was is : Option Bool) (board after : Position) (before count most
      fewest : ℕ) → IsUnderway rule aim floor p N v under old was board before most fewest → Turns rule aim floor p old new was is after before count
      → left_at_top (tests floor new) + length new ≤ N + 1 → IsUnderway rule aim floor p N v under new is after count most fewest
  goes_on floor p N v under old new was is board after before count most fewest u t room = search rules
