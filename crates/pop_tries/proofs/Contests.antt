-- What the values of positions mean for a contest.
use Rattle.pop_tries.proofs.Words.{IsWellFormed, Game, List, Move, [], ◌∷◌, cases_lt, false≢true, inl, inr, legal_moves, Battle, Bool, Direct, Goal, Position, RuleSet, SelfMate, and_parts, arith, chess, false, is_goal_reached, is_in_set_play, is_try, keeps_win, length, list_any, nat_le, nat_tests, not, refl, refutations, rules, suc, sym, true, wins_in, zero, ℕ, ◌&&◌, ◌+◌, ◌-◌, ◌<◌, ◌∙◌, ◌≡◌, ◌≢◌, ◌≤◌, half_moves}
unfoldable use Rattle.pop_tries.proofs.Words.{is_lost, is_self_lost, self_wins, wins}
unfoldable use Rattle.pop_battle.specs.ties.Values.{value}
unfoldable use Rattle.chess_rules.specs.Legal.{is_mate, is_stalemate}
unfoldable use Rattle.chess_core.specs.WellFormed.{is_en_passant_square_right}
use Rattle.chess_rules.specs.Legal.{is_nil}
use Rattle.pop_battle.specs.Chess.{set_start}
use Rattle.pop_stipulation.specs.declared.stipulation.Goal.TheVariants.{Mate, Stalemate}
use Rattle.std.proofs.Common.{min, ◌%◌, ◌/◌}
use Rattle.pop_battle.specs.ties.Values.{attacker_to_move}
use Rattle.pop_walk.proofs.Battles.{value-self_wins, value-wins}
use Rattle.pop_walk.proofs.Solved.{halves-form}
use Rattle.pop_walk.proofs.Trees.{halves, keeps-value}
use Rattle.pop_tries.specs.declared.contest.Contest.{Contest}
use Rattle.pop_tries.proofs.theorems.Refutations.{counted_by_replies, counted_once, key_has_no_refutation, no_key_is_a_try, no_refutation_is_key}
use Rattle.pop_tries.specs.ties.Contests.{IsContest, IsThreatLength, game_in, moves_of}
use Rattle.pop_tries.specs.ties.FirstMoves.{is_refuted_by_stalemate}
use Rattle.chess_attacks.specs.Attacks.{in_check}
use Rattle.std.proofs.lemmas.List.{nil_from_length}
use Rattle.pop_tries.proofs.Words.{can_move, cond, eqb, refutation_count}
use Rattle.pop_tries.proofs.Words.{chess_passing, filter, has_threat, is_defence, position_after, works}
use Rattle.chess_core.specs.Position.{other}
use Rattle.chess_core.specs.declared.man.Colour.{Colour}
use Rattle.chess_core.specs.declared.man.Colour.TheVariants.{Black, White}
use Rattle.std.specs.Prelude.{Option, Some}
use Rattle.std.specs.List.{range_with_len}
use Rattle.pop_tries.proofs.Words.{ap, from_map, may_be_made}
use Rattle.chess_rules.specs.Legal.{is_legal}
use Rattle.chess_rules.specs.ties.Places.{all_triples, place_of, triple_at}
use Rattle.chess_rules.proofs.Members.{from_range}
use Rattle.chess_rules.proofs.Places.{place_of_triple, triples_numbered}
use Rattle.chess_rules.proofs.TripleNumbers.{in_triples, made_is_triple}

module _ (rule : RuleSet) (contest : Contest) (fit : IsContest contest) where
  -- its number of half-moves
  pub long : half_moves contest.stipulation ≡ halves contest.battle contest.stipulation.n
  long = halves-form contest.stipulation.form contest.stipulation.n contest.battle fit.fought

  -- there is a half-move
  pub some_half_move : 1 ≤ half_moves contest.stipulation
  some_half_move = rw long (by contest.battle contest.stipulation.n fit.some)
    where
      by : (battle : Battle) (n : ℕ) → 1 ≤ n → 1 ≤ halves battle n
      by Direct n some = omega (arith, some)
      by SelfMate n some = omega (arith, some)

  -- the value after a first move
  pub key_by_value : (q : Position) → value contest.battle (game_in rule contest) (half_moves contest.stipulation - 1) q
      ≡ keeps_win contest.battle (game_in rule contest) contest.stipulation.n q
  key_by_value q = keeps-value (game_in rule contest) contest.battle contest.stipulation.n (half_moves contest.stipulation - 1) q
      (omega (arith, some_half_move) ∙ long)

  -- the value after a reply
  pub reply_by_value : (r : Position) → 2 ≤ half_moves contest.stipulation
      → value contest.battle (game_in rule contest) (half_moves contest.stipulation - 2) r
      ≡ is_in_set_play contest.battle (game_in rule contest) contest.stipulation.n r
  reply_by_value r deep = rw long (by contest.battle contest.stipulation.n fit.some (rw long at deep))
    where
      by : (battle : Battle) (n : ℕ) → 1 ≤ n → 2 ≤ halves battle n
          → value battle (game_in rule contest) (halves battle n - 2) r ≡ is_in_set_play battle (game_in rule contest) n r
      by battle n some deep = grind (arith, value-wins (game_in rule contest) (n - 2) r, value-self_wins (game_in rule contest) (n - 1) r)

  -- in a contest of less than two half-moves White has made the only move
  pub reply_in_short : (r : Position) → half_moves contest.stipulation < 2
      → is_in_set_play contest.battle (game_in rule contest) contest.stipulation.n r ≡ false
  unfolding wins
  reply_in_short r few = by contest.battle contest.stipulation.n fit.some (rw long at few)
    where
      by : (battle : Battle) (n : ℕ) → 1 ≤ n → halves battle n < 2 → is_in_set_play battle (game_in rule contest) n r ≡ false
      by Direct n some few = let one : n - 1 ≡ 0 = omega (arith, few) in rw one refl
      by SelfMate n some few = absurd (omega (arith, some, few))

  -- the value where Black has passed
  pub passed_by_value : (r : Position) → 2 ≤ half_moves contest.stipulation → (game_in rule contest).goal r ≡ false
      → value contest.battle (game_in rule contest) (half_moves contest.stipulation - 2) r
      ≡ wins_in contest.battle (game_in rule contest) (contest.stipulation.n - 1) r
  passed_by_value r deep unmet = rw long (by contest.battle contest.stipulation.n fit.some (rw long at deep))
    where
      by : (battle : Battle) (n : ℕ) → 1 ≤ n → 2 ≤ halves battle n
          → value battle (game_in rule contest) (halves battle n - 2) r ≡ wins_in battle (game_in rule contest) (n - 1) r
      by battle n some deep = grind (arith, unmet, value-wins (game_in rule contest) (n - 2) r, value-self_wins (game_in rule contest) (n - 1) r)

  pub no_win_in_short : (r : Position) → half_moves contest.stipulation < 2
      → wins_in contest.battle (game_in rule contest) (contest.stipulation.n - 1) r ≡ false
  unfolding wins
  no_win_in_short r few = by contest.battle contest.stipulation.n fit.some (rw long at few)
    where
      by : (battle : Battle) (n : ℕ) → 1 ≤ n → halves battle n < 2 → wins_in battle (game_in rule contest) (n - 1) r ≡ false
      by Direct n some few = let one : n - 1 ≡ 0 = omega (arith, few) in rw one refl
      by SelfMate n some few = absurd (omega (arith, some, few))

-- at the goal there is no legal move
no_moves_at_goal : (goal : Goal) (rule : RuleSet) (r : Position) → is_goal_reached goal rule r ≡ true → is_nil (legal_moves rule r) ≡ true
unfolding is_mate is_stalemate
no_moves_at_goal Mate rule r h = (and_parts _ _ h).1
no_moves_at_goal Stalemate rule r h = (and_parts _ _ h).1

none_any : (ms : List Move) → is_nil ms ≡ true → (test : Move → Bool) → list_any test ms ≡ false
none_any [] e test = refl
none_any (m ∷ ms) e test = absurd (false≢true e)

no_win_without_move : (battle : Battle) (game : Game Position Move) (k : ℕ) (r : Position) → is_nil (game.moves r) ≡ true → wins_in battle game k r ≡ false
unfolding wins self_wins
no_win_without_move Direct game zero r none = refl
no_win_without_move Direct game (suc k) r none = none_any (game.moves r) none _
no_win_without_move SelfMate game zero r none = refl
no_win_without_move SelfMate game (suc k) r none = none_any (game.moves r) none _

-- where the goal is reached the side to move wins nothing
pub no_win_at_goal : (battle : Battle) (goal : Goal) (rule : RuleSet) (k : ℕ) (r : Position) → is_goal_reached goal rule r ≡ true
    → wins_in battle (chess goal rule) k r ≡ false
no_win_at_goal battle goal rule k r h = no_win_without_move battle (chess goal rule) k r (no_moves_at_goal goal rule r h)

-- where a side has passed the position is well formed
pub passed_well_formed : (q : Position) → IsWellFormed q → IsWellFormed (set_start q)
unfolding is_en_passant_square_right
passed_well_formed q well = search rules

none_meet : (ms : List Move) → is_nil ms ≡ true → (test : Move → Bool) → filter test ms ≡ []
none_meet [] e test = refl
none_meet (m ∷ ms) e test = absurd (false≢true e)

-- a list of moves without any, and one with some
nil_without_reply : (ms : List Move) → not (eqb (length ms) 0) ≡ false → is_nil ms ≡ true
nil_without_reply [] e = refl
nil_without_reply (m ∷ ms) e = grind (arith, nat_tests)

not_nil_with_reply : (ms : List Move) → not (eqb (length ms) 0) ≡ true → is_nil ms ≡ false
not_nil_with_reply [] e = absurd (false≢true e)
not_nil_with_reply (m ∷ ms) e = refl

-- whether there is a legal move, as the board's test and as the game says it
pub has_reply : (ms : List Move) → not (is_nil ms) ≡ not (eqb (length ms) 0)
has_reply [] = refl
has_reply (m ∷ ms) = grind (arith, nat_tests)

and_false : (b : Bool) → (b && false) ≡ false
and_false true = refl
and_false false = refl

-- a number that isn't zero, as the test says it
pub not_zero : (n : ℕ) → n ≢ 0 → eqb n 0 ≡ false
not_zero n some = elim (cases_lt n 1) [
  | inl few ↦ absurd (some (omega (arith, few)))
  | inr more ↦ grind (arith, nat_tests)
]

-- tests of a number of refutations
few_by_count : (all most count : ℕ) → count ≡ min all (most + 1) → 1 ≤ all → (not false && (nat_le 1 all && nat_le all most)) ≡ nat_le count most
few_by_count all most count e some = grind (arith, nat_tests)

never : (key : Bool) (count : ℕ) → (not key && (nat_le 1 count && nat_le count 0)) ≡ false
never key count = grind (arith, nat_tests)

untried : (key : Bool) (count most : ℕ) → count ≡ 0 → (not key && (nat_le 1 count && nat_le count most)) ≡ false
untried key count most e = grind (arith, nat_tests)

-- without a reply: a try, or not, by whether Black is in check
tried_by_check : (checked : Bool) (count most : ℕ) → count ≡ 0 → 1 ≤ most
    → (not (checked && true) && (nat_le 1 (cond (true && (not false && not checked)) 1 count) && nat_le (cond (true && (not false && not checked)) 1 count) most))
    ≡ (not checked && true)
tried_by_check true count most e some = refl
tried_by_check false count most e some = grind (arith, nat_tests)

untried_by_check : (checked : Bool) (count most : ℕ) → count ≡ 0
    → (not (not checked && true) && (nat_le 1 (cond (true && (not false && not checked)) 1 count) && nat_le (cond (true && (not false && not checked)) 1 count) most))
    ≡ false
untried_by_check true count most e = rw e refl
untried_by_check false count most e = refl

-- a first move of chess leads to q
module _ (battle : Battle) (goal : Goal) (rule : RuleSet) (n : ℕ) (q : Position) where
  pub key_unrefuted : keeps_win battle (chess goal rule) n q ≡ true → refutations battle (chess goal rule) n q ≡ []
  key_unrefuted key = by (is_goal_reached goal rule q) refl
    where
      by : (b : Bool) → is_goal_reached goal rule q ≡ b → refutations battle (chess goal rule) n q ≡ []
      by false unmet = key_has_no_refutation battle (chess goal rule) n q unmet key
      by true met = none_meet (legal_moves rule q) (no_moves_at_goal goal rule q met) _

  -- a refuted move is no key
  pub refuted_is_no_key : 1 ≤ length (refutations battle (chess goal rule) n q) → keeps_win battle (chess goal rule) n q ≡ false
  refuted_is_no_key some = by (keeps_win battle (chess goal rule) n q) refl
    where
      by : (b : Bool) → keeps_win battle (chess goal rule) n q ≡ b → keeps_win battle (chess goal rule) n q ≡ false
      by false e = e
      by true e = absurd (omega (arith, some, ap length (key_unrefuted e)))

  abbrev refuting : ℕ
  refuting = length (refutations battle (chess goal rule) n q)

  -- where a reply refutes there is a reply
  reply_where_refuted : 1 ≤ refuting → can_move (chess goal rule) q ≡ true
  reply_where_refuted some =
      let all : 1 ≤ length (legal_moves rule q) = omega (arith, counted_once battle (chess goal rule) n q, some) in grind (arith, nat_tests)

  -- a try, by its refutations counted up to one more than are allowed
  pub try_by_count : (most count : ℕ) → count ≡ min refuting (most + 1) → eqb count 0 ≡ false
      → is_try battle (chess goal rule) n (chess_passing rule) most q ≡ nat_le count most
  try_by_count most count e nonzero =
      let counted : 1 ≤ count = grind (arith, nat_tests) in
      let some : 1 ≤ refuting = omega (arith, e, counted) in
      rw (
        refuted_is_no_key some,
        counted_by_replies battle (chess goal rule) n q (chess_passing rule) (reply_where_refuted some),
      ) (few_by_count refuting most count e some)

  -- where no refutation may be there is no try
  pub try_by_none : (most : ℕ) → most ≡ 0 → is_try battle (chess goal rule) n (chess_passing rule) most q ≡ false
  try_by_none most e = rw e (never (keeps_win battle (chess goal rule) n q) (refutation_count battle (chess goal rule) n (chess_passing rule) q))

-- a first move after which no reply refutes, and one refutation at least is allowed
module _ (rule : RuleSet) (n most : ℕ) (q : Position) (allowed : 1 ≤ most) where
  -- Black has a reply: it is a key
  key_where_replied : (battle : Battle) (goal : Goal) → length (refutations battle (chess goal rule) n q) ≡ 0 → can_move (chess goal rule) q ≡ true
      → is_try battle (chess goal rule) n (chess_passing rule) most q ≡ false
  key_where_replied battle goal none some = no_key_is_a_try battle (chess goal rule) n q (chess_passing rule) most
      (no_refutation_is_key battle (chess goal rule) n q some (nil_from_length _ none))

  -- Black has no reply: White wins if the goal is reached
  won_without_reply : (game : Game Position Move) (j : ℕ) → can_move game q ≡ false → is_lost game j q ≡ game.goal q
  unfolding is_lost
  won_without_reply game zero none = refl
  won_without_reply game (suc j) none = grind arith

  try_without_reply : (battle : Battle) (goal : Goal) → length (refutations battle (chess goal rule) n q) ≡ 0 → can_move (chess goal rule) q ≡ false
      → is_try battle (chess goal rule) n (chess_passing rule) most q ≡ is_refuted_by_stalemate battle goal rule q
  unfolding is_mate is_stalemate
  try_without_reply Direct Mate zero_of none =
      rw (won_without_reply (chess Mate rule) (n - 1) none, none, nil_without_reply (legal_moves rule q) none)
      (tried_by_check (in_check rule q.men q.turn) (length (refutations Direct (chess Mate rule) n q)) most zero_of allowed)
  try_without_reply Direct Stalemate zero_of none =
      rw (won_without_reply (chess Stalemate rule) (n - 1) none, none, nil_without_reply (legal_moves rule q) none)
      (untried_by_check (in_check rule q.men q.turn) (length (refutations Direct (chess Stalemate rule) n q)) most zero_of)
  try_without_reply SelfMate goal zero_of none =
      untried (keeps_win SelfMate (chess goal rule) n q) (length (refutations SelfMate (chess goal rule) n q)) most zero_of

  pub try_by_stalemate : (battle : Battle) (goal : Goal) → length (refutations battle (chess goal rule) n q) ≡ 0
      → is_try battle (chess goal rule) n (chess_passing rule) most q ≡ is_refuted_by_stalemate battle goal rule q
  unfolding is_stalemate
  try_by_stalemate battle goal none = by (can_move (chess goal rule) q) refl
    where
      no_stalemate : (battle : Battle) (goal : Goal) → can_move (chess goal rule) q ≡ true → is_refuted_by_stalemate battle goal rule q ≡ false
      no_stalemate Direct Mate some = rw (not_nil_with_reply (legal_moves rule q) some) (and_false (not (in_check rule q.men q.turn)))
      no_stalemate Direct Stalemate some = refl
      no_stalemate SelfMate goal some = refl

      by : (b : Bool) → can_move (chess goal rule) q ≡ b
          → is_try battle (chess goal rule) n (chess_passing rule) most q ≡ is_refuted_by_stalemate battle goal rule q
      by true some = key_where_replied battle goal none some ∙ sym (no_stalemate battle goal some)
      by false e = try_without_reply battle goal none e

-- In a direct mate a first move that stalemates is a try.
pub stalemate_refutes : (rule : RuleSet) (n most : ℕ) (q : Position) → is_stalemate rule q ≡ true → 1 ≤ most
    → is_try Direct (chess Mate rule) n (chess_passing rule) most q ≡ true
stalemate_refutes rule n most q h allowed =
    try_by_stalemate rule n most q allowed Direct Mate
    (ap length (none_meet (legal_moves rule q) (no_moves_at_goal Stalemate rule q h) _)) ∙ h

-- the value after a move that begins a win
pub kept_by_value : (battle : Battle) (game : Game Position Move) (length : ℕ) (q : Position) → attacker_to_move battle length ≡ true → 1 ≤ length
    → value battle game (length - 1) q ≡ keeps_win battle game ((length + 1) / 2) q
kept_by_value Direct game length q s some =
    let odd : length % 2 ≡ 1 = grind (arith, nat_tests) in keeps-value game Direct ((length + 1) / 2) (length - 1) q (omega (arith, odd, some))
kept_by_value SelfMate game length q s some =
    let even : length % 2 ≡ 0 = grind (arith, nat_tests) in keeps-value game SelfMate ((length + 1) / 2) (length - 1) q (omega (arith, even, some))

other_twice : (c : Colour) → other (other c) ≡ c
other_twice White = refl
other_twice Black = refl

-- a side that has passed takes it back
pub unpassed : (q board : Position) (crossed : Option ℕ) → board ≡ set_start q → crossed ≡ q.crossed
    → record (record board { turn = other board.turn }) { crossed = crossed } ≡ q
unpassed q board crossed same e = rw (same, e, other_twice q.turn) refl

-- a defence, by whether one of the moves that win if Black passes doesn't work after the reply
pub defence_by_loop : (rule : RuleSet) (contest : Contest) (q : Position) (length : ℕ) (d : Move) → IsThreatLength rule contest q length
    → is_defence contest.battle (game_in rule contest) contest.stipulation.n (chess_passing rule) q d
    ≡ list_any (λ t. not (works contest.battle (game_in rule contest) contest.stipulation.n (chess_passing rule) (moves_of length) (position_after rule q d) t))
    (filter (λ m. keeps_win contest.battle (game_in rule contest) (moves_of length) (position_after rule (set_start q) m))
    (legal_moves rule (set_start q)))
defence_by_loop rule contest q length d t = rw (t.threat, t.least) refl

-- where White threatens nothing each reply is a defence
pub defence_without_threat : (rule : RuleSet) (contest : Contest) (q : Position) (d : Move)
    → has_threat contest.battle (game_in rule contest) contest.stipulation.n (chess_passing rule) q ≡ false
    → is_defence contest.battle (game_in rule contest) contest.stipulation.n (chess_passing rule) q d ≡ true
defence_without_threat rule contest q d none = rw none refl

-- the place of a legal move is that of its triple
pub placed : (rule : RuleSet) (p : Position) (m : Move) (place : ℕ) → IsWellFormed p → is_legal rule p m ≡ true → place ≡ place_of (Some m)
    → (1 ≤ place) × (place ≤ all_triples) × (triple_at (place - 1) ≡ m)
placed rule p m place well legal e =
    let t = made_is_triple rule p m well.size (may_be_made rule p m legal) in
    let w = from_map triple_at (range_with_len 0 all_triples) m (rw triples_numbered at (in_triples m t.0 t.1 t.2)) in
    let few : w.0 < all_triples = omega (arith, from_range 0 all_triples w.0 w.1) in
    let at : place ≡ w.0 + 1 = e ∙ ap (λ (x : Move). place_of (Some x)) (sym w.2) ∙ place_of_triple w.0 few in
    (omega (arith, at), omega (arith, at, few), ap triple_at (omega (arith, at)) ∙ w.2)

-- for the test of a reply
pub ruleset replying = (reply_by_value, reply_in_short)

-- for the test of a position where Black has passed
pub ruleset passing = (passed_by_value, no_win_at_goal, no_win_in_short)

-- for the test of a defence
pub ruleset defending = (passed_well_formed, defence_by_loop, defence_without_threat, may_be_made)

-- without a refutation a first move is a key if Black has a reply, or if the goal is reached in direct play
pub key_with_reply : (battle : Battle) (goal : Goal) (rule : RuleSet) (n : ℕ) (q : Position) → length (refutations battle (chess goal rule) n q) ≡ 0
    → not (is_nil (legal_moves rule q)) ≡ true → true ≡ keeps_win battle (chess goal rule) n q
key_with_reply battle goal rule n q none some =
    sym (no_refutation_is_key battle (chess goal rule) n q (sym (has_reply (legal_moves rule q)) ∙ some) (nil_from_length _ none))

pub direct_without_reply : (goal : Goal) (rule : RuleSet) (n : ℕ) (q : Position) → not (is_nil (legal_moves rule q)) ≡ false
    → is_goal_reached goal rule q ≡ keeps_win Direct (chess goal rule) n q
direct_without_reply goal rule n q none =
    sym (won_without_reply rule n 1 q (omega arith) (chess goal rule) (n - 1) (sym (has_reply (legal_moves rule q)) ∙ none))

pub selfmate_without_reply : (goal : Goal) (rule : RuleSet) (n : ℕ) (q : Position) → not (is_nil (legal_moves rule q)) ≡ false
    → false ≡ keeps_win SelfMate (chess goal rule) n q
unfolding is_self_lost
selfmate_without_reply goal rule n q none = rw (sym (has_reply (legal_moves rule q)) ∙ none) refl

-- for the test of a key that no reply refutes
pub ruleset unrefuted = (key_with_reply, direct_without_reply, selfmate_without_reply)

-- for the test of a try: without a refutation counted, there is none
pub uncounted : (all most : ℕ) (count : ℕ) → count ≡ min all (most + 1) → eqb count 0 ≡ true → all ≡ 0
uncounted all most count e zero_of = grind (arith, nat_tests)

pub try_unrefuted : (battle : Battle) (goal : Goal) (rule : RuleSet) (n : ℕ) (q : Position) (most count : ℕ)
    → count ≡ min (length (refutations battle (chess goal rule) n q)) (most + 1) → eqb count 0 ≡ true → eqb most 0 ≡ false
    → is_try battle (chess goal rule) n (chess_passing rule) most q ≡ is_refuted_by_stalemate battle goal rule q
try_unrefuted battle goal rule n q most count e zero_of some =
    let allowed : 1 ≤ most = grind (arith, nat_tests) in
    try_by_stalemate rule n most q allowed battle goal (uncounted _ most count e zero_of)

-- for the test of a try
pub ruleset trying = (try_by_count, try_by_none, try_unrefuted)
