-- The least length of White's threats, in half-moves.
use Rattle.pop_tries.proofs.Words.{Battle, Bool, Game, Position, RuleSet, Some, ap, arith, cases_lt, chess_passing, eqb, false, false≢true, half_moves, has_threat, inl, inr, least_moves, nat_tests, not, refl, rules, sym, true, wins_in, ℕ, ◌+◌, ◌-◌, ◌<◌, ◌∙◌, ◌≡◌, ◌≤◌}
use Rattle.std.proofs.Common.{◌*◌, ◌/◌}
use Rattle.pop_battle.specs.Chess.{set_start}
use Rattle.pop_battle.specs.ties.Values.{attacker_to_move}
unfoldable use Rattle.pop_battle.specs.ties.Values.{value}
unfoldable use Rattle.pop_walk.specs.ties.Walk.{shown_length, walk_length}
use Rattle.pop_walk.proofs.GoingOn.{walk_length-most}
use Rattle.pop_walk.proofs.Trees.{attacker_to_move-step, halves, least_moves-halves}
use Rattle.pop_tries.specs.declared.contest.Contest.{Contest}
use Rattle.pop_tries.specs.ties.Contests.{IsContest, IsThreatLength, game_in}
use Rattle.pop_tries.proofs.Contests.{long, no_win_at_goal, no_win_in_short, passed_by_value}
use Rattle.pop_tries.proofs.theorems.Threats.{at_least_one, has_threat_is, no_threat_after_last_move}

module _ {P M : Type 0} (game : Game P M) where
  -- where White, to move, wins, the walk goes on for the least length
  pub walked_length : (battle : Battle) (variation : Bool) (n t : ℕ) (r : P) → attacker_to_move battle t ≡ true → 0 < t → t ≤ 2 * n → game.goal r ≡ false
      → value battle game t r ≡ true → walk_length (Some battle) variation game t r ≡ halves battle (least_moves battle game n r)
  unfolding walk_length shown_length
  walked_length battle true n t r s some most open_yet v =
      let z : eqb t 0 ≡ false = grind (arith, nat_tests) in
      rw (z, open_yet, s) (least_moves-halves game battle n t r s some most open_yet v)
  walked_length battle false n t r s some most open_yet v =
      let z : eqb t 0 ≡ false = grind (arith, nat_tests) in
      let black : attacker_to_move battle (t + 1) ≡ false = attacker_to_move-step game battle t ∙ ap not s in
      rw (black, z, open_yet, s) (least_moves-halves game battle n t r s some most open_yet v)

-- half-moves and moves
two_less : (battle : Battle) (n : ℕ) → 2 ≤ n → halves battle n - 2 ≡ halves battle (n - 1)
two_less battle n some = search rules

halves-some : (battle : Battle) (k : ℕ) → 1 ≤ k → 1 ≤ halves battle k
halves-some battle k some = search (rules, nat_tests)

pub halves-most : (battle : Battle) (k : ℕ) → halves battle k ≤ 2 * k
halves-most battle k = search rules

moves_of-halves : (battle : Battle) (k : ℕ) → 1 ≤ k → (halves battle k + 1) / 2 ≡ k
moves_of-halves battle k some = search (rules, nat_tests)

-- with some half-moves of whole moves left White is to move
pub halves-white : (battle : Battle) (k : ℕ) → 0 < halves battle k → attacker_to_move battle (halves battle k) ≡ true
halves-white battle k some = search (rules, nat_tests)

white_first : (battle : Battle) (k : ℕ) → 1 ≤ k → attacker_to_move battle (halves battle k) ≡ true
white_first battle k some = halves-white battle k (omega (arith, halves-some battle k some))

-- two half-moves later White is to move again
pub white_left : (battle : Battle) (n : ℕ) → 2 ≤ halves battle n → attacker_to_move battle (halves battle n - 2) ≡ true
white_left battle n deep = search (rules, nat_tests)

module _ (rule : RuleSet) (contest : Contest) (fit : IsContest contest) (q : Position)
    (h : has_threat contest.battle (game_in rule contest) contest.stipulation.n (chess_passing rule) q ≡ true) where
  won : wins_in contest.battle (game_in rule contest) (contest.stipulation.n - 1) (set_start q) ≡ true
  won = ((has_threat_is contest.battle (game_in rule contest) contest.stipulation.n (chess_passing rule) q).0 h).1

  -- more than one move
  pub more_moves : 2 ≤ contest.stipulation.n
  more_moves = elim (cases_lt 1 contest.stipulation.n) [
    | inl more ↦ omega (arith, more)
    | inr few ↦ absurd (false≢true (sym (no_threat_after_last_move contest.battle (game_in rule contest) contest.stipulation.n (chess_passing rule) q few) ∙ h))
  ]

  -- the half-moves left where Black has passed
  pub left_if_passed : half_moves contest.stipulation - 2 ≡ halves contest.battle (contest.stipulation.n - 1)
  left_if_passed = rw (long rule contest fit) (two_less contest.battle contest.stipulation.n more_moves)

  pub two_half_moves : 2 ≤ half_moves contest.stipulation
  two_half_moves = elim (cases_lt (half_moves contest.stipulation) 2) [
    | inl few ↦ absurd (false≢true (sym (no_win_in_short rule contest fit (set_start q) few) ∙ won))
    | inr deep ↦ deep
  ]

  -- where Black has passed the goal isn't reached
  pub goal_if_passed : (game_in rule contest).goal (set_start q) ≡ false
  goal_if_passed = by ((game_in rule contest).goal (set_start q)) refl
    where
      by : (b : Bool) → (game_in rule contest).goal (set_start q) ≡ b → (game_in rule contest).goal (set_start q) ≡ false
      by false e = e
      by true e = absurd (false≢true (sym (no_win_at_goal contest.battle contest.stipulation.goal rule (contest.stipulation.n - 1) (set_start q) e) ∙ won))

  pub value_if_passed : value contest.battle (game_in rule contest) (half_moves contest.stipulation - 2) (set_start q) ≡ true
  value_if_passed = passed_by_value rule contest fit (set_start q) two_half_moves goal_if_passed ∙ won

  -- the walk after Black has passed goes on for the least length of the threats
  pub threat_walked : (variation : Bool)
      → walk_length (Some contest.battle) variation (game_in rule contest) (half_moves contest.stipulation - 2) (set_start q)
      ≡ halves contest.battle (least_moves contest.battle (game_in rule contest) contest.stipulation.n (set_start q))
  threat_walked variation =
      let some : 1 ≤ contest.stipulation.n - 1 = omega (arith, more_moves) in
      let white : attacker_to_move contest.battle (half_moves contest.stipulation - 2) ≡ true =
      rw left_if_passed (white_first contest.battle (contest.stipulation.n - 1) some) in
      walked_length (game_in rule contest) contest.battle variation contest.stipulation.n (half_moves contest.stipulation - 2) (set_start q) white
      (rw left_if_passed (omega (arith, halves-some contest.battle (contest.stipulation.n - 1) some)))
      (rw left_if_passed (omega (arith, halves-most contest.battle (contest.stipulation.n - 1)))) goal_if_passed value_if_passed

  -- the length of the walk where Black has passed is the length of the threats
  pub threat_length_is : (length : ℕ)
      → length ≡ walk_length (Some contest.battle) false (game_in rule contest) (half_moves contest.stipulation - 2) (set_start q)
      → IsThreatLength rule contest q length
  threat_length_is length e =
      let least = least_moves contest.battle (game_in rule contest) contest.stipulation.n (set_start q) in
      let some = at_least_one contest.battle (game_in rule contest) contest.stipulation.n (chess_passing rule) q h in
      let in_halves : length ≡ halves contest.battle least = e ∙ threat_walked false in
      let most = walk_length-most (game_in rule contest) (Some contest.battle) false (half_moves contest.stipulation - 2) (set_start q) in
      record {
        fits = record { white = rw in_halves (white_first contest.battle least some); some = rw in_halves (halves-some contest.battle least some) };
        most = omega (arith, e, most);
        threat = h;
        least = rw in_halves (moves_of-halves contest.battle least some);
      }
