-- How a walk below a first move begins and ends.
use Rattle.pop_tries.proofs.Words.{Battle, Bool, List, Posed, Position, RuleSet, [], arith, below_reply, cases_lt, chess, chess_passing, false, false≢true, filter, flat_map, game_of, half_moves, has_threat, inl, inr, is_in_set_play, length, node, position_after, refl, reply_nodes, rules, sym, threat_nodes, true, ℕ, ◌-◌, ◌<◌, ◌∙◌, ◌∷◌, ◌≡◌, ◌≤◌}
use Rattle.pop_battle.specs.Chess.{set_start}
use Rattle.pop_battle.specs.ties.Frames.{Frame}
unfoldable use Rattle.pop_battle.specs.ties.Frames.{position}
use Rattle.pop_battle.specs.ties.Values.{value}
use Rattle.pop_battle.proofs.Boards.{after_start}
use Rattle.pop_walk.specs.declared.mode.Mode.{Mode}
use Rattle.pop_walk.specs.ties.Modes.{mode_of}
use Rattle.pop_walk.specs.ties.Walk.{IsWalking, Steps, walk_length}
unfoldable use Rattle.pop_walk.specs.ties.Walk.{to_come}
use Rattle.pop_walk.proofs.Kept.{to_come-root}
use Rattle.std.proofs.lemmas.List.{nil_from_length}
use Rattle.chess_rules.specs.ties.Places.{moves_after}
use Rattle.pop_tries.specs.ties.Contests.{IsContest}
use Rattle.pop_tries.specs.ties.FirstMoves.{is_shown}
use Rattle.pop_tries.specs.ties.Starts.{ShowsBelow, ShowsNext}
use Rattle.pop_tries.proofs.Contests.{long, reply_by_value, reply_in_short}
use Rattle.pop_tries.proofs.ThreatLengths.{halves-most, two_half_moves, value_if_passed, white_left}
use Rattle.pop_tries.proofs.Walks.{below_walked}

-- a new frame shows what stands below a reply
pub shows_below : (rule : RuleSet) (mode : Mode) (h : ℕ) (p : Position) (f : Frame) → f.place ≡ 0
    → f.left ≡ walk_length mode.battle mode.variation (chess mode.goal rule) h p → ShowsBelow rule mode h p (f ∷ [])
shows_below rule mode h p f start long battle n fought white few v =
    let all : h - 0 ≡ h = omega arith in
    to_come-root rule mode h p f ∙ (rw (start, after_start rule p, all, long) (below_walked (chess mode.goal rule) mode battle fought n h p white few v))

module _ (rule : RuleSet) (mode : Mode) (h : ℕ) (p : Position) (old mid : List Frame) (same : to_come rule mode h p old ≡ to_come rule mode h p mid) where
  -- a step that shows a node
  pub node_shown : (new : List Frame) (board : Position) (given : Bool) → Steps rule mode h p mid new board given
      → given ≡ true → 0 < length mid → ShowsNext rule mode h p old new board true
  node_shown new board given s e some = grind (arith, s.walking, s.come, s.deep, s.ended, same)

  -- with no frame left nothing is to come
  pub none_left : (board : Position) → IsWalking rule h p mid board → length mid ≡ 0 → ShowsNext rule mode h p old mid board false
  unfolding to_come position
  none_left board r none = search (rules, nil_from_length mid none, r.board_at, same)

-- the walks of a problem, in a battle, after a first move that leads to q
module _ (rule : RuleSet) (problem : Posed) (battle : Battle) (fit : IsContest (record { battle = battle; stipulation = problem.stipulation })) where
  walk_comes : (r : Position) (frames : List Frame) → 2 ≤ half_moves problem.stipulation
      → value battle (game_of rule problem) (half_moves problem.stipulation - 2) r ≡ true
      → ShowsBelow rule (mode_of problem) (half_moves problem.stipulation - 2) r frames
      → to_come rule (mode_of problem) (half_moves problem.stipulation - 2) r frames
      ≡ below_reply battle (game_of rule problem) problem.stipulation.n problem.variation (half_moves problem.stipulation - 2) r
  walk_comes r frames deep v come =
      let l = long rule _ fit in
      come battle problem.stipulation.n fit.fought (rw l (white_left battle problem.stipulation.n (rw l at deep)))
      (rw l (omega (arith, halves-most battle problem.stipulation.n))) v

  two_later : half_moves problem.stipulation - 1 - 1 ≡ half_moves problem.stipulation - 2
  two_later = omega arith

  -- The walk from where Black has passed shows the threats.
  pub threats_come : (q : Position) (frames : List Frame)
      → has_threat battle (game_of rule problem) problem.stipulation.n (chess_passing rule) q ≡ true
      → ShowsBelow rule (mode_of problem) (half_moves problem.stipulation - 2) (set_start q) frames
      → to_come rule (mode_of problem) (half_moves problem.stipulation - 2) (set_start q) frames
      ≡ threat_nodes battle (game_of rule problem) problem.stipulation.n (chess_passing rule) problem.variation (half_moves problem.stipulation - 1) q
  threats_come q frames h come =
      rw (h, two_later) (walk_comes (set_start q) frames (two_half_moves rule _ fit q h) (value_if_passed rule _ fit q h) come)

  -- The walk from the position after a reply that doesn't refute shows what stands below it.
  pub reply_comes : (r : Position) (frames : List Frame) → is_in_set_play battle (game_of rule problem) problem.stipulation.n r ≡ true
      → ShowsBelow rule (mode_of problem) (half_moves problem.stipulation - 2) r frames
      → to_come rule (mode_of problem) (half_moves problem.stipulation - 2) r frames
      ≡ below_reply battle (game_of rule problem) problem.stipulation.n problem.variation (half_moves problem.stipulation - 2) r
  reply_comes r frames met come =
      let deep : 2 ≤ half_moves problem.stipulation = elim (cases_lt (half_moves problem.stipulation) 2) [
        | inl few ↦ absurd (false≢true (sym (reply_in_short rule _ fit r few) ∙ met))
        | inr deep ↦ deep
      ] in
      walk_comes r frames deep (reply_by_value rule _ fit r deep ∙ met) come

  -- Before the first reply, what stands below all shown replies is to come.
  pub replies_come : (q : Position) → reply_nodes battle (game_of rule problem) problem.stipulation.n (chess_passing rule) problem.variation
      (half_moves problem.stipulation - 1) q
      ≡ flat_map (λ d. node d (below_reply battle (game_of rule problem) problem.stipulation.n problem.variation (half_moves problem.stipulation - 2)
      (position_after rule q d))) (filter (is_shown rule (record { battle = battle; stipulation = problem.stipulation }) q) (moves_after rule q 0))
  replies_come q = rw (two_later, after_start rule q) refl
