-- What the steps of a search for tries below a first move leave to come.
use Rattle.pop_tries.proofs.Words.{Below, Bool, can_move, stalemate, List, Move, Position, RuleSet, [], ap, arith, below, below_reply, but, chess_passing, check, cond, false, filter, game_of, half_moves, has_threat, length, map, position_after, refl, refutation, reply, threat, threatened, true, zugzwang, ℕ, ◌-◌, ◌++◌, ◌∙◌, ◌∷◌, ◌≡◌, ◌≤◌}
unfoldable use Rattle.pop_tries.proofs.Words.{below_first}
use Rattle.chess_attacks.specs.Attacks.{in_check}
use Rattle.chess_core.specs.Undo.{Undo}
use Rattle.chess_rules.specs.ties.Places.{moves_after}
use Rattle.pop_battle.specs.Chess.{set_start}
use Rattle.pop_battle.proofs.Boards.{after_start}
use Rattle.pop_battle.specs.ties.Frames.{Frame}
use Rattle.pop_walk.specs.Events.{last_shown}
use Rattle.pop_stipulation.specs.declared.stipulation.Goal.{Goal}
use Rattle.std.specs.Prelude.{Option, reverse}
use Rattle.pop_tries.specs.Tries.{reply_nodes}
use Rattle.pop_tries.specs.declared.progress.First.{First}
use Rattle.pop_tries.specs.declared.progress.Played.{Played}
use Rattle.pop_tries.specs.declared.progress.Task.{Task}
use Rattle.pop_tries.specs.declared.progress.TriesProgress.TheVariants.{But, Faced, FirstMove, Refutation, Reply, Stalemate, Threats, BelowReply}
use Rattle.pop_tries.specs.ties.Contests.{IsContest}
use Rattle.pop_tries.specs.ties.FirstMoves.{is_shown}
use Rattle.pop_tries.specs.ties.Searching.{after_first, below_and_after, contest_of, refutations_after, replies_after, shown_after, walk_left}
unfoldable use Rattle.pop_tries.specs.ties.Searching.{left_of}
use Rattle.pop_tries.specs.ties.Starts.{ShowsBelow}
use Rattle.pop_walk.specs.ties.Modes.{mode_of}
use Rattle.pop_tries.proofs.Starts.{replies_come, threats_come}
use Rattle.pop_tries.proofs.theorems.Threats.{has_threat_is}

-- the last move of a path that begins with a move is the last one after that move
pub last_below : (goal : Goal) (rule : RuleSet) (q : Position) (d : Move) (line : List Move) → 1 ≤ length line
    → last_shown goal rule q (d ∷ line) ≡ last_shown goal rule (position_after rule q d) line
last_below goal rule q d [] some = absurd (omega (arith, some))
last_below goal rule q d (m ∷ line) some = refl

-- what is shown below a first move: whether Black has a reply, whether he is in check, whether White threatens, the
-- paths below the threats, and those below the replies
abbrev laid_out : Bool → Bool → Bool → List (List Move) → List (List Move) → List (Below Move)
laid_out r c t paths replies = cond r (cond c check (cond t threat zugzwang) ∷ (map threatened (cond t paths []) ++ map reply replies)) []

module _ (rule : RuleSet) (task : Task) (fit : IsContest (contest_of task)) (first : First) where
  abbrev q : Position
  q = after_first rule task first.by

  -- what stands below the replies, as the definitions have it
  all_replies : reply_nodes task.battle (game_of rule task.problem) task.problem.stipulation.n (chess_passing rule) task.problem.variation
      (half_moves task.problem.stipulation - 1) q ≡ replies_after rule task q 0
  all_replies = replies_come rule task.problem task.battle fit q

  -- Black has no reply
  pub shown_without_reply : can_move (game_of rule task.problem) q ≡ false → shown_after rule task first.by ≡ []
  unfolding below_first
  shown_without_reply e = rw e refl

  -- the paths below the threats
  abbrev pub threat_paths : List (List Move)
  threat_paths = below_reply task.battle (game_of rule task.problem) task.problem.stipulation.n task.problem.variation
      (half_moves task.problem.stipulation - 1 - 1) (set_start q)

  -- White threatens nothing: Black is in check or in zugzwang
  pub shown_without_threats : can_move (game_of rule task.problem) q ≡ true
      → has_threat task.battle (game_of rule task.problem) task.problem.stipulation.n (chess_passing rule) q ≡ false
      → shown_after rule task first.by ≡ cond (in_check rule q.men q.turn) check zugzwang ∷ map reply (replies_after rule task q 0)
  unfolding below_first
  shown_without_threats e h = λ i. laid_out (e i) (in_check rule q.men q.turn) (h i) threat_paths (all_replies i)

  -- White threatens
  pub shown_with_threats : can_move (game_of rule task.problem) q ≡ true
      → has_threat task.battle (game_of rule task.problem) task.problem.stipulation.n (chess_passing rule) q ≡ true
      → shown_after rule task first.by ≡ threat ∷ (map threatened threat_paths ++ map reply (replies_after rule task q 0))
  unfolding below_first
  shown_with_threats e h =
      let c = (has_threat_is task.battle (game_of rule task.problem) task.problem.stipulation.n (chess_passing rule) q).0 h in
      λ i. laid_out (e i) (c.0 i) (h i) threat_paths (all_replies i)

  -- the walk over the threats begins with all of them
  pub all_threats : (items : List Frame) → has_threat task.battle (game_of rule task.problem) task.problem.stipulation.n (chess_passing rule) q ≡ true
      → ShowsBelow rule (mode_of task.problem) (half_moves task.problem.stipulation - 2) (set_start q) (reverse items)
      → walk_left rule task (set_start q) items ≡ threat_paths
  all_threats items h come = threats_come rule task.problem task.battle fit q (reverse items) h come ∙ ap (λ b. cond b threat_paths []) h

  -- the next reply
  pub reply_found : (place next : ℕ) (by : Move) (items frames : List Frame) (undo : Undo)
      → filter (is_shown rule (contest_of task) q) (moves_after rule q place) ≡ by ∷ filter (is_shown rule (contest_of task) q) (moves_after rule q next)
      → walk_left rule task (position_after rule q by) frames ≡ below_reply task.battle (game_of rule task.problem) task.problem.stipulation.n
      task.problem.variation (half_moves task.problem.stipulation - 2) (position_after rule q by)
      → left_of rule task (Reply first place) items
      ≡ below first.by (reply (by ∷ [])) ∷ left_of rule task (BelowReply first (record { place = next; by = by; undo = undo })) frames
  unfolding left_of
  reply_found place next by items frames undo e w = rw (e, w) refl

  -- after the last reply
  pub replies_over : (place : ℕ) (items : List Frame) → filter (is_shown rule (contest_of task) q) (moves_after rule q place) ≡ []
      → left_of rule task (Reply first place) items ≡ below_and_after rule task first []
  unfolding left_of
  replies_over place items e = rw e refl

  -- the next node below a reply
  pub reply_goes_on : (played : Played) (items frames : List Frame) (line : List Move)
      → walk_left rule task (position_after rule q played.by) items ≡ line ∷ walk_left rule task (position_after rule q played.by) frames
      → left_of rule task (BelowReply first played) items ≡ below first.by (reply (played.by ∷ line)) ∷ left_of rule task (BelowReply first played) frames
  unfolding left_of
  reply_goes_on played items frames line e = rw e refl

  -- after the last node below a reply
  pub reply_over : (played : Played) (items frames : List Frame) → walk_left rule task (position_after rule q played.by) items ≡ []
      → left_of rule task (BelowReply first played) items ≡ left_of rule task (Reply first played.place) frames
  unfolding left_of
  reply_over played items frames e = rw e refl

  -- the next node below the threats
  pub threats_go_on : (crossed : Option ℕ) (items frames : List Frame) (line : List Move)
      → walk_left rule task (set_start q) items ≡ line ∷ walk_left rule task (set_start q) frames
      → left_of rule task (Threats first crossed) items ≡ below first.by (threatened line) ∷ left_of rule task (Threats first crossed) frames
  unfolding left_of
  threats_go_on crossed items frames line e = rw e refl

  -- after the last threat
  pub threats_over : (place : ℕ) (crossed : Option ℕ) (items frames : List Frame) → place ≡ 0 → walk_left rule task (set_start q) items ≡ []
      → left_of rule task (Threats first crossed) items ≡ left_of rule task (Reply first place) frames
  unfolding left_of
  threats_over place crossed items frames z e = rw (e, z) refl

  -- the refutations begin
  pub refutations_begin : (place : ℕ) (items frames : List Frame) → place ≡ 0 → can_move (game_of rule task.problem) q ≡ true
      → left_of rule task (But first) items ≡ below first.by but ∷ left_of rule task (Refutation first place) frames
  unfolding left_of
  refutations_begin place items frames e some = rw (e, some, after_start rule q) refl

  -- without a reply it is stalemate
  pub stalemate_begins : (items frames : List Frame) → can_move (game_of rule task.problem) q ≡ false
      → left_of rule task (But first) items ≡ below first.by but ∷ left_of rule task (Stalemate first) frames
  unfolding left_of
  stalemate_begins items frames none = rw none refl

  -- after that the next first move follows
  pub stalemate_over : (items frames : List Frame)
      → left_of rule task (Stalemate first) items ≡ below first.by stalemate ∷ left_of rule task (FirstMove first.firsts) frames
  unfolding left_of
  stalemate_over items frames = refl

  -- the next refutation
  pub refutation_found : (place next : ℕ) (by : Move) (items frames : List Frame)
      → refutations_after rule task q place ≡ by ∷ refutations_after rule task q next
      → left_of rule task (Refutation first place) items ≡ below first.by (refutation by) ∷ left_of rule task (Refutation first next) frames
  unfolding left_of
  refutation_found place next by items frames e = rw e refl

  -- after the last refutation
  pub refutations_over : (place : ℕ) (items frames : List Frame) → refutations_after rule task q place ≡ []
      → left_of rule task (Refutation first place) items ≡ left_of rule task (FirstMove first.firsts) frames
  unfolding left_of
  refutations_over place items frames e = rw e refl

  -- what Black faces, where White threatens nothing
  pub faced_without : (place : ℕ) (items frames : List Frame) (f : Below Move) → place ≡ 0
      → shown_after rule task first.by ≡ f ∷ map reply (replies_after rule task q 0)
      → left_of rule task (Faced first) items ≡ below first.by f ∷ left_of rule task (Reply first place) frames
  unfolding left_of
  faced_without place items frames f z e = rw (e, z) refl

  -- where White threatens
  pub faced_with : (crossed : Option ℕ) (items frames : List Frame) → (paths : List (List Move))
      → shown_after rule task first.by ≡ threat ∷ (map threatened paths ++ map reply (replies_after rule task q 0))
      → walk_left rule task (set_start q) frames ≡ paths
      → left_of rule task (Faced first) items ≡ below first.by threat ∷ left_of rule task (Threats first crossed) frames
  unfolding left_of
  faced_with crossed items frames paths e w = rw (e, w) refl

  -- where Black has no reply
  pub faced_without_reply : (items : List Frame) → shown_after rule task first.by ≡ [] → left_of rule task (Faced first) items ≡ below_and_after rule task first []
  unfolding left_of
  faced_without_reply items e = rw e refl
