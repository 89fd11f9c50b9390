-- How many positions a search counts (own). What is still to be tried has two bounds, and each call takes
-- from both no more and no less than it counts.
use Rattle.std.specs.Prelude.{◌≡◌, ℕ, zero, suc, ◌+◌, ◌-◌, ◌≤◌, ◌==◌, Bool, true, false, not, ◌&&◌, ◌||◌, if◌then◌else◌, List, [], ◌∷◌, length, None, Option, Some, is_none}
use Rattle.std.specs.List.{list_all, sum_by}
use Rattle.chess_core.specs.Position.{Position}
use Rattle.chess_rules.specs.Legal.{moves as legal_moves}
use Rattle.chess_rules.specs.Play.{position_after}
use Rattle.chess_rules.specs.ties.Places.{moves_after}
use Rattle.chess_attacks.specs.RuleSet.{RuleSet}
use Rattle.pop_input.specs.Posed.{Posed}
use Rattle.pop_battle.specs.Chess.{chess}
use Rattle.pop_battle.specs.Game.{Game}
use Rattle.pop_battle.specs.Walks.{walk_count}
use Rattle.pop_battle.specs.ties.Counts.{HasCounted, smallest_tree}
use Rattle.pop_battle.specs.ties.Frames.{Frame, position, to_open}
use Rattle.pop_battle.specs.ties.Values.{attacker_to_move}
use Rattle.pop_stipulation.specs.Stipulations.{battle_of, is_help}
use Rattle.pop_stipulation.specs.declared.stipulation.Battle.{Battle}
use Rattle.pop_events.specs.declared.event.Phase.{Phase}
use Rattle.pop_events.specs.declared.event.Phase.TheVariants.{Play}
use Rattle.pop_walk.specs.Events.{first_phase, is_impossible_phase, is_set, phase_half_moves, phase_start}
use Rattle.pop_walk.specs.Walks.{is_never_stopped, is_unstopped, phase_walk, sum_from}
use Rattle.pop_walk.specs.declared.phases.Progress.{Progress}
use Rattle.pop_walk.specs.declared.phases.Progress.TheVariants.{Before, NotPossible, First, Within, After}
use Rattle.pop_walk.specs.declared.phases.Walk.{Walk}
use Rattle.pop_walk.specs.declared.mode.Mode.{Mode}
use Rattle.pop_walk.specs.ties.Phases.{left_of}
use Rattle.pop_walk.specs.ties.Modes.{goes_on, mode_of}
use Rattle.pop_walk.specs.ties.Walk.{is_followed, walk_length}

-- the positions that are still to be tried: at least `least`, and at most `most` if no list of moves is
-- walked twice, as `once` says
pub record Untried : Type 0 where
  pub once : Bool
  pub most : ℕ
  pub least : ℕ

-- the count rose from `before` to `after`, up to the greatest u64, by what was tried meanwhile
pub record Counts (old new : Untried) (before after : ℕ) : Type 0 where
  pub once : old.once ≡ true → new.once ≡ true
  pub most : old.once ≡ true → after + new.most ≤ before + old.most
  pub least : HasCounted before (after + new.least) old.least
  pub grows : HasCounted before after 0

-- nothing is still to be tried
abbrev pub none_untried : Untried
none_untried = record { once = true; most = 0; least = 0 }

-- exactly n positions
abbrev pub exactly : ℕ → Untried
exactly n = record { once = true; most = n; least = n }

-- what both have
abbrev pub both : Untried → Untried → Untried
both a b = record { once = a.once && b.once; most = a.most + b.most; least = a.least + b.least }

-- the same, of which nothing has to be tried unless `full`
unfoldable pub least_if : Bool → Untried → Untried
least_if full a = record { once = a.once; most = a.most; least = if full then a.least else 0 }

module _ {P M : Type 0} where
  -- the fewest positions that have to be tried for a move to q, with t half-moves left: for a tested move
  -- the positions of a smallest tree, otherwise q itself if the walk goes on from it
  abbrev pub fewest_for : Option Battle → Bool → Game P M → Bool → ℕ → P → ℕ
  fewest_for None variation game root t q = if t == 0 then 0 else 1
  fewest_for (Some battle) variation game root t q =
      if root || attacker_to_move battle (t + 1) then smallest_tree battle game t q
      else (if walk_length (Some battle) variation game t q == 0 then 0 else 1)

  -- the fewest positions that have to be tried for these moves of p, with `left` half-moves, and for all
  -- that the walk emits below them
  unfoldable pub fewest_walked : Mode → Game P M → Bool → ℕ → ℕ → P → List M → ℕ
  fewest_walked mode game root zero left p ms = 0
  fewest_walked mode game root (suc fuel) zero p ms = 0
  fewest_walked mode game root (suc fuel) (suc t) p ms =
      sum_by (λ m. let q = game.after p m in
      fewest_for mode.battle mode.variation game root t q
      + (if is_followed mode.battle game root t q then fewest_walked mode game false fuel
      (walk_length mode.battle mode.variation game t q) q (game.moves q) else 0)) ms

-- what a move to q has counted, with `left` half-moves left there: at least the positions that have to be
-- tried for it; in help play no more; if only keys are shown, at most the walk count
pub record CountsMove (rule : RuleSet) (mode : Mode) (root : Bool) (left : ℕ) (q : Position)
    (before after : ℕ) : Type 0 where
  pub tries : HasCounted before after (fewest_for mode.battle mode.variation
      (chess mode.goal rule) root left q)
  pub help : mode.battle ≡ None → after ≤ before + (if left == 0 then 0 else 1)
  pub keys : (battle : Battle) → mode.battle ≡ Some battle → mode.variation ≡ false
      → attacker_to_move battle (left + 1) ≡ true
      → after ≤ before + walk_count (legal_moves rule) (position_after rule) left q

-- the fewest positions that have still to be tried for all frames
unfoldable pub fewest_left : RuleSet → Mode → ℕ → Position → List Frame → ℕ
fewest_left rule mode h p [] = 0
fewest_left rule mode h p (f ∷ below) =
    fewest_walked mode (chess mode.goal rule) (length below == 0) (h - length below) f.left
    (position rule p (f ∷ below)) (moves_after rule (position rule p (f ∷ below)) f.place)
    + fewest_left rule mode h p below

-- at each frame White is to move, or nothing is tried
unfoldable pub are_whites : Battle → List Frame → Bool
are_whites battle frames = list_all (λ f. f.left == 0 || attacker_to_move battle f.left) frames

-- no list of moves is walked twice: in help play, or if only keys are shown, so that White alone has frames
unfoldable pub is_walked_once_by : Option Battle → Bool → List Frame → Bool
is_walked_once_by None variation frames = true
is_walked_once_by (Some battle) variation frames = not variation && are_whites battle frames

-- what is still to be tried for all frames; in help play all of it has to be tried
unfoldable pub untried : RuleSet → Mode → ℕ → Position → List Frame → Untried
untried rule mode h p frames = record {
  once = is_walked_once_by mode.battle mode.variation frames;
  most = to_open rule p frames;
  least = if is_none mode.battle then to_open rule p frames
      else fewest_left rule mode h p frames;
}

-- the walk tries all positions that have to be tried: it doesn't prune, or it walks a battle
abbrev pub tries_all : Bool → Option Battle → Bool
tries_all prunes battle = not (prunes && is_none battle)

-- what some steps of a walk count; nothing has to be tried unless `full`
abbrev pub CountsWalk : Bool → RuleSet → Mode → ℕ → Position → (old new : List Frame)
    → (before after : ℕ) → Type 0
CountsWalk full rule mode h p old new before after =
    Counts (least_if full (untried rule mode h p old)) (untried rule mode h p new) before after

-- the fewest positions that have to be tried to show a phase of a battle: the first position; for each of
-- White's moves and each first move the positions of a smallest tree that decides it; for any other shown
-- move the position after it
abbrev pub phase_fewest : RuleSet → Posed → Phase → ℕ
phase_fewest rule problem phase =
    if is_impossible_phase rule problem phase then 0
    else (if phase_half_moves problem phase == 0 then 0 else 1)
    + fewest_walked (mode_of problem) (chess problem.stipulation.goal rule) true
    (phase_half_moves problem phase) (phase_half_moves problem phase)
    (phase_start problem phase) (legal_moves rule (phase_start problem phase))

-- the fewest positions that have to be tried for a problem
abbrev pub fewest_tried : RuleSet → Posed → ℕ
fewest_tried rule problem = sum_from (phase_fewest rule problem) (first_phase problem)

-- what is still to be tried for all phases from one on
abbrev pub untried_from : RuleSet → Posed → Phase → Untried
untried_from rule problem phase = record {
  once = is_help problem.stipulation.form || (not problem.variation && not (is_set phase));
  most = sum_from (phase_walk rule problem) phase;
  least = sum_from (if is_help problem.stipulation.form then phase_walk rule problem
      else phase_fewest rule problem) phase;
}

-- what is still to be tried from the frames of a walk on
abbrev pub untried_within : RuleSet → Posed → Walk → List Frame → Untried
untried_within rule problem walk frames =
    both (untried rule (mode_of problem) (phase_half_moves problem walk.phase)
    (phase_start problem walk.phase) frames)
    (if goes_on walk then untried_from rule problem Play else none_untried)

-- what a search still has to try
unfoldable pub untried_at : RuleSet → Posed → Progress → List Frame → Untried
untried_at rule problem (Before phase) frames = untried_from rule problem phase
untried_at rule problem NotPossible frames = untried_from rule problem Play
untried_at rule problem (First walk) frames = untried_within rule problem walk frames
untried_at rule problem (Within walk count) frames = untried_within rule problem walk frames
untried_at rule problem After frames = none_untried

-- the search of the problem tries all positions that have to be tried
abbrev pub searches_all : Bool → Posed → Bool
searches_all prunes problem = tries_all prunes (battle_of problem.stipulation.form)

-- what a call counts; nothing has to be tried if an event still to come says that the limit stops a phase,
-- or in help play if the search prunes
abbrev pub CountsOn : Bool → RuleSet → Posed → (old new : Progress) → (frames last : List Frame)
    → (before after : ℕ) → Type 0
CountsOn prunes rule problem old new frames last before after =
    Counts (least_if (searches_all prunes problem && is_unstopped (left_of rule problem old frames))
    (untried_at rule problem old frames)) (untried_at rule problem new last) before after

-- the count so far
abbrev pub IsOpened : Bool → RuleSet → Posed → Progress → List Frame → ℕ → Type 0
IsOpened prunes rule problem progress frames opened =
    Counts (least_if (searches_all prunes problem && is_never_stopped rule problem)
    (untried_from rule problem (first_phase problem)))
    (untried_at rule problem progress frames) 0 opened
