-- The events of a problem with its tries: set play as `pops` shows it, the keys, and the tries, each with
-- what is shown below it (own).
use Rattle.std.specs.Prelude.{ℕ, ◌-◌, ◌==◌, Bool, if◌then◌else◌, List, [], ◌∷◌, ◌++◌, map, take, length, None, Option, Some}
use Rattle.std.specs.List.{filter, flat_map}
use Rattle.chess_core.specs.Position.{Position}
use Rattle.chess_core.specs.declared.man.Move.{Move}
use Rattle.chess_attacks.specs.Attacks.{in_check}
use Rattle.chess_attacks.specs.RuleSet.{RuleSet}
use Rattle.chess_rules.specs.Legal.{is_legal, moves}
use Rattle.chess_rules.specs.Play.{position_after}
use Rattle.pop_battle.specs.Chess.{set_start}
use Rattle.pop_stipulation.specs.Stipulations.{battle_of, half_moves}
use Rattle.pop_stipulation.specs.declared.stipulation.Battle.{Battle}
use Rattle.pop_events.specs.declared.event.Phase.TheVariants.{Set}
use Rattle.pop_input.specs.Posed.{Posed}
use Rattle.pop_walk.specs.Events.{BareEvent, game_of, phase_events, play_start}
use Rattle.pop_walk.specs.Tree.{keeps_win}
use Rattle.pop_tries.specs.Tries.{Below, Passing, below_first, is_try, shown_refutations}

-- chess with passing: a side passes as set play begins, with no en passant square
abbrev pub chess_passing : RuleSet → Passing Position Move
chess_passing rule = record {
  passed = set_start;
  is_checked = λ q. in_check rule q.men q.turn;
  is_legal = is_legal rule;
}

-- an event before it is shown
pub data BareTryEvent : Type 0 where
  -- help play has no tries
  no_tries : BareTryEvent
  -- an event of set play
  set_event : BareEvent → BareTryEvent
  -- the play begins; its keys, with the moves that lead to what is shown below them; their number, and
  -- whether the limit of solutions stopped them
  keys : BareTryEvent
  key : Move → BareTryEvent
  key_total : ℕ → Bool → BareTryEvent
  -- the tries begin; a try; their number
  tries : BareTryEvent
  attempt : Move → BareTryEvent
  try_total : ℕ → BareTryEvent
  -- what is shown below a first move
  below : Move → Below Move → BareTryEvent

module _ (battle : Battle) (rule : RuleSet) (problem : Posed) where
  -- the first moves that are keys, in the order of moves
  abbrev pub key_moves : List Move
  key_moves = filter (λ m. keeps_win battle (game_of rule problem) problem.stipulation.n
      (position_after rule (play_start problem) m)) (moves rule (play_start problem))

  -- the first moves that are tries with at most `most` refutations, in the order of moves
  abbrev pub try_moves : ℕ → List Move
  try_moves most = filter (λ m. is_try battle (game_of rule problem) problem.stipulation.n
      (chess_passing rule) most (position_after rule (play_start problem) m))
      (moves rule (play_start problem))

  -- what is shown below a first move
  abbrev pub shown_below : Move → List (Below Move)
  shown_below m = below_first battle (game_of rule problem) problem.stipulation.n
      (chess_passing rule)
      problem.variation (half_moves problem.stipulation - 1)
      (position_after rule (play_start problem) m)

  -- the events of a key
  abbrev pub key_events : Move → List BareTryEvent
  key_events m = key m ∷ map (below m) (shown_below m)

  -- the events of a try
  abbrev pub attempt_events : Move → List BareTryEvent
  attempt_events m = attempt m ∷ map (below m) (shown_below m
      ++ shown_refutations battle (game_of rule problem) problem.stipulation.n
      (position_after rule (play_start problem) m))

  -- the events of the tries
  abbrev pub events_of_tries : ℕ → List BareTryEvent
  events_of_tries most = tries ∷ (flat_map attempt_events (try_moves most)
      ++ try_total (length (try_moves most)) ∷ [])

  -- the events of the play: the first keys, up to the limit of solutions, their number, and the tries
  abbrev pub play_events : ℕ → List BareTryEvent
  play_events most =
      let shown = take problem.max_solutions key_moves in
      keys ∷ (flat_map key_events shown
      ++ key_total (length shown) (length shown == problem.max_solutions) ∷ events_of_tries most)

  -- the events of a battle
  abbrev pub battle_events : ℕ → List BareTryEvent
  battle_events most =
      (if problem.set_play then map set_event (phase_events rule problem Set) else [])
      ++ play_events most

-- the events of a problem
abbrev pub events_by : Option Battle → RuleSet → Posed → ℕ → List BareTryEvent
events_by None rule problem most = no_tries ∷ []
events_by (Some battle) rule problem most = battle_events battle rule problem most

-- the events of a problem, with tries of at most `most` refutations
unfoldable pub try_events : RuleSet → Posed → ℕ → List BareTryEvent
try_events rule problem most = events_by (battle_of problem.stipulation.form) rule problem most
