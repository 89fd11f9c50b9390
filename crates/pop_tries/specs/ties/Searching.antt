-- How far a search for tries has come: what it has still to return, and what holds of its board and frames
-- (own).
use Rattle.std.specs.Prelude.{◌≡◌, ◌≤◌, ◌<◌, ℕ, ◌+◌, ◌-◌, ◌==◌, Bool, true, false, if◌then◌else◌, List, [], ◌∷◌, ◌++◌, map, take, filter, length, reverse, Option, None, Some, MatchOption}
use Rattle.std.specs.List.{flat_map}
use Rattle.chess_core.specs.WellFormed.{IsWellFormed}
use Rattle.chess_core.specs.Position.{Position}
use Rattle.chess_core.specs.declared.man.Move.{Move}
use Rattle.chess_attacks.specs.RuleSet.{RuleSet}
use Rattle.chess_rules.specs.Play.{position_after}
use Rattle.chess_rules.specs.ties.Places.{all_triples, moves_after}
use Rattle.pop_battle.specs.Chess.{set_start}
use Rattle.pop_stipulation.specs.Stipulations.{battle_of, half_moves}
use Rattle.pop_stipulation.specs.declared.stipulation.Battle.{Battle}
use Rattle.pop_battle.specs.ties.Frames.{CameBy, Frame}
use Rattle.pop_events.specs.Shown.{Shown}
use Rattle.pop_events.specs.declared.event.Phase.TheVariants.{Set}
use Rattle.pop_input.specs.Posed.{IsSound, Posed}
use Rattle.pop_walk.specs.Events.{game_of, impossible, phase_events, play_start}
use Rattle.pop_walk.specs.Tree.{node}
use Rattle.pop_walk.specs.ties.Phases.{HoldsAtProgress, left_of as set_play_left}
use Rattle.pop_walk.specs.ties.Modes.{mode_of}
use Rattle.pop_walk.specs.ties.Walk.{IsWalking, to_come}
use Rattle.pop_tries.specs.Tries.{Below, below_reply, refutation, reply, shown_refutations, stalemate, threatened}
use Rattle.pop_tries.specs.Events.{BareTryEvent, attempt, below, events_of_tries, key, key_total, keys, no_tries, play_events, set_event, shown_below, tries, try_total}
use Rattle.pop_tries.specs.Shown.{try_event_of}
use Rattle.pop_tries.specs.ties.Contests.{AreThreats, IsContest}
use Rattle.pop_tries.specs.ties.Candidates.{candidates_of}
use Rattle.pop_tries.specs.ties.FirstMoves.{firsts_after as firsts_of, is_shown, refutes, AreCandidates, AreRefuting, AreTries, IsAsked}
use Rattle.pop_tries.specs.declared.kept_tries.Candidates.{Candidates}
use Rattle.pop_tries.specs.ties.Starts.{Base, base_position, shown_line}
use Rattle.pop_tries.specs.declared.contest.Contest.{Contest}
use Rattle.pop_tries.specs.declared.desk.Desk.{Desk}
use Rattle.pop_tries.specs.declared.first_moves.Group.{Group}
use Rattle.pop_tries.specs.declared.first_moves.Group.TheVariants.{Keys, Tries}
use Rattle.pop_events.specs.declared.try_event.TryEvent.{TryEvent}
use Rattle.pop_events.specs.declared.try_event.TryEvent.TheVariants.{Check, Key, Try, Zugzwang}
use Rattle.pop_tries.specs.declared.progress.Course.{Course}
use Rattle.pop_tries.specs.declared.progress.Course.TheVariants.{NoTries, InBattle, Ended}
use Rattle.pop_tries.specs.declared.progress.First.{First}
use Rattle.pop_tries.specs.declared.progress.Firsts.{Firsts}
use Rattle.pop_tries.specs.declared.progress.Task.{Task}
use Rattle.pop_tries.specs.declared.progress.TheConstants.{MOST_REFUTATIONS}
use Rattle.pop_tries.specs.declared.progress.TriesProgress.{TriesProgress}
use Rattle.pop_tries.specs.declared.progress.TriesProgress.TheVariants.{SetPlay, NotPossible, InSetPlay, Beginning, FirstMove, Faced, Threats, Reply, BelowReply, But, Refutation, Stalemate, Over}

-- what contracts see of a search for tries: the problem, the most refutations of a try, and the events
-- still to come
pub record TriesState : Type 0 where
  pub problem : Posed
  pub most : ℕ
  pub left : List BareTryEvent

-- the battle of a task
abbrev pub contest_of : Task → Contest
contest_of task = record {
  battle = task.battle;
  stipulation = task.problem.stipulation;
}

-- the first moves of a group, as they are returned
abbrev pub first_event : Group → Move → BareTryEvent
first_event Keys m = key m
first_event (Tries most) m = attempt m

-- the beginning of a group
abbrev pub beginning_of : Group → BareTryEvent
beginning_of Keys = keys
beginning_of (Tries most) = tries

-- of this many moves, the most that a group shows after `count` have been shown
abbrev pub within_limit : Posed → Group → ℕ → List Move → List Move
within_limit problem Keys count ms = take (problem.max_solutions - count) ms
within_limit problem (Tries most) count ms = ms

-- a group has shown no more than the limit of solutions
abbrev pub IsInLimit : Posed → Group → ℕ → Type 0
IsInLimit problem Keys count = count ≤ problem.max_solutions
IsInLimit problem (Tries most) count = Unit {0}

-- the whole course of a problem
abbrev pub course_by : Option Battle → Bool → Course
course_by None set_play = NoTries
course_by (Some battle) set_play =
    InBattle battle (if set_play then SetPlay else Beginning Keys (candidates_of None))

abbrev pub first_course : Posed → Course
first_course problem = course_by (battle_of problem.stipulation.form) problem.set_play

-- nothing is left to return
abbrev pub is_over : TriesProgress → Bool
is_over SetPlay = false
is_over NotPossible = false
is_over (InSetPlay progress) = false
is_over (Beginning group candidates) = false
is_over (FirstMove firsts) = false
is_over (Faced first) = false
is_over (Threats first crossed) = false
is_over (Reply first place) = false
is_over (BelowReply first played) = false
is_over (But first) = false
is_over (Refutation first place) = false
is_over (Stalemate first) = false
is_over Over = true

-- the limit of solutions stops a group that has shown `count` first moves
abbrev pub is_stopped : Posed → Group → ℕ → Bool
is_stopped problem Keys count = count == problem.max_solutions
is_stopped problem (Tries most) count = false

-- the event of a first move of a group
abbrev pub event_of_first : Group → Shown → TryEvent
event_of_first Keys shown = Key shown
event_of_first (Tries most) shown = Try shown

-- the event of what Black faces where White threatens nothing
abbrev pub event_of_faced : Bool → TryEvent
event_of_faced true = Check
event_of_faced false = Zugzwang

-- the board has this position, and no frame is in use
pub record IsBare (p : Position) (items : List Frame) (board : Position) : Type 0 where
  pub board_at : board ≡ p
  pub none : items ≡ []

module _ (rule : RuleSet) (task : Task) where
  -- the position after a first move
  abbrev pub after_first : Move → Position
  after_first m = position_after rule (play_start task.problem) m

  -- the first moves of a group after a place
  abbrev pub firsts_after : Group → ℕ → List Move
  firsts_after group place =
      firsts_of rule (contest_of task) group (play_start task.problem) place

  -- the first moves still to be shown after the place, when `count` have been shown
  abbrev pub firsts_left : Firsts → List Move
  firsts_left firsts = within_limit task.problem firsts.group firsts.count
      (firsts_after firsts.group firsts.place)

  -- what is shown below a first move after its replies
  abbrev pub closing : Group → Position → List (Below Move)
  closing Keys q = []
  closing (Tries most) q =
      shown_refutations task.battle (game_of rule task.problem) task.problem.stipulation.n q

  -- what is shown below a first move
  abbrev pub shown_after : Move → List (Below Move)
  shown_after m = shown_below task.battle rule task.problem m

  -- the events of a first move
  abbrev pub events_of_first : Group → Move → List BareTryEvent
  events_of_first group m =
      first_event group m ∷ map (below m) (shown_after m ++ closing group (after_first m))

  -- the end of a group that has shown `count` first moves, and what follows it
  abbrev pub ending_of : Group → ℕ → List BareTryEvent
  ending_of Keys count = key_total count (count == task.problem.max_solutions)
      ∷ events_of_tries task.battle rule task.problem task.most
  ending_of (Tries most) count = try_total count ∷ []

  -- the events from a place among the first moves of a group on
  abbrev pub group_left : Firsts → List BareTryEvent
  group_left firsts = flat_map (events_of_first firsts.group) (firsts_left firsts)
      ++ ending_of firsts.group (firsts.count + length (firsts_left firsts))

  -- the events of a group, and what follows it
  abbrev pub whole_group : Group → List BareTryEvent
  whole_group Keys = play_events task.battle rule task.problem task.most
  whole_group (Tries most) = events_of_tries task.battle rule task.problem most

  -- some things shown below a first move, and what follows them
  abbrev pub below_and_after : First → List (Below Move) → List BareTryEvent
  below_and_after first shown =
      map (below first.by) (shown ++ closing first.firsts.group (after_first first.by))
      ++ group_left first.firsts

  -- the paths below the replies after a place
  abbrev pub replies_after : Position → ℕ → List (List Move)
  replies_after q place = flat_map
      (λ d. node d (below_reply task.battle (game_of rule task.problem)
      task.problem.stipulation.n task.problem.variation
      (half_moves task.problem.stipulation - 2) (position_after rule q d)))
      (filter (is_shown rule (contest_of task) q) (moves_after rule q place))

  -- the paths still to come of a walk below a first move
  abbrev pub walk_left : Position → List Frame → List (List Move)
  walk_left p items = to_come rule (mode_of task.problem)
      (half_moves task.problem.stipulation - 2) p (reverse items)

  -- the board has the position of the top frame of a walk from p below a first move
  abbrev pub IsOnWalk : Position → List Frame → Position → Type 0
  IsOnWalk p items board =
      IsWalking rule (half_moves task.problem.stipulation - 2) p (reverse items) board

  -- a walk below a first move shows its next node; after the last one the board has the position where the
  -- walk started, and no frame is left
  abbrev pub ShowsNode : Move → Base → (old new : List Frame) → Position → Option TryEvent → Type 0
  ShowsNode first base old new board event =
      let p = base_position rule task.problem first base in
      IsOnWalk p new board × MatchOption event ((walk_left p old ≡ []) × (board ≡ p) × (new ≡ []))
      (λ shown. (line : List Move) × (walk_left p old ≡ line ∷ walk_left p new)
      × (shown ≡ try_event_of rule task.problem (below first (shown_line base line))))

  -- the refutations after a place
  abbrev pub refutations_after : Position → ℕ → List Move
  refutations_after q place = filter (refutes rule (contest_of task) q) (moves_after rule q place)

  -- the events still to come
  unfoldable pub left_of : TriesProgress → List Frame → List BareTryEvent
  left_of SetPlay items =
      map set_event (phase_events rule task.problem Set) ++ whole_group Keys
  left_of NotPossible items = set_event impossible ∷ whole_group Keys
  left_of (InSetPlay progress) items =
      map set_event (set_play_left rule task.problem progress (reverse items)) ++ whole_group Keys
  left_of (Beginning group candidates) items = whole_group group
  left_of (FirstMove firsts) items = group_left firsts
  left_of (Faced first) items = below_and_after first (shown_after first.by)
  left_of (Threats first crossed) items = below_and_after first
      (map threatened (walk_left (set_start (after_first first.by)) items)
      ++ map reply (replies_after (after_first first.by) 0))
  left_of (Reply first place) items = below_and_after first
      (map reply (replies_after (after_first first.by) place))
  left_of (BelowReply first played) items = below_and_after first
      (map reply (map (λ path. played.by ∷ path)
      (walk_left (position_after rule (after_first first.by) played.by) items)
      ++ replies_after (after_first first.by) played.place))
  left_of (But first) items = map (below first.by) (shown_refutations task.battle
      (game_of rule task.problem) task.problem.stipulation.n (after_first first.by))
      ++ group_left first.firsts
  left_of (Refutation first place) items = map (below first.by)
      (map refutation (refutations_after (after_first first.by) place))
      ++ group_left first.firsts
  left_of (Stalemate first) items = below first.by stalemate ∷ group_left first.firsts
  left_of Over items = []

  -- what is known of the first moves that may be tries
  abbrev pub HoldCandidates : Group → Candidates → ℕ → Type 0
  HoldCandidates group candidates place = AreCandidates rule (contest_of task) group task.most
      (play_start task.problem) candidates place

  -- all first moves that are tries are among the candidates
  abbrev pub HoldTries : Candidates → Type 0
  HoldTries candidates =
      AreTries rule (contest_of task) task.most (play_start task.problem) candidates

  -- a place among the first moves of a group: counts fit
  pub record IsPlaced (firsts : Firsts) : Type 0 where
    pub asked : IsAsked firsts.group task.most
    pub noted : HoldCandidates firsts.group firsts.candidates firsts.place
    pub counted : firsts.count + length (firsts_after firsts.group firsts.place) ≤ all_triples
    pub limited : IsInLimit task.problem firsts.group firsts.count

  -- a first move that has been shown
  pub record IsFirst (first : First) : Type 0 where
    pub came : CameBy rule first.by first.undo (after_first first.by) (play_start task.problem)
    pub sound : IsWellFormed (after_first first.by)
    pub refuted : AreRefuting rule (contest_of task) (after_first first.by) first.refuting
    pub placed : IsPlaced first.firsts

  -- the board has the position after a first move, whose threats have been looked for
  pub record IsAnswered (first : First) (items : List Frame) (board : Position) : Type 0 where
    pub first_is : IsFirst first
    pub threat : AreThreats rule (contest_of task) (after_first first.by) first.threat
    pub bare : IsBare (after_first first.by) items board

  -- a walk from p below a first move
  pub record IsWalkedBelow (first : First) (p : Position) (items : List Frame)
      (board : Position) : Type 0 where
    pub first_is : IsFirst first
    pub threat : AreThreats rule (contest_of task) (after_first first.by) first.threat
    pub walking : IsOnWalk p items board

  -- what holds of board and frames
  unfoldable pub HoldsAt : TriesProgress → List Frame → Position → Type 0
  HoldsAt SetPlay items board =
      IsContest (contest_of task) × IsBare (play_start task.problem) items board
  HoldsAt NotPossible items board =
      IsContest (contest_of task) × IsBare (play_start task.problem) items board
  HoldsAt (InSetPlay progress) items board = IsContest (contest_of task)
      × HoldsAtProgress rule task.problem progress (reverse items) board
  HoldsAt (Beginning group candidates) items board = IsContest (contest_of task)
      × IsBare (play_start task.problem) items board × IsAsked group task.most
      × HoldCandidates group candidates 0
  HoldsAt (FirstMove firsts) items board = IsContest (contest_of task)
      × IsBare (play_start task.problem) items board × IsPlaced firsts
  HoldsAt (Faced first) items board = IsContest (contest_of task)
      × IsBare (after_first first.by) items board × IsFirst first
  HoldsAt (Threats first crossed) items board = IsContest (contest_of task)
      × IsWalkedBelow first (set_start (after_first first.by)) items board
      × (crossed ≡ (after_first first.by).crossed)
  HoldsAt (Reply first place) items board = IsContest (contest_of task)
      × IsAnswered first items board
  HoldsAt (BelowReply first played) items board = IsContest (contest_of task)
      × IsWalkedBelow first (position_after rule (after_first first.by) played.by) items board
      × CameBy rule played.by played.undo (position_after rule (after_first first.by) played.by)
      (after_first first.by)
  HoldsAt (But first) items board = IsContest (contest_of task)
      × IsBare (after_first first.by) items board × IsFirst first
  HoldsAt (Refutation first place) items board = IsContest (contest_of task)
      × IsBare (after_first first.by) items board × IsFirst first
  HoldsAt (Stalemate first) items board = IsContest (contest_of task)
      × IsBare (after_first first.by) items board × IsFirst first
  HoldsAt Over items board = Unit {0}

  -- an event is the next one still to come, as it is shown; without an event nothing has changed
  abbrev pub Emits : List BareTryEvent → List BareTryEvent → Option TryEvent → Type 0
  Emits old new event = MatchOption event (old ≡ new)
      (λ shown. (bare : BareTryEvent) × (old ≡ bare ∷ new)
      × (shown ≡ try_event_of rule task.problem bare))

-- what is known of a task: the problem is sound, and tries have no more refutations than can be asked for
pub record IsTask (task : Task) : Type 0 where
  pub sound : IsSound task.problem
  pub few : task.most ≤ MOST_REFUTATIONS

-- what a step of a search for tries, or more of them, begins with: `most` frames leave room for the play
pub record MayStepWith (rule : RuleSet) (task : Task) (progress : TriesProgress)
    (items : List Frame) (board : Position) (most : ℕ) : Type 0 where
  pub is_task : IsTask task
  pub room : half_moves task.problem.stipulation < most
  pub holds : HoldsAt rule task progress items board

-- how many more steps may return no event
unfoldable pub rank : TriesProgress → ℕ
rank SetPlay = 0
rank NotPossible = 0
rank (InSetPlay progress) = 1
rank (Beginning group candidates) = 0
rank (FirstMove firsts) = 0
rank (Faced first) = 2
rank (Threats first crossed) = 2
rank (Reply first place) = 1
rank (BelowReply first played) = 2
rank (But first) = 0
rank (Refutation first place) = 1
rank (Stalemate first) = 0
rank Over = 0

-- what a step of a search for tries leaves
pub record GoesWith (rule : RuleSet) (task : Task) (old : TriesProgress) (was : List Frame)
    (new : TriesProgress) (items : List Frame) (board : Position) (event : Option TryEvent) : Type 0
  where
    pub holds : HoldsAt rule task new items board
    pub emits : Emits rule task (left_of rule task old was) (left_of rule task new items) event
    pub falls : event ≡ None → rank new < rank old

-- a step, or more of them, may begin at a desk
abbrev pub MayStep : {A : Type 0} {n : ℕ} → RuleSet → Task → TriesProgress → Desk A n → ℕ → Type 0
MayStep rule task progress desk most =
    MayStepWith rule task progress desk.frames.items desk.board most

-- a step that began at one desk leaves another
abbrev pub Goes : {A : Type 0} {n : ℕ} → RuleSet → Task → (old : TriesProgress) → Desk A n
    → (new : TriesProgress) → Desk A n → Option TryEvent → Type 0
Goes rule task old was new desk event =
    GoesWith rule task old was.frames.items new desk.frames.items desk.board event

-- what a search covers in a battle
abbrev pub task_of : Posed → (most : ℕ) → Battle → Task
task_of problem most battle = record { problem = problem; battle = battle; most = most }

-- the events of a course still to come
abbrev pub left_on : RuleSet → Posed → (most : ℕ) → Course → List Frame
    → List BareTryEvent
left_on rule problem most NoTries items = no_tries ∷ []
left_on rule problem most (InBattle battle progress) items =
    left_of rule (task_of problem most battle) progress items
left_on rule problem most Ended items = []

-- what holds of a search on its course: in a battle it may step, with `room` frames
abbrev pub IsOnCourse : RuleSet → Posed → (most : ℕ) → Course → List Frame
    → Position → (room : ℕ) → Type 0
IsOnCourse rule problem most NoTries items board room = Unit {0}
IsOnCourse rule problem most (InBattle battle progress) items board room =
    MayStepWith rule (task_of problem most battle) progress items board room
IsOnCourse rule problem most Ended items board room = Unit {0}
