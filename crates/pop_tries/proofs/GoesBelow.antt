-- What the calls of a search's steps below a first move yield.
use Rattle.pop_tries.proofs.Words.{Bool, Goal, IsSound, List, Move, Posed, Position, RuleSet, [], and_parts, ap, arith, chess_passing, check, cond, false, false≢true, filter, first_in, from_filter, half_moves, may_be_made, has_threat, is_in_set_play, length, play_start, position_after, refl, sym, true, zugzwang, ℕ, ◌+◌, ◌-◌, ◌∙◌, ◌∷◌, ◌≡◌, ◌≤◌}
use Rattle.std.specs.Prelude.{None, Option, Some, is_some, reverse}
use Rattle.std.proofs.lemmas.List.{length-reverse, nil_from_length}
use Rattle.chess_core.specs.Undo.{Undo}
use Rattle.chess_rules.specs.ties.Games.{RestoresPosition, WasPlayed}
use Rattle.pop_battle.specs.ties.Frames.{CameBy, Frame}
use Rattle.pop_events.specs.Shown.{Shown, shown_move}
use Rattle.pop_stipulation.specs.declared.stipulation.TheConstants.{MOST_FRAMES}
use Rattle.pop_walk.proofs.Events.{room-length}
use Rattle.pop_walk.proofs.Sound.{in_range}
use Rattle.pop_walk.specs.Events.{last_shown}
use Rattle.pop_walk.proofs.Paths.{path-length}
use Rattle.pop_walk.specs.declared.mode.Mode.{Mode}
use Rattle.pop_walk.specs.ties.Modes.{mode_of}
use Rattle.pop_walk.specs.ties.Walk.{IsRoomy, IsWalking, path}
use Rattle.pop_tries.specs.Shown.{shown_below_first, try_event_of}
use Rattle.pop_tries.specs.declared.desk.Desk.{Desk}
use Rattle.pop_tries.specs.declared.contest.Contest.{Contest}
use Rattle.pop_events.specs.declared.try_event.TryEvent.TheVariants.{Key, Node, Try}
use Rattle.pop_tries.specs.declared.first_moves.Group.{Group}
use Rattle.pop_tries.specs.declared.first_moves.Group.TheVariants.{Keys, Tries}
use Rattle.pop_tries.specs.declared.progress.First.{First}
use Rattle.pop_tries.specs.declared.progress.Task.{Task}
use Rattle.pop_tries.specs.declared.threats.Threat.{Threat}
use Rattle.pop_tries.specs.ties.Contests.{AreThreats, Keeps, game_in}
use Rattle.pop_tries.specs.ties.FirstMoves.{is_shown}
use Rattle.pop_tries.specs.ties.Searching.{IsAnswered, IsBare, IsOnWalk, IsWalkedBelow, ShowsNode, after_first, event_of_faced, event_of_first, first_event}
use Rattle.pop_tries.specs.ties.Starts.{Base, ShowsNext, base_position, by_passing, by_reply, shown_line}
use Rattle.pop_tries.proofs.StepsBelow.{last_below}

-- nothing is reversed only if there is nothing
pub none_reversed : (items : List Frame) → reverse items ≡ [] → items ≡ []
none_reversed items e = nil_from_length items (omega (arith, length-reverse items, ap length e))

-- the frames of a walk below a first move are few
pub shallow : (problem : Posed) → IsSound problem → (h : ℕ) (items slice : List Frame) → h ≡ half_moves problem.stipulation - 2
    → IsRoomy h (reverse items) → slice ≡ items → length slice ≤ MOST_FRAMES
shallow problem s h items slice e r same =
    omega (arith, e, in_range problem s, room-length h (reverse items) r, length-reverse items, ap length same)

-- a test that keeps board and frames leaves the board's position, and no frame in use
pub still_bare : {A : Type 0} {n : ℕ} {q : Position} {old new : Desk A n} → Keeps old new → IsBare q old.frames.items old.board
    → IsBare q new.frames.items new.board
still_bare keeps bare = record { board_at = keeps.board ∙ bare.board_at; none = keeps.frames ∙ bare.none }

-- the walk below a first move goes on
pub walked_on : (rule : RuleSet) (task : Task) (first : First) (p before board : Position) (was items : List Frame)
    → IsWalkedBelow rule task first p was before → IsOnWalk rule task p items board → IsWalkedBelow rule task first p items board
walked_on rule task first p before board was items walked on = record { first_is = walked.first_is; threat = walked.threat; walking = on }

-- after a walk below a first move, with the board back where that move led and no frame left, the replies follow
pub replies_follow : (rule : RuleSet) (task : Task) (first : First) (p before board : Position) (was items : List Frame)
    → IsWalkedBelow rule task first p was before → board ≡ after_first rule task first.by → items ≡ [] → IsAnswered rule task first items board
replies_follow rule task first p before board was items walked back none =
    record { first_is = walked.first_is; threat = walked.threat; bare = record { board_at = back; none = none } }

-- the first of the moves that meet a test meets it
pub head_meets : (test : Move → Bool) (ms : List Move) (m : Move) (rest : List Move) → filter test ms ≡ m ∷ rest → test m ≡ true
head_meets test ms m rest e = (from_filter test ms m (rw e (first_in m rest))).1

-- White threatens, if there is a length of the threats
module _ (rule : RuleSet) (contest : Contest) (q : Position) where
  pub threat_is : (threat : Option Threat) → is_some threat ≡ true → AreThreats rule contest q threat
      → has_threat contest.battle (game_in rule contest) contest.stipulation.n (chess_passing rule) q ≡ true
  threat_is None s t = absurd (false≢true s)
  threat_is (Some threats) s t = t.timed.threat

  pub no_threat_is : (threat : Option Threat) → is_some threat ≡ false → AreThreats rule contest q threat
      → has_threat contest.battle (game_in rule contest) contest.stipulation.n (chess_passing rule) q ≡ false
  no_threat_is None s t = t
  no_threat_is (Some threats) s t = absurd (false≢true (sym s))

  -- a reply that is shown doesn't refute
  pub shown_is_met : (d : Move) → is_shown rule contest q d ≡ true
      → is_in_set_play contest.battle (game_in rule contest) contest.stipulation.n (position_after rule q d) ≡ true
  shown_is_met d e = (and_parts _ _ e).0

-- a node of a walk below a first move, as it is shown
module _ (goal : Goal) (rule : RuleSet) (problem : Posed) (first : Move) (line : List Move) (depth half : ℕ) (shown : Shown) where
  pub node_shown : (base : Base) → 1 ≤ length line → depth ≡ length line + 1 → half ≡ length line + 2
      → shown ≡ last_shown goal rule (base_position rule problem first base) line
      → Node depth half shown ≡ shown_below_first goal rule (position_after rule (play_start problem) first) (shown_line base line)
  node_shown by_passing some e f g = rw (e, f, g) refl
  node_shown (by_reply m) some e f g =
      let e2 : depth ≡ length (m ∷ line) = omega (arith, e) in
      let f2 : half ≡ length (m ∷ line) + 1 = omega (arith, f) in
      rw (e2, f2, g, last_below goal rule (position_after rule (play_start problem) first) m line some) refl

-- the walk below a first move, with its mode and its half-moves
module _ (rule : RuleSet) (task : Task) (mode : Mode) (h : ℕ) (mode_is : mode ≡ mode_of task.problem) (left : h ≡ half_moves task.problem.stipulation - 2) where
  pub on_walk : (p board : Position) (items : List Frame) → IsOnWalk rule task p items board → IsWalking rule h p (reverse items) board
  on_walk p board items w = rw left w

  -- it has gone on to a node, which is shown
  pub node_goes : (first : Move) (base : Base) (old new slice : List Frame) (board after : Position) (given : Bool) (depth half : ℕ) (shown : Shown)
      → given ≡ true → slice ≡ new → ShowsNext rule mode h (base_position rule task.problem first base) (reverse old) (reverse new) board given
      → after ≡ board → depth ≡ length (path (reverse slice)) + 1 → half ≡ length (path (reverse slice)) + 2
      → ((k : ℕ) (p : Position) → IsWalking rule k p (reverse slice) board → shown ≡ last_shown mode.goal rule p (path (reverse slice)))
      → ShowsNode rule task first base old new after (Some (Node depth half shown))
  node_goes first base old new slice board after given depth half shown r same s e d k g =
      let line = path (reverse new) in
      let some : 1 ≤ length line = omega (arith, s.deep r, path-length (reverse new)) in
      let last = rw (mode_is, same) at (g h (base_position rule task.problem first base) (rw same s.walking)) in
      let node = node_shown task.problem.stipulation.goal rule task.problem first line depth half shown base some (rw same at d) (rw same at k) last in
      (rw e (rw left at s.walking), (line, rw (mode_is, left) at (s.next r), search node))

-- a first move of a group, as it is shown
pub first_shown : (rule : RuleSet) (problem : Posed) (group : Group) (m : Move) (shown : Shown)
    → shown ≡ shown_move problem.stipulation.goal rule (play_start problem) m → event_of_first group shown ≡ try_event_of rule problem (first_event group m)
first_shown rule problem Keys m shown e = ap Key e
first_shown rule problem (Tries most) m shown e = ap Try e

-- what Black faces where White threatens nothing
pub faced_shown : (goal : Goal) (rule : RuleSet) (q : Position) (checked : Bool)
    → event_of_faced checked ≡ shown_below_first goal rule q (cond checked check zugzwang)
faced_shown goal rule q true = refl
faced_shown goal rule q false = refl

-- a move that led here was played, and taking it back leads to where it was made
module _ (rule : RuleSet) (m : Move) (undo : Undo) (q p : Position) where
  pub played_from : CameBy rule m undo q p → WasPlayed rule q m undo
  played_from came = record {
    before = p;
    well_formed = came.sound;
    pseudo = may_be_made rule p m came.legal;
    after = came.led;
    undo = came.undone;
  }

  pub taken_back : (r : Position) → CameBy rule m undo q p → RestoresPosition rule q m undo r → r ≡ p
  taken_back r came back = back p came.sound (may_be_made rule p m came.legal) came.led came.undone
