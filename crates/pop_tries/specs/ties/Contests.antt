-- The battle of a problem, as the code keeps it, and what its tests leave unchanged (own).
use Rattle.std.specs.Prelude.{◌≡◌, ◌≤◌, ◌+◌, ◌/◌, ℕ, Bool, true, false, [], filter, Option, Some, MatchOption}
use Rattle.arrayvec.specs.ArrayVec.{array_vec_len}
use Rattle.chess_core.specs.WellFormed.{IsWellFormed}
use Rattle.chess_core.specs.Position.{Position}
use Rattle.chess_core.specs.declared.man.Move.{Move}
use Rattle.chess_attacks.specs.RuleSet.{RuleSet}
use Rattle.pop_battle.specs.Chess.{chess, set_start}
use Rattle.pop_battle.specs.Game.{Game}
use Rattle.pop_stipulation.specs.Stipulations.{battle_of, half_moves}
use Rattle.pop_battle.specs.ties.Values.{attacker_to_move}
use Rattle.pop_walk.specs.Tree.{least_moves}
use Rattle.pop_tries.specs.Events.{chess_passing}
use Rattle.pop_tries.specs.Tries.{has_threat}
use Rattle.chess_rules.specs.Legal.{moves}
use Rattle.chess_rules.specs.Play.{position_after}
use Rattle.pop_walk.specs.Tree.{keeps_win}
use Rattle.pop_tries.specs.declared.contest.Contest.{Contest}
use Rattle.pop_tries.specs.declared.desk.Desk.{Desk}
use Rattle.pop_tries.specs.declared.threats.Threat.{Threat}
use Rattle.pop_tries.specs.ties.MoveSets.{HoldAll}
use Rattle.pop_tries.specs.ties.FewPlaces.{AreAt}

-- the stipulation's form is this battle, of at least one move
pub record IsContest (contest : Contest) : Type 0 where
  pub fought : battle_of contest.stipulation.form ≡ Some contest.battle
  pub some : 1 ≤ contest.stipulation.n

-- a test of the contest may begin at a desk: the frames in use leave room for its half-moves
pub record IsReady {A : Type 0} {n : ℕ} (contest : Contest) (desk : Desk A n)
    (most : ℕ) : Type 0 where
  pub fits : IsContest contest
  pub well_formed : IsWellFormed desk.board
  pub room : array_vec_len desk.frames + half_moves contest.stipulation ≤ most

-- its game under a set of rules
abbrev pub game_in : RuleSet → Contest → Game Position Move
game_in rule contest = chess contest.stipulation.goal rule

-- board and frames are unchanged
pub record Keeps {A : Type 0} {n : ℕ} (old new : Desk A n) : Type 0 where
  pub board : new.board ≡ old.board
  pub frames : new.frames.items ≡ old.frames.items

-- the number of White's moves in this many half-moves, with White to move
abbrev pub moves_of : ℕ → ℕ
moves_of length = (length + 1) / 2

-- with this many half-moves left White is to move
pub record IsLength (contest : Contest) (length : ℕ) : Type 0 where
  pub white : attacker_to_move contest.battle length ≡ true
  pub some : 1 ≤ length

-- White's threats after a first move that leads to q win within `length` half-moves, and no sooner
pub record IsThreatLength (rule : RuleSet) (contest : Contest) (q : Position) (length : ℕ) : Type 0
  where
    pub fits : IsLength contest length
    pub most : length ≤ half_moves contest.stipulation
    pub threat : has_threat contest.battle (game_in rule contest) contest.stipulation.n
        (chess_passing rule) q ≡ true
    pub least : moves_of length ≡ least_moves contest.battle (game_in rule contest)
        contest.stipulation.n (set_start q)

-- the least length of White's threats after a first move that leads to q, if White threatens
abbrev pub IsThreat : RuleSet → Contest → Position → Option ℕ → Type 0
IsThreat rule contest q threat = MatchOption threat
    (has_threat contest.battle (game_in rule contest) contest.stipulation.n
    (chess_passing rule) q ≡ false) (IsThreatLength rule contest q)

-- with the move m of p White wins within `length` half-moves
abbrev pub wins_within : RuleSet → Contest → ℕ → Position → Move → Bool
wins_within rule contest length p m =
    keeps_win contest.battle (game_in rule contest) (moves_of length) (position_after rule p m)

-- the length of White's threats after a first move that leads to q, a set that holds them, and their places
pub record HoldsThreats (rule : RuleSet) (contest : Contest) (q : Position) (threat : Threat)
    : Type 0 where
  pub timed : IsThreatLength rule contest q threat.length
  pub held : HoldAll rule (set_start q) (wins_within rule contest threat.length (set_start q))
      (Some threat.moves)
  pub places : AreAt threat.places (filter (wins_within rule contest threat.length (set_start q))
      (moves rule (set_start q))) []

-- White's threats after a first move that leads to q, if White threatens
abbrev pub AreThreats : RuleSet → Contest → Position → Option Threat → Type 0
AreThreats rule contest q threat = MatchOption threat
    (has_threat contest.battle (game_in rule contest) contest.stipulation.n
    (chess_passing rule) q ≡ false) (HoldsThreats rule contest q)
