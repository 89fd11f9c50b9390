-- A beginning of moves on frames, and the paths of a phase that begin with it (own).
use Rattle.std.specs.Prelude.{◌≡◌, ℕ, suc, ◌-◌, ◌≤◌, ◌<◌, ◌==◌, Bool, true, List, [], ◌∷◌, ◌++◌, map, length}
use Rattle.std.specs.List.{list_all}
use Rattle.chess_core.specs.Position.{Position}
use Rattle.chess_core.specs.declared.man.Move.{Move}
use Rattle.chess_attacks.specs.RuleSet.{RuleSet}
use Rattle.pop_input.specs.Posed.{Posed}
use Rattle.pop_events.specs.declared.event.Phase.{Phase}
use Rattle.pop_battle.specs.Chess.{chess}
use Rattle.pop_battle.specs.ties.Frames.{Frame}
use Rattle.pop_walk.specs.Events.{Path, phase_half_moves, phase_start}
use Rattle.pop_walk.specs.ties.Modes.{mode_of}
use Rattle.pop_walk.specs.ties.Walk.{IsWalking, path, shown_paths}

-- nothing is tried from these frames
unfoldable pub are_idle : List Frame → Bool
are_idle frames = list_all (λ f. f.left == 0) frames

-- the board has the position of the top of n frames of a beginning, and nothing is tried from them
pub record IsBeginning (rule : RuleSet) (problem : Posed) (phase : Phase) (n : ℕ)
    (frames : List Frame) (board : Position) : Type 0 where
  pub walking : IsWalking rule (phase_half_moves problem phase) (phase_start problem phase) frames
      board
  pub idle : are_idle frames ≡ true
  pub long : length frames ≡ n
  pub some : 0 < n
  pub within : n ≤ phase_half_moves problem phase

-- the paths of a phase that begin with the moves to the top of n frames, and then with m in this position
abbrev pub paths_by : RuleSet → Posed → Phase → ℕ → List Frame → Position → Move → List Path
paths_by rule problem phase n frames board m =
    map (λ line. path frames ++ line)
    (shown_paths (mode_of problem) (chess problem.stipulation.goal rule) (n == 1)
    (suc (phase_half_moves problem phase - n)) (suc (phase_half_moves problem phase - n)) board
    (m ∷ []))
