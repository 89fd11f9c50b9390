-- Where the walks below a first move start, and what they show (own).
use Rattle.std.specs.Prelude.{◌≡◌, ◌*◌, ◌≤◌, ℕ, Bool, true, false, List, [], ◌∷◌, length, Some}
use Rattle.chess_core.specs.Position.{Position}
use Rattle.chess_core.specs.declared.man.Move.{Move}
use Rattle.chess_attacks.specs.RuleSet.{RuleSet}
use Rattle.chess_rules.specs.Play.{position_after}
use Rattle.pop_battle.specs.Chess.{chess, set_start}
use Rattle.pop_stipulation.specs.declared.stipulation.Battle.{Battle}
use Rattle.pop_battle.specs.ties.Frames.{Frame}
use Rattle.pop_battle.specs.ties.Values.{attacker_to_move, value}
use Rattle.pop_input.specs.Posed.{Posed}
use Rattle.pop_walk.specs.Events.{play_start}
use Rattle.pop_walk.specs.declared.mode.Mode.{Mode}
use Rattle.pop_walk.specs.ties.Walk.{IsEnded, IsWalking, path, to_come}
use Rattle.pop_tries.specs.Tries.{Below, below_reply, reply, threatened}

-- where a walk below a first move starts: after Black has passed, to show the threats, or after a reply
pub data Base : Type 0 where
  by_passing : Base
  by_reply : Move → Base

-- the position where a walk starts
abbrev pub base_position : RuleSet → Posed → Move → Base → Position
base_position rule problem first by_passing =
    set_start (position_after rule (play_start problem) first)
base_position rule problem first (by_reply m) =
    position_after rule (position_after rule (play_start problem) first) m

-- what is shown for a line of moves of a walk
abbrev pub shown_line : Base → List Move → Below Move
shown_line by_passing line = threatened line
shown_line (by_reply m) line = reply (m ∷ line)

-- a walk from p with h half-moves left shows what stands below a reply, if White, to move, wins there
abbrev pub ShowsBelow : RuleSet → Mode → ℕ → Position → List Frame → Type 0
ShowsBelow rule mode h p frames = (battle : Battle) (n : ℕ) → mode.battle ≡ Some battle
    → attacker_to_move battle h ≡ true → h ≤ 2 * n
    → value battle (chess mode.goal rule) h p ≡ true
    → to_come rule mode h p frames
    ≡ below_reply battle (chess mode.goal rule) n mode.variation h p

-- a walk from p goes on to the next of the nodes still to come, which is shown, or there is none
pub record ShowsNext (rule : RuleSet) (mode : Mode) (h : ℕ) (p : Position) (old new : List Frame)
    (board : Position) (shown : Bool) : Type 0 where
  pub walking : IsWalking rule h p new board
  pub next : shown ≡ true → to_come rule mode h p old ≡ path new ∷ to_come rule mode h p new
  pub deep : shown ≡ true → 2 ≤ length new
  pub ended : shown ≡ true → IsEnded rule mode new board
  pub none : shown ≡ false → to_come rule mode h p old ≡ []
  pub back : shown ≡ false → board ≡ p
  pub empty : shown ≡ false → new ≡ []
