use Rattle.pop_battle.proofs.LastMoves.{found_defence}
use Rattle.pop_battle.proofs.Orders.{ahead_earlier}
use Rattle.pop_battle.proofs.Words.{rules}
use Rattle.pop_battle.proofs.last_defence.next_defence.Goals as goal
use Rattle.pop_battle.proofs.last_defence.next_defence.Goals.{then-is_none, else-is_none}

pub returns : goal.returns
returns g c = found_defence (elim c.if-is_none.branch [
  | then-is_none w ↦ search (rules, ahead_earlier, w.place_before.ensures)
  | else-is_none w ↦ search rules
]) c.next_tried.ensures
