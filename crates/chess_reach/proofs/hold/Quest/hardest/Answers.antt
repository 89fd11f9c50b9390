use Rattle.std.proofs.Common.{rules}
use Rattle.chess_attacks.proofs.HoldTaken.{is_taken}
use Rattle.chess_reach.proofs.Bitboards.{on_first}
use Rattle.chess_reach.proofs.hold.Quest.hardest.Goals as goal

pub returns-then-none-ne0 : goal.returns-then-none-ne0
returns-then-none-ne0 c = search (rules, on_first, is_taken)

pub returns-then-one-ne0 : goal.returns-then-one-ne0
returns-then-one-ne0 c = search (rules, on_first, is_taken)

pub returns-then-two-ne0 : goal.returns-then-two-ne0
returns-then-two-ne0 c = search (rules, on_first, is_taken)
