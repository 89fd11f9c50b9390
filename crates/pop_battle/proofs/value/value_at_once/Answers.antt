use Rattle.pop_battle.proofs.Words.{rules, value, smallest_tree}
use Rattle.pop_battle.proofs.Boards.{unreached}
use Rattle.pop_battle.proofs.Values as values
use Rattle.pop_battle.proofs.value.value_at_once.Goals as goal

pub returns-in_default-default-eq0-clause-value : goal.returns-in_default-default-eq0-clause-value
unfolding value
returns-in_default-default-eq0-clause-value g c = search rules

pub returns-else-is_some-clause-tried : goal.returns-else-is_some-clause-tried
unfolding smallest_tree
returns-else-is_some-clause-tried g c = search (rules, c.cursor_if_any_move.ensures.moves c.args.aim.goal, c.if-is_some.ensures)

pub value_without_move-requires : goal.value_without_move-requires
value_without_move-requires g c = search (rules, c.cursor_if_any_move.ensures.unchanged, c.cursor_if_any_move.ensures.moves, c.if-is_some.ensures)

pub returns-then-is_some-clause-value : goal.returns-then-is_some-clause-value
returns-then-is_some-clause-value g c = search (rules, values.value-open, unreached, c.cursor_if_any_move.ensures.moves c.args.aim.goal, c.if-is_some.ensures)

pub returns-else-is_some-clause-value : goal.returns-else-is_some-clause-value
returns-else-is_some-clause-value g c =
    let reported = rw c.cursor_if_any_move.ensures.unchanged at c.value_without_move.ensures in
    search (rules, values.value-stuck, c.cursor_if_any_move.ensures.moves c.args.aim.goal, c.if-is_some.ensures)
