use Rattle.pop_battle.proofs.Words.{SelfMate, arith, joined_value, rules, value}
use Rattle.pop_battle.proofs.Boards.{after_start}
use Rattle.pop_battle.proofs.LastMoves.{begins_plain, none_moves, walk_among-two, stuck}
use Rattle.pop_battle.proofs.last_move.value_of_last_move.Goals as goal

pub is_reached_without_move-requires : goal.is_reached_without_move-requires
is_reached_without_move-requires g c = search (rules, none_moves, after_start, c.some_forces_mate-forced.ensures.none)

pub returns-then-counted-eq0 : goal.returns-then-counted-eq0
unfolding value
returns-then-counted-eq0 g c = search (rules, stuck, none_moves, after_start, c.some_forces_mate-forced.ensures.none)

pub returns : goal.returns
unfolding joined_value
returns g c =
    let b = begins_plain SelfMate g.R.Rules.rule c.args.board.now c.of-cursor.result.place c.args.search_state.now.opened (search rules) (omega arith) in
    search (rules, b, walk_among-two)
