use Rattle.pop_battle.proofs.Words.{chess, smallest_tree, tests, value, walk_count, test_work, ◌+◌}
use Rattle.chess_rules.specs.Play.{position_after}
use Rattle.chess_rules.specs.Legal.{moves as legal_moves}
use Rattle.pop_battle.proofs.Tests.{IsUnderway}
use Rattle.pop_battle.proofs.value.value_of.Given as goal

abbrev pub invariant-loop-found : goal.invariant-loop-found
invariant-loop-found g l = IsUnderway g.R.Rules.rule l.aim l.floor l.fn.board g.row.N
    (value l.aim.battle (chess l.aim.goal g.R.Rules.rule) l.left l.fn.board) l.fn.frames.items l.frames.items l.answer l.board l.search_state.opened
    (l.fn.search_state.opened + walk_count (legal_moves g.R.Rules.rule) (position_after g.R.Rules.rule) l.left l.fn.board)
    (l.fn.search_state.opened + smallest_tree l.aim.battle (chess l.aim.goal g.R.Rules.rule) l.left l.fn.board)

abbrev pub decreases-loop-found : goal.decreases-loop-found
decreases-loop-found g l = test_work g.R.Rules.rule l.fn.board (tests l.floor l.frames.items)
