use Rattle.pop_walk.proofs.Words.{HasCounted, chess, cond, eqb, min, position_after, rules, smallest_tree, ◌+◌, ◌-◌, ◌^◌, ◌≡◌}
use Rattle.pop_walk.specs.ties.Walk.{walk_length}
use Rattle.pop_walk.proofs.walk.enter.Goals as goal
use Rattle.pop_walk.proofs.walk.enter.Goals.{in-Some+else-not-value_after, in_default}

pub returns-clause-counts : goal.returns-clause-counts
unfolding walk_length
returns-clause-counts g c =
    let before = c.args.search_state.now.opened in
    let between = c.walk_length-tried.new.search_state.opened in
    let after = c.opened_after-search_state.result in
    elim c.match-tested.branch [
      | in-Some+else-not-value_after w ↦
          let test : HasCounted before between (smallest_tree w.in-Some.battle (chess c.args.mode.goal g.R.Rules.rule) c.args.left
          (position_after g.R.Rules.rule c.args.board.now c.args.by)) = search rules in
          search (rules, test)
      | in_default w ↦
          let frame : after ≡ min (between + cond (eqb c.walk_length-tried.result 0) 0 1) (2 ^ 64 - 1) = search rules in
          search (rules, frame)
    ]
