use Rattle.pop_tries.proofs.Words.{Set, arith, false, refl, rules, set_event, true, ◌≡◌}
use Rattle.pop_walk.specs.Events.{is_impossible_phase, opening, phase_start, play_start}
unfoldable use Rattle.pop_walk.specs.ties.Phases.{HoldsAtProgress}
unfoldable use Rattle.pop_tries.specs.ties.Searching.{HoldsAt}
use Rattle.pop_tries.proofs.Goings.{with_event}
use Rattle.pop_tries.proofs.SetPlay.{left_barred, left_begun, paths_begin, walk_begins}
use Rattle.pop_tries.proofs.set_play.begin_set_play.Goals as goal

pub returns-then-not-set_up : goal.returns-then-not-set_up
unfolding HoldsAt
returns-then-not-set_up g c =
    let barred : is_impossible_phase g.R.Rules.rule c.args.task.now.problem Set ≡ true = grind (arith, c.set_up.ensures.possible, c.if-not-set_up.true) in
    let at : c.set_up.new.board ≡ play_start c.args.task.now.problem = grind (arith, c.set_up.ensures.board, c.if-not-set_up.true) in
    with_event g.R.Rules.rule c.args.task.now _ _ _ _ _ (c.requires.holds.0, record { board_at = at; none = c.requires.holds.1.none })
    _ (set_event (opening Set)) (left_barred g.R.Rules.rule c.args.task.now _ _ barred) refl

pub returns : goal.returns
unfolding HoldsAt HoldsAtProgress
returns g c =
    let possible : is_impossible_phase g.R.Rules.rule c.args.task.now.problem Set ≡ false =
    grind (arith, c.set_up.ensures.possible, c.if-not-set_up.false) in
    let at : c.set_up.new.board ≡ phase_start c.args.task.now.problem Set = grind (arith, c.set_up.ensures.board, c.if-not-set_up.false) in
    let walks = walk_begins g.R.Rules.rule c.args.task.now.problem c.requires.is_task.sound _ _ _ c.requires.holds.1.none c.push-2.ensures.items
    (search rules) c.set_up.new.board at (search rules) (search rules) in
    let cut = paths_begin g.R.Rules.rule c.args.task.now.problem c.requires.is_task.sound _ _ _ c.requires.holds.1.none c.push-2.ensures.items
    (search rules) (search rules) in
    with_event g.R.Rules.rule c.args.task.now _ _ _ _ _ (c.requires.holds.0, (walks, omega arith, search rules))
    _ (set_event (opening Set)) (left_begun g.R.Rules.rule c.args.task.now _ _ _ (search rules) possible cut) refl
