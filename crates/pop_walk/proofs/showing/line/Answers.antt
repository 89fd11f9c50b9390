use Rattle.pop_walk.proofs.Words.{ap, arith, position, refl, reverse, rules, sym, take_all, ◌+◌, ◌∙◌}
use Rattle.pop_walk.proofs.Paths as paths
use Rattle.pop_walk.proofs.showing.line.Goals as goal

pub loop-k-init : goal.loop-k-init
loop-k-init g c = search (rules, paths.first-path, paths.first-position, c.new-line.ensures, c.unplay_all.ensures.start, c.unplay_all.ensures.well_formed)

pub play_shown-requires-clause-legal : goal.play_shown-requires-clause-legal
play_shown-requires-clause-legal g c =
    let w = c.requires.walking in
    let top = paths.topped-at _ (c.loop-k.k + 1) _ _ c.index-frames-k.is refl c.loop-k.auto.k c.loop-k-test.true in
    let at = c.loop-k.invariant.0 w.0 w.1 w.2 in
    rw at.1 (paths.forth-is_legal g.R.Rules.rule top w.1 (paths.linked-take g.R.Rules.rule w.1 c.args.frames.now (c.loop-k.k + 1) w.2.linked))

pub play_shown-requires-clause-reached : goal.play_shown-requires-clause-reached
play_shown-requires-clause-reached g c = λ here.
    let w = c.requires.walking in
    let top = paths.topped-at _ (c.loop-k.k + 1) _ _ c.index-frames-k.is refl c.loop-k.auto.k c.loop-k-test.true in
    let at = c.loop-k.invariant.0 w.0 w.1 w.2 in
    let last = c.reached_along-reached.ensures here in
    let all = take_all (c.loop-k.k + 1) c.args.frames.now (omega (arith, last.0)) in
    rw (paths.forth-again g.R.Rules.rule top w.0 w.1 _ _ _ all w.2 at.1) (c.requires.ended last.1)

pub loop-k-preserved : goal.loop-k-preserved
loop-k-preserved g c = (
  λ h p w.
      let top = paths.topped-at _ (c.loop-k.k + 1) _ _ c.index-frames-k.is refl c.loop-k.auto.k c.loop-k-test.true in
      let at = c.loop-k.invariant.0 h p w in
      search (rules, at, paths.forth-along, paths.forth-position, c.push.ensures.items, c.play_shown.ensures.shown, c.play_shown.ensures.after),
  c.play_shown.ensures.well_formed,
  omega (arith, c.push.ensures.len, c.loop-k.invariant.2),
)

pub returns-clause-unchanged : goal.returns-clause-unchanged
returns-clause-unchanged g c =
    let w = c.requires.walking in
    let at = c.loop-k.invariant.0 w.0 w.1 w.2 in
    at.1 ∙ ap (λ fs. position g.R.Rules.rule w.1 (reverse fs)) (take_all c.loop-k.k c.args.frames.now (omega arith)) ∙ sym w.2.board_at
