use Rattle.pop_walk.proofs.Words.{arith, rules, take_all}
use Rattle.pop_walk.proofs.Paths as paths
use Rattle.pop_walk.proofs.showing.unplay_all.Goals as goal

pub loop-k-init : goal.loop-k-init
loop-k-init g c = search (rules, take_all)

pub unplay_frame-requires : goal.unplay_frame-requires
unplay_frame-requires g c =
    let w = c.requires.walking in
    let top = paths.topped-at _ c.loop-k.k _ _ c.index-frames-k.is (omega arith) (omega arith) (omega arith) in
    record { came = paths.back-asks g.R.Rules.rule top _ _ _ (c.loop-k.invariant.0 w.0 w.1 w.2) }

pub loop-k-preserved : goal.loop-k-preserved
loop-k-preserved g c = (
  λ h p w.
      let top = paths.topped-at _ c.loop-k.k _ _ c.index-frames-k.is (omega arith) (omega arith) (omega arith) in
      paths.back-walking g.R.Rules.rule top h p _ _ (c.loop-k.invariant.0 h p w) c.unplay_frame.ensures.before,
  omega arith,
)

pub returns-clause-start : goal.returns-clause-start
returns-clause-start g c = search (rules, paths.first-position)

pub returns-clause-well_formed : goal.returns-clause-well_formed
returns-clause-well_formed g c = let w = c.requires.walking in (c.loop-k.invariant.0 w.0 w.1 w.2).sound
