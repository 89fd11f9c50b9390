use Rattle.pop_walk.proofs.Words.{rules}
use Rattle.pop_walk.proofs.Walking as walking
use Rattle.pop_walk.proofs.phases.close_all.Goals as goal

pub step_back-requires : goal.step_back-requires
step_back-requires g c = λ deep. walking.back_asks g.R.Rules.rule c.requires.walking.0 _ _ _ c.in-Some.ensures.items _ _ _
    (c.loop-top.invariant _ _ c.requires.walking.2) c.len.ensures.value deep

pub loop-top-preserved : goal.loop-top-preserved
loop-top-preserved g c = λ h p r. walking.back_walking g.R.Rules.rule h _ _ _ c.in-Some.ensures.items p _ _ _
    (c.loop-top.invariant h p r) c.len.ensures.value c.step_back.ensures.lowest c.step_back.ensures.before

pub returns-clause-back : goal.returns-clause-back
returns-clause-back g c = search (rules, walking.walking_back)
