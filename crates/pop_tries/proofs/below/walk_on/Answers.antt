use Rattle.pop_tries.proofs.Words.{arith, length, nat_tests, rules, ◌<◌, ◌≡◌}
use Rattle.std.proofs.lemmas.List.{length-reverse}
use Rattle.pop_tries.proofs.Starts as starts
use Rattle.pop_tries.proofs.below.walk_on.Goals as goal

pub step-requires : goal.step-requires
step-requires g c = search (rules, c.loop-mode.invariant _ c.requires.walking.1)

pub loop-mode-preserved : goal.loop-mode-preserved
loop-mode-preserved g c = search (rules, c.step.ensures.steps)

pub returns-then-step : goal.returns-then-step
returns-then-step g c = record {
  next = λ p w.
      let i = c.loop-mode.invariant p w in
      let l = length-reverse c.loop-mode.desk.frames.items in
      let some : 0 < length c.loop-mode.desk.frames.items = grind (arith, nat_tests) in
      let s = c.step.ensures.steps _ i.0 in
      search (rules, starts.node_shown g.R.Rules.rule _ _ _ _ _ i.1 _ _ _ s c.if-step.true (omega (arith, l, some)));
}

pub returns : goal.returns
returns g c = record {
  next = λ p w.
      let i = c.loop-mode.invariant p w in
      let none : length c.loop-mode.desk.frames.items ≡ 0 = grind (arith, nat_tests) in
      starts.none_left g.R.Rules.rule _ _ _ _ _ i.1 _ i.0 (omega (arith, none, length-reverse c.loop-mode.desk.frames.items));
}
