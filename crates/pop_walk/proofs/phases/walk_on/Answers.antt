use Rattle.pop_walk.proofs.Words.{arith, inl, inr, length, length-reverse, nat_tests, refl, rules, sym, ◌<◌, ◌∙◌, ◌≡◌}
use Rattle.pop_walk.proofs.Counting.{counts-none, counts_then-both}
use Rattle.pop_walk.proofs.Kept as kept
use Rattle.pop_walk.proofs.phases.walk_on.Goals as goal

pub loop-frames-init : goal.loop-frames-init
loop-frames-init g c = (c.requires.walking, refl, counts-none _ _ _)

pub loop-frames-preserved : goal.loop-frames-preserved
loop-frames-preserved g c =
    let counts = counts_then-both _ _ _ _ _ _ _ c.loop-frames.invariant.2 (c.step.ensures.counts _ c.loop-frames.invariant.0) in
    search (rules, c.step.ensures.steps, counts)

pub returns-then-step : goal.returns-then-step
returns-then-step g c =
    let l = length-reverse c.loop-frames.frames.items in
    let some : 0 < length c.loop-frames.frames.items = grind (arith, nat_tests) in
    let s = c.step.ensures.steps _ c.loop-frames.invariant.0 in
    let w = kept.walks_given g.R.Rules.rule _ _ _ _ _ c.loop-frames.invariant.1 c.still_to_begin-limit.result _ _ _ s c.if-step.true
    (omega (arith, l, some))
    (rw (c.requires.mode, l, ← c.len.ensures.value)
    (sym c.limit_ends_phase.ensures ∙ c.if-not-limit_ends_phase.true)) in
    let counts = counts_then-both _ _ _ _ _ _ _ c.loop-frames.invariant.2 (c.step.ensures.counts _ c.loop-frames.invariant.0) in
    search (rules, w, s, counts, c.still_to_begin-limit.ensures)

pub returns-else-not-limit_ends_phase : goal.returns-else-not-limit_ends_phase
returns-else-not-limit_ends_phase g c =
    let w = kept.walks_ended g.R.Rules.rule _ _ _ _ _ c.loop-frames.invariant.1 c.still_to_begin-limit.result _ c.loop-frames.invariant.0
    (inr (rw (c.requires.mode, length-reverse c.loop-frames.frames.items, ← c.len.ensures.value)
    (sym c.limit_ends_phase.ensures ∙ c.if-not-limit_ends_phase.false))) in
    search (rules, w, c.still_to_begin-limit.ensures)

pub returns-after-loop-frames : goal.returns-after-loop-frames
returns-after-loop-frames g c =
    let none : length c.loop-frames.frames.items ≡ 0 = grind (arith, nat_tests) in
    let w = kept.walks_ended g.R.Rules.rule _ _ _ _ _ c.loop-frames.invariant.1 c.still_to_begin-limit.result _ c.loop-frames.invariant.0
    (inl (omega (arith, none, length-reverse c.loop-frames.frames.items))) in
    search (rules, w, c.still_to_begin-limit.ensures)
