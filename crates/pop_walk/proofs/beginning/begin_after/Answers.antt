use Rattle.pop_walk.proofs.Words.{false, refl, rules, true}
use Rattle.pop_walk.proofs.Beginnings as beginning
use Rattle.pop_walk.proofs.beginning.begin_after.Goals as goal

pub returns-then-not-may_lead : goal.returns-then-not-may_lead
returns-then-not-may_lead g c =
    let s = rw (← c.len-depth.ensures.value) at c.requires.begun in
    let x = rw (c.of-mode.ensures, c.phase_half_moves.ensures) at c.if-not-may_lead.ensures.fails refl in
    let b = beginning.begun-fails g.R.Rules.rule c.args.problem.now c.args.phase _ c.args.frames.now.items _ s _ c.requires.legal _ _ c.requires.opened
    c.may_lead.ensures.unchanged x.0 x.1 x.2 x.3 in
    rw (c.of-walk.ensures, ← c.len-depth.ensures.value) (record { standing = b.standing; left = b.left; counts = b.counts })

pub returns-then-enter : goal.returns-then-enter
returns-then-enter g c =
    let s = rw (← c.len-depth.ensures.value) at c.requires.begun in
    let b = beginning.begun-by g.R.Rules.rule c.args.problem.now c.args.phase _ _ _ s _ c.requires.legal _ _ _ true _ _ c.requires.opened
    (rw (c.of-mode.ensures, c.phase_half_moves.ensures, c.may_lead.ensures.unchanged) at c.if-enter.ensures.unfollowed)
    (rw (c.of-mode.ensures, c.phase_half_moves.ensures, c.may_lead.ensures.unchanged) at c.if-enter.ensures.enters)
    (rw (c.of-mode.ensures, c.phase_half_moves.ensures, c.may_lead.ensures.unchanged) at c.if-enter.ensures.counts) (search rules) in
    rw (c.of-walk.ensures, ← c.len-depth.ensures.value) (record { standing = b.standing; left = b.left; counts = b.counts })

pub returns : goal.returns
returns g c =
    let s = rw (← c.len-depth.ensures.value) at c.requires.begun in
    let b = beginning.begun-by g.R.Rules.rule c.args.problem.now c.args.phase _ _ _ s _ c.requires.legal _ _ _ false _ _ c.requires.opened
    (rw (c.of-mode.ensures, c.phase_half_moves.ensures, c.may_lead.ensures.unchanged) at c.if-enter.ensures.unfollowed)
    (rw (c.of-mode.ensures, c.phase_half_moves.ensures, c.may_lead.ensures.unchanged) at c.if-enter.ensures.enters)
    (rw (c.of-mode.ensures, c.phase_half_moves.ensures, c.may_lead.ensures.unchanged) at c.if-enter.ensures.counts) (search rules) in
    rw (c.of-walk.ensures, ← c.len-depth.ensures.value) (record { standing = b.standing; left = b.left; counts = b.counts })
