use Rattle.pop_tries.proofs.Words.{refl, rules}
unfoldable use Rattle.pop_tries.specs.ties.Searching.{HoldsAt}
use Rattle.pop_tries.specs.ties.Searching.{after_first, contest_of}
use Rattle.pop_tries.proofs.Goings.{with_event}
use Rattle.pop_tries.proofs.StepsBelow as steps
use Rattle.pop_tries.proofs.GoesBelow as goes
use Rattle.pop_tries.proofs.Contests.{passed_well_formed}
use Rattle.pop_tries.proofs.below_first.begin_threats.Goals as goal

pub open_walk-requires : goal.open_walk-requires
unfolding HoldsAt
open_walk-requires g c =
    let h = c.requires.may_step.holds in
    (search rules, (rw (c.pass-crossed.ensures.board, h.1.board_at) (passed_well_formed _ h.2.sound), (h.1.none, search rules)))

pub returns : goal.returns
unfolding HoldsAt
returns g c =
    let h = c.requires.may_step.holds in
    let rule = g.R.Rules.rule in
    let task = c.args.task.now in
    let first = c.args.first in
    let has = goes.threat_is rule (contest_of task) (after_first rule task first.by) first.threat c.requires.some c.requires.threat in
    let walking = rw (c.half_moves_below.ensures, c.pass-crossed.ensures.board, h.1.board_at) at c.open_walk.ensures.walking in
    let come = rw (c.of.ensures, c.half_moves_below.ensures, c.pass-crossed.ensures.board, h.1.board_at) at c.open_walk.ensures.come in
    with_event rule task _ _ _ _ _
    (h.0, record { first_is = h.2; threat = c.requires.threat; walking = walking }, rw h.1.board_at at c.pass-crossed.ensures.crossed) _ _
    (steps.faced_with rule task h.0 first c.pass-crossed.result c.args.desk.now.frames.items c.open_walk.new.desk.frames.items
    (steps.threat_paths rule task h.0 first) (steps.shown_with_threats rule task h.0 first c.requires.reply has)
    (steps.all_threats rule task h.0 first c.open_walk.new.desk.frames.items has come)) refl
