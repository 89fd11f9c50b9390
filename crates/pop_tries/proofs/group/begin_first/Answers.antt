use Rattle.pop_tries.proofs.Words.{ap, play_start, Some, ◌∙◌}
use Rattle.pop_tries.proofs.GoesBelow.{first_shown, played_from, taken_back}
use Rattle.pop_tries.proofs.group.begin_first.Goals as goal

pub unplay-requires : goal.unplay-requires
unplay-requires g c = played_from g.R.Rules.rule c.args.by c.args.undo _ (play_start c.args.task.now.problem) c.requires.came

pub returns-clause-event : goal.returns-clause-event
returns-clause-event g c =
    let problem = c.args.task.now.problem in
    let back = taken_back g.R.Rules.rule c.args.by c.args.undo _ (play_start problem) _ c.requires.came c.unplay.ensures.before in
    let shown = rw (c.stipulation.ensures.stipulation, back) at c.shown-shown.ensures.shown in
    ap Some (c.first_event-event.ensures ∙ first_shown g.R.Rules.rule problem c.args.firsts.group c.args.by _ shown)
