use Rattle.pop_tries.proofs.Words.{play_start, refl, sym, ◌∙◌}
unfoldable use Rattle.pop_tries.specs.ties.Searching.{HoldsAt}
use Rattle.pop_tries.specs.ties.Searching.{beginning_of, contest_of}
use Rattle.pop_tries.proofs.Candidates.{notes}
use Rattle.pop_tries.specs.declared.progress.Firsts.{Firsts}
use Rattle.pop_tries.specs.declared.progress.TriesProgress.TheVariants.{FirstMove}
use Rattle.pop_tries.proofs.Goings as goes
use Rattle.pop_tries.proofs.Steps as steps
use Rattle.pop_tries.proofs.group.begin_group.Goals as goal
use Rattle.pop_tries.proofs.group.begin_group.Goals.{in-Keys, in-Tries}

pub returns : goal.returns
unfolding HoldsAt
returns g c =
    let h = c.requires.holds in
    let rule = g.R.Rules.rule in
    let task = c.args.task.now in
    let group = c.args.group in
    let candidates = c.first_candidates.result in
    let firsts : Firsts = record { group = group; place = c.start.result; count = 0; candidates = candidates } in
    let holds : HoldsAt rule task (FirstMove firsts) c.args.desk.now.frames.items c.args.desk.now.board = (
      h.0,
      h.1,
      record {
        asked = h.2;
        noted = notes rule (contest_of task) task.most (play_start task.problem) group c.args.candidates candidates c.start.result c.start.ensures h.3
            c.first_candidates.ensures.keys c.first_candidates.ensures.tries;
        counted = rw c.start.ensures (steps.none_counted rule task group);
        limited = steps.at_first task.problem group;
      },
    ) in
    goes.with_event rule task _ _ _ _ _ holds _ (beginning_of group) (goes.group_comes rule task group _ _ c.start.result c.start.ensures _ _)
    (elim c.match-group.branch [
      | in-Keys w ↦ w.result-is ∙ sym (rw w.in-Keys.is refl)
      | in-Tries w ↦ w.result-is ∙ sym (rw w.in-Tries.is refl)
    ])
