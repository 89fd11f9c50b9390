use Rattle.pop_parts.proofs.Words.{rules, ◌∙◌}
use Rattle.pop_parts.proofs.PartBegins as part
use Rattle.pop_parts.proofs.part_search.PartSearch.at.Goals as goal

pub begin_after-progress-requires : goal.begin_after-progress-requires
begin_after-progress-requires g c =
    let s = c.requires.seeking in
    let begun = part.is-beginning g.R.Rules.rule c.args.problem.now c.requires.sound c.args.phase _ _ _ s.1 s.2 c.requires.«open» _ c.requires.legal
    c.requires.battle in
    (search rules, (c.requires.sound, (c.requires.room, (begun, (c.requires.legal, search rules)))))

pub invariant_of-result : goal.invariant_of-result
invariant_of-result g c =
    let s = c.requires.seeking in (
      c.requires.sound,
      c.requires.room,
      c.begin_after-progress.ensures.standing,
      rw c.beginning_of-beginning.ensures (part.opens-begun g.R.Rules.rule
          c.args.problem.now c.requires.sound c.args.phase _ _ _ s.1 s.2 c.requires.«open» _ c.requires.legal c.requires.battle _ _ _
          c.begin_after-progress.ensures.counts),
    )

pub returns-clause-left : goal.returns-clause-left
returns-clause-left g c =
    let s = c.requires.seeking in
    rw c.beginning_of-beginning.ensures (c.begin_after-progress.ensures.left ∙ part.events-begun g.R.Rules.rule c.args.problem.now c.requires.sound c.args.phase _ _ _
    s.1 s.2 c.requires.«open» _ c.requires.legal c.requires.battle)
