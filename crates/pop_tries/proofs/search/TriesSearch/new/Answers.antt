use Rattle.pop_tries.proofs.Words.{ap, play_start, ◌∙◌, ◌≡◌}
use Rattle.chess_core.specs.Diagrams.{position_of}
use Rattle.pop_tries.proofs.Searches.{all_to_come, on_course}
use Rattle.pop_tries.proofs.search.TriesSearch.new.Goals as goal

pub invariant_of-result : goal.invariant_of-result
invariant_of-result g c =
    let at : c.of.result ≡ play_start c.args.problem.now = c.of.ensures ∙ ap position_of c.diagram.ensures.diagram in
    on_course g.R.Rules.rule c.args.problem.now c.args.most _ c.first_course.ensures _ c.with.ensures.frames c.diagram.ensures.sound c.requires.few _
    c.requires.room _ (c.with.ensures.board ∙ at)

pub returns-clause-left : goal.returns-clause-left
returns-clause-left g c =
    all_to_come g.R.Rules.rule c.args.problem.now c.args.most _ c.first_course.ensures _ c.with.ensures.frames
