use Rattle.pop_tries.proofs.Words.{may_be_made, ◌∙◌}
use Rattle.pop_tries.proofs.replies.refutes.Goals as goal

pub unplay-requires : goal.unplay-requires
unplay-requires g c = record {
  before = c.args.desk.now.board;
  well_formed = c.requires.ready.well_formed;
  pseudo = may_be_made _ _ _ c.requires.legal;
  after = c.is_refuted-refuted.ensures.rest.board ∙ c.play-undo.ensures.after;
  undo = c.play-undo.ensures.undo;
}

pub returns-clause-rest : goal.returns-clause-rest
returns-clause-rest g c = record {
  board = c.unplay.ensures.before c.args.desk.now.board c.requires.ready.well_formed (may_be_made _ _ _ c.requires.legal)
      (c.is_refuted-refuted.ensures.rest.board ∙ c.play-undo.ensures.after) c.play-undo.ensures.undo;
  frames = c.is_refuted-refuted.ensures.rest.frames;
}
