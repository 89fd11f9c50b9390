use Rattle.pop_tries.proofs.Words.{may_be_made, ◌∙◌}
use Rattle.pop_tries.proofs.shown.shown.Goals as goal

pub unplay-requires : goal.unplay-requires
unplay-requires g c = record {
  before = c.args.board.now;
  well_formed = c.requires.well_formed;
  pseudo = may_be_made _ _ _ c.requires.legal;
  after = c.mark_after-mark.ensures.unchanged ∙ c.play-undo.ensures.after;
  undo = c.play-undo.ensures.undo;
}

pub returns-clause-unchanged : goal.returns-clause-unchanged
returns-clause-unchanged g c =
    c.unplay.ensures.before c.args.board.now c.requires.well_formed (may_be_made _ _ _ c.requires.legal)
    (c.mark_after-mark.ensures.unchanged ∙ c.play-undo.ensures.after) c.play-undo.ensures.undo
