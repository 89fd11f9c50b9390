use Rattle.pop_tries.proofs.Words.{may_be_made}
use Rattle.pop_tries.proofs.replies.gives_check.Goals as goal

pub unplay-requires : goal.unplay-requires
unplay-requires g c = record {
  before = c.args.board.now;
  well_formed = c.requires.well_formed;
  pseudo = may_be_made _ _ _ c.requires.legal;
  after = c.play-undo.ensures.after;
  undo = c.play-undo.ensures.undo;
}
