use Rattle.pop_battle.proofs.Words.{rules}
use Rattle.pop_battle.proofs.value.descend.Goals as goal

pub value_at_once-answer-requires : goal.value_at_once-answer-requires
value_at_once-answer-requires g c = search (rules, c.play-undo.ensures.well_formed)
