use Rattle.std.proofs.Common.{rules, sym, ◌∙◌}
use Rattle.chess_reach.proofs.Getting.{step_ahead, steps_ahead}
use Rattle.chess_reach.proofs.ways.pawn_steps.Goals as goal

pub returns-then-contains : goal.returns-then-contains
returns-then-contains c t small go = steps_ahead _ _ t _ c.pawn_advances-ahead.ensures small go

pub returns : goal.returns
returns c t small go =
    step_ahead _ _ t _ _ c.pawn_advances-ahead.ensures c.king_leaps.ensures small (sym (c.second_rank.ensures _ (search rules)) ∙ sym c.contains.ensures ∙ c.if-contains.false) go
