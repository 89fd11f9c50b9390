use Rattle.chess_attacks.proofs.Chess.{refl, sym, ◌∙◌}
use Rattle.chess_attacks.proofs.HoldTaken.{none_fails, one_fails, meet_next}
use Rattle.chess_attacks.proofs.attacks_on.some_unparalysed.Goals as goal

pub returns-then-not-paralysed : goal.returns-then-not-paralysed
returns-then-not-paralysed g c =
    one_fails _ _ _ _ _ c.loop-square.invariant c.in-Some.ensures.taken (sym c.paralysed.ensures ∙ c.if-not-paralysed.true)

pub loop-square-preserved : goal.loop-square-preserved
loop-square-preserved g c = meet_next _ _ _ _ _ c.loop-square.invariant c.in-Some.ensures.taken (sym c.paralysed.ensures ∙ c.if-not-paralysed.false)

pub returns : goal.returns
returns g c = none_fails _ _ _ _ c.loop-square.invariant c.in_default.ensures.none refl
