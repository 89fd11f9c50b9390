use Rattle.chess_rules.proofs.Chess.{sym, ◌∙◌}
use Rattle.chess_rules.proofs.Arrivals.{arrivals_some}
use Rattle.chess_rules.proofs.legality.targets.arrivals.Goals as goal

pub returns : goal.returns
returns g c =
    let mine = rw c.turn.ensures at (sym c.is.ensures ∙ c.if-not-is.false) in
    arrivals_some _ _ _ _ _ _ (sym c.man_at.ensures ∙ c.in-Some.is) mine (sym c.paralysed.ensures ∙ c.if-paralysed.false)
    (rw c.turn-2.ensures at c.free_squares.ensures) c.arrivals_of.ensures
