use Rattle.chess_rules.proofs.Chess.{Move, ap, arith, cannot_expose, rules, sym, word_has, ◌∙◌}
use Rattle.chess_rules.proofs.Blocking.{cannot_expose_nobody, cannot_expose_to}
use Rattle.chess_rules.proofs.legality.blockers.cannot_expose.Goals as goal

pub returns-then-not-contains : goal.returns-then-not-contains
returns-then-not-contains g c =
    cannot_expose_to _ _ _ _ _ _ _ _ _ (sym c.man_at.ensures ∙ c.in-Some.is) c.requires (ap (λ (v : Move). v.from) c.m.view_is)
    (omega (arith, c.show_below_64.ensures)) c.contains.ensures c.if-not-contains.true c.stays_off_fairy_lines.ensures

pub returns-else-not-contains : goal.returns-else-not-contains
unfolding cannot_expose
returns-else-not-contains g c = grind (arith, word_has)

pub returns-in-None : goal.returns-in-None
returns-in-None g c = search (rules, cannot_expose_nobody)
