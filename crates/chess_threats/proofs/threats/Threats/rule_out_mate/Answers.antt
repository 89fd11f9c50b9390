use Rattle.chess_threats.proofs.Chess.{eq-eqb, eqb-true, off_zero, rules, word_has}
use Rattle.chess_threats.proofs.threats.Threats.rule_out_mate.Goals as goal

pub returns-clause-is_decided : goal.returns-clause-is_decided
returns-clause-is_decided g c = λ none.
    c.risky_squares.ensures.risky.is_decided c.args.m c.requires.legal (search rules) (search (rules, word_has, eq-eqb, c.only.ensures))
    (search (rules, off_zero, eqb-true, none))
