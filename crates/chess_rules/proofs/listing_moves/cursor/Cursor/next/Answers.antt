use Rattle.chess_attacks.proofs.Basics.{arith, rules}
use Rattle.chess_rules.proofs.Places.{first_met-end, first_met-here, first_met-none, met_after-end, met_after-next, met_after-none, place_of_none, place_of_triple}
use Rattle.chess_rules.proofs.listing_moves.cursor.Cursor.next.Goals as goal

pub returns-then-number-lt-TRIPLES-clause-rest : goal.returns-then-number-lt-TRIPLES-clause-rest
returns-then-number-lt-TRIPLES-clause-rest g c = grind (arith, met_after-next)

pub returns-then-number-lt-TRIPLES-clause-first : goal.returns-then-number-lt-TRIPLES-clause-first
returns-then-number-lt-TRIPLES-clause-first g c =
    grind (arith, first_met-here, first_met-none (g.T.MoveTest.test g.R.Rules.rule c.args.board.now) c.args.self.now.place c.next_met-number.result)

pub returns-then-number-lt-TRIPLES-clause-place : goal.returns-then-number-lt-TRIPLES-clause-place
returns-then-number-lt-TRIPLES-clause-place g c = search (rules, place_of_triple)

pub returns-clause-first : goal.returns-clause-first
returns-clause-first g c = grind (arith, first_met-end, first_met-none)

pub returns-clause-place : goal.returns-clause-place
returns-clause-place g c = search (rules, place_of_none)

pub returns-clause-rest : goal.returns-clause-rest
returns-clause-rest g c = grind (arith, met_after-end, met_after-none)
