use Rattle.chess_rules.proofs.Chess.{arith, cases_eq, cases_lt, rules}
unfoldable use Rattle.chess_rules.specs.ties.Places.{promotion_at, triple_at}
use Rattle.chess_rules.proofs.Walks.{none-plain, plain_aimed}
use Rattle.chess_attacks.proofs.Bits.{off_zero}
use Rattle.chess_rules.proofs.listing_moves.move_test.next_of_piece.Goals as goal

pub returns-then-number-end-clause-first : goal.returns-then-number-end-clause-first
returns-then-number-end-clause-first g c = record {
  low = λ lt. search rules;
  high = omega arith;
  none = none-plain _ _ _ (g.met.S.MoveTest.idle g.R.Rules.rule c.args.board.now) _ _ _ _ _ _ c.requires.squares c.requires.no_pawn c.loop-to.invariant.none.holds
      c.in-Some.ensures.taken.first (omega (arith, c.from-number.ensures, c.index.ensures.value)) (omega (arith, c.in-Some.ensures.taken.small));
  meets = λ lt. search rules;
  inside = λ lt. search rules;
}

pub returns-then-meets-clause-first : goal.returns-then-meets-clause-first
unfolding triple_at promotion_at
returns-then-meets-clause-first g c = record {
  low = λ lt. search (rules, plain_aimed, cases_eq, cases_lt);
  high = search (rules, plain_aimed, cases_eq, cases_lt);
  none = none-plain _ _ _ (g.met.S.MoveTest.idle g.R.Rules.rule c.args.board.now) _ _ _ _ _ _ c.requires.squares c.requires.no_pawn c.loop-to.invariant.none.holds
      c.in-Some.ensures.taken.first (omega (arith, c.from-number.ensures, c.index.ensures.value)) (omega (arith, c.in-Some.ensures.taken.small));
  meets = λ lt. search (rules, plain_aimed, cases_eq, cases_lt);
  inside = λ lt. search (rules, plain_aimed, cases_eq, cases_lt);
}

pub returns-clause-first : goal.returns-clause-first
returns-clause-first g c = record {
  low = λ lt. search rules;
  high = omega arith;
  none = none-plain _ _ _ (g.met.S.MoveTest.idle g.R.Rules.rule c.args.board.now) _ _ _ _ 64 _ c.requires.squares c.requires.no_pawn c.loop-to.invariant.none.holds
      (λ t lt. rw c.in_default.ensures.none (off_zero t)) (omega arith) (omega arith);
  meets = λ lt. search rules;
  inside = λ lt. search rules;
}
