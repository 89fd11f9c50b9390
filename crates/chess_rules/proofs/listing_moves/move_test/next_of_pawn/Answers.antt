use Rattle.chess_rules.proofs.Chess.{and_right, arith, per_origin, rules, sym, ◌*◌, ◌∙◌, ◌≡◌}
use Rattle.chess_rules.proofs.Walks.{aimed_from, none-from, none-onward, triple_of}
use Rattle.chess_rules.proofs.listing_moves.move_test.next_of_pawn.Goals as goal

pub loop-at-init : goal.loop-at-init
loop-at-init g c = search (rules, none-from, and_right, g.met.S.MoveTest.idle)

pub meets-requires-clause-aimed : goal.meets-requires-clause-aimed
meets-requires-clause-aimed g c =
    let at : c.from-first.result * per_origin ≡ per_origin * c.args.from = omega (arith, c.from-first.ensures, c.index.ensures.value) in
    rw (c.loop-at.invariant.board, c.move_at.ensures, at)
    (aimed_from _ _ _ _ _ _ (omega arith) c.requires.squares (c.loop-at.invariant.named (omega arith)))

pub returns-then-meets-clause-first : goal.returns-then-meets-clause-first
returns-then-meets-clause-first g c =
    let at : c.from-first.result * per_origin ≡ per_origin * c.args.from = omega (arith, c.from-first.ensures, c.index.ensures.value) in
    let meets = rw (c.loop-at.invariant.board, c.move_at.ensures, at) at c.meets.ensures.answer in
    record {
      low = λ lt. c.loop-at.invariant.low;
      high = omega arith;
      none = c.loop-at.invariant.none;
      meets = λ lt. sym meets ∙ c.if-meets.true;
      inside = λ lt. rw (triple_of c.args.from c.loop-at.at (omega arith)) (c.loop-at.invariant.named (omega arith)).inside;
    }

pub loop-at-preserved : goal.loop-at-preserved
loop-at-preserved g c =
    let at : c.from-first.result * per_origin ≡ per_origin * c.args.from = omega (arith, c.from-first.ensures, c.index.ensures.value) in
    let fails = rw (c.loop-at.invariant.board, c.move_at.ensures, at) at c.meets.ensures.answer in
    let next = rw (c.meets.ensures.board, c.loop-at.invariant.board) at c.next_from-at-in-loop-at.ensures in
    let idle = g.met.S.MoveTest.idle g.R.Rules.rule c.args.board.now in
    record {
      board = c.meets.ensures.board ∙ c.loop-at.invariant.board;
      low = omega (arith, c.loop-at.invariant.low, next.low);
      high = next.high;
      named = next.named;
      none = none-onward _ _ _ (λ m h. and_right _ _ (idle m h)) _ _ _ _ _ next.high c.requires.squares c.loop-at.invariant.none
          (and_right _ _ (sym fails ∙ c.if-meets.false)) (search (rules, next.barren));
    }
