use Rattle.pop_parts.proofs.Words.{arith, nat_tests, rules}
use Rattle.pop_parts.proofs.Seeking as seeking
use Rattle.pop_parts.proofs.beginnings.seek_numbered.Goals as goal

pub returns-then-left-eq1 : goal.returns-then-left-eq1
returns-then-left-eq1 g c =
    let x = c.seek-found.ensures.seeks _ _ c.loop-board.invariant.seeking in search (rules, nat_tests, x)

pub loop-board-preserved-then-is_some : goal.loop-board-preserved-then-is_some
loop-board-preserved-then-is_some g c = seeking.numbered-next g.R.Rules.rule _ _ _ _ _ _ _ _ c.args.number c.loop-board.left _ _
    (search (rules, c.if-is_some.true, c.is_some.ensures)) (omega (arith, c.loop-board.invariant.some)) (search (rules, nat_tests, c.if-left-eq1.false))
    c.loop-board.invariant (c.seek-found.ensures.seeks _ _ c.loop-board.invariant.seeking)

pub loop-board-preserved : goal.loop-board-preserved
loop-board-preserved g c = let x = c.seek-found.ensures.seeks _ _ c.loop-board.invariant.seeking in search (rules, x)

pub returns : goal.returns
returns g c = record {
  found = seeking.numbered-none g.R.Rules.rule _ _ _ _ _ _ c.args.number c.loop-board.left
      (seeking.no-frames c.loop-board.frames.items (search (rules, nat_tests, c.loop-board-test.false, c.is_empty.ensures)))
      c.loop-board.invariant;
}
