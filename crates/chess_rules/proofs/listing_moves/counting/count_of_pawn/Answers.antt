use Rattle.chess_rules.proofs.Chess.{arith, is_legal, per_origin, refl, sym, ◌*◌, ◌+◌, ◌∙◌, ◌≡◌}
use Rattle.chess_rules.proofs.listing_moves.Counts.{count_barren, count_here, few_between, none_left}
use Rattle.chess_rules.proofs.Walks.{aimed_from}
use Rattle.chess_rules.proofs.listing_moves.counting.count_of_pawn.Goals as goal

pub is_legal-requires-clause-aimed : goal.is_legal-requires-clause-aimed
is_legal-requires-clause-aimed g c =
    let at : c.from-first.result * per_origin ≡ per_origin * c.args.from = omega (arith, c.from-first.ensures, c.index.ensures.value) in
    rw (c.loop-at.invariant.board, c.move_at-m.ensures, at)
    (aimed_from _ _ (is_legal g.R.Rules.rule c.args.board.now) _ _ _ (omega arith) c.requires.squares (c.loop-at.invariant.named (omega arith)))

pub loop-at-preserved : goal.loop-at-preserved
loop-at-preserved g c =
    let end = per_origin * c.args.from + c.args.end in
    let at : c.from-first.result * per_origin ≡ per_origin * c.args.from = omega (arith, c.from-first.ensures, c.index.ensures.value) in
    let answer = rw (c.loop-at.invariant.board, c.move_at-m.ensures, at) at c.is_legal.ensures.answer in
    let next = rw (c.is_legal.ensures.board, c.loop-at.invariant.board) at c.next_from-at-in-loop-at.ensures in
    let here = count_here _ _ _ _ (omega arith) c.requires.squares c.loop-at.at _ end c.is_legal.result (omega arith) refl (omega arith) (sym answer) in
    let barren = count_barren _ _ _ _ (omega arith) c.requires.squares (c.loop-at.at + 1) _ end next.low next.high next.barren in
    record {
      board = c.is_legal.ensures.board ∙ c.loop-at.invariant.board;
      high = next.high;
      named = next.named;
      all = omega (arith, here, barren);
    }

pub loop-at-init : goal.loop-at-init
loop-at-init g c = grind (arith, count_barren)

pub overflow_add-count : goal.overflow_add-count
overflow_add-count g c = grind (arith, few_between)

pub returns-clause-count : goal.returns-clause-count
returns-clause-count g c = grind (arith, none_left)
