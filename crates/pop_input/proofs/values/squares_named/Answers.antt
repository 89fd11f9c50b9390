use Rattle.pop_input.proofs.Words.{ap, arith, drop, length, squares_from, sym, ◌+◌, ◌<◌, ◌∙◌}
use Rattle.pop_input.proofs.Parsing.{with_front, odd_end, pair_step, front_more}
use Rattle.pop_input.proofs.values.squares_named.Goals as goal

pub returns-then-at-word : goal.returns-then-at-word
returns-then-at-word c = sym (c.loop-at.invariant.rest ∙ ap (with_front c.loop-at.squares.items)
    (odd_end c.args.word.now c.loop-at.at c.loop-at-test.true c.if-at-word.true))

pub loop-at-preserved : goal.loop-at-preserved
loop-at-preserved c =
    let rest = squares_from (drop (c.loop-at.at + 2) c.args.word.now) in
    let here : c.loop-at.at + 1 < length c.args.word.now = let lt = c.loop-at-test.true in let ne = c.if-at-word.false in omega (arith, lt, ne) in
    record {
      within = omega (arith, here);
      room = let was = c.loop-at.invariant.room in let len = c.push.ensures.len in omega (arith, was, len);
      rest = c.loop-at.invariant.rest
          ∙ ap (with_front c.loop-at.squares.items) (pair_step c.args.word.now c.loop-at.at c.in-Some.square here (sym c.square_by.ensures ∙ c.in-Some.is))
          ∙ front_more c.loop-at.squares.items c.in-Some.square rest ∙ ap (λ l. with_front l rest) (sym c.push.ensures.items);
    }
