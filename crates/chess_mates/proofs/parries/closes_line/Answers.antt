use Rattle.chess_mates.proofs.Chess.{arith, bit_at, find_first, not-true, rules, word_has, ◌==◌}
use Rattle.chess_mates.proofs.parries.closes_line.Goals as goal

pub returns : goal.returns
returns c = λ shut.
    let first = find_first (λ s. bit_at c.args.comers s == 1) 0 64 c.in-Some.from (search rules) in
    record {
      from = c.in-Some.from;
      small = omega (arith, first.high);
      here = first.here;
      shut = λ l words. search (rules, word_has, shut, not-true, words, c.reach_over.ensures l);
    }
