use Rattle.chess_attacks.proofs.Chess.{and_le_l, arith, from_on, next_low, next_none, next_some, rules, sym, ℕ, ◌%◌, ◌*◌, ◌-◌, ◌<◌, ◌^◌}
use Rattle.chess_attacks.proofs.words.next_bit.Goals as goal

fits : (word from : ℕ) → word < 2 ^ 64 → from_on word from < 2 ^ 64
fits word from h = omega (arith, and_le_l word ((2 ^ 64 - 1) * 2 ^ from % 2 ^ 64))

pub returns-then-rest-eq0-clause-value : goal.returns-then-rest-eq0-clause-value
returns-then-rest-eq0-clause-value c = sym (next_none c.args.word c.args.from (omega arith) c.if-rest-eq0.true)

pub returns-clause-value : goal.returns-clause-value
returns-clause-value c = rw c.lowest.ensures (sym (next_some c.args.word c.args.from (omega arith) (omega arith) (fits c.args.word c.args.from (omega arith))))

pub returns-clause-following : goal.returns-clause-following
returns-clause-following c = search (rules, fits, next_low)
