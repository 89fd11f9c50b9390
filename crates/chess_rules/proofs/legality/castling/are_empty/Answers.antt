use Rattle.chess_rules.proofs.Chess.{all_range_false, all_range_true, arith, is_some, is_vacant, man_on, refl, rules, sym, true, ◌-◌, ◌≡◌}
use Rattle.chess_rules.proofs.legality.castling.are_empty.Goals as goal

pub returns-then-is_some : goal.returns-then-is_some
returns-then-is_some c =
    let here : is_some (man_on c.args.board.now.men c.loop-number.number) ≡ true = cc in
    sym (all_range_false (is_vacant c.args.board.now.men) c.args.low (c.args.high - c.args.low) c.loop-number.number (omega arith) (omega arith) (rw here refl))

pub returns : goal.returns
returns c = search (rules, all_range_true)
