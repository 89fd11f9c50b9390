use Rattle.chess_rules.proofs.Chess.{arith, bit_at, find_first, rules, sym, ◌==◌, ◌∙◌}
use Rattle.chess_rules.proofs.StayingInCheck.{evasion_squares_all, evasion_squares_one}
use Rattle.chess_rules.proofs.legality.evasions.evasion_squares.Goals as goal

pub returns : goal.returns
returns g c =
    let first = find_first (λ s. bit_at c.args.checkers s == 1) 0 64 c.in-Some.checker (sym c.next_bit.ensures.value ∙ c.in-Some.is) in
    evasion_squares_one _ _ _ _ _ _ _ _ _ (search rules) (search rules) (search rules) c.requires (omega (arith, first.high)) first.here
    (search (c.only.ensures)) c.reach_as.ensures (search (c.reach_as-2.ensures))

pub returns-in_default : goal.returns-in_default
returns-in_default g c = search evasion_squares_all

pub returns-in_default-king_of : goal.returns-in_default-king_of
returns-in_default-king_of g c = search evasion_squares_all

pub returns-then-may_be_paralysed : goal.returns-then-may_be_paralysed
returns-then-may_be_paralysed g c = search evasion_squares_all

pub returns-then-has_fairy_lines_on : goal.returns-then-has_fairy_lines_on
returns-then-has_fairy_lines_on g c = search evasion_squares_all
