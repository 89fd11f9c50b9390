use Rattle.chess_attacks.proofs.Chess.{Bool, EastNorthEast, EastSouthEast, Nightrider, NorthNorthEast, NorthNorthWest, SouthSouthEast, SouthSouthWest, WestNorthWest, WestSouthWest, both_lists, flat_steps, four, is_lined, is_man, man_on, steep_steps, step_of, ℕ}
use Rattle.chess_attacks.proofs.rays.Lined.{man_test}
use Rattle.chess_attacks.proofs.lines.knight_lines_with.Goals as goal

pub returns : goal.returns
returns c = λ men e squares.
    let test : ℕ → Bool = λ q. is_man (man_on men q) e Nightrider in
    let held = man_test men e Nightrider c.args.squares squares in
    both_lists (is_lined men e Nightrider c.args.from) steep_steps flat_steps _ _
    (four (is_lined men e Nightrider c.args.from) (step_of NorthNorthEast) (step_of SouthSouthEast) (step_of NorthNorthWest) (step_of SouthSouthWest)
    c.line_with.result c.line_with-2.result c.line_with-3.result c.line_with-4.result
    (c.line_with.ensures test held) (c.line_with-2.ensures test held) (c.line_with-3.ensures test held) (c.line_with-4.ensures test held))
    (four (is_lined men e Nightrider c.args.from) (step_of EastNorthEast) (step_of EastSouthEast) (step_of WestNorthWest) (step_of WestSouthWest)
    c.line_with-5.result c.line_with-6.result c.line_with-7.result c.line_with-8.result
    (c.line_with-5.ensures test held) (c.line_with-6.ensures test held) (c.line_with-7.ensures test held) (c.line_with-8.ensures test held))
