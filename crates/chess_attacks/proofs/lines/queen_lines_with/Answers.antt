use Rattle.chess_attacks.proofs.Chess.{Bool, East, Grasshopper, North, NorthEast, NorthWest, South, SouthEast, SouthWest, West, both_lists, diagonal_steps, four, is_lined, is_man, man_on, step_of, straight_steps, ℕ}
use Rattle.chess_attacks.proofs.rays.Lined.{man_test}
use Rattle.chess_attacks.proofs.lines.queen_lines_with.Goals as goal

pub returns : goal.returns
returns c = λ men e squares.
    let test : ℕ → Bool = λ q. is_man (man_on men q) e Grasshopper in
    let held = man_test men e Grasshopper c.args.squares squares in
    both_lists (is_lined men e Grasshopper c.args.from) straight_steps diagonal_steps _ _
    (four (is_lined men e Grasshopper c.args.from) (step_of East) (step_of West) (step_of North) (step_of South) c.line_with.result c.line_with-2.result
    c.line_with-3.result c.line_with-4.result
    (c.line_with.ensures test held) (c.line_with-2.ensures test held) (c.line_with-3.ensures test held) (c.line_with-4.ensures test held))
    (four (is_lined men e Grasshopper c.args.from) (step_of NorthEast) (step_of SouthEast) (step_of NorthWest) (step_of SouthWest) c.line_with-5.result
    c.line_with-6.result c.line_with-7.result c.line_with-8.result
    (c.line_with-5.ensures test held) (c.line_with-6.ensures test held) (c.line_with-7.ensures test held) (c.line_with-8.ensures test held))
