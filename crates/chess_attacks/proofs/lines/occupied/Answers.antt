use Rattle.chess_attacks.proofs.Chess.{arith, Black, List, Man, Option, White, bit_or, is_of_colour, is_some, man_on, rules, side_of, squares_either, squares_same, word, ◌||◌, ◌∙◌, ◌≡◌}
use Rattle.chess_attacks.proofs.lines.occupied.Goals as goal

of_either : (o : Option Man) → (is_of_colour o White || is_of_colour o Black) ≡ is_some o
of_either o = grind arith

joined : (men : List (Option Man)) → bit_or (side_of men White) (side_of men Black) ≡ word (λ s. is_some (man_on men s))
unfolding side_of
joined men = squares_either _ _ ∙ squares_same _ _ (λ s less. of_either (man_on men s))

pub returns : goal.returns
returns c = search (rules, joined)
