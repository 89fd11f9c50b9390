use Rattle.chess_rules.proofs.Chess.{arith, sym, ◌∙◌}
use Rattle.chess_attacks.proofs.Bits.{off_zero}
use Rattle.chess_rules.proofs.listing_moves.counting.are_surely_legal.Goals as goal

pub returns-then-squares-eq0 : goal.returns-then-squares-eq0
returns-then-squares-eq0 g c e = record {
  man = _;
  here = sym c.man_at.ensures ∙ c.in-Some.is;
  unpromoted = λ t low on. grind (arith, off_zero t);
  to = λ t low on. grind (arith, off_zero t);
}
