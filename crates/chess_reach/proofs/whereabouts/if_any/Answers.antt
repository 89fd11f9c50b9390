use Rattle.std.proofs.Common.{ap, sym, ◌==◌, ◌∙◌}
use Rattle.std.proofs.lemmas.Bool.{false≢true}
use Rattle.std.specs.Int.{bit_at}
use Rattle.chess_attacks.proofs.Bits.{off_zero}
use Rattle.chess_reach.proofs.whereabouts.if_any.Goals as goal

pub returns-then-squares-eq0 : goal.returns-then-squares-eq0
returns-then-squares-eq0 c s h on there = absurd (false≢true (sym (off_zero s) ∙ ap (λ w. bit_at w s == 1) (sym c.if-squares-eq0.true) ∙ on))
