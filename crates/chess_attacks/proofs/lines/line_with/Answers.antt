use Rattle.chess_attacks.proofs.Chess.{differs, refl, step_of}
use Rattle.chess_attacks.proofs.rays.Lined.{line_misses, line_meets}
use Rattle.chess_attacks.proofs.lines.line_with.Goals as goal

pub returns-then-ray-squares-eq0 : goal.returns-then-ray-squares-eq0
returns-then-ray-squares-eq0 c = λ test held.
    line_misses test c.args.from c.args.squares c.ray-ray.result (step_of c.args.direction) held c.ray-ray.ensures (rw c.if-ray-squares-eq0.true refl)

pub returns : goal.returns
returns c = λ test held.
    line_meets test c.args.from c.args.squares c.ray-ray.result (step_of c.args.direction) held c.ray-ray.ensures (differs _ 0 c.if-ray-squares-eq0.false)
