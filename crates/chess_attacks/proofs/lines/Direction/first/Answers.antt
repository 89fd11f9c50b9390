use Rattle.chess_attacks.proofs.Basics.{arith, bit_at_set_same, w64}
use Rattle.chess_attacks.proofs.rays.Firsts.{has_bit}
use Rattle.chess_attacks.proofs.lines.Direction.first.Goals as goal

pub lowest-requires : goal.lowest-requires
lowest-requires c = has_bit _ 63 (bit_at_set_same w64 c.args.word 63 (omega arith))

pub highest-requires : goal.highest-requires
highest-requires c = has_bit _ 0 (bit_at_set_same w64 c.args.word 0 (omega arith))
