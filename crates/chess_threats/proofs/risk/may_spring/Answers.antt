use Rattle.chess_threats.proofs.Chess.{arith}
use Rattle.chess_threats.proofs.Springboards.{no_other}
use Rattle.chess_threats.proofs.risk.may_spring.Goals as goal

pub returns-else-others-ne0 : goal.returns-else-others-ne0
returns-else-others-ne0 c = λ no t small on q z i ne hop.
    absurd (no_other c.args.king_attack.now.men c.args.from c.only.result c.only.ensures (omega arith) c.if-others-ne0.false q z i ne hop)
