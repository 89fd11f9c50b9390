use Rattle.fen.proofs.Basics.{◌-◌}
use Rattle.fen.specs.ties.Reading.{IsReadTo}
use Rattle.fen.proofs.men.read_men.Given as goal

-- the squares so far are read
abbrev pub invariant-loop-number : goal.invariant-loop-number
invariant-loop-number l = IsReadTo l.fn.text (64 - l.number) l.diagram.men l.empty l.left
