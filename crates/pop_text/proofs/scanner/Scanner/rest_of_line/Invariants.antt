use Rattle.pop_text.proofs.Basics.{CallsSource, Err, ComesNext, ReadFault, is_in_line, limit, ◌-◌, ◌≡◌}
use Rattle.pop_text.proofs.Using.{SoFar}
use Rattle.pop_text.proofs.Lines.{kept_of_line}
use Rattle.pop_text.proofs.scanner.Scanner.rest_of_line.Given as goal

-- bytes of a line are used so far
abbrev pub invariant-loop-byte : goal.invariant-loop-byte
invariant-loop-byte g l = record {
  line : SoFar is_in_line kept_of_line l.fn.self l.self (g.S.Source.remaining l.fn.source) (g.S.Source.remaining l.source) l.kept.items;
  stuck : (fault : ReadFault) → ComesNext l.fn.self (Err fault) → l.self ≡ l.fn.self;
  calls_source : CallsSource l.fn.self.end l.self.end (g.S.Source.remaining l.fn.source) (g.S.Source.remaining l.source) (g.S.Source.failures l.fn.source)
      (g.S.Source.failures l.source);
}

-- each turn uses a byte, and the limit stops it
abbrev pub decreases-loop-byte : goal.decreases-loop-byte
decreases-loop-byte g l = limit - l.self.used
