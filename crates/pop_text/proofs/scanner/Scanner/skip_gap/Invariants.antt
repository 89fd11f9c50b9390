use Rattle.pop_text.proofs.Basics.{CallsSource, Err, ComesNext, ReadFault, UsesAll, is_gap, limit, ◌-◌, ◌≡◌}
use Rattle.pop_text.proofs.scanner.Scanner.skip_gap.Given as goal

-- only blanks and line ends are used so far
abbrev pub invariant-loop-byte : goal.invariant-loop-byte
invariant-loop-byte g l = record {
  uses : UsesAll is_gap l.fn.self l.self (g.S.Source.remaining l.fn.source) (g.S.Source.remaining l.source);
  stuck : (fault : ReadFault) → ComesNext l.fn.self (Err fault) → l.self ≡ l.fn.self;
  calls_source : CallsSource l.fn.self.end l.self.end (g.S.Source.remaining l.fn.source) (g.S.Source.remaining l.source) (g.S.Source.failures l.fn.source)
      (g.S.Source.failures l.source);
}

-- each turn uses a byte, and the limit stops it
abbrev pub decreases-loop-byte : goal.decreases-loop-byte
decreases-loop-byte g l = limit - l.self.used
