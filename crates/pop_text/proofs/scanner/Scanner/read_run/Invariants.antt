use Rattle.pop_text.proofs.Basics.{CallsSource, is_in_word, limit, ◌-◌}
use Rattle.pop_text.proofs.Using.{SoFar, kept_of_run}
use Rattle.pop_text.proofs.scanner.Scanner.read_run.Given as goal

-- bytes of a run are used so far
abbrev pub invariant-loop-byte : goal.invariant-loop-byte
invariant-loop-byte g l = record {
  run : SoFar is_in_word kept_of_run l.fn.self l.self (g.S.Source.remaining l.fn.source) (g.S.Source.remaining l.source) (l.word.items, l.fits);
  calls_source : CallsSource l.fn.self.end l.self.end (g.S.Source.remaining l.fn.source) (g.S.Source.remaining l.source) (g.S.Source.failures l.fn.source)
      (g.S.Source.failures l.source);
}

-- each turn uses a byte, and the limit stops it
abbrev pub decreases-loop-byte : goal.decreases-loop-byte
decreases-loop-byte g l = limit - l.self.used
