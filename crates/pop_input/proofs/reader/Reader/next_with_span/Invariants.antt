use Rattle.pop_input.proofs.Words.{CallsSource, Fault, Some, UsesSome, limit, ◌-◌, ◌≡◌}
use Rattle.pop_input.proofs.Items.{BlockSoFar}
use Rattle.pop_input.proofs.Ends.{block_of, is_first}
use Rattle.pop_input.specs.ties.Spans.{IsFaultyWord}
use Rattle.pop_input.proofs.reader.Reader.next_with_span.Given as goal

-- the tokens of the block so far are read, and the span is that of the first faulty word
abbrev pub invariant-loop-keyword : goal.invariant-loop-keyword
invariant-loop-keyword g l = record {
  block : BlockSoFar (is_first l.fn.self.next) l.fn.self.at l.self-inside.scanner (g.S.Source.remaining l.fn.source) (g.S.Source.remaining l.source) l.block;
  used : UsesSome l.fn.self.at l.self-inside.scanner (g.S.Source.remaining l.fn.source) (g.S.Source.remaining l.source);
  starts : l.fn.self.next ≡ block_of (is_first l.fn.self.next);
  calls_source : CallsSource l.fn.self.at.end l.self-inside.scanner.end (g.S.Source.remaining l.fn.source) (g.S.Source.remaining l.source)
      (g.S.Source.failures l.fn.source) (g.S.Source.failures l.source);
  spanned : (fault : Fault) → l.block.fault ≡ Some fault → IsFaultyWord (is_first l.fn.self.next) l.fn.self.at (g.S.Source.remaining l.fn.source) fault l.span;
}

-- each turn uses a byte, and the limit stops it
abbrev pub decreases-loop-keyword : goal.decreases-loop-keyword
decreases-loop-keyword g l = limit - l.self-inside.scanner.used
