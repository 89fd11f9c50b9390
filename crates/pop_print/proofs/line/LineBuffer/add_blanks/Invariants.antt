use Rattle.std.proofs.Common.{◌≡◌, ◌++◌, replicate}
use Rattle.pop_print.proofs.line.LineBuffer.add_blanks.Given as goal

-- the blanks so far are added
abbrev pub invariant-loop-blank : goal.invariant-loop-blank
invariant-loop-blank g l = l.self ≡ l.fn.self ++ replicate l._blank 32
