use Rattle.pop_text.proofs.Basics.{Uses, ap, arith, inl, inr, not, subst, sym, without_trailing, ◌∙◌}
use Rattle.pop_text.proofs.Lines.{kept_all, kept_of_line}
use Rattle.pop_text.proofs.Left.{line_of, line_cut}
use Rattle.pop_text.proofs.Using.{calls_none, calls_then, more_so_far, none_so_far, line_ends, seen_so_far, still_stuck}
use Rattle.pop_text.proofs.scanner.Scanner.rest_of_line.Goals as goal

pub loop-byte-init : goal.loop-byte-init
loop-byte-init g c = grind (arith, none_so_far, kept_of_line, calls_none)

pub loop-byte-preserved : goal.loop-byte-preserved
loop-byte-preserved g c =
    let i = c.loop-byte.invariant in
    let now = g.S.Source.remaining c.peek.new.source in
    let part = c.line_part-part.ensures in
    let bytes = c.line_part-part.result.now in
    let new = c.advance-in-Ok-Some-2.new.self in
    record {
      line = rw c.extend_kept.ensures (more_so_far bytes _ i.line c.peek.ensures.uses part.all
          (subst (λ b. Uses c.peek.new.self new now now b) part.front (c.advance-in-Ok-Some-2.ensures.uses now))
          (rw i.line.is (kept_all i.line.used.bytes bytes)));
      stuck = λ fault at. let bad = (c.peek.ensures.stuck fault (still_stuck c.args.self.now c.loop-byte.self fault (i.stuck fault at) at)).0 in
          let read = c.in-Ok-Some-2.is in cc;
      calls_source = rw c.advance-in-Ok-Some-2.ensures.end (calls_then i.calls_source c.peek.ensures.calls_source);
    }

pub loop-byte-smaller : goal.loop-byte-smaller
loop-byte-smaller g c =
    let at = rw c.in-Ok-Some.field-0-is at c.in-Ok-Some.ensures.at in
    let some = c.line_part-part.ensures.some c.in-Ok-Some.byte at.0 at.1 (ap not (sym c.ends_line.ensures ∙ c.if-ends_line.false)) at.2 in
    omega (arith, some, c.line_part-part.ensures.room, c.advance-in-Ok-Some-2.ensures.used, c.peek.ensures.uses.used)

pub returns-in-Ok-Some-clause-used : goal.returns-in-Ok-Some-clause-used
returns-in-Ok-Some-clause-used g c =
    let line = seen_so_far c.loop-byte.invariant.line c.peek.ensures.uses in
    let at = rw c.in-Ok-Some.field-0-is at c.in-Ok-Some.ensures.at in
    let uses = line_ends c.in-Ok-Some.byte at.0 line.used.uses at.1 (sym c.ends_line.ensures ∙ c.if-ends_line.true) (c.advance.ensures.uses _) in
    (line.used.bytes, line.used.all, c.of_line.ensures ∙ ap without_trailing line.is, inl uses)

pub returns-in-Ok-Some-clause-text : goal.returns-in-Ok-Some-clause-text
returns-in-Ok-Some-clause-text g c keyword =
    let at = rw c.in-Ok-Some.field-0-is at c.in-Ok-Some.ensures.at in
    line_of _ _ _ _ keyword _ (returns-in-Ok-Some-clause-used g c) (omega (arith, c.advance.ensures.used, at.2))

pub returns-in-Ok-None-clause-used : goal.returns-in-Ok-None-clause-used
returns-in-Ok-None-clause-used g c =
    let line = seen_so_far c.loop-byte.invariant.line c.peek.ensures.uses in
    let at = rw c.in-Ok-None.field-0-is at c.in-Ok-None.ensures.at in
    (line.used.bytes, line.used.all, c.of_line-in-Ok-None.ensures ∙ ap without_trailing line.is, inr (line.used.uses, at.0, at.1))

pub returns-in-Ok-None-clause-text : goal.returns-in-Ok-None-clause-text
returns-in-Ok-None-clause-text g c keyword = line_of _ _ _ _ keyword _ (returns-in-Ok-None-clause-used g c)
    (rw c.in-Ok-None.field-0-is at c.in-Ok-None.ensures.at).2

pub returns-in-Err-clause-used : goal.returns-in-Err-clause-used
returns-in-Err-clause-used g c = (seen_so_far c.loop-byte.invariant.line c.peek.ensures.uses).used

pub returns-in-Err-clause-text : goal.returns-in-Err-clause-text
returns-in-Err-clause-text g c keyword = line_cut keyword c.in-Err.fault (returns-in-Err-clause-used g c) c.in-Err.ensures.at
