use Rattle.pop_text.proofs.Basics.{arith, sym, ◌∙◌}
use Rattle.pop_text.proofs.Using.{all_then, all_seen, calls_then, still_stuck}
use Rattle.pop_text.proofs.scanner.Scanner.skip_gap.Goals as goal

pub loop-byte-preserved : goal.loop-byte-preserved
loop-byte-preserved g c =
    let i = c.loop-byte.invariant in
    record {
      uses = all_then (all_seen i.uses c.peek.ensures.uses) (c.skip_part.ensures.uses (g.S.Source.remaining c.peek.new.source));
      stuck = λ fault at. let bad = (c.peek.ensures.stuck fault (still_stuck c.args.self.now c.loop-byte.self fault (i.stuck fault at) at)).0 in
          let read = c.in-Ok-Some.is in cc;
      calls_source = rw c.skip_part.ensures.end (calls_then i.calls_source c.peek.ensures.calls_source);
    }

pub loop-byte-smaller : goal.loop-byte-smaller
loop-byte-smaller g c =
    let at = rw c.in-Ok-Some.field-0-is at c.in-Ok-Some.ensures.at in
    let some = c.skip_part.ensures.some c.in-Ok-Some.byte at.0 at.1 (sym c.in_gap.ensures ∙ c.if-in_gap.true) at.2 in
    omega (arith, some, c.skip_part.ensures.within, c.peek.ensures.uses.used)

pub returns-in_default-clause-uses : goal.returns-in_default-clause-uses
returns-in_default-clause-uses g c = all_seen c.loop-byte.invariant.uses c.peek.ensures.uses

pub returns-in_default-2-clause-uses : goal.returns-in_default-2-clause-uses
returns-in_default-2-clause-uses g c = all_seen c.loop-byte.invariant.uses c.peek.ensures.uses

pub returns-in_default-3-clause-uses : goal.returns-in_default-3-clause-uses
returns-in_default-3-clause-uses g c = all_seen c.loop-byte.invariant.uses c.peek.ensures.uses
