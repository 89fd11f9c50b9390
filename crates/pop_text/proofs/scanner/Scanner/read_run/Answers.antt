use Rattle.pop_text.proofs.Basics.{Uses, ap, arith, inl, inr, is_in_word, not, subst, sym, true, ◌++◌, ◌∙◌, ◌≡◌}
use Rattle.std.proofs.lemmas.Result.{err_from_is_err_and}
use Rattle.pop_text.proofs.Using.{calls_none, calls_then, kept_of_run, more_so_far, none_so_far, run_more, run_over, seen_so_far}
use Rattle.pop_text.proofs.scanner.Scanner.read_run.Goals as goal

pub loop-byte-init : goal.loop-byte-init
loop-byte-init g c = record {
  run = rw c.requires.empty (none_so_far is_in_word kept_of_run c.args.self.now (g.S.Source.remaining c.args.source.now));
  calls_source = calls_none c.args.self.now.end (g.S.Source.remaining c.args.source.now) (g.S.Source.failures c.args.source.now);
}

pub loop-byte-preserved : goal.loop-byte-preserved
loop-byte-preserved g c =
    let i = c.loop-byte.invariant in
    let now = g.S.Source.remaining c.peek.new.source in
    let part = c.run_part-part.ensures in
    let bytes = c.run_part-part.result.now in
    let here = rw c.in-Some.is at c.in_ok-byte.ensures.at in
    let out : is_in_word c.in-Some.byte ≡ true = ap not (sym c.in_gap.ensures ∙ c.if-not-in_gap.true) in
    let some = part.some c.in-Some.byte here.0 here.1 out here.2 in
    let kept = ap (λ k. kept_of_run (k ++ bytes)) (ap (λ k. k.0) i.run.is) ∙ run_more i.run.used.bytes bytes some in
    record {
      run = more_so_far bytes _ i.run c.peek.ensures.uses part.all
          (subst (λ b. Uses c.peek.new.self c.advance.new.self now now b) part.front (c.advance.ensures.uses now))
          (rw (c.extend_word-fits.ensures.kept, c.extend_word-fits.ensures.fits) kept);
      calls_source = rw c.advance.ensures.end (calls_then i.calls_source c.peek.ensures.calls_source);
    }

pub loop-byte-smaller : goal.loop-byte-smaller
loop-byte-smaller g c =
    let here = rw c.in-Some.is at c.in_ok-byte.ensures.at in
    let some = c.run_part-part.ensures.some c.in-Some.byte here.0 here.1 (ap not (sym c.in_gap.ensures ∙ c.if-not-in_gap.true)) here.2 in
    omega (arith, some, c.run_part-part.ensures.room, c.advance.ensures.used, c.peek.ensures.uses.used)

pub returns-in_err-byte-clause-run : goal.returns-in_err-byte-clause-run
returns-in_err-byte-clause-run g c =
    let p = err_from_is_err_and c.from_residual.result c.from_residual.ensures.1 in
    let q = (seen_so_far c.loop-byte.invariant.run c.in_err-byte.ensures.uses).used in
    rw (p.1, p.2) (q.bytes, record { solid = q.all; uses = q.uses }, c.in_err-byte.ensures.at)

pub returns-in_default-clause-run : goal.returns-in_default-clause-run
returns-in_default-clause-run g c =
    let here = rw c.in-Some.is at c.in_ok-byte.ensures.at in
    run_over c.loop-byte.fits (seen_so_far c.loop-byte.invariant.run c.peek.ensures.uses)
    (inl (c.in-Some.byte, here.0, here.1, sym c.in_gap.ensures ∙ c.if-not-in_gap.false, here.2))

pub returns-in_default-2-clause-run : goal.returns-in_default-2-clause-run
returns-in_default-2-clause-run g c = run_over c.loop-byte.fits (seen_so_far c.loop-byte.invariant.run c.peek.ensures.uses)
    (inr (rw c.in_default.is at c.in_ok-byte.ensures.at))
