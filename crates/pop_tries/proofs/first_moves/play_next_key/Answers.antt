use Rattle.pop_tries.proofs.Words.{may_be_made, position_after, rules, sym, true, ◌∙◌, ◌≡◌}
use Rattle.pop_tries.specs.declared.first_moves.Group.TheVariants.{Keys}
use Rattle.pop_tries.specs.ties.FewPlaces.{IsPlaceOf}
use Rattle.pop_tries.specs.ties.FirstMoves.{belongs, is_try_after}
use Rattle.pop_tries.specs.ties.Searching.{contest_of}
use Rattle.pop_tries.proofs.Candidates.{kept_on, key_refuting}
use Rattle.pop_tries.proofs.FewPlaces.{place_is}
use Rattle.pop_tries.proofs.Loops.{first_fails, first_of_all}
use Rattle.pop_tries.proofs.MoveSets.{held_on}
use Rattle.pop_tries.proofs.first_moves.play_next_key.Goals as goal

pub unplay-requires : goal.unplay-requires
unplay-requires g c =
    let next = rw c.loop-by.invariant.0.0 at c.in-Some.ensures.next in
    let here = c.in-Some.ensures.unchanged ∙ c.loop-by.invariant.0.0 in
    record {
      before = c.args.desk.now.board;
      well_formed = c.requires.ready.well_formed;
      pseudo = may_be_made _ _ _ next.1;
      after = c.is_key_or_noted.ensures.rest.board ∙ (rw here at c.play-undo.ensures.after);
      undo = rw here at c.play-undo.ensures.undo;
    }

pub loop-by-preserved : goal.loop-by-preserved
loop-by-preserved g c =
    let next = rw c.loop-by.invariant.0.0 at c.in-Some.ensures.next in
    let here = c.in-Some.ensures.unchanged ∙ c.loop-by.invariant.0.0 in
    let rule = g.R.Rules.rule in
    let p = c.args.desk.now.board in
    let most = c.args.task.now.most in
    let contest = contest_of c.args.task.now in
    let led = rw here at c.play-undo.ensures.after in
    let on : IsPlaceOf c.number.result c.in-Some.by =
    place_is rule p c.in-Some.by c.number.result c.requires.ready.well_formed next.1 (c.number.ensures ∙ c.in-Some.ensures.place) in
    let key = rw led at c.is_key_or_noted.ensures.key in (
      (
        c.unplay.ensures.before p c.requires.ready.well_formed (may_be_made _ _ _ next.1) (c.is_key_or_noted.ensures.rest.board ∙ led)
            (rw here at c.play-undo.ensures.undo),
        c.is_key_or_noted.ensures.rest.frames ∙ c.loop-by.invariant.0.1,
        rw c.loop-by.invariant.0.0 at c.in-Some.ensures.within,
        first_fails (λ m. belongs rule contest Keys (position_after rule p m)) c.in-Some.by _ _ next.0 _ (sym key ∙ c.if-is_key_or_noted.false) c.loop-by.invariant.0.3,
      ),
      rw c.keep.ensures.set (held_on rule p (is_try_after rule contest most p) c.loop-by.candidates.set c.is_key_or_noted.new.candidates _ _ c.in-Some.by next.0
          c.loop-by.invariant.1 (rw led at c.is_key_or_noted.ensures.noted) c.is_key_or_noted.ensures.kept),
      kept_on rule contest most p c.loop-by.candidates.kept c.keep.new.self.kept c.number.result c.in-Some.by c.is_key_or_noted.new.refuting on
          (rw led at c.is_key_or_noted.ensures.refuting) c.keep.ensures.kept c.loop-by.invariant.2,
    )

pub returns-then-is_key_or_noted-clause-next : goal.returns-then-is_key_or_noted-clause-next
returns-then-is_key_or_noted-clause-next g c =
    let next = rw c.loop-by.invariant.0.0 at c.in-Some.ensures.next in
    let rule = g.R.Rules.rule in
    let p = c.args.desk.now.board in
    let contest = contest_of c.args.task.now in
    let key : belongs rule contest Keys (position_after rule p c.in-Some.by) ≡ true = search rules in (
      first_of_all (λ m. belongs rule contest Keys (position_after rule p m)) c.in-Some.by _ _ next.0 _ key c.loop-by.invariant.0.3,
      search rules,
      search rules,
      next.1,
      key_refuting rule contest (position_after rule p c.in-Some.by) c.none.result key c.none.ensures,
    )

pub returns-then-is_key_or_noted-clause-noted : goal.returns-then-is_key_or_noted-clause-noted
returns-then-is_key_or_noted-clause-noted g c =
    let next = rw c.loop-by.invariant.0.0 at c.in-Some.ensures.next in
    let here = c.in-Some.ensures.unchanged ∙ c.loop-by.invariant.0.0 in
    let rule = g.R.Rules.rule in
    let p = c.args.desk.now.board in
    let led = rw here at c.play-undo.ensures.after in
    held_on rule p (is_try_after rule (contest_of c.args.task.now) c.args.task.now.most p) c.loop-by.candidates.set c.is_key_or_noted.new.candidates _ _ c.in-Some.by
    next.0 c.loop-by.invariant.1 (rw led at c.is_key_or_noted.ensures.noted) c.is_key_or_noted.ensures.kept
