use Rattle.pop_tries.proofs.Words.{after_well_formed, may_be_made, rules, sym, ◌∙◌}
use Rattle.pop_tries.specs.ties.FirstMoves.{is_try_after}
use Rattle.pop_tries.specs.ties.FewPlaces.{IsPlaceOf}
use Rattle.pop_tries.specs.ties.Searching.{contest_of}
use Rattle.pop_tries.proofs.Candidates.{known_at}
use Rattle.pop_tries.proofs.FewPlaces.{place_is}
use Rattle.pop_tries.proofs.Loops.{first_fails}
use Rattle.pop_tries.proofs.MoveSets.{not_held}
use Rattle.pop_tries.proofs.first_moves.play_next_try.Goals as goal

pub unplay-requires : goal.unplay-requires
unplay-requires g c =
    let next = rw c.loop-by.invariant.0 at c.in-Some.ensures.next in
    let here = c.in-Some.ensures.unchanged ∙ c.loop-by.invariant.0 in
    record {
      before = c.args.desk.now.board;
      well_formed = c.requires.ready.well_formed;
      pseudo = may_be_made _ _ _ next.1;
      after = c.is_try_as_kept.ensures.rest.board ∙ (rw here at c.play-undo.ensures.after);
      undo = rw here at c.play-undo.ensures.undo;
    }

pub is_try_as_kept-requires : goal.is_try_as_kept-requires
is_try_as_kept-requires g c =
    let next = rw c.loop-by.invariant.0 at c.in-Some.ensures.next in
    let here = c.in-Some.ensures.unchanged ∙ c.loop-by.invariant.0 in
    let rule = g.R.Rules.rule in
    let p = c.args.desk.now.board in
    let contest = contest_of c.args.task.now in
    let led = rw here at c.play-undo.ensures.after in
    let on : IsPlaceOf c.number.result c.in-Some.by =
    place_is rule p c.in-Some.by c.number.result c.requires.ready.well_formed next.1 (c.number.ensures ∙ c.in-Some.ensures.place) in (
      search rules,
      (
        rw (c.contest-contest.ensures, led) (record {
          fits = c.requires.ready.fits;
          well_formed = after_well_formed rule p c.in-Some.by c.requires.ready.well_formed (may_be_made rule p c.in-Some.by next.1);
          room = search rules;
        }),
        (
          c.requires.few,
          rw (c.contest-contest.ensures, led) (known_at rule contest c.args.task.now.most p c.args.candidates.now.kept c.number.result c.in-Some.by c.kept_at-kept.result on
              c.requires.kept c.kept_at-kept.ensures),
        ),
      ),
    )

pub loop-by-preserved : goal.loop-by-preserved
loop-by-preserved g c =
    let next = rw c.loop-by.invariant.0 at c.in-Some.ensures.next in
    let p = c.args.desk.now.board in
    let test = is_try_after g.R.Rules.rule (contest_of c.args.task.now) c.args.task.now.most p in
    let fails = not_held g.R.Rules.rule p test c.args.candidates.now.set c.in-Some.by c.requires.held c.requires.ready.well_formed next.1
    (sym c.may_be.ensures ∙ c.if-may_be.false) in
    (search rules, search rules, search rules, first_fails test c.in-Some.by _ _ next.0 _ fails c.loop-by.invariant.3)
