use Rattle.std.proofs.Common.{ap, arith, false, inl, inr, length, rules, subst, sym, true, ◌<◌, ◌==◌, ◌∙◌, ◌≡◌, slice_index_or, slice_set}
use Rattle.std.proofs.lemmas.Bool.{cases_Bool, false≢true}
use Rattle.std.proofs.lemmas.List.{length-set}
use Rattle.std.specs.Int.{bit_at}
use Rattle.chess_reach.proofs.Holding.{block_paid, block_spare, fewer_held}
use Rattle.chess_reach.proofs.Trying.{blocker_there, found_at, held_there, in_post, kept_in, narrowed_post, none_next, on_board, set_again, within_moves}
use Rattle.chess_reach.specs.ties.Guards.{guard_at, unused}
use Rattle.chess_reach.specs.ties.Hold.{Holds, end_at}
use Rattle.chess_reach.specs.ties.Whereabouts.{has}
use Rattle.chess_reach.proofs.hold.+can_hold.Goals.{in-Some-kept+else-can_hold+in-Some-off, in_default-kept}
use Rattle.chess_reach.proofs.hold.+can_hold.Goals as goal

pub returns-in_default-off : goal.returns-in_default-off
returns-in_default-off t c men ends holds =
    let q = c.args.quest.now in
    let i = c.loop-i.i in
    let left = c.loop-i.narrowed_posts in
    let h = (c.loop-i.invariant.kept men ends holds).0 in
    let lt = c.loop-i-test.true in
    let room : i < length left = omega (arith, c.loop-i.invariant.size, c.requires, lt) in
    let g = slice_index_or q.guards i c.index-quest-i.result in
    let is : guard_at q.guards i ≡ g = found_at q.guards i unused c.index-quest-i.result (search rules) in
    let e = end_at q ends i in
    absurd (elim (cases_Bool (has g.kind e.kind e.square c.holding-guarding.result)) [
      | inl on ↦ false≢true (sym c.if-can_hold.false ∙ c.can_hold.ensures men ends
          (fewer_held q men ends _ _ _ _ _ (narrowed_post q men ends left _ _ _ i g is lt h c.in-Some-kept.kept room
          (kept_in q men ends left _ _ _ i g is lt h c.within.result c.in-Some-kept.kept c.in-Some-kept.ensures.kept
          (c.within.ensures g.kind e.kind e.square (in_post q men ends left _ _ _ i g is lt h) on)) c.in-Some-kept.ensures.within.0) c.without-rest.ensures.others))
      | inr off ↦ within_moves q men ends left _ _ _ i g is lt h c.without.result c.in_default-off.ensures.kept
          (c.without.ensures g.kind e.kind e.square (on_board q men ends left _ _ _ i g is lt h) (in_post q men ends left _ _ _ i g is lt h) off)
    ])

pub loop-i-preserved : goal.loop-i-preserved
loop-i-preserved t c =
    let q = c.args.quest.now in
    let i = c.loop-i.i in
    let left = c.loop-i.narrowed_posts in
    let lt = c.loop-i-test.true in
    let room : i < length left = omega (arith, c.loop-i.invariant.size, c.requires, lt) in
    let g = slice_index_or q.guards i c.index-quest-i.result in
    let is : guard_at q.guards i ≡ g = found_at q.guards i unused c.index-quest-i.result (search rules) in
    elim c.match-kept.branch [
      | in-Some-kept+else-can_hold+in-Some-off w ↦ record {
        size = ap length w.narrowed_posts-is ∙ length-set _ i w.in-Some-off.off ∙ length-set left i w.in-Some-kept.kept ∙ c.loop-i.invariant.size;
        kept = λ men ends holds.
            let before = c.loop-i.invariant.kept men ends holds in
            let h = before.0 in
            let e = end_at q ends i in
            let none : has g.kind e.kind e.square c.holding-guarding.result ≡ false = elim (cases_Bool (has g.kind e.kind e.square c.holding-guarding.result)) [
              | inr off ↦ off
              | inl on ↦ absurd (false≢true (sym w.if-can_hold.false ∙ w.can_hold.ensures men ends
                  (fewer_held q men ends _ _ _ _ _ (narrowed_post q men ends left _ _ _ i g is lt h w.in-Some-kept.kept room
                  (kept_in q men ends left _ _ _ i g is lt h c.within.result w.in-Some-kept.kept w.in-Some-kept.ensures.kept
                  (c.within.ensures g.kind e.kind e.square (in_post q men ends left _ _ _ i g is lt h) on)) w.in-Some-kept.ensures.within.0)
                  c.without-rest.ensures.others)))
            ] in
            let after = narrowed_post q men ends left _ _ _ i g is lt h w.in-Some-off.off room
            (kept_in q men ends left _ _ _ i g is lt h w.without.result w.in-Some-off.off w.in-Some-off.ensures.kept
            (w.without.ensures g.kind e.kind e.square (on_board q men ends left _ _ _ i g is lt h) (in_post q men ends left _ _ _ i g is lt h) none))
            w.in-Some-off.ensures.within.0 in (
              subst (λ x. Holds q men x c.args.unheld c.match-kept.spare c.args.theirs ends) (sym (w.narrowed_posts-is ∙ set_again left i w.in-Some-kept.kept w.in-Some-off.off))
                  (subst (λ n. Holds q men (slice_set left i w.in-Some-off.off) c.args.unheld n c.args.theirs ends) (sym w.spare-is) after),
              none_next q ends c.in-Some.square i before.1
                  (λ does. false≢true (sym none ∙ held_there q men ends left _ _ _ i g is lt h c.in-Some.square c.holding-guarding.result c.holding-guarding.ensures.guarded c.holding-guarding.ensures.defended does)),
            );
      }
      | in_default-kept w ↦ record {
        size = ap length w.narrowed_posts-is ∙ c.loop-i.invariant.size;
        kept = λ men ends holds.
            let before = c.loop-i.invariant.kept men ends holds in
            let h = before.0 in
            let e = end_at q ends i in (
              subst (λ x. Holds q men x c.args.unheld c.match-kept.spare c.args.theirs ends) (sym w.narrowed_posts-is)
                  (subst (λ n. Holds q men left c.args.unheld n c.args.theirs ends) (sym w.spare-is) h),
              none_next q ends c.in-Some.square i before.1
                  (λ does. within_moves q men ends left _ _ _ i g is lt h c.within.result w.in_default-kept.ensures.kept
                  (c.within.ensures g.kind e.kind e.square (in_post q men ends left _ _ _ i g is lt h)
                  (held_there q men ends left _ _ _ i g is lt h c.in-Some.square c.holding-guarding.result c.holding-guarding.ensures.guarded c.holding-guarding.ensures.defended does))),
            );
      }
    ]

pub returns-in_default-block_price : goal.returns-in_default-block_price
returns-in_default-block_price t c men ends holds =
    let q = c.args.quest.now in
    let z = c.in-Some.square in
    let last = c.loop-i.invariant.kept men ends holds in
    let (s, small, blocker, there, stays) = blocker_there q men ends c.loop-i.narrowed_posts _ _ _ z last.0 c.in-Some.ensures.0 c.in-Some.ensures.1
    (λ m lt. last.1 m (omega (arith, lt, c.loop-i-test.false))) in
    absurd (c.in_default-block_price.ensures.fewest (ends s).moves
    (block_spare q men ends c.loop-i.narrowed_posts _ _ _ s last.0 small blocker stays (ap (λ x. bit_at c.args.unheld x == 1) there ∙ c.in-Some.ensures.1)) (last.0.few s small blocker)
    (subst (λ x. (bit_at (slice_index_or q.blockable (ends s).moves 0) x == 1) ≡ true) there (last.0.blockers s small blocker)))

pub returns : goal.returns
returns t c men ends holds =
    let q = c.args.quest.now in
    let z = c.in-Some.square in
    let last = c.loop-i.invariant.kept men ends holds in
    let (s, small, blocker, there, stays) = blocker_there q men ends c.loop-i.narrowed_posts _ _ _ z last.0 c.in-Some.ensures.0 c.in-Some.ensures.1
    (λ m lt. last.1 m (omega (arith, lt, c.loop-i-test.false))) in
    c.can_hold-2.ensures men ends (block_paid q men ends c.loop-i.narrowed_posts c.args.unheld c.without-rest.result c.loop-i.spare c.args.theirs z s
    c.in-Some-block_price.price last.0 c.in-Some.ensures.1 c.without-rest.ensures.gone c.without-rest.ensures.others small blocker there stays
    (c.in-Some-block_price.ensures.fewest (ends s).moves
    (block_spare q men ends c.loop-i.narrowed_posts _ _ _ s last.0 small blocker stays (ap (λ x. bit_at c.args.unheld x == 1) there ∙ c.in-Some.ensures.1)) (last.0.few s small blocker)
    (subst (λ x. (bit_at (slice_index_or q.blockable (ends s).moves 0) x == 1) ≡ true) there (last.0.blockers s small blocker))))
