use Rattle.std.proofs.Common.{ap, arith, length, rules, subst, sym, ◌<◌, ◌∙◌, ◌≡◌, slice_index_or, slice_set}
use Rattle.std.proofs.lemmas.List.{length-set}
use Rattle.chess_reach.proofs.Planning.{apart_off}
use Rattle.chess_reach.proofs.Trying.{found_at, in_post, kept_in, narrowed_post, on_board, within_moves}
use Rattle.chess_reach.specs.ties.Guards.{guard_at, unused}
use Rattle.chess_reach.specs.ties.Hold.{Holds, end_at}
use Rattle.chess_reach.proofs.planned_squares.keep_apart.Goals.{then-is+in-Some, else-is}
use Rattle.chess_reach.proofs.planned_squares.keep_apart.Goals as goal

pub returns-in_default : goal.returns-in_default
returns-in_default c men ends w theirs holds apart =
    let q = c.args.quest.now in
    let i = c.loop-i.i in
    let left = c.loop-i.posts in
    let h = c.loop-i.invariant.kept men ends w theirs holds apart in
    let lt = c.loop-i-test.true in
    let g = slice_index_or q.guards i c.index-quest-i.result in
    let is : guard_at q.guards i ≡ g = found_at q.guards i unused c.index-quest-i.result (search rules) in
    let e = end_at q ends i in
    let small = on_board q men ends left _ _ _ i g is lt h in
    let none = apart_off q ends i c.king_leaps.result g apart is lt (sym c.is.ensures ∙ c.if-is.true) c.king_leaps.ensures c.show_below_64.ensures small in
    within_moves q men ends left _ _ _ i g is lt h c.without.result c.in_default.ensures.kept
    (c.without.ensures g.kind e.kind e.square small (in_post q men ends left _ _ _ i g is lt h) none)

pub loop-i-preserved : goal.loop-i-preserved
loop-i-preserved c =
    let q = c.args.quest.now in
    let i = c.loop-i.i in
    let left = c.loop-i.posts in
    let lt = c.loop-i-test.true in
    let room : i < length left = omega (arith, c.loop-i.invariant.size, c.requires.count, lt) in
    let g = slice_index_or q.guards i c.index-quest-i.result in
    let is : guard_at q.guards i ≡ g = found_at q.guards i unused c.index-quest-i.result (search rules) in
    elim c.if-is.branch [
      | then-is+in-Some v ↦ record {
        size = ap length v.posts-is ∙ length-set left i v.in-Some.off ∙ c.loop-i.invariant.size;
        kept = λ men ends w theirs holds apart.
            let h = c.loop-i.invariant.kept men ends w theirs holds apart in
            let e = end_at q ends i in
            let small = on_board q men ends left _ _ _ i g is lt h in
            let none = apart_off q ends i c.king_leaps.result g apart is lt (sym c.is.ensures ∙ v.if-is.true) c.king_leaps.ensures c.show_below_64.ensures small in
            let after = narrowed_post q men ends left _ _ _ i g is lt h v.in-Some.off room
            (kept_in q men ends left _ _ _ i g is lt h v.without.result v.in-Some.off v.in-Some.ensures.kept
            (v.without.ensures g.kind e.kind e.square small (in_post q men ends left _ _ _ i g is lt h) none)) v.in-Some.ensures.within.0 in
            subst (λ x. Holds q men x w c.if-is.spare theirs ends) (sym v.posts-is)
            (subst (λ n. Holds q men (slice_set left i v.in-Some.off) w n theirs ends) (sym v.spare-is) after);
      }
      | else-is v ↦ record {
        size = ap length v.posts-is ∙ c.loop-i.invariant.size;
        kept = λ men ends w theirs holds apart.
            subst (λ x. Holds q men x w c.if-is.spare theirs ends) (sym v.posts-is)
            (subst (λ n. Holds q men left w n theirs ends) (sym v.spare-is) (c.loop-i.invariant.kept men ends w theirs holds apart));
      }
    ]
