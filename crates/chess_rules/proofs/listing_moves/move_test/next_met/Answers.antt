use Rattle.chess_rules.proofs.Chess.{arith, rules, ◌∙◌}
use Rattle.chess_rules.proofs.Walks.{none-to, walk_begins, walk_on, walk_to}
use Rattle.chess_rules.proofs.listing_moves.move_test.next_met.Goals as goal

pub loop-from-init : goal.loop-from-init
loop-from-init g c = search (rules, walk_begins)

pub next_of_man-at-requires-clause-squares : goal.next_of_man-at-requires-clause-squares
next_of_man-at-requires-clause-squares g c = let are = c.cache_for.ensures.cache.are _ c.cache_for.ensures.origin in search rules

pub returns-then-at-lt-PER_ORIGIN-clause-none : goal.returns-then-at-lt-PER_ORIGIN-clause-none
returns-then-at-lt-PER_ORIGIN-clause-none g c =
    let cache = rw c.loop-from.invariant.board at c.cache_for.ensures.cache in
    walk_to _ _ _ _ _ _ _ _ c.loop-from.invariant.walked c.in-Some.ensures.taken (omega (arith, c.from-first.ensures, c.index.ensures.value))
    c.saturating_sub-begin.ensures
    (none-to _ _ _ _ _ _ _ _ (omega arith) (cache.are _ c.cache_for.ensures.origin) (λ m h. h) (rw c.loop-from.invariant.board at c.next_of_man-at.ensures.first.none))

pub loop-from-preserved : goal.loop-from-preserved
loop-from-preserved g c =
    let cache = rw c.loop-from.invariant.board at c.cache_for.ensures.cache in
    let past = walk_on _ _ _ _ _ _ _ _ c.loop-from.invariant.walked c.in-Some.ensures.taken (omega (arith, c.from-first.ensures, c.index.ensures.value))
    c.saturating_sub-begin.ensures
    (none-to _ _ _ _ _ _ _ _ (omega arith) (cache.are _ c.cache_for.ensures.origin) (λ m h. h) (rw c.loop-from.invariant.board at c.next_of_man-at.ensures.first.none))
    (omega (arith, c.next_of_man-at.ensures.first.high, c.min-limit.ensures)) in
    record { board = c.next_of_man-at.ensures.board ∙ c.loop-from.invariant.board; walked = search (rules, past); cache = cache }
