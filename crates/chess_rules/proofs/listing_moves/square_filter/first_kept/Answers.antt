use Rattle.chess_rules.proofs.Chess.{and_left, arith, per_origin, refl, rules, ◌*◌, ◌∙◌, ◌≡◌}
use Rattle.chess_rules.proofs.listing_moves.Counts.{counted_all, counted_none, counted_on, counted_to, few_between}
use Rattle.chess_rules.proofs.Filtering.{wanted_origins}
use Rattle.chess_rules.proofs.Walks.{none-to, walk_begins, walk_on, walk_to}
use Rattle.chess_rules.proofs.listing_moves.square_filter.first_kept.Goals as goal

pub loop-from-init : goal.loop-from-init
loop-from-init g c =
    let own = wanted_origins _ _ (g.S.SquareFilter.test g.R.Rules.rule c.args.board.now) _ c.own_origins-origins.ensures in
    record { board = refl; same = refl; none = search (rules, walk_begins, own); skipped = search (rules, counted_none, walk_begins) }

pub returns-then-at-lt-PER_ORIGIN-clause-skipped : goal.returns-then-at-lt-PER_ORIGIN-clause-skipped
returns-then-at-lt-PER_ORIGIN-clause-skipped g c =
    let count = rw (c.next_of_man-at.ensures.board, c.loop-from.invariant.board) at c.count_origin.ensures.count in
    let all = counted_to _ _ _ _ _ _ _ _ _ c.loop-from.invariant.skipped c.in-Some.ensures.taken (omega (arith, c.from-first.ensures, c.index.ensures.value))
    c.saturating_sub-begin.ensures c.next_of_man-at.result (c.next_of_man-at.ensures.first.low c.if-at-lt-PER_ORIGIN.true) in
    omega (arith, count, all)

pub returns-then-at-lt-PER_ORIGIN-clause-none : goal.returns-then-at-lt-PER_ORIGIN-clause-none
returns-then-at-lt-PER_ORIGIN-clause-none g c =
    walk_to _ _ _ _ _ _ _ _ c.loop-from.invariant.none c.in-Some.ensures.taken (omega (arith, c.from-first.ensures, c.index.ensures.value))
    c.saturating_sub-begin.ensures
    (none-to _ _ _ _ _ _ _ _ c.next_of_man-at.ensures.first.high (rw c.loop-from.invariant.board at c.kept_candidates-kept.ensures.wanted)
    (λ m h. and_left _ _ h) (rw c.loop-from.invariant.board at c.next_of_man-at.ensures.first.none))

pub loop-from-preserved : goal.loop-from-preserved
loop-from-preserved g c =
    let count = rw (c.next_of_man-at.ensures.board, c.loop-from.invariant.board) at c.count_origin.ensures.count in
    let none = none-to _ _ _ _ _ _ _ _ c.next_of_man-at.ensures.first.high (rw c.loop-from.invariant.board at c.kept_candidates-kept.ensures.wanted)
    (λ m h. and_left _ _ h) (rw c.loop-from.invariant.board at c.next_of_man-at.ensures.first.none) in
    let all : c.next_of_man-at.result ≡ per_origin = omega (arith, c.next_of_man-at.ensures.first.high) in
    let first : c.from-first.result * per_origin ≡ per_origin * c.in-Some.from = omega (arith, c.from-first.ensures, c.index.ensures.value) in
    let left = walk_on _ _ _ _ _ _ _ _ c.loop-from.invariant.none c.in-Some.ensures.taken first c.saturating_sub-begin.ensures none all in
    let skipped = counted_on _ _ _ _ _ _ _ _ _ c.loop-from.invariant.skipped c.in-Some.ensures.taken first c.saturating_sub-begin.ensures _ (rw all at count) in
    record {
      board = c.count_origin.ensures.board ∙ c.next_of_man-at.ensures.board ∙ c.loop-from.invariant.board;
      same = c.kept_candidates-kept.ensures.same ∙ c.loop-from.invariant.same;
      none = search (rules, left);
      skipped = search (rules, skipped);
    }

pub returns-clause-skipped : goal.returns-clause-skipped
returns-clause-skipped g c = counted_all _ _ _ _ _ c.loop-from.invariant.skipped (c.in_default.ensures.none refl)

pub overflow_add-skipped : goal.overflow_add-skipped
overflow_add-skipped g c = grind (arith, few_between)
