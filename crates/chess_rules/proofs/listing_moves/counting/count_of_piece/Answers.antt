use Rattle.chess_rules.proofs.Chess.{arith, refl, rules, sym, ◌∙◌}
use Rattle.chess_rules.proofs.listing_moves.Counts.{counted_end, counted_past, few_between}
use Rattle.chess_attacks.proofs.Bits.{off_zero}
use Rattle.chess_rules.proofs.Walks.{plain_aimed}
use Rattle.chess_rules.proofs.listing_moves.counting.count_of_piece.Goals as goal

pub loop-to-init : goal.loop-to-init
loop-to-init g c = record {
  board = refl;
  counted = record { at = c.args.start; few = omega arith; left = search (rules, c.squares_from-rest.ensures); all = omega arith };
}

pub returns-then-from-end-clause-count : goal.returns-then-from-end-clause-count
returns-then-from-end-clause-count g c =
    counted_end _ _ _ _ (omega arith) c.requires.squares _ _ _ _ c.loop-to.invariant.counted c.requires.no_pawn _ c.in-Some.ensures.taken.first
    (omega (arith, c.in-Some.ensures.taken.small)) (omega (arith, c.from.ensures, c.index.ensures.value))

pub loop-to-preserved : goal.loop-to-preserved
loop-to-preserved g c =
    let answer = rw c.loop-to.invariant.board at c.is_legal-legal.ensures.answer in
    let past = counted_past _ _ _ _ (omega arith) c.requires.squares _ _ _ _ c.loop-to.invariant.counted c.requires.no_pawn _ _ _ c.in-Some.ensures.taken
    (omega (arith, c.from.ensures, c.index.ensures.value)) (sym answer) in
    record { board = c.is_legal-legal.ensures.board ∙ c.loop-to.invariant.board; counted = grind (arith, past) }

pub returns-clause-count : goal.returns-clause-count
returns-clause-count g c =
    counted_end _ _ _ _ (omega arith) c.requires.squares _ _ _ _ c.loop-to.invariant.counted c.requires.no_pawn 64
    (λ t lt. rw (c.in_default.ensures.none refl) (off_zero t)) (omega arith) (omega arith)

pub overflow_add-count : goal.overflow_add-count
overflow_add-count g c = grind (arith, few_between)

pub is_legal-legal-requires-clause-aimed : goal.is_legal-legal-requires-clause-aimed
is_legal-legal-requires-clause-aimed g c = grind (arith, plain_aimed)
