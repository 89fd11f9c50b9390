use Rattle.chess_rules.proofs.Chess.{arith, bit_at, find_first, per_arrival, rules, sym, ◌*◌, ◌==◌, ◌∙◌, ◌≡◌}
use Rattle.chess_rules.proofs.Targeting.{from-first, from-join, from-none, from-target, from-unpromoted, named_at, some_named, unnamed_at, nobody_moves}
use Rattle.chess_rules.proofs.listing_moves.triples.next_from.Goals as goal

pub returns-in_default-clause-barren : goal.returns-in_default-clause-barren
returns-in_default-clause-barren c = search (rules, nobody_moves)

pub returns-then-at-first-clause-barren : goal.returns-then-at-first-clause-barren
returns-then-at-first-clause-barren c = search (rules, from-first, c.loop-to.invariant.barren)

pub returns-then-at-first-2-clause-barren : goal.returns-then-at-first-2-clause-barren
returns-then-at-first-2-clause-barren c = search (rules, find_first, from-target)

pub loop-to-preserved : goal.loop-to-preserved
loop-to-preserved c =
    let found = sym c.next_bit.ensures.value ∙ c.in-Some-next_bit.is in
    let at : c.from-first.result * per_arrival ≡ per_arrival * c.in-Some-next_bit.to = omega (arith, c.from-first.ensures, c.index.ensures.value) in
    record {
      low = omega (arith, c.loop-to.invariant.low, (find_first (λ s. bit_at c.args.word s == 1) _ _ _ found).low);
      high = omega (arith, c.from-first.ensures, c.index.ensures.small);
      barren =
          rw at (from-join _ _ _ _ _ _ c.loop-to.invariant.barren (from-unpromoted _ c.in-Some.man _ _ c.in-Some-next_bit.to _
          (sym c.man_at.ensures ∙ c.in-Some.is) (sym c.is_promoting.ensures ∙ c.if-is_promoting.false) (omega arith)));
    }

pub returns-clause-barren : goal.returns-clause-barren
returns-clause-barren c = search (rules, from-none)

pub returns-then-at-first-clause-named : goal.returns-then-at-first-clause-named
returns-then-at-first-clause-named c lt = search (rules, find_first, named_at, some_named)

pub returns-else-at-first-clause-named : goal.returns-else-at-first-clause-named
returns-else-at-first-clause-named c lt = search (rules, find_first, named_at, some_named)

pub returns-then-at-first-2-clause-named : goal.returns-then-at-first-2-clause-named
returns-then-at-first-2-clause-named c lt =
    unnamed_at _ _ _ _ _ _ _ (sym c.man_at.ensures ∙ c.in-Some.is) (sym c.is_promoting.ensures ∙ c.if-is_promoting.false)
    (sym c.next_bit.ensures.value ∙ c.in-Some-next_bit.is) (omega (arith, c.from-first.ensures, c.index.ensures.value))
