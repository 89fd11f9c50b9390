use Rattle.chess_rules.proofs.Targeting.{every_square_on}
use Rattle.chess_threats.proofs.Chess.{Some, arith, bit_at, cases_eq, eq-eqb, false≢true, find_first, inl, inr, is_square, sym, word_has, ◌+◌, ◌-◌, ◌==◌, ◌∙◌}
use Rattle.chess_threats.proofs.risk.critical_with.Goals as goal

pub returns-then-contains : goal.returns-then-contains
returns-then-contains c = record {
  left = λ b small off there. absurd (false≢true (sym off ∙ word_has (λ q. is_square (Some c.args.to) q) _ b c.only.ensures small
      ∙ eq-eqb c.args.to b (sym (there (sym c.contains.ensures ∙ c.if-contains.true)))));
}

pub returns-else-contains : goal.returns-else-contains
returns-else-contains c = record { left = λ b small off there. absurd (false≢true (sym off ∙ every_square_on b small)) }

pub returns-in_default-next_bit : goal.returns-in_default-next_bit
returns-in_default-next_bit c =
    let remaining = c.left_squares-remaining in
    let f = c.in-Some.first in
    let first = find_first (λ s. bit_at remaining.result s == 1) 0 64 f (sym c.next_bit.ensures.value ∙ c.in-Some.is) in
    record {
      left = λ b small off there. (
        f,
        remaining.ensures f (omega (arith, first.high)) first.here,
        λ e. false≢true (sym off ∙ word_has (λ q. is_square (Some f) q) _ b c.only-in_default-next_bit.ensures small ∙ eq-eqb f b e),
      );
    }

pub returns : goal.returns
returns c =
    let remaining = c.left_squares-remaining in
    let f = c.in-Some.first in
    let g = c.in-Some-next_bit._second in
    let first = find_first (λ s. bit_at remaining.result s == 1) 0 64 f (sym c.next_bit.ensures.value ∙ c.in-Some.is) in
    let second = find_first (λ s. bit_at remaining.result s == 1) (f + 1) (64 - (f + 1)) g
    (rw c.index.ensures.value at (sym c.next_bit-2.ensures.value ∙ c.in-Some-next_bit.is)) in
    record {
      left = λ b small off there. elim (cases_eq f b) [
        | inl e ↦ (g, remaining.ensures g (omega (arith, second.high, second.low, first.high)) second.here, λ same. omega (arith, second.low, e, same))
        | inr ne ↦ (f, remaining.ensures f (omega (arith, first.high)) first.here, ne)
      ];
    }
