use Rattle.chess_threats.proofs.Chess.{bit_and, bit_at, cases_Bool, eq-eqb, eqb-true, inl, inr, off_second, off_zero, rules, sym, ◌==◌, ◌∙◌}
use Rattle.chess_flights.proofs.Hurdles.{found_on}
use Rattle.chess_threats.proofs.lasting_flights.leaves_one_among.Goals as goal
use Rattle.chess_attacks.proofs.rays.Firsts.{has_bit, top_bit}

pub highest-last-requires : goal.highest-last-requires
highest-last-requires c =
    has_bit _ c.in-Some.first (search (rules, eqb-true, found_on c.args.squares 0 _ (sym c.next_bit.ensures.value ∙ c.in-Some.is)))

pub returns-then-taken-eq0 : goal.returns-then-taken-eq0
returns-then-taken-eq0 c = λ _ t small on.
    let free = off_second c.args.targets c.barring_squares.result t (search (rules, off_zero, eqb-true, c.if-taken-eq0.true)) on in
    (_, c.barring_squares.ensures _ t (found_on _ 0 _ (sym c.next_bit.ensures.value ∙ c.in-Some.is)).1 small free)

pub returns : goal.returns
returns c = λ yes t small on.
    let first = c.barring_squares in
    let last = c.barring_squares-2 in
    let taken = bit_and c.args.targets first.result in
    elim (cases_Bool (bit_at taken t == 1)) [
      | inl both ↦ elim (cases_Bool (bit_at (bit_and taken last.result) t == 1)) [
        | inl here ↦ c.leaves_one_each.ensures yes t small here
        | inr off ↦ (_, last.ensures _ t (search (rules, eq-eqb, top_bit, c.highest-last.ensures)) small (off_second taken _ t off both))
      ]
      | inr off ↦
          (_, first.ensures _ t (found_on _ 0 _ (sym c.next_bit.ensures.value ∙ c.in-Some.is)).1 small (off_second _ _ t off on))
    ]
