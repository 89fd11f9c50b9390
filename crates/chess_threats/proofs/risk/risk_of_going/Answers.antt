use Rattle.chess_threats.proofs.Chess.{Some, ap, arith, bit_at, cases_Bool, eq-eqb, every_square_on, false, false_by, false≢true, inl, inr, is_square, on_first, on_left, on_right, refl, rules, sym, true, word_has, ℕ, ◌<◌, ◌==◌, ◌∙◌, ◌≡◌}
use Rattle.chess_flights.proofs.Bitboards.{off_denied}
use Rattle.chess_threats.proofs.Risks.{unguarded_at}
use Rattle.chess_threats.proofs.risk.risk_of_going.Goals as goal

pub returns-then-may_spring : goal.returns-then-may_spring
returns-then-may_spring c = λ a b t inside small off low on there. absurd (false≢true (sym off.critical ∙ every_square_on b small))

pub returns : goal.returns
returns c = λ a b t inside small off low on there.
    let g = c.args.king_zone.now in
    let o = c.only.result in
    let guards = c.guards_without-guards in
    let seen = guards.result.guarded in
    let watched = c.watched_squares-watched in
    let uncaptured = c.uncaptured_squares-uncaptured in
    let at = unguarded_at c.args.king_attack.now g c.args.from o guards.result a guards.ensures off.lines in
    elim (cases_Bool (bit_at uncaptured.result t == 1)) [
      | inl left_on ↦ inr (inr (λ z becomes.
          let going = c.critical_of_going.ensures t low left_on z (c.may_become_fairy.ensures c.if-may_become_fairy.false t low left_on z becomes) in
          let one = going.2.left b small off.critical there in
          let f = one.0 in
          let near : (bit_at g.near f == 1) ≡ true = search (rules, on_first, one.1.on) in
          inl (record {
            unsprung = c.may_spring.ensures c.if-may_spring.false t low left_on;
            hurdles = going.0;
            are = going.1;
            square = f;
            left = record { small = one.1.small; on = near; off = one.1.off; elsewhere = one.1.elsewhere; unreached = one.1.unreached };
            unguarded = at f (on_left _ o f (on_left g.near g.captures f near)) (search (rules, off_denied, one.1.small, one.1.on));
          })))
      | inr free ↦ elim (cases_Bool (bit_at watched.result t == 1)) [
        | inl on ↦
            let taken = uncaptured.ensures t low on free in
            inr (inl (record { on = taken.0; unguarded = at t (on_left _ o t (on_right g.near g.captures t taken.0)) taken.1 }))
        | inr none ↦
            let small : g.king < 64 = omega (arith, c.show_below_64.ensures) in
            let unseen : (bit_at seen g.king == 1) ≡ false = false_by _ (λ h.
            false≢true (sym none ∙ ap (λ (w : ℕ). bit_at w t == 1) (watched.ensures.all h) ∙ on)) in
            inl (
              ap (λ (w : ℕ). bit_at w t == 1) (sym (watched.ensures.some unseen)) ∙ none,
              at g.king (on_right _ o g.king (word_has (λ q. is_square (Some g.king) q) o g.king c.only.ensures small ∙ eq-eqb g.king g.king refl)) unseen,
            )
      ]
    ]
