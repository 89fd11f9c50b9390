use Rattle.chess_threats.proofs.Chess.{IsAttacker, Man, ap, arith, eqb-true, false_by, not, on_first, rules, word_has, ℕ, ◌<◌, ◌^◌, ◌≢◌}
use Rattle.chess_flights.proofs.Bitboards.{denied_on, off_denied}
use Rattle.chess_flights.proofs.Hurdles.{all_reach}
use Rattle.chess_threats.proofs.guards_without.guards_without.Goals as goal

pub returns : goal.returns
returns c =
    let v = c.args.king_attack.now in
    let fits : c.only-squares.result < 2 ^ 64 = omega arith in
    let others : (q : ℕ) (z : Man) → IsAttacker v.men z q → c.args.from ≢ q → IsAttacker (record v.men { squares = c.for_each_kind.result }) z q = λ q z i ne. record {
      small = i.small;
      mine = i.mine;
      on = rw (c.for_each_kind.ensures z.kind) (search (rules, fits, denied_on, eqb-true, false_by, word_has, i.on, i.small));
    } in
    let rides = c.rider_reach-ridden.ensures.all in
    record {
      hurdles = _;
      kept = λ e small on. (on_first v.hurdles _ e on, λ same. search (rules, fits, off_denied, word_has));
      rides = λ q z i ne rider near. rides.reach q z (others q z i ne) rider near;
      guards = λ q z i ne plain near. (all_reach _ _ _ _ _ rides c.leapt_squares.ensures.all).reach q z (others q z i ne) (ap not plain) near;
    }
