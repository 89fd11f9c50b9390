use Rattle.fen.proofs.Basics.{err_from_is_err_and}
use Rattle.fen.proofs.Castlings.{are_letters, rights_bare, rights_cut, rights_dashed, rights_lettered, rights_open}
use Rattle.fen.proofs.rights.read_rights.Goals as goal

pub returns-in_err-rest : goal.returns-in_err-rest
returns-in_err-rest c =
    let p = err_from_is_err_and c.from_residual.result c.from_residual.ensures.1 in
    let are = are_letters c.letter_at-h1.ensures.found c.letter_at-h1.ensures.rest c.letter_at-a1.ensures.found c.letter_at-a1.ensures.rest
    c.letter_at-h8.ensures.found c.letter_at-h8.ensures.rest c.letter_at-a8.ensures.found c.letter_at-a8.ensures.rest in
    rw p.1 (rights_open _ _ _ _ _ _ are c.then-h1.either c.in_err-rest.ensures)

pub returns-then-h1 : goal.returns-then-h1
returns-then-h1 c =
    let are = are_letters c.letter_at-h1.ensures.found c.letter_at-h1.ensures.rest c.letter_at-a1.ensures.found c.letter_at-a1.ensures.rest
    c.letter_at-h8.ensures.found c.letter_at-h8.ensures.rest c.letter_at-a8.ensures.found c.letter_at-a8.ensures.rest in
    rw c.rights_of-rights.ensures (rights_lettered _ _ _ _ _ _ _ are c.then-h1.either c.in_ok-rest.ensures)

pub returns-in_err-rest-2 : goal.returns-in_err-rest-2
returns-in_err-rest-2 c =
    let p = err_from_is_err_and c.from_residual-in_err-rest-2.result c.from_residual-in_err-rest-2.ensures.1 in
    let are = are_letters c.letter_at-h1.ensures.found c.letter_at-h1.ensures.rest c.letter_at-a1.ensures.found c.letter_at-a1.ensures.rest
    c.letter_at-h8.ensures.found c.letter_at-h8.ensures.rest c.letter_at-a8.ensures.found c.letter_at-a8.ensures.rest in
    rw p.1 (rights_bare _ _ _ _ _ _ are c.if-h1.false c.if-a1.false c.if-h8.false c.if-a8.false c.in_err-rest-2.ensures)

pub returns-in_err-rest-3 : goal.returns-in_err-rest-3
returns-in_err-rest-3 c =
    let p = err_from_is_err_and c.from_residual-in_err-rest-3.result c.from_residual-in_err-rest-3.ensures.1 in
    let are = are_letters c.letter_at-h1.ensures.found c.letter_at-h1.ensures.rest c.letter_at-a1.ensures.found c.letter_at-a1.ensures.rest
    c.letter_at-h8.ensures.found c.letter_at-h8.ensures.rest c.letter_at-a8.ensures.found c.letter_at-a8.ensures.rest in
    rw p.1 (rights_cut _ _ _ _ _ _ _ are c.if-h1.false c.if-a1.false c.if-h8.false c.if-a8.false c.in_ok-rest-2.ensures c.in_err-rest-3.ensures)

pub returns : goal.returns
returns c =
    let are = are_letters c.letter_at-h1.ensures.found c.letter_at-h1.ensures.rest c.letter_at-a1.ensures.found c.letter_at-a1.ensures.rest
    c.letter_at-h8.ensures.found c.letter_at-h8.ensures.rest c.letter_at-a8.ensures.found c.letter_at-a8.ensures.rest in
    rw c.rights_of-rights.ensures (rights_dashed _ _ _ _ _ _ _ _ are c.if-h1.false c.if-a1.false c.if-h8.false c.if-a8.false c.in_ok-rest-2.ensures c.in_ok-rest-3.ensures)
