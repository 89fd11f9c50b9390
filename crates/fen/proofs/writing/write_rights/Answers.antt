use Rattle.fen.proofs.Basics.{rules}
use Rattle.std.proofs.Output.{has_written_append, has_written_of_eq}
use Rattle.chess_core.specs.Castling.{has_unmoved}
use Rattle.fen.proofs.Castlings.{dash_written, letters_written}
use Rattle.fen.proofs.writing.write_rights.Goals as goal

pub returns-then-h1 : goal.returns-then-h1
unfolding has_unmoved
returns-then-h1 g c = λ plain ok.
    let one = c.write_if.ensures plain (search rules) in
    let two = c.write_if-then-h1.ensures one.plain (search rules) in
    let three = c.write_if-then-h1-2.ensures two.plain (search rules) in
    let four = c.write_if-then-h1-3.ensures three.plain ok in
    has_written_of_eq _ _ _ _ _ (letters_written c.args.rights _ _ _ _ c.is_allowed-h1.ensures c.is_allowed-a1.ensures c.is_allowed-h8.ensures c.is_allowed-a8.ensures c.then-h1.either)
    (has_written_append _ _ _ _ _ _ (has_written_append _ _ _ _ _ _ (has_written_append _ _ _ _ _ _ one two) three) four)

pub returns : goal.returns
unfolding has_unmoved
returns g c = λ plain ok.
    has_written_of_eq _ _ _ _ _
    (dash_written c.args.rights _ _ _ _ c.is_allowed-h1.ensures c.is_allowed-a1.ensures c.is_allowed-h8.ensures c.is_allowed-a8.ensures c.if-h1.false c.if-a1.false c.if-h8.false c.if-a8.false)
    (c.write_byte.ensures plain ok)
