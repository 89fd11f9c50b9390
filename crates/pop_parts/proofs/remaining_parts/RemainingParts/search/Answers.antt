use Rattle.pop_parts.proofs.Words.{arith}
use Rattle.pop_parts.proofs.PartNumbers as numbers
use Rattle.pop_parts.proofs.remaining_parts.RemainingParts.search.Goals as goal

pub seek_numbered-requires : goal.seek_numbered-requires
seek_numbered-requires g c =
    let i = c.self.invariant in
    let most = numbers.half-moves-most c.self.inside.problem c.self.inside.phase in
    (omega (arith, c.requires.few), (omega (arith, i.2.seeking.room, most, i.1), (c.requires.number, i.2.seeking)))
