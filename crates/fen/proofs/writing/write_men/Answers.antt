use Rattle.fen.proofs.Basics.{[], ap, arith, refl, rules, ◌++◌, ◌-◌, ◌∙◌}
use Rattle.std.proofs.Output.{has_written_append, has_written_of_eq}
use Rattle.chess_core.specs.Position.{man_on}
use Rattle.fen.specs.ties.Writing.{mark_text, written_text}
use Rattle.fen.proofs.Written.{written_all, written_bound, written_more, written_room}
use Rattle.fen.proofs.writing.write_men.Goals as goal

pub loop-number-init : goal.loop-number-init
loop-number-init g c = (omega arith, λ _. refl, λ plain. ([], search rules, refl))

pub loop-number-preserved : goal.loop-number-preserved
loop-number-preserved g c =
    let i = c.loop-number.invariant in
    let n = 63 - c.loop-number.number in
    let bound = written_bound n _ _ _ _ _ c.man_at-found.result (omega arith) (omega arith) i.0 i.1 c.empty_next-next.ensures c.empty_left-empty.ensures in
    let room = written_room _ _ i.0 i.1 in
    let is = c.man_at-found.ensures ∙ ap (λ s. man_on c.args.diagram.now.men s) c.square_before.ensures in (
      bound.0,
      bound.1,
      λ plain.
          let so_far = i.2 plain in
          let one = c.write_square.ensures so_far.1.plain (search rules) in
          let two = c.write_mark.ensures one.plain (search rules) in (
            so_far.0 ++ written_text c.loop-number.empty c.man_at-found.result ++ mark_text n c.empty_next-next.result,
            has_written_append _ _ _ _ _ _ (has_written_append _ _ _ _ _ _ so_far.1 one) two,
            written_more c.args.diagram.now.men n _ _ _ _ _ c.man_at-found.result so_far.0 (omega arith) (omega arith) room is
                c.empty_next-next.ensures c.empty_left-empty.ensures so_far.2,
          ),
    )

pub returns : goal.returns
returns g c = λ plain _.
    let so_far = c.loop-number.invariant.2 plain in
    has_written_of_eq _ _ _ _ _ (written_all _ _ _ _ _ (omega arith) c.loop-number.invariant.1 so_far.2) so_far.1
