use Rattle.pop_run.proofs.Basics.{refl}
use Rattle.pop_input.specs.Blocks.{Sound as SoundEntry, Faulty as FaultyEntry}
use Rattle.pop_run.proofs.Running.{item_done}
use Rattle.pop_run.proofs.session.Session.step.Goals as goal

pub returns-in-Sound-clause-does : goal.returns-in-Sound-clause-does
returns-in-Sound-clause-does g c running = rw (← c.self.view_is, c.step_after.ensures.step, c.step_after.ensures.stops)
    (item_done g.I.ItemWriter.text _ _ _ _ _ _ (SoundEntry c.in-Sound.problem) c.write_sound-printed.result
    (record {
      reads = (rw c.in-Sound.is at c.next_problem-item.ensures.item).0;
      used = rw c.in-Sound.is at c.next_problem-item.ensures.used;
      number = refl;
      status = refl;
      writer = refl;
    })
    (rw c.if-self.false refl) c.write_sound-printed.ensures.bytes)

pub returns-in-Faulty-clause-does : goal.returns-in-Faulty-clause-does
returns-in-Faulty-clause-does g c running = rw (← c.self.view_is, c.step_after-in-Faulty.ensures.step, c.step_after-in-Faulty.ensures.stops)
    (item_done g.I.ItemWriter.text _ _ _ _ _ _ (FaultyEntry c.in-Faulty.fault) c.write_fault-printed.result
    (record {
      reads = (rw c.in-Faulty.is at c.next_problem-item.ensures.item).0;
      used = rw c.in-Faulty.is at c.next_problem-item.ensures.used;
      number = refl;
      status = c.status_with-self-inside.ensures;
      writer = refl;
    })
    (rw c.if-self.false refl) c.write_fault-printed.ensures.bytes)
