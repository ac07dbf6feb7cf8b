use Rattle.std.proofs.Common.{inl, inr, refl}
use Rattle.devdry.proofs.running.run_all.Goals as goal

pub returns-in-Ok : goal.returns-in-Ok
returns-in-Ok g c given are =
    inl (record {
      gathered = c.in-Ok.gathered;
      input = g.I.Source.shown c.gather.new.input;
      gathers = inr (_, are, c.in-Ok.ensures.gathered);
      runs = c.run.ensures;
    })

pub returns-in-Err : goal.returns-in-Err
returns-in-Err g c given are =
    inr (record {
      refused = record { line = c.report_out_of_memory.ensures; untouched = refl };
      input = elim c.in-Err.ensures.refused [
        | inl unread ↦ inl unread
        | inr reads ↦ inr (_, are, reads)
      ];
    })
