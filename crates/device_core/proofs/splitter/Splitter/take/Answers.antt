use Rattle.std.proofs.Common.{arith, ◌≡◌, ◌+◌, ◌∙◌, length, take}
use Rattle.std.proofs.lemmas.Grind.{common_steps}
use Rattle.device_core.specs.RunBlocks.{newline_count, most_bytes}
use Rattle.device_core.proofs.Excess.{begins_too_long}
use Rattle.device_core.proofs.splitter.Splitter.take.Goals as goal

pub returns-in-Full-clause-err : goal.returns-in-Full-clause-err
returns-in-Full-clause-err c =
    let f = rw c.in-Full.is at c.fill-filled.ensures.fills in
    let pending : c.args.self.now.pending ≡ take c.self.inside.len c.deref_mut.result.now = grind (arith, common_steps) in
    let size : length (take c.fill-filled.result.len c.fill-filled.new.room) ≡ most_bytes = f.full ∙ grind (arith, common_steps) in
    let counted : c.line_after-line.result ≡ newline_count (take c.fill-filled.result.len c.fill-filled.new.room) + 1 = grind (arith, common_steps) in (
      λ later. rw pending (begins_too_long (take c.self.inside.len c.deref_mut.result.now) c.args.piece.now later (take c.fill-filled.result.len c.fill-filled.new.room) c.fill-filled.result.used f.byte c.line_after-line.result f.none f.rest size counted),
      grind (arith, common_steps),
      grind (arith, common_steps),
    )

pub invariant_of-self-in-Whole : goal.invariant_of-self-in-Whole
invariant_of-self-in-Whole c =
    let f = rw c.in-Whole.is at c.fill-filled.ensures.fills in
    record {
      sized = grind (arith, common_steps);
      within = grind (arith, common_steps);
      some = λ _. grind (arith, common_steps, f.has_byte);
      pending = λ e. absurd cc;
      nothing = λ e. absurd cc;
    }
