use Rattle.std.proofs.Common.{[], ◌∷◌, codes, map}
use Rattle.text_json.specs.Told.{told}
use Rattle.text_json.specs.Values.{array_of}
use Rattle.text_json.proofs.Listed.{four_after}
use Rattle.engine_answers.proofs.objects.write_object.Goals as goal

pub returns-clause-tokens : goal.returns-clause-tokens
returns-clause-tokens c =
    rw (
      c.in_ok-end_object.ensures.ok,
      c.in_ok-write_lines-2.ensures.tokens,
      c.in_ok-write_lines.ensures.tokens,
      c.in_ok-write_told-2.ensures.tokens,
      c.in_ok-write_told.ensures.tokens,
      c.in_ok-begin_object.ensures.ok,
      c.path.ensures,
      c.device.ensures,
      c.action.ensures,
    )
    (four_after c.args.writer.now.tokens
    ((codes "event", told c.args.event.now.action) ∷ [])
    ((codes "path", told c.args.event.now.device.path) ∷ [])
    ((codes "gone", array_of (map told (map (λ l. l.1.now) c.args.gone.now))) ∷ [])
    ((codes "come", array_of (map told (map (λ l. l.1.now) c.args.come.now))) ∷ []))
