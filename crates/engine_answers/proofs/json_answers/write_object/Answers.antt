use Rattle.std.proofs.Common.{[], ◌∷◌, ◌++◌, codes, option_map}
use Rattle.text_json.specs.Told.{told}
use Rattle.text_json.specs.Values.{array_of}
use Rattle.text_json.proofs.Listed.{four_after}
use Rattle.engine_answers.specs.JsonAnswers.{answer_members}
use Rattle.engine_answers.specs.JsonInner.{runs_of, shape_of}
use Rattle.engine_answers.specs.Members.{item_members, note_values, why_values}
use Rattle.engine_answers.proofs.json_answers.write_object.Goals as goal

pub returns-clause-tokens : goal.returns-clause-tokens
unfolding answer_members
returns-clause-tokens c =
    rw (
      c.in_ok-end_object.ensures.ok,
      c.in_ok-write_why_member.ensures.tokens,
      c.in_ok-write_note_member.ensures.tokens,
      c.in_ok-write_run_member.ensures.tokens,
      c.in_ok-write_start.ensures.tokens,
      c.in_ok-begin_object.ensures.ok,
    )
    (four_after c.args.writer.now.tokens
    (((codes "event", told c.args.event.now.action) ∷ (codes "path", told c.args.event.now.device.path) ∷ []) ++ item_members (shape_of (option_map (λ s. s.now) c.args.sources)) c.args.event.now.profile c.args.outcome.now)
    ((codes "run", array_of (runs_of c.args.runs)) ∷ [])
    ((codes "notes", array_of (note_values c.args.event.now c.args.outcome.now.notes)) ∷ [])
    ((codes "why", array_of (why_values c.args.why.now)) ∷ []))
