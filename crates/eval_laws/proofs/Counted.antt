-- How many notes a scene has, and how many commands that may leave one: each part of a rule adds at most one, an IMPORT two.
use Rattle.std.proofs.Common.{◌≡◌, ℕ, ◌+◌, ◌*◌, ◌≤◌, Bool, true, false, List, [], ◌∷◌, length, fold, Option, None, if◌then◌else◌, refl, arith}
use Rattle.std.proofs.lemmas.List.{length-append}
use Rattle.std.proofs.lemmas.List.Sums.{sum_by-cons}
use Rattle.std.specs.List.{sum_by}
use Rattle.text_bytes.specs.Text.{Text}
use Rattle.builtin_devices.specs.Knowledge.{Known}
use Rattle.rule_types.specs.declared.roles.PlainKey.{PlainKey}
use Rattle.rule_types.specs.declared.roles.PlainKey.TheVariants as plain
use Rattle.rule_types.specs.declared.part.Act.{Act}
use Rattle.rule_types.specs.declared.part.ActKind.{ActKind}
use Rattle.rule_types.specs.declared.part.ActKind.TheVariants as act_kind
use Rattle.rule_types.specs.declared.part.Assignment.{Assignment}
use Rattle.rule_types.specs.declared.part.Comparison.{Comparison}
use Rattle.rule_types.specs.declared.part.PlainMatch.{PlainMatch}
use Rattle.rule_types.specs.declared.part.UpMatch.{UpMatch}
use Rattle.rule_types.specs.Rules.{Rule}
use Rattle.device_core.specs.Values.{EventValue}
use Rattle.eval_state.specs.declared.state.State.{State}
use Rattle.eval_rendering.specs.declared.rendered.Rendered.{Rendered}
use Rattle.eval_rendering.specs.declared.rendered.Rendered.TheVariants as rendered
use Rattle.eval_state.specs.Notes.{note_about}
use Rattle.eval_state.specs.Runs.{RunValue}
use Rattle.eval_state.specs.Scenes.{noted, start}
use Rattle.eval_state.specs.declared.notes.Note.{Note}
use Rattle.eval_state.specs.declared.note_kind.NoteKind.{NoteKind}
use Rattle.eval_state.specs.declared.note_kind.NoteKind.TheVariants.{AttributeNotRead, ConstantNotGiven, SysctlNotRead}
use Rattle.eval_state.specs.declared.scene.Scene.{Scene}
use Rattle.eval_acts.specs.Acts.{act_step}
use Rattle.eval_rendering.specs.Attributes.{is_not_read}
use Rattle.eval_rendering.specs.Subjects.{is_not_given}
use Rattle.eval_acts.specs.Reaching.{match_reached}
use Rattle.eval_assignments.specs.Steps.{set_step}
use Rattle.eval_rules.specs.Jumps.{is_passed, run, sought_after}
use Rattle.eval_rules.specs.Outcomes.{late_note, late_notes, outcome, outcome_of, run_text}
use Rattle.eval_rules.specs.Idle.{change_applies, is_idle, note_all, note_step}
use Rattle.eval_rules.specs.Steps.{Went, apply, before_sets, if_proceeding, only_noted, plain_step, result_step, search, steps, walk}
use Rattle.eval_laws.specs.Counts.{most_notes}
use Rattle.eval_laws.proofs.Sums.{sum_less}
use Rattle.eval_laws.proofs.CountedActs.{act_counts}
use Rattle.eval_laws.proofs.CountedSets.{set_counts}
use Rattle.eval_laws.proofs.Measured.{act_most, measured, noted_more}

-- what the parts of a rule add at most, if each note and each command adds so much
abbrev pub parts_most : ℕ → Rule → ℕ
parts_most most r =
    sum_by (λ (p : PlainMatch). most) r.plain + sum_by (λ (act : Act). act_most most act.kind) r.acts + sum_by (λ (p : Comparison). most) r.results + sum_by (λ (p : Assignment). most) r.sets

ones : {X : Type 0} (xs : List X) → sum_by (λ (x : X). 1) xs ≡ length xs
ones [] = refl
ones (x ∷ xs) = let a = sum_by-cons (λ y. 1) x xs in let b = ones xs in omega (arith, a, b)

no_sum : {X : Type 0} (xs : List X) → sum_by (λ (x : X). 0) xs ≡ 0
no_sum [] = refl
no_sum (x ∷ xs) = let a = sum_by-cons (λ y. 0) x xs in let b = no_sum xs in omega (arith, a, b)

module _ (w : Note → ℕ) (v : RunValue → ℕ) (c : Rule → ℕ) (light : (r : Rule) (kind : NoteKind) (text : Text) → w (note_about r kind text) ≤ c r) (late : (run : RunValue) → v run ≤ c run.rule) where
  abbrev counted : Scene → ℕ
  counted s = measured w v s

  if_proceeding_counts : (next : Scene → Went) (k n : ℕ) (went : Went) → counted went.0 ≤ n → ((s : Scene) → counted (next s).0 ≤ counted s + k) → counted (if_proceeding next went).0 ≤ n + k
  if_proceeding_counts next k n went h each = by went.1
    where
      by : (b : Bool) → counted (if b then next went.0 else went).0 ≤ n + k
      by true = let a = each went.0 in omega (arith, a, h)
      by false = omega (arith, h)

  module _ {P : Type 0} (own : P → ℕ) (step : P → Scene → Went) (each : (p : P) (s : Scene) → counted (step p s).0 ≤ counted s + own p) where
    walk_counts : (ps : List P) (s : Scene) → counted (walk step ps s).0 ≤ counted s + sum_by own ps
    unfolding walk
    walk_counts [] s = omega arith
    walk_counts (p ∷ ps) s =
        let a = if_proceeding_counts (walk step ps) (sum_by own ps) (counted s + own p) (step p s) (each p s) (walk_counts ps) in
        let b = sum_by-cons own p ps in
        omega (arith, a, b)

  module _ (r : Rule) where
    reached_counts : (at : PlainKey) (s : Scene) → counted (match_reached r at s) ≤ counted s + c r
    reached_counts (plain.Sysctl name) s = noted_more w v c light r s SysctlNotRead name
    reached_counts plain.Action s = omega arith
    reached_counts plain.Devpath s = omega arith
    reached_counts plain.Kernel s = omega arith
    reached_counts plain.Subsystem s = omega arith
    reached_counts plain.Driver s = omega arith
    reached_counts plain.Name s = omega arith
    reached_counts plain.Symlink s = omega arith
    reached_counts plain.Tag s = omega arith
    reached_counts (plain.Attr name) s = by (is_not_read name s.state.event)
      where
        by : (b : Bool) → counted (if b then noted r AttributeNotRead name s else s) ≤ counted s + c r
        by true = noted_more w v c light r s AttributeNotRead name
        by false = omega arith
    reached_counts (plain.Env name) s = omega arith
    reached_counts (plain.Const name) s = by (is_not_given name s.state.event)
      where
        by : (b : Bool) → counted (if b then noted r ConstantNotGiven name s else s) ≤ counted s + c r
        by true = noted_more w v c light r s ConstantNotGiven name
        by false = omega arith

    plain_counts : (m : PlainMatch) (s : Scene) → counted (plain_step r m s).0 ≤ counted s + c r
    unfolding plain_step
    plain_counts m s = reached_counts m.key s

    result_counts : (wanted : Comparison) (s : Scene) → counted (result_step wanted s).0 ≤ counted s + c r
    unfolding result_step
    result_counts wanted s = omega arith

    search_counts : (parts : List UpMatch) (s : Scene) → counted (search parts s).0 ≤ counted s + 0
    search_counts [] s = omega arith
    search_counts (part ∷ parts) s = omega arith

    sets_count : (step : Scene → Assignment → Scene) → ((s : Scene) (a : Assignment) → counted (step s a) ≤ counted s + c r)
        → (sets : List Assignment) (s : Scene) → counted (fold step s sets) ≤ counted s + sum_by (λ (a : Assignment). c r) sets
    sets_count step each [] s = omega arith
    sets_count step each (a ∷ sets) s =
        let one = each s a in
        let rest = sets_count step each sets (step s a) in
        let b = sum_by-cons (λ (x : Assignment). c r) a sets in
        omega (arith, one, rest, b)

  -- a rule with its assignments, however these are made
  went_counts : (known : Known) (r : Rule) (step : Scene → Assignment → Scene) → ((s : Scene) (a : Assignment) → counted (step s a) ≤ counted s + c r)
      → (s : Scene) → counted (if_proceeding (λ (t : Scene). (fold step t r.sets, true)) (before_sets known r s)).0 ≤ counted s + parts_most (c r) r
  went_counts known r step each s =
      let most : ℕ = c r in
      let plain_own : PlainMatch → ℕ = λ x. most in
      let act_own : Act → ℕ = λ act. act_most most act.kind in
      let result_own : Comparison → ℕ = λ x. most in
      let p : ℕ = counted s + sum_by plain_own r.plain in
      let a : ℕ = p + sum_by act_own r.acts in
      let b : ℕ = a + sum_by result_own r.results in
      let plainly : Went = walk (plain_step r) r.plain s in
      let found : Went = if_proceeding (search r.up) plainly in
      let acted : Went = if_proceeding (walk (act_step known r) r.acts) found in
      let after_plain = walk_counts plain_own (plain_step r) (plain_counts r) r.plain s in
      let after_up = if_proceeding_counts (search r.up) 0 p plainly after_plain (search_counts r r.up) in
      let after_acts =
      if_proceeding_counts (walk (act_step known r) r.acts) (sum_by act_own r.acts) p found (omega (arith, after_up)) (walk_counts act_own (act_step known r) (act_counts w v c light known r) r.acts) in
      let after_results = if_proceeding_counts (walk result_step r.results) (sum_by result_own r.results) a acted after_acts (walk_counts result_own result_step (result_counts r) r.results) in
      let after_sets = if_proceeding_counts (λ (t : Scene). (fold step t r.sets, true)) (sum_by (λ (x : Assignment). most) r.sets) b (before_sets known r s) after_results (sets_count r step each r.sets) in
      omega (arith, after_sets)

  note_counts : (r : Rule) (s : Scene) (a : Assignment) → counted (note_step r s a) ≤ counted s + c r
  note_counts r s a = by (change_applies a.change s.state.event.device)
    where
      by : (b : Bool) → counted (if b then s else set_step r s a) ≤ counted s + c r
      by true = omega arith
      by false = set_counts w v c light late r s a

  -- a rule that is not skipped, and one that is, whose notes are kept
  steps_count : (known : Known) (r : Rule) (s : Scene) → counted (steps known r s).0 ≤ counted s + parts_most (c r) r
  unfolding steps
  steps_count known r s = went_counts known r (set_step r) (set_counts w v c light late r) s

  notes_count : (known : Known) (r : Rule) (s : Scene) → counted (if_proceeding (note_all r) (before_sets known r s)).0 ≤ counted s + parts_most (c r) r
  notes_count known r s = went_counts known r (note_step r) (note_counts r) s

-- ---- rules one after another

module _ (w : Note → ℕ) (c : Rule → ℕ) (light : (r : Rule) (kind : NoteKind) (text : Text) → w (note_about r kind text) ≤ c r) where
  -- the notes of a rule that is skipped
  pub noted_counts : (known : Known) (r : Rule) (s : Scene) → sum_by w (only_noted known r s).0.notes ≤ sum_by w s.notes + parts_most (c r) r
  noted_counts known r s =
      let a = notes_count w (λ run. 0) c light (λ run. omega arith) known r s in
      let b = no_sum s.runs in
      omega (arith, a, b)

module _ (w : Note → ℕ) (v : RunValue → ℕ) (c : Rule → ℕ) (light : (r : Rule) (kind : NoteKind) (text : Text) → w (note_about r kind text) ≤ c r) (late : (run : RunValue) → v run ≤ c run.rule) where
  abbrev all : Scene → ℕ
  all s = sum_by w s.notes + sum_by v s.runs

  -- a rule
  rule_counts : (known : Known) (r : Rule) (s : Scene) → all (apply known r s).0 ≤ all s + parts_most (c r) r
  unfolding apply
  rule_counts known r s = by (is_idle r s.state.event)
    where
      by : (b : Bool) → all (if b then only_noted known r s else steps known r s).0 ≤ all s + parts_most (c r) r
      by true = let a = noted_counts w c light known r s in omega (arith, a)
      by false = steps_count w v c light late known r s

  -- all rules
  run_counts : (known : Known) (rules : List Rule) (sought : Option Text) (s : Scene) → all (run known sought rules s) ≤ all s + sum_by (λ (r : Rule). parts_most (c r) r) rules
  unfolding run
  run_counts known [] sought s = omega arith
  run_counts known (r ∷ rules) sought s = by (is_passed sought r) (run_counts known rules)
    where
      own : Rule → ℕ
      own q = parts_most (c q) q

      by : (b : Bool) → ((sought : Option Text) (s : Scene) → all (run known sought rules s) ≤ all s + sum_by own rules)
          → all (if b then run known sought rules s else run known (sought_after (apply known r s).1 r) rules (apply known r s).0) ≤ all s + sum_by own (r ∷ rules)
      by true following =
          let whole = sum_by-cons own r rules in
          let a = following sought s in
          omega (arith, whole, a)
      by false following =
          let whole = sum_by-cons own r rules in
          let first = rule_counts known r s in
          let a = following (sought_after (apply known r s).1 r) (apply known r s).0 in
          omega (arith, whole, first, a)

-- ---- the end

late_counts : (kept : RunValue) (text : Rendered) → length (late_note kept text) ≤ 1
late_counts kept (rendered.Text text) = omega arith
late_counts kept rendered.TooLong = omega arith

lates_count : (state : State) (runs : List RunValue) → length (late_notes state runs) ≤ length runs
lates_count state [] = omega arith
lates_count state (kept ∷ runs) =
    let a = length-append (late_note kept (run_text state kept)) (late_notes state runs) in
    let b = late_counts kept (run_text state kept) in
    let c = lates_count state runs in
    omega (arith, a, b, c)

act_twice : (d : ActKind) → act_most 1 d ≤ 2
act_twice (act_kind.Test mask template) = omega arith
act_twice (act_kind.Program template) = omega arith
act_twice (act_kind.Import from) = omega arith

acts_twice : (acts : List Act) → sum_by (λ (act : Act). act_most 1 act.kind) acts ≤ 2 * length acts
acts_twice [] = omega arith
acts_twice (act ∷ acts) =
    let a = sum_by-cons (λ (x : Act). act_most 1 x.kind) act acts in
    let b = act_twice act.kind in
    let c = acts_twice acts in
    omega (arith, a, b, c)

-- if each note counts one
parts_count : (r : Rule) → parts_most 1 r ≤ most_notes r
parts_count r =
    let a = ones r.plain in
    let b = acts_twice r.acts in
    let c = ones r.results in
    let d = ones r.sets in
    omega (arith, a, b, c, d)

pub notes_counted : (rules : List Rule) (known : Known) (event : EventValue) → length (outcome rules known event).notes ≤ sum_by most_notes rules
unfolding outcome_of
notes_counted rules known event =
    let s : Scene = run known None rules (start event) in
    let a = run_counts (λ note. 1) (λ run. 1) (λ r. 1) (λ r kind text. omega arith) (λ run. omega arith) known rules None (start event) in
    let b = lates_count s.state s.runs in
    let c = length-append s.notes (late_notes s.state s.runs) in
    let d = ones s.notes in
    let e = ones s.runs in
    let f = sum_less (λ r. parts_most 1 r) most_notes parts_count rules in
    omega (arith, a, b, c, d, e, f)
