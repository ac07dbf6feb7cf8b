-- What a scene weighs after a rule, and after all rules.
use Rattle.std.proofs.Common.{◌≡◌, ℕ, ◌+◌, ◌≤◌, Bool, true, false, List, [], ◌∷◌, length, fold, Option, None, if◌then◌else◌, refl, ap, sym, ◌∙◌, arith}
use Rattle.std.proofs.lemmas.List.Sums.{sum_by-cons}
use Rattle.std.specs.List.{sum_by}
use Rattle.text_bytes.specs.declared.profile.Profile.TheVariants.{Udev}
use Rattle.text_bytes.specs.Text.{Text}
use Rattle.builtin_devices.specs.Knowledge.{Known}
use Rattle.rule_types.specs.Written.{attribute_of_plain}
use Rattle.rule_types.specs.declared.roles.PlainKey.{PlainKey}
use Rattle.rule_types.specs.declared.roles.PlainKey.TheVariants as plain
use Rattle.rule_types.specs.declared.part.Act.{Act}
use Rattle.rule_types.specs.declared.part.ActKind.{ActKind}
use Rattle.rule_types.specs.declared.part.ActKind.TheVariants as act_kind
use Rattle.rule_types.specs.declared.part.Assignment.{Assignment}
use Rattle.rule_types.specs.declared.part.Comparison.{Comparison}
use Rattle.rule_types.specs.declared.part.PlainMatch.{PlainMatch}
use Rattle.rule_types.specs.declared.part.UpMatch.{UpMatch}
use Rattle.rule_types.specs.Rules.{Rule}
use Rattle.device_core.specs.Values.{EventValue}
use Rattle.eval_laws.specs.DeviceWeights.{event_weight}
use Rattle.eval_state.specs.declared.note_kind.NoteKind.TheVariants.{AttributeNotRead, ConstantNotGiven, SysctlNotRead}
use Rattle.eval_state.specs.declared.scene.Scene.{Scene}
use Rattle.eval_acts.specs.Acts.{act_step}
use Rattle.eval_acts.specs.Reaching.{match_reached}
use Rattle.eval_rendering.specs.Attributes.{is_not_read}
use Rattle.eval_rendering.specs.Subjects.{is_not_given}
use Rattle.eval_state.specs.Scenes.{noted}
use Rattle.eval_assignments.specs.Steps.{set_step}
use Rattle.eval_rules.specs.Jumps.{is_passed, run, sought_after}
use Rattle.eval_rules.specs.Idle.{is_idle}
use Rattle.eval_rules.specs.Steps.{Went, apply, if_proceeding, only_noted, plain_step, result_step, search, set_all, steps, walk}
use Rattle.eval_rules.proofs.Skipped.{by_udev}
use Rattle.eval_laws.specs.Allowances.{act_kind_allowance, builtin_allowance, part_allowance, rule_allowance, set_allowance}
use Rattle.eval_laws.specs.Inner.{Within, scene_weight}
use Rattle.eval_laws.specs.Weights.{note_weight}
use Rattle.eval_laws.proofs.Counted.{noted_counts, parts_most}
use Rattle.eval_laws.proofs.Measured.{act_most}
use Rattle.eval_laws.proofs.Sums.{sum_less}
use Rattle.eval_laws.proofs.Scenes.{more, note_light, noted_within}
use Rattle.eval_laws.proofs.Stepped.{set_within}
use Rattle.eval_laws.proofs.Acted.{act_within}

module _ (event : EventValue) where
  -- one step after another
  if_proceeding_within : (next : Scene → Went) (k n : ℕ) (went : Went) → Within event n went.0 → ((s : Scene) → Within event n s → Within event (n + k) (next s).0) → Within event (n + k) (if_proceeding next went).0
  if_proceeding_within next k n went h each = by went.1
    where
      by : (b : Bool) → Within event (n + k) (if b then next went.0 else went).0
      by true = each went.0 h
      by false = more event n (n + k) went.0 (omega arith) h

  -- the parts of one step, each within its own bound
  module _ {P : Type 0} (step : P → Scene → Went) (own : P → ℕ) (each : (p : P) (n : ℕ) (s : Scene) → Within event n s → Within event (n + own p) (step p s).0) where
    walk_within : (ps : List P) (n : ℕ) (s : Scene) → Within event n s → Within event (n + sum_by own ps) (walk step ps s).0
    unfolding walk
    walk_within [] n s h = more event n (n + sum_by own []) s (omega arith) h
    walk_within (p ∷ ps) n s h =
        let a = sum_by-cons own p ps in
        more event (n + own p + sum_by own ps) (n + sum_by own (p ∷ ps)) _ (omega (arith, a))
        (if_proceeding_within (walk step ps) (sum_by own ps) (n + own p) (step p s) (each p n s h) (λ t within. walk_within ps (n + own p) t within))

  module _ (r : Rule) where
    reached_within : (key : PlainKey) (n : ℕ) (s : Scene) → Within event n s → Within event (n + (length r.file + 280)) (match_reached r key s)
    reached_within (plain.Sysctl name) n s h = noted_within event n r SysctlNotRead name s h
    reached_within plain.Action n s h = more event n (n + (length r.file + 280)) s (omega arith) h
    reached_within plain.Devpath n s h = more event n (n + (length r.file + 280)) s (omega arith) h
    reached_within plain.Kernel n s h = more event n (n + (length r.file + 280)) s (omega arith) h
    reached_within plain.Subsystem n s h = more event n (n + (length r.file + 280)) s (omega arith) h
    reached_within plain.Driver n s h = more event n (n + (length r.file + 280)) s (omega arith) h
    reached_within plain.Name n s h = more event n (n + (length r.file + 280)) s (omega arith) h
    reached_within plain.Symlink n s h = more event n (n + (length r.file + 280)) s (omega arith) h
    reached_within plain.Tag n s h = more event n (n + (length r.file + 280)) s (omega arith) h
    reached_within (plain.Attr name) n s h = by (is_not_read name s.state.event)
      where
        by : (b : Bool) → Within event (n + (length r.file + 280)) (if b then noted r AttributeNotRead name s else s)
        by true = noted_within event n r AttributeNotRead name s h
        by false = more event n (n + (length r.file + 280)) s (omega arith) h
    reached_within (plain.Env name) n s h = more event n (n + (length r.file + 280)) s (omega arith) h
    reached_within (plain.Const name) n s h = by (is_not_given name s.state.event)
      where
        by : (b : Bool) → Within event (n + (length r.file + 280)) (if b then noted r ConstantNotGiven name s else s)
        by true = noted_within event n r ConstantNotGiven name s h
        by false = more event n (n + (length r.file + 280)) s (omega arith) h

    plain_within : (m : PlainMatch) (n : ℕ) (s : Scene) → Within event n s → Within event (n + part_allowance r (attribute_of_plain m.key)) (plain_step r m s).0
    unfolding plain_step
    plain_within m n s h = more event (n + (length r.file + 280)) (n + part_allowance r (attribute_of_plain m.key)) _ (omega arith) (reached_within m.key n s h)

    result_within : (c : Comparison) (n : ℕ) (s : Scene) → Within event n s → Within event (n + part_allowance r None) (result_step c s).0
    unfolding result_step
    result_within c n s h = more event n (n + part_allowance r None) s (omega arith) h

    search_within : (parts : List UpMatch) (n : ℕ) (s : Scene) → Within event n s → Within event n (search parts s).0
    unfolding scene_weight
    search_within [] n s h = h
    search_within (part ∷ parts) n s h = record { same = h.same; light = h.light }

  module _ (len : ℕ) (short : event_weight event ≤ len) where
    sets_within : (r : Rule) (sets : List Assignment) (n : ℕ) (s : Scene) → Within event n s → Within event (n + sum_by (set_allowance event.profile len r) sets) (fold (set_step r) s sets)
    sets_within r [] n s h = more event n (n + sum_by (set_allowance event.profile len r) []) s (omega arith) h
    sets_within r (a ∷ sets) n s h =
        let own : Assignment → ℕ = set_allowance event.profile len r in
        let all = sum_by-cons own a sets in
        more event (n + own a + sum_by own sets) (n + sum_by own (a ∷ sets)) _ (omega (arith, all)) (sets_within r sets (n + own a) (set_step r s a) (set_within event len short n r s h a))

  module _ (len : ℕ) (short : event_weight event ≤ len) (known : Known) where
    -- a rule that is not skipped
    steps_within : (r : Rule) (n : ℕ) (s : Scene) → Within event n s → Within event (n + rule_allowance event.profile len known.entries r) (steps known r s).0
    unfolding steps rule_allowance
    steps_within r n s h =
        let plain_own : PlainMatch → ℕ = λ m. part_allowance r (attribute_of_plain m.key) in
        let act_own : Act → ℕ = λ act. act_kind_allowance event.profile len known.entries r act.kind in
        let result_own : Comparison → ℕ = λ c. part_allowance r None in
        let set_own : Assignment → ℕ = set_allowance event.profile len r in
        let p : ℕ = n + sum_by plain_own r.plain in
        let a : ℕ = p + sum_by act_own r.acts in
        let q : ℕ = a + sum_by result_own r.results in
        let b : ℕ = q + sum_by set_own r.sets in
        let after_plain = walk_within (plain_step r) plain_own (plain_within r) r.plain n s h in
        let after_up = if_proceeding_within (search r.up) 0 p (walk (plain_step r) r.plain s) after_plain (λ t within. more event p (p + 0) _ (omega arith) (search_within r r.up p t within)) in
        let after_acts =
        if_proceeding_within (walk (act_step known r) r.acts) (sum_by act_own r.acts) p _ (more event (p + 0) p _ (omega arith) after_up)
        (λ t within. walk_within (act_step known r) act_own (λ act m u inside. act_within event len short known r act m u inside) r.acts p t within) in
        let after_results = if_proceeding_within (walk result_step r.results) (sum_by result_own r.results) a _ after_acts (λ t within. walk_within result_step result_own (result_within r) r.results a t within) in
        let after_sets = if_proceeding_within (set_all r) (sum_by set_own r.sets) q _ after_results (λ t within. sets_within len short r r.sets q t within) in
        more event b (n + rule_allowance event.profile len known.entries r) _ (omega arith) after_sets

    -- what the notes of an act weigh for udev
    act_notes_fit : event.profile ≡ Udev → (r : Rule) (d : ActKind) → act_most (length r.file + 280) d ≤ act_kind_allowance event.profile len known.entries r d
    act_notes_fit udev r (act_kind.Test mask template) = omega arith
    act_notes_fit udev r (act_kind.Program template) = omega arith
    act_notes_fit udev r (act_kind.Import from) =
        let same : builtin_allowance event.profile r ≡ builtin_allowance Udev r = ap (λ p. builtin_allowance p r) udev in
        omega (arith, same)

    -- what the notes of all parts weigh
    notes_fit : event.profile ≡ Udev → (r : Rule) → parts_most (length r.file + 280) r ≤ rule_allowance event.profile len known.entries r
    unfolding rule_allowance
    notes_fit udev r =
        let most : ℕ = length r.file + 280 in
        let a = sum_less (λ (m : PlainMatch). most) (λ m. part_allowance r (attribute_of_plain m.key)) (λ m. omega arith) r.plain in
        let b = sum_less (λ (act : Act). act_most most act.kind) (λ act. act_kind_allowance event.profile len known.entries r act.kind) (λ act. act_notes_fit udev r act.kind) r.acts in
        let c = sum_less (λ (m : Comparison). most) (λ m. part_allowance r None) (λ m. omega arith) r.results in
        let d = sum_less (λ (m : Assignment). most) (set_allowance event.profile len r) (λ a. omega arith) r.sets in
        omega (arith, a, b, c, d)

    -- a rule that is skipped, which none is by the manual
    passed_within : event.profile ≡ Udev → (r : Rule) (n : ℕ) (s : Scene) → Within event n s → Within event (n + rule_allowance event.profile len known.entries r) (only_noted known r s).0
    unfolding scene_weight
    passed_within udev r n s h =
        let a = h.light in
        let b = noted_counts note_weight (λ q. length q.file + 280) note_light known r s in
        let c = notes_fit udev r in
        record { same = h.same; light = omega (arith, a, b, c) }

    rule_within : (r : Rule) (n : ℕ) (s : Scene) → Within event n s → Within event (n + rule_allowance event.profile len known.entries r) (apply known r s).0
    unfolding apply
    rule_within r n s h = by (is_idle r s.state.event) refl
      where
        by : (b : Bool) → is_idle r s.state.event ≡ b → Within event (n + rule_allowance event.profile len known.entries r) (if b then only_noted known r s else steps known r s).0
        by true idle = passed_within (sym (ap (λ (e : EventValue). e.profile) h.same) ∙ by_udev s.state.event.profile r s.state.event idle) r n s h
        by false idle = steps_within r n s h

    -- all rules
    pub run_within : (rules : List Rule) (sought : Option Text) (n : ℕ) (s : Scene) → Within event n s → Within event (n + sum_by (rule_allowance event.profile len known.entries) rules) (run known sought rules s)
    unfolding run
    run_within [] sought n s h = more event n (n + sum_by (rule_allowance event.profile len known.entries) []) s (omega arith) h
    run_within (r ∷ rules) sought n s h = by (is_passed sought r) (run_within rules)
      where
        own : ℕ
        own = rule_allowance event.profile len known.entries r

        rest : ℕ
        rest = sum_by (rule_allowance event.profile len known.entries) rules

        all : own + rest ≡ sum_by (rule_allowance event.profile len known.entries) (r ∷ rules)
        all = let a = sum_by-cons (rule_allowance event.profile len known.entries) r rules in omega (arith, a)

        by : (b : Bool) → ((sought : Option Text) (n : ℕ) (s : Scene) → Within event n s → Within event (n + rest) (run known sought rules s))
            → Within event (n + sum_by (rule_allowance event.profile len known.entries) (r ∷ rules)) (if b then run known sought rules s else run known (sought_after (apply known r s).1 r) rules (apply known r s).0)
        by true following = more event (n + rest) (n + sum_by (rule_allowance event.profile len known.entries) (r ∷ rules)) _ (omega (arith, all)) (following sought n s h)
        by false following =
            more event (n + own + rest) (n + sum_by (rule_allowance event.profile len known.entries) (r ∷ rules)) _ (omega (arith, all))
            (following (sought_after (apply known r s).1 r) (n + own) (apply known r s).0 (rule_within r n s h))
