-- Serves inner proofs only: that being the same RUN is an equality, and that RUNs that are the same are hashed alike.
use Rattle.std.proofs.Common.{◌≡◌, true, refl, ap}
use Rattle.std.specs.Cmp.{IsEquivalence, IsPartialEquivalence, and_equiv, on_equiv, partial_equiv_from_equiv, second_so}
use Rattle.std.specs.Cmp.Lexicographic.{bytes_decides, on_texts_equal}
use Rattle.std.specs.Hash as fed
use Rattle.text_tables.specs.Texts.{same_text}
use Rattle.rule_types.specs.declared.types.RunType.{RunType}
use Rattle.rule_types.specs.declared.types.RunType.TheVariants.{Program, Builtin}
use Rattle.eval_state.specs.Runs.{RunValue, run_kind, same_kind, same_run}

kinds_equal : IsEquivalence same_kind
kinds_equal = record { refl = itself; symm = reversed; congr = through }
  where
    itself : (k : RunType) → same_kind k k ≡ true
    itself Program = refl
    itself Builtin = refl

    reversed : (k j : RunType) → same_kind k j ≡ same_kind j k
    reversed Program Program = refl
    reversed Program Builtin = refl
    reversed Builtin Program = refl
    reversed Builtin Builtin = refl

    through : (k j i : RunType) → same_kind k j ≡ true → same_kind k i ≡ same_kind j i
    through Program Program i h = refl
    through Program Builtin i h = cc
    through Builtin Program i h = cc
    through Builtin Builtin i h = refl

-- being the same RUN is an equality
pub runs_equal : IsEquivalence same_run
runs_equal = and_equiv (on_equiv (λ (r : RunValue). run_kind r.braces) kinds_equal) (on_texts_equal (λ (r : RunValue). r.template.written))

pub runs_equal_in_part : IsPartialEquivalence same_run
runs_equal_in_part = partial_equiv_from_equiv runs_equal

-- RUNs that are the same are hashed alike, by their written text
pub same_runs_fed : (a b : RunValue) → same_run a b ≡ true → fed.slice fed.u8 a.template.written ≡ fed.slice fed.u8 b.template.written
same_runs_fed a b h =
    ap (fed.slice fed.u8) ((bytes_decides a.template.written b.template.written).0
    (second_so (same_kind (run_kind a.braces) (run_kind b.braces)) (same_text a.template.written b.template.written) h))
