-- Serves inner proofs only: what is kept for each key.
use Rattle.std.specs.Coded.{Coded, code_by, coded×}
use Rattle.std.proofs.Math.Path.{fun_ext}
use Rattle.std.proofs.Common.{◌≡◌, refl}
use Rattle.eval_state.specs.declared.finals.FinalKey.{FinalKey}
use Rattle.eval_state.specs.declared.finals.FinalKey.TheVariants as key

-- what is kept for each key
pub record Kept (A : Type 0) : Type 0 where
  pub owner : A
  pub group : A
  pub mode : A
  pub name : A
  pub symlink : A
  pub run : A
  pub priority : A
  pub watch : A

module _ {A : Type 0} where
  -- what is kept for a key
  abbrev pub kept_for : Kept A → FinalKey → A
  kept_for kept key.Owner = kept.owner
  kept_for kept key.Group = kept.group
  kept_for kept key.Mode = kept.mode
  kept_for kept key.Name = kept.name
  kept_for kept key.Symlink = kept.symlink
  kept_for kept key.Run = kept.run
  kept_for kept key.Priority = kept.priority
  kept_for kept key.Watch = kept.watch

  -- all that a function of the keys says
  abbrev pub kept_of : (FinalKey → A) → Kept A
  kept_of f = record {
    owner = f key.Owner;
    group = f key.Group;
    mode = f key.Mode;
    name = f key.Name;
    symlink = f key.Symlink;
    run = f key.Run;
    priority = f key.Priority;
    watch = f key.Watch;
  }

  abbrev same : (f : FinalKey → A) (k : FinalKey) → kept_for (kept_of f) k ≡ f k
  same f key.Owner = refl
  same f key.Group = refl
  same f key.Mode = refl
  same f key.Name = refl
  same f key.Symlink = refl
  same f key.Run = refl
  same f key.Priority = refl
  same f key.Watch = refl

  abbrev coded_kept : Coded A → Coded (Kept A)
  coded_kept c =
      code_by (A × (A × (A × (A × (A × (A × (A × A))))))) (coded× c (coded× c (coded× c (coded× c (coded× c (coded× c (coded× c c)))))))
      (λ k. (k.owner, (k.group, (k.mode, (k.name, (k.symlink, (k.run, (k.priority, k.watch))))))))
      (λ t. record {
        owner = t.0;
        group = t.1.0;
        mode = t.1.1.0;
        name = t.1.1.1.0;
        symlink = t.1.1.1.1.0;
        run = t.1.1.1.1.1.0;
        priority = t.1.1.1.1.1.1.0;
        watch = t.1.1.1.1.1.1.1;
      })
      (λ _. refl)

  -- a function of the keys is stored as all that it says
  abbrev pub by_key_code : Coded A → Coded (FinalKey → A)
  by_key_code c = code_by (Kept A) (coded_kept c) kept_of kept_for (λ f. fun_ext (same f))
