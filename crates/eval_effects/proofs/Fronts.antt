-- RUNs that two lists begin with are neither added nor removed.
use Rattle.std.proofs.Common.{◌≡◌, ℕ, suc, ◌+◌, ◌<◌, ◌||◌, Bool, true, false, cond, List, [], ◌∷◌, ◌++◌, length, take, drop, get_or, flat_map, codes, append_assoc, refl, ap, sym, ◌∙◌, append-nil, arith}
use Rattle.std.specs.Prelude.{◌==◌}
use Rattle.std.proofs.lemmas.Bool.{false≢true}
use Rattle.std.proofs.lemmas.Grind.{flat_map-append}
use Rattle.std.proofs.lemmas.List.{take_more}
use Rattle.text_bytes.specs.Text.{Text}
use Rattle.eval_state.specs.Runs.{RunValue, same_run}
use Rattle.eval_effects.specs.Changes.{added_run, is_kept, removed_run, run_changes, run_text}
use Rattle.eval_effects.specs.Inner.{same_front}

-- what is reported of one RUN more
pub one_more : (f : RunValue → List Text) (runs : List RunValue) (i : ℕ) (run : RunValue) (start before after : List Text) → i < length runs → run ≡ get_or runs i run
    → before ≡ start ++ flat_map f (take i runs) → after ≡ before ++ f run → after ≡ start ++ flat_map f (take (i + 1) runs)
one_more f runs i run start before after within is h told =
    told
    ∙ ap (λ texts. texts ++ f run) h
    ∙ append_assoc start (flat_map f (take i runs)) (f run)
    ∙ ap (λ texts. start ++ (flat_map f (take i runs) ++ texts)) (sym (append-nil (f run)))
    ∙ ap (λ r. start ++ (flat_map f (take i runs) ++ (f r ++ []))) is
    ∙ ap (λ texts. start ++ texts) (sym (ap (flat_map f) (take_more runs i run within) ∙ flat_map-append f (take i runs) (get_or runs i run ∷ [])))

or_right : (a b : Bool) → b ≡ true → (a || b) ≡ true
or_right true b h = refl
or_right false b h = h

module _ (f : RunValue → List Text) (all : List RunValue) (none : (run : RunValue) → is_kept all run ≡ true → f run ≡ []) where
  after : (front runs : List RunValue) → ((run : RunValue) → is_kept front run ≡ true → is_kept all run ≡ true) → flat_map f (drop (same_front front runs) runs) ≡ flat_map f runs
  after [] [] within = refl
  after [] (run ∷ runs) within = refl
  after (first ∷ front) [] within = refl
  after (first ∷ front) (run ∷ runs) within = by (same_run first run) refl (after front runs)
    where
      by : (b : Bool) → same_run first run ≡ b
          → (((other : RunValue) → is_kept front other ≡ true → is_kept all other ≡ true) → flat_map f (drop (same_front front runs) runs) ≡ flat_map f runs)
          → flat_map f (drop (cond b (1 + same_front front runs) 0) (run ∷ runs)) ≡ f run ++ flat_map f runs
      by true e later =
          let one : 1 + same_front front runs ≡ suc (same_front front runs) = omega arith in
          let kept : is_kept all run ≡ true = within run (ap (λ b. b || is_kept front run) e) in
          ap (λ n. flat_map f (drop n (run ∷ runs))) one
          ∙ later (λ other h. within other (or_right (same_run first other) (is_kept front other) h))
          ∙ ap (λ texts. texts ++ flat_map f runs) (sym (none run kept))
      by false e later = refl

added_after : (was now : List RunValue) → flat_map (added_run was) (drop (same_front was now) now) ≡ flat_map (added_run was) now
added_after was now = after (added_run was) was (λ run h. ap (λ b. cond b [] ((run_text run ++ codes " added") ∷ [])) h) was now (λ run h. h)

removed_after : (was now : List RunValue) → flat_map (removed_run now) (drop (same_front now was) was) ≡ flat_map (removed_run now) was
removed_after was now = after (removed_run now) now (λ run h. ap (λ b. cond b [] ((run_text run ++ codes " removed") ∷ [])) h) now was (λ run h. h)

-- what is reported of the RUNs after those is what changed, if a RUN is there now
pub changes_after : (start mid end : List Text) (was now left come : List RunValue) → (length now == 0) ≡ false → left ≡ drop (same_front now was) was → come ≡ drop (same_front was now) now
    → mid ≡ start ++ flat_map (removed_run now) left → end ≡ mid ++ flat_map (added_run was) come → end ≡ start ++ run_changes was now
changes_after start mid end was [] left come some l r first second = absurd (false≢true (sym some))
changes_after start mid end was (run ∷ more) left come some l r first second =
    second
    ∙ ap (λ told. told ++ flat_map (added_run was) come) first
    ∙ append_assoc start (flat_map (removed_run (run ∷ more)) left) (flat_map (added_run was) come)
    ∙ ap (λ removed. start ++ (removed ++ flat_map (added_run was) come)) (ap (flat_map (removed_run (run ∷ more))) l ∙ removed_after was (run ∷ more))
    ∙ ap (λ added. start ++ (flat_map (removed_run (run ∷ more)) was ++ added)) (ap (flat_map (added_run was)) r ∙ added_after was (run ∷ more))
