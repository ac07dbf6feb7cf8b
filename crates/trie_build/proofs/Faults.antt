-- A file has one fault at most, and an index has none.
use Rattle.std.proofs.Common.{◌≡◌, ℕ, List, refl, sym, ◌∙◌, ap, cond, eqb}
use Rattle.std.proofs.Math.Logic.{⊎_elim}
use Rattle.std.proofs.lemmas.Bool.{cases_order}
use Rattle.trie_build.specs.Accepted.{Accepted, FailsFirst, check_place}
use Rattle.trie_build.specs.declared.index_fault.IndexFault.{IndexFault}
use Rattle.trie_build.specs.declared.index_fault.IndexFault.TheVariants.{Short, Magic, Version, Size, Shape, Label, Text, Order}

-- the check at a place
abbrev check_at : ℕ → IndexFault
check_at n =
    cond (eqb n 0) Short (cond (eqb n 1) Magic (cond (eqb n 2) Version (cond (eqb n 3) Size (cond (eqb n 4) Shape (cond (eqb n 5) Label (cond (eqb n 6) Text Order))))))

at_its_place : (fault : IndexFault) → check_at (check_place fault) ≡ fault
at_its_place Short = refl
at_its_place Magic = refl
at_its_place Version = refl
at_its_place Size = refl
at_its_place Shape = refl
at_its_place Label = refl
at_its_place Text = refl
at_its_place Order = refl

pub one_fault : (bytes : List ℕ) (fault other : IndexFault) → FailsFirst bytes fault → FailsFirst bytes other → fault ≡ other
one_fault bytes fault other f g =
    ⊎_elim
    (λ same. sym (at_its_place fault) ∙ ap check_at same ∙ at_its_place other)
    (λ rest. ⊎_elim (λ less. absurd (f.fails (g.earlier fault less))) (λ more. absurd (g.fails (f.earlier other more))) rest)
    (cases_order (check_place fault) (check_place other))

pub no_fault : (bytes : List ℕ) (fault : IndexFault) → Accepted bytes → FailsFirst bytes fault → ⊥
no_fault bytes fault accepted f = f.fails (accepted fault)
