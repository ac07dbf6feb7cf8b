-- The sentences on reasons differ, and what is told about a link.
use Rattle.std.proofs.Common.{◌≡◌, ◌++◌, ℕ, true, List, codes, map, refl}
use Rattle.devdry_folders.specs.Laws.{all_reasons, differ}
use Rattle.devdry_folders.specs.Reasons.{advice_on, wrong_by}
use Rattle.devdry_folders.specs.Unread.{unread_said}
use Rattle.devdry_folders.specs.declared.reasons.Reason.TheVariants.{LinkToNothing}

pub own_sentences : (target : List ℕ) → (differ (map wrong_by (all_reasons target)) ≡ true) × (differ (map advice_on (all_reasons target)) ≡ true)
own_sentences target = (refl, refl)

pub link_is_told : unread_said true (codes "a\nb.rules") (LinkToNothing (codes "/x"))
    ≡ codes "devdry: cannot read a\\x0Ab.rules: link to nothing: /x\n"
    ++ codes "  It is a link, and there is nothing at /x\n"
    ++ codes "  = Remove the link, or make what it leads to; a link to /dev/null masks a file.\n"
link_is_told = refl
