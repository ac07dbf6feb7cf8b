use Rattle.std.proofs.Common.{◌≡◌, ap, subst, sym, None}
use Rattle.text_bytes.specs.declared.profile.Profile.{Profile}
use Rattle.eval_state.specs.Scenes.{start}
use Rattle.eval_unread.specs.Laws.{IsAmong}
use Rattle.eval_unread.specs.Unread.{rules_unread, unread, unread_by}
use Rattle.eval_unread.proofs.Leaving.{leaves, left}
use Rattle.eval_unread.proofs.laws.a_note_is_left_by_a_search_or_an_assignment_that_asks_for_what_is_not_read.Goals as goal

pub returns : goal.returns
returns c rules known event note udev =
    let all : unread rules known event ≡ rules_unread known None rules (start event) = ap (λ (p : Profile). unread_by p rules known event) udev in (
      (λ among. left note known None rules (start event) (subst (IsAmong note) all among)),
      λ leaving. subst (IsAmong note) (sym all) (leaves note known None rules (start event) leaving),
    )
