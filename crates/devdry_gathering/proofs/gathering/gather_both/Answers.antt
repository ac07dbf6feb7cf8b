use Rattle.std.proofs.Common.{◌≡◌, ◌++◌, Bool, List, max, subst, ℕ}
use Rattle.std.proofs.lemmas.Result.{IfOk-weaker}
use Rattle.devdry_gathering.specs.Gathered.{IsBehind}
use Rattle.devdry_gathering.specs.declared.gathered.Gathered.{Gathered}
use Rattle.devdry_gathering.proofs.gathering.gather_both.Goals as goal

-- lines and a least status that are equal to others stand in their place
behind_as : (waits : Bool) (own g : Gathered) (lines : List ℕ) (least : ℕ) (lines' : List ℕ) (least' : ℕ) → lines ≡ lines' → least ≡ least'
    → IsBehind lines least waits own g → IsBehind lines' least' waits own g
behind_as waits own g lines least lines' least' p q h = subst (λ (n : ℕ). IsBehind lines' n waits own g) q (subst (λ (t : List ℕ). IsBehind t least waits own g) p h)

pub returns : goal.returns
returns g c =
    let on_old = c.in_ok-on_old.on_old in
    let on_new = c.in_ok-on_new.on_new in
    let links = c.in_ok-links.links in
    let own = c.in_ok-own.own in
    IfOk-weaker c.behind.result (IsBehind links.lines.items links.least c.args.from_terminal own) _ (λ gathered is. record {
      old = c.read_links.new.line;
      new = c.read_links-2.new.line;
      on_old = on_old;
      on_new = on_new;
      reads_old = c.in_ok-on_old.ensures;
      reads_new = c.in_ok-on_new.ensures;
      own = own;
      gathers = c.in_ok-own.ensures;
      behind = behind_as c.args.from_terminal own gathered links.lines.items links.least (on_old.lines.items ++ on_new.lines.items) (max on_old.least on_new.least)
          c.in_ok-links.ensures.0 c.in_ok-links.ensures.1 is;
    }) c.behind.ensures
