use Rattle.std.proofs.Common.{◌&&◌, Bool, subst}
use Rattle.std.proofs.lemmas.Result.{IfOk-weaker}
use Rattle.devdry_gathering.specs.Gathered.{IsBehind}
use Rattle.devdry_gathering.proofs.gathering.gather_line.Goals as goal

pub returns : goal.returns
returns g c =
    let links = c.in_ok-links.links in
    let own = c.in_ok-own.own in
    IfOk-weaker c.behind.result (IsBehind links.lines.items links.least (c.args.from_terminal && c.is_events.result) own) _ (λ gathered is. record {
      line = c.read_links.new.line;
      links = links;
      reads = c.in_ok-links.ensures;
      own = own;
      gathers = c.in_ok-own.ensures;
      behind = subst (λ (b : Bool). IsBehind links.lines.items links.least (c.args.from_terminal && b) own gathered) c.is_events.ensures is;
    }) c.behind.ensures
