use Rattle.std.proofs.Common.{rules, is_some}
use Rattle.std.proofs.lemmas.Fn.{filter_same}
use Rattle.wl_index.specs.inner.Lists.{at}
use Rattle.wl_index.proofs.listing.retain_live.Goals as goal

pub returns : goal.returns
returns c = filter_same _ (λ n. is_some (at n c.args.live.now.entries)) _ (λ x b f' k. search rules) _ _
    c.retain.ensures.filtered
