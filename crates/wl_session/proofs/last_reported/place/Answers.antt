use Rattle.std.proofs.Common.{rules}
use Rattle.std.proofs.lemmas.List.Sorted.{answers_always}
use Rattle.wl_session.specs.LastReported.{RequestPhase}
use Rattle.wl_session.proofs.Place.{searched}
use Rattle.wl_session.proofs.last_reported.place.Goals as goal

-- the closure gives an observation's number
pub returns : goal.returns
returns c =
    let facts = c.binary_search_by_key.ensures in
    let by_number = facts.position (λ (l : RequestPhase). l.0) (answers_always _ _ _ (λ f a r g called. search rules))
    in
    searched c.args.list.now c.requires c.args.number _ facts.bound by_number
