use Rattle.std.proofs.Common.{◌≡◌, ◌∷◌, [], refl, sym, ap, ◌∙◌, map, Some}
use Rattle.std.specs.Option.{is_some, option_copied_mut}
use Rattle.std.proofs.lemmas.List.Elements.{Contains-append_left, Contains-push}
use Rattle.std.specs.Map.{values_of}
use Rattle.wl_world.specs.declared.requests.Request.{Request}
use Rattle.wl_world.specs.Requests.{with_change}
use Rattle.wl_world.specs.inner.AgentIndex.{found}
use Rattle.wl_world.proofs.Covered.{with_change_each, inbox_index, inbox_kept_index, without_change_each}
use Rattle.wl_world.proofs.Passed.{with_change_values}
use Rattle.wl_world.proofs.agent_index.note.Goals.{In-Some}
use Rattle.wl_world.proofs.agent_index.note.Goals as goal

pub returns-in_default-clause-with_changes : goal.returns-in_default-clause-with_changes
returns-in_default-clause-with_changes c =
    let live = c.args.live.now.entries in
    rw c.get_mut.follows.holds-at-none (with_change_values live live c.requires.ordered c.requires.ordered c.args.change
    (without_change_each c.args.change live c.requires.numbers
    (sym c.get_mut.ensures.value ∙ ap option_copied_mut c.in_default.is)))

-- the request, and as it is written
there : (c : In-Some) → found c.args.change.id c.args.live.now.entries ≡ Some c.in-Some.request.now
there c = sym c.get_mut.ensures.value ∙ ap option_copied_mut c.in-Some.is

abbrev changed : In-Some → Request
changed c = record c.in-Some.request.now { changed = Some c.args.change.phase }

-- its change has found it
with_changes : (c : In-Some) → values_of (c.get_mut.follows.lender (changed c)).entries
    ≡ map (with_change c.args.change) (values_of c.args.live.now.entries)
with_changes c =
    let live = c.args.live.now.entries in
    let live2 = (c.get_mut.follows.lender (changed c)).entries in
    let written = c.get_mut.follows.holds (changed c) in
    with_change_values live live2 c.requires.ordered written.2 c.args.change
    (with_change_each c.args.change live live2 c.in-Some.request.now c.requires.numbers (there c)
    (written.1 (ap is_some (there c))))

pub returns-then-is_in_inbox-clause-index : goal.returns-then-is_in_inbox-clause-index
returns-then-is_in_inbox-clause-index c =
    let at = (goal.at.returns-then-is_in_inbox-clause-index c).In-Some in
    let written = c.get_mut.follows.holds (changed at) in
    inbox_kept_index c.args.live.now.entries (c.get_mut.follows.lender (changed at)).entries
    c.args.agent_index.now.entries c.requires written.2 c.args.change c.in-Some.request.now
    (written.1 (ap is_some (there at))) (there at) (sym c.is_some-is_in_inbox.ensures ∙ c.if-is_in_inbox.true)

pub returns-then-is_in_inbox-clause-with_changes : goal.returns-then-is_in_inbox-clause-with_changes
returns-then-is_in_inbox-clause-with_changes c = with_changes
    (goal.at.returns-then-is_in_inbox-clause-with_changes c).In-Some

pub returns-clause-index : goal.returns-clause-index
returns-clause-index c =
    let at = (goal.at.returns-clause-index c).In-Some in
    let agent_requests = c.in-Some-get_mut.agent_requests.now in
    let after = record agent_requests { inbox = c.push.new.self } in
    let seated = sym c.get_mut-2.ensures.value ∙ ap option_copied_mut c.in-Some-get_mut.is in
    let written = c.get_mut.follows.holds (changed at) in
    let pushed = c.in_ok-push-in-Some-get_mut.ensures.items in
    inbox_index c.args.live.now.entries (c.get_mut.follows.lender (changed at)).entries c.args.agent_index.now.entries
    (c.get_mut-2.follows.lender after).entries c.requires written.2 c.args.change c.in-Some.request.now agent_requests
    after
    (written.1 (ap is_some (there at))) (there at) seated refl
    (λ n has. rw pushed (Contains-append_left _ (c.args.change.id ∷ []) n has))
    (rw pushed (Contains-push _ c.args.change.id)) ((c.get_mut-2.follows.holds after).1 (ap is_some seated))

pub returns-clause-with_changes : goal.returns-clause-with_changes
returns-clause-with_changes c = with_changes (goal.at.returns-clause-with_changes c).In-Some
