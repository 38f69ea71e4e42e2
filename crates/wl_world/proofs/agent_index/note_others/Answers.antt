use Rattle.std.proofs.Common.{◌≡◌, ◌∙◌, ◌<◌, ◌+◌, ◌∷◌, ◌++◌, [], ℕ, List, ap, get_or, length, sym, subst, map, take}
use Rattle.std.specs.Map.{values_of}
use Rattle.std.proofs.lemmas.List.Sums.{fold_more}
use Rattle.wl_types.specs.declared.phases.Change.{Change}
use Rattle.wl_types.specs.declared.phases.Phase.TheVariants.{Pending}
use Rattle.wl_world.specs.declared.requests.Request.{Request}
use Rattle.wl_world.specs.Requests.{with_changes, waiting, with_change}
use Rattle.wl_world.specs.inner.Requests.{IsRising}
use Rattle.wl_world.specs.inner.AgentIndex.{coming}
use Rattle.wl_world.proofs.Covered.{other_change, own_change}
use Rattle.wl_world.proofs.Rising.{with_changes_rising}
use Rattle.wl_world.proofs.agent_index.note_others.Goals as goal

-- what is read past the end
abbrev none : Change
none = record { id = 0; phase = Pending }

one_more : (changes : List Change) (i : ℕ) (requests : List Request) → i < length changes
    → map (with_change (get_or changes i none)) (with_changes (take i changes) requests)
    ≡ with_changes (take (i + 1) changes) requests
one_more changes i requests within = sym (fold_more (λ requests change. map (with_change change) requests) requests
    changes i none within)

pub loop-change-preserved-then-change-number : goal.loop-change-preserved-then-change-number
loop-change-preserved-then-change-number c =
    let loop = c.loop-change in
    let changes = c.args.changes.now in
    let change = get_or changes loop.change-index none in
    record {
      index = loop.invariant.index;
      greatest = loop.invariant.greatest;
      with_changes = λ agent. sym (own_change agent c.args.number loop.phase change (values_of loop.live.entries)
          c.if-change-number.true loop.invariant.greatest)
          ∙ ap (map (with_change change)) (loop.invariant.with_changes agent)
          ∙ one_more changes loop.change-index (values_of c.args.live.now.entries ++ waiting agent c.args.number ∷ [])
          c.loop-change-test.true;
    }

pub loop-change-preserved : goal.loop-change-preserved
loop-change-preserved c =
    let loop = c.loop-change in
    let changes = c.args.changes.now in
    let change = get_or changes loop.change-index none in
    let requests = values_of loop.live.entries in
    let after = c.in_ok-note.ensures in
    record {
      index = after.index;
      greatest = subst (IsRising 0 c.args.number) (sym after.with_changes)
          (with_changes_rising 0 c.args.number (change ∷ []) requests loop.invariant.greatest);
      with_changes = λ agent. ap (λ l. l ++ coming agent c.args.number loop.phase ∷ []) after.with_changes
          ∙ sym (other_change agent c.args.number loop.phase change requests c.if-change-number.false)
          ∙ ap (map (with_change change)) (loop.invariant.with_changes agent)
          ∙ one_more changes loop.change-index (values_of c.args.live.now.entries ++ waiting agent c.args.number ∷ [])
          c.loop-change-test.true;
    }
