use Rattle.std.proofs.Common.{arith, ap, sym, ◌∙◌, subst, List}
use Rattle.std.specs.Prelude.{slice_index_or}
use Rattle.wl_types.specs.declared.phases.Phase.{Phase}
use Rattle.wl_types.specs.declared.phases.Phase.TheVariants.{Pending}
use Rattle.wl_types.specs.declared.phases.Change.{Change}
use Rattle.wl_manager.specs.Keepers.{phases_at}
use Rattle.wl_manager.specs.inner.Keepers.{MayPublish, after}
use Rattle.wl_manager.proofs.Publishing.{only_change, one_more_change}
use Rattle.wl_manager.proofs.keepers.Keepers.publish_all.Goals as goal

abbrev blank : Change
blank = record { id = 0; phase = Pending }

pub publish-requires : goal.publish-requires
publish-requires c =
    let change : Change = slice_index_or c.args.changes.now c.loop-i.i blank in
    let only = only_change c.args.changes.now c.loop-i.i blank (phases_at change.id c.args.self.now) (omega arith)
    (c.requires change.id) in
    subst (λ (ps : List Phase). MayPublish ps change.phase)
    (sym (c.loop-i.invariant.1 change.id ∙ ap (λ (cs : List Phase). after cs (phases_at change.id c.args.self.now))
    only.0)) only.1

pub loop-i-preserved : goal.loop-i-preserved
loop-i-preserved c = (
  omega arith,
  λ id. one_more_change c.args.changes.now c.loop-i.i blank id _ _ _ (omega arith) (c.requires id)
      (c.loop-i.invariant.1 id) (c.publish.ensures.phases id),
  λ id. c.publish.ensures.cells id ∙ c.loop-i.invariant.2 id,
)
