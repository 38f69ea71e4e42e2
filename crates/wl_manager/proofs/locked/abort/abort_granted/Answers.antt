use Rattle.std.proofs.Common.{arith, ◌++◌, ◌∷◌, [], refl, true, false, subst}
use Rattle.wl_machine.specs.Least.{IsLeast, above}
use Rattle.wl_machine.specs.Step.{untaken_numbers}
use Rattle.wl_manager.proofs.Trying.{up_to}
use Rattle.wl_manager.proofs.Aborting.{untried, aborted_one, found_taken, tried_few, up_to_fewer, next_above}
use Rattle.wl_manager.proofs.Aborting.{next_granted, tried_aborts, tried_takes, all_tried, taken_same, taken_more}
use Rattle.wl_manager.proofs.locked.abort.abort_granted.Goals as goal

pub loop-id-init : goal.loop-id-init
loop-id-init g c = (
  [],
  untried c.args.book.now c.args.keepers.now c.args.agent c.args.signal c.args.reason
      c.requires.standing c.requires.from_one c.requires.published,
  refl,
)

pub try_abort-requires : goal.try_abort-requires
try_abort-requires g c = next_granted c.args.book.now c.args.keepers.now c.args.agent c.args.signal c.args.reason
    c.loop-id.book c.loop-id.keepers c.loop-id.invariant.0 c.loop-id.after c.in-Some.id c.loop-id.invariant.1
    c.in-Some.ensures

pub overflow_add-taken : goal.overflow_add-taken
overflow_add-taken g c =
    let few = tried_few c.args.book.now c.args.keepers.now c.args.agent c.args.signal c.args.reason c.loop-id.book
    c.loop-id.keepers c.loop-id.invariant.0 (up_to c.loop-id.after
    (untaken_numbers c.args.book.now.state c.args.agent c.args.signal)) c.loop-id.invariant.1
    (up_to_fewer c.loop-id.after (untaken_numbers c.args.book.now.state c.args.agent c.args.signal)) c.requires.standing
    in
    let count = c.loop-id.invariant.2 in
    omega (arith, few, count)

pub loop-id-smaller-then-not-try_abort : goal.loop-id-smaller-then-not-try_abort
loop-id-smaller-then-not-try_abort g c =
    let high = next_above c.args.book.now c.args.keepers.now c.args.agent c.args.signal c.args.reason c.loop-id.book
    c.loop-id.keepers c.loop-id.invariant.0 c.loop-id.after c.in-Some.id c.loop-id.invariant.1 c.in-Some.ensures in
    omega (arith, high)

pub loop-id-smaller : goal.loop-id-smaller
loop-id-smaller g c =
    let high = next_above c.args.book.now c.args.keepers.now c.args.agent c.args.signal c.args.reason c.loop-id.book
    c.loop-id.keepers c.loop-id.invariant.0 c.loop-id.after c.in-Some.id c.loop-id.invariant.1 c.in-Some.ensures in
    omega (arith, high)

pub loop-id-preserved-then-not-try_abort : goal.loop-id-preserved-then-not-try_abort
loop-id-preserved-then-not-try_abort g c =
    let found = c.loop-id.invariant.0 in
    let count = c.loop-id.invariant.2 in
    let more = taken_more found c.in-Some.id in (
      found ++ (c.in-Some.id, true) ∷ [],
      tried_takes c.args.book.now c.args.keepers.now c.args.agent c.args.signal c.args.reason c.loop-id.book
          c.loop-id.keepers found c.loop-id.after c.in-Some.id c.loop-id.invariant.1 c.in-Some.ensures c.take.new.self
          c.try_abort.new.self c.take.result c.take.ensures.taken c.take.ensures.added
          (found_taken c.try_abort.result c.in-Some.id c.args.reason c.loop-id.keepers c.try_abort.new.self
          c.try_abort.ensures.phases c.if-not-try_abort.true) c.try_abort.ensures.cells,
      omega (arith, count, more),
    )

pub loop-id-preserved : goal.loop-id-preserved
loop-id-preserved g c =
    let found = c.loop-id.invariant.0 in
    let count = c.loop-id.invariant.2 in
    let same = taken_same found c.in-Some.id in (
      found ++ (c.in-Some.id, false) ∷ [],
      tried_aborts c.args.book.now c.args.keepers.now c.args.agent c.args.signal c.args.reason c.loop-id.book
          c.loop-id.keepers found c.loop-id.after c.in-Some.id c.loop-id.invariant.1 c.in-Some.ensures
          c.try_abort.new.self
          (aborted_one c.try_abort.result c.in-Some.id c.args.reason c.loop-id.keepers c.try_abort.new.self
          c.try_abort.ensures.phases c.if-not-try_abort.false) c.try_abort.ensures.cells,
      omega (arith, count, same),
    )

pub returns : goal.returns
returns g c =
    let none = subst (IsLeast (above c.loop-id.after (untaken_numbers c.loop-id.book.state c.args.agent c.args.signal)))
    c.in_default.is c.untaken_above.ensures in (
      c.loop-id.invariant.0,
      all_tried c.args.book.now c.args.keepers.now c.args.agent c.args.signal c.args.reason c.loop-id.book
          c.loop-id.keepers c.loop-id.invariant.0 c.loop-id.after c.loop-id.invariant.1 none,
      c.loop-id.invariant.2,
    )
