use Rattle.std.proofs.Common.{◌≡◌, ◌∙◌, ap, List, rules}
use Rattle.std.specs.Prelude.{Some}
use Rattle.wl_core.specs.Realm.{at_key, with_at}
use Rattle.wl_core.proofs.Applied.{applied}
use Rattle.wl_core.proofs.realms.KeyedRealm.apply.Goals as goal

pub returns-clause-realm : goal.returns-clause-realm
returns-clause-realm g c =
    let there : at_key g.K.Ord.cmp c.args.self.now c.args.key.now ≡ Some c.unwrap-core.result.now = search rules in
    applied g.K.Ord.cmp g.met.K.Ord.total g.C.LockCore.state c.args.self.now _ c.args.key.now c.unwrap-core.result.now
    c.apply.new.core c.args.command.now c.apply.result there
    ((c.get_mut.follows.holds c.apply.new.core).0 ∙ ap (λ (cores : List _). with_at g.K.Ord.cmp cores c.args.key.now
    c.apply.new.core) c.self.view_is) c.apply.ensures.state_is
