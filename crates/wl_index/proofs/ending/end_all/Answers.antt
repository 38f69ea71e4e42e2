use Rattle.std.proofs.Common.{List, ◌≡◌, ◌∙◌, ◌∷◌, ◌++◌, [], ◌+◌, ap, subst, sym, arith, append_assoc, append-nil}
use Rattle.std.proofs.Common.{get_or, drop}
use Rattle.std.specs.Prelude.{filter}
use Rattle.std.proofs.lemmas.List.{drop_all}
use Rattle.wl_index.specs.declared.request.Place.{Place}
use Rattle.wl_index.specs.inner.Ends.{numbers_of, place_ends, AreLive}
use Rattle.wl_index.specs.inner.Lists.{is_spared}
use Rattle.wl_index.specs.inner.Locks.{Board}
use Rattle.wl_index.proofs.Boards.{board_as}
use Rattle.wl_index.proofs.Spared.{spared_all, spared_next}
use Rattle.wl_index.proofs.Turns.{rest_next}
use Rattle.wl_index.proofs.ending.end_all.Goals as goal

pub end-requires : goal.end-requires
end-requires c =
    let l = c.loop-place in
    (subst (λ ps. AreLive (numbers_of ps) l.locks.entries) (rest_next c.args.places.now l.place-index
    (record { grant_seq = 0; number = 0 }) c.loop-place-test.true) l.invariant.live).0

pub loop-place-preserved : goal.loop-place-preserved
loop-place-preserved c =
    let l = c.loop-place in
    let all = c.args.places.now in
    let p : Place = get_or all l.place-index (record { grant_seq = 0; number = 0 }) in
    let rest : List Place = drop (l.place-index + 1) all in
    let next : drop l.place-index all ≡ p ∷ rest = rest_next all l.place-index (record { grant_seq = 0; number = 0 })
    c.loop-place-test.true in
    let entries = ap (λ (b : Board). b.entries) c.end.ensures in
    record {
      live = rw entries (subst (λ ps. AreLive (numbers_of ps) l.locks.entries) next l.invariant.live).1;
      entries = ap (filter (is_spared (numbers_of rest))) entries
          ∙ spared_next p.number (numbers_of rest) l.locks.entries
          ∙ ap (λ ps. filter (is_spared (numbers_of ps)) l.locks.entries) (sym next) ∙ l.invariant.entries;
      changes = ap (λ (b : Board). b.changes ++ place_ends c.args.phase rest) c.end.ensures
          ∙ append_assoc l.locks.changes (record { id = p.number; phase = c.args.phase } ∷ [])
          (place_ends c.args.phase rest) ∙ ap (λ ps. l.locks.changes ++ place_ends c.args.phase ps) (sym next)
          ∙ l.invariant.changes;
      next = ap (λ (b : Board). b.next) c.end.ensures ∙ l.invariant.next;
      names = ap (λ (b : Board). b.names) c.end.ensures ∙ l.invariant.names;
    }

pub returns : goal.returns
returns c =
    let l = c.loop-place in
    let none : drop l.place-index c.args.places.now ≡ [] = drop_all l.place-index c.args.places.now (omega arith) in
    board_as _ _ _ _ _ (sym (ap (λ ps. filter (is_spared (numbers_of ps)) l.locks.entries) none
    ∙ spared_all l.locks.entries) ∙ l.invariant.entries) l.invariant.next l.invariant.names
    (sym (append-nil l.locks.changes) ∙ ap (λ ps. l.locks.changes ++ place_ends c.args.phase ps) (sym none)
    ∙ l.invariant.changes)
