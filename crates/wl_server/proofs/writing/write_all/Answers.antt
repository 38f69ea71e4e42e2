use Rattle.std.proofs.Common.{◌≡◌, sym, subst, rules, ℕ, List, [], append-nil, take, drop, Option}
use Rattle.std.proofs.Math.Seq.{take-add}
use Rattle.std.proofs.lemmas.List.{take_rest, take-append-drop}
use Rattle.std.specs.Io.KnownBytes.{Appends}
use Rattle.std.proofs.KnownBytes.{Appends-trans, Appends-kept}
use Rattle.wl_server.proofs.writing.write_all.Goals as goal

-- a write that took nothing
nothing_more : (a b d : Option (List ℕ)) (bs rest : List ℕ) (n : ℕ) → n ≡ 0 → Appends a b bs → Appends b d (take n rest)
    → Appends a d bs
nothing_more a b d bs rest n is before none =
    subst (Appends a d) (append-nil bs) (Appends-trans a b d bs [] before
    (subst (λ k. Appends b d (take k rest)) is none))

pub returns-in-Ok-eq0-clause-some : goal.returns-in-Ok-eq0-clause-some
returns-in-Ok-eq0-clause-some g c = (
  take c.loop.at c.args.bytes.now,
  drop c.loop.at c.args.bytes.now,
  sym (take-append-drop c.loop.at c.args.bytes.now),
  nothing_more _ _ _ _ _ c.in-Ok-eq0.field-0 (search rules) c.loop.invariant.written c.in-Ok-eq0.ensures.bytes,
)

pub returns-then-ne-clause-some : goal.returns-then-ne-clause-some
returns-then-ne-clause-some g c = (
  take c.loop.at c.args.bytes.now,
  drop c.loop.at c.args.bytes.now,
  sym (take-append-drop c.loop.at c.args.bytes.now),
  Appends-kept _ _ _ _ c.loop.invariant.written c.in-Err.ensures.bytes,
)

pub loop-preserved-in-Ok : goal.loop-preserved-in-Ok
loop-preserved-in-Ok g c = record {
  can_next = search rules;
  is_finite = search rules;
  within = search rules;
  written = rw (take-add c.loop.at c.in-Ok.n c.args.bytes.now)
      (Appends-trans _ _ _ _ _ c.loop.invariant.written (rw take_rest at c.in-Ok.ensures.bytes));
}
