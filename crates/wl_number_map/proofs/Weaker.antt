-- What holds of an answer, where more than that does.
use Rattle.std.specs.Prelude.{Option, Some, None, IfNone, OnErr, OnOk, Result, Ok, Err}

pub none_weaker : {X P Q : Type 0} (o : Option X) → (P → Q) → IfNone o P → IfNone o Q
none_weaker None f p = f p
none_weaker (Some x) f p = p

pub ok_weaker : {X E P Q : Type 0} (r : Result X E) → (P → Q) → OnOk r P → OnOk r Q
ok_weaker (Ok x) f p = f p
ok_weaker (Err e) f p = p

pub err_weaker : {X E P Q : Type 0} (r : Result X E) → (P → Q) → OnErr r P → OnErr r Q
err_weaker (Ok x) f p = p
err_weaker (Err e) f p = f p
